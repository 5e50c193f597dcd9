use Rattle.step_core.proofs.Prelude.{PlainActivation, SubState, ◌∙◌, List, ap, length, ℕ, subst, sym, GrainId, unsubscribe-unknown, Reply, PlainPartition}
use Rattle.step_core.proofs.RecordOps.{no-record}
use Rattle.stream_model.specs.declared.reply.Reply.TheVariants as reply
use Rattle.pubsub_registry.specs.declared.told.Closing.TheVariants as close_told
use Rattle.step_core.specs.Assembly.{IsAssembled}
use Rattle.step_core.specs.PlainOf.{plain_of}
use Rattle.step_core.proofs.ClosedOps.{closed-assembled, closed-performs, forgotten-assembled, forgotten_by, left_grains, closed-after}
use Rattle.step_core.proofs.publishing.unsubscribe.Goals as goal

pub returns-in_default-clause-performs : goal.returns-in_default-clause-performs
returns-in_default-clause-performs c =
    unsubscribe-unknown (plain_of c.args.parts.now) c.args.sub.now (no-record c.args.parts.now c.args.sub.now (sym c.requires.records.long) (sym c.in_default.ensures.number))

pub returns-in-Done-clause-assembled : goal.returns-in-Done-clause-assembled
returns-in-Done-clause-assembled c =
    let parts = c.args.parts.now in
    let closed = closed-assembled parts c.in-Some.number c.args.sub.now c.requires.records c.in-Some.ensures.number c.close.new.self close_told.Done c.requires.assembled c.in-Done.ensures in
    subst (λ (grains : List (GrainId × PlainActivation)). IsAssembled (record parts { subs = c.close.new.self; grains = grains })) (sym c.forget.ensures)
    (forgotten-assembled (record parts { subs = c.close.new.self }) c.grain.result.now c.in-Some.number closed
    (closed-after parts c.in-Some.number c.args.sub.now c.requires.records c.in-Some.ensures.number c.close.new.self c.requires.assembled c.in-Done.ensures))

pub returns-in-Done-clause-performs : goal.returns-in-Done-clause-performs
returns-in-Done-clause-performs c =
    let parts = c.args.parts.now in
    let number = c.in-Some.number in
    let grains = c.forget.ensures ∙ ap (λ (grain : GrainId). forgotten_by grain number parts.grains) c.grain.ensures in
    let handled = c.as_slice-handled.ensures.positions ∙ ap (λ (state : SubState). state.handled) c.state.ensures in
    ap {B = PlainPartition × Reply} (λ gs. (plain_of (record parts { subs = c.close.new.self; grains = gs }), reply.Unsubscribed (length c.as_slice-handled.result.now))) grains
    ∙ ap {B = PlainPartition × Reply} (λ (positions : List ℕ). (plain_of (record parts { subs = c.close.new.self; grains = left_grains parts number }), reply.Unsubscribed (length positions))) handled
    ∙ closed-performs parts number c.args.sub.now c.requires.records c.in-Some.ensures.number c.close.new.self close_told.Done c.requires c.requires.unique c.in-Done.ensures

pub returns-in-NoSuch-clause-assembled : goal.returns-in-NoSuch-clause-assembled
returns-in-NoSuch-clause-assembled c =
    closed-assembled c.args.parts.now c.in-Some.number c.args.sub.now c.requires.records c.in-Some.ensures.number c.close.new.self close_told.NoSuch c.requires.assembled c.in-NoSuch.ensures

pub returns-in-NoSuch-clause-performs : goal.returns-in-NoSuch-clause-performs
returns-in-NoSuch-clause-performs c =
    closed-performs c.args.parts.now c.in-Some.number c.args.sub.now c.requires.records c.in-Some.ensures.number c.close.new.self close_told.NoSuch c.requires c.requires.unique c.in-NoSuch.ensures

pub returns-in-Implicit-clause-assembled : goal.returns-in-Implicit-clause-assembled
returns-in-Implicit-clause-assembled c =
    closed-assembled c.args.parts.now c.in-Some.number c.args.sub.now c.requires.records c.in-Some.ensures.number c.close.new.self close_told.Implicit c.requires.assembled c.in-Implicit.ensures

pub returns-in-Implicit-clause-performs : goal.returns-in-Implicit-clause-performs
returns-in-Implicit-clause-performs c =
    closed-performs c.args.parts.now c.in-Some.number c.args.sub.now c.requires.records c.in-Some.ensures.number c.close.new.self close_told.Implicit c.requires c.requires.unique c.in-Implicit.ensures

pub returns-in-Closed-clause-assembled : goal.returns-in-Closed-clause-assembled
returns-in-Closed-clause-assembled c =
    closed-assembled c.args.parts.now c.in-Some.number c.args.sub.now c.requires.records c.in-Some.ensures.number c.close.new.self close_told.Closed c.requires.assembled c.in-Closed.ensures

pub returns-in-Closed-clause-performs : goal.returns-in-Closed-clause-performs
returns-in-Closed-clause-performs c =
    closed-performs c.args.parts.now c.in-Some.number c.args.sub.now c.requires.records c.in-Some.ensures.number c.close.new.self close_told.Closed c.requires c.requires.unique c.in-Closed.ensures
