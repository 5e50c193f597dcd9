use Rattle.queue_callers.proofs.Prelude.{◌≡◌, ◌+◌, ◌∙◌, ℕ, Err, Ok, arith, refl, rules, subst, common_steps, Refusal, QueuePass, suc, ◌<◌, List, Result, AllZip}
use Rattle.turnstile.specs.declared.turnstile.Refusal.TheVariants.{HistoryFull, Memory}
use Rattle.queue_callers.specs.declared.asking.Quiet.{Quiet}
use Rattle.queue_callers.specs.declared.asking.Quiet.TheVariants.{All, NotQuiet}
use Rattle.queue_callers.specs.Asking.{AsksQuiet}
use Rattle.queue_callers.specs.Draining.{LooksInVain, ProducesNone, HasGoneOn, Looks}
use Rattle.silo_operators.proofs.Rows.{zip-refl, zip-trans, zip-weaker}
use Rattle.queue_callers.proofs.GoneOn.{none-refl, looked-none, none-trans}
use Rattle.stream_model.specs.declared.reply.Pending.{Pending}
use Rattle.queue_callers.proofs.Looking.{look-each}
use Rattle.queue_callers.proofs.draining.drain.Goals as goal

-- one look more
looks-none : (old now new : List QueuePass) (result : Result Quiet Refusal) → AllZip ProducesNone old now → AsksQuiet now result new → AllZip ProducesNone old new
looks-none old now new result so_far asks =
    zip-trans ProducesNone ProducesNone ProducesNone none-trans old now new so_far (look-each ProducesNone none-refl (λ answer p q one. looked-none p q answer one) now result new asks)

none-on : (old new : List QueuePass) → AllZip ProducesNone old new → AllZip HasGoneOn old new
none-on old new all = zip-weaker ProducesNone HasGoneOn (λ p q none. none.on) old new all

-- the last look, with all that is said of it
last-look : (looks made : ℕ) (result : Result Quiet Refusal) (old now new : List QueuePass) → made < looks → AllZip ProducesNone old now → LooksInVain made old now → AsksQuiet now result new
    → AllZip ProducesNone old new × AllZip HasGoneOn old new × Looks looks result old new
last-look looks made result old now new within so_far vain asks =
    let none = looks-none old now new result so_far asks in
    (none, none-on old new none, record { made = made; within = within; before = now; vain = vain; asks = asks })

-- one look more in vain
vain-more : (looks : ℕ) (queue : ℕ) (why : Pending) (end : Quiet) (old now new : List QueuePass) → end ≡ NotQuiet queue why → LooksInVain looks old now → AsksQuiet now (Ok end) new → LooksInVain (looks + 1) old new
vain-more looks queue why end old now new is vain asks =
    let next : suc looks ≡ looks + 1 = omega arith in
    subst (λ n. LooksInVain n old new) next (now, vain, (queue, why, subst (λ (e : Quiet). AsksQuiet now (Ok e) new) is asks))

pub loop-look-init : goal.loop-look-init
loop-look-init g c = record { none = zip-refl ProducesNone none-refl c.args.caller.now; at = refl; vain = refl }

pub returns-in-Ok-All : goal.returns-in-Ok-All
returns-in-Ok-All g c =
    let looked = last-look c.args.looks c.loop-look.look (Ok All) c.args.caller.now c.loop-look.caller c.ask_quiet.new.caller (omega (arith, c.loop-look-test.true)) c.loop-look.invariant.none c.loop-look.invariant.vain
    (subst (λ (end : Quiet). AsksQuiet c.loop-look.caller (Ok end) c.ask_quiet.new.caller) c.in-Ok-All.field-0-is c.in-Ok-All.ensures.asks) in
    record { none = looked.0; ends = looked.2; on = looked.1; turnstiles = c.ask_quiet.ensures.turnstiles ∙ c.loop-look.invariant.at }

pub returns-in-Err-HistoryFull : goal.returns-in-Err-HistoryFull
returns-in-Err-HistoryFull g c =
    let looked = last-look c.args.looks c.loop-look.look (Err HistoryFull) c.args.caller.now c.loop-look.caller c.ask_quiet.new.caller (omega (arith, c.loop-look-test.true)) c.loop-look.invariant.none c.loop-look.invariant.vain
    (subst (λ (e : Refusal). AsksQuiet c.loop-look.caller (Err e) c.ask_quiet.new.caller) c.in-Err-HistoryFull.field-0-is c.in-Err-HistoryFull.ensures.asks) in
    record { none = looked.0; ends = looked.2; on = looked.1; turnstiles = c.ask_quiet.ensures.turnstiles ∙ c.loop-look.invariant.at }

pub returns-in-Err-Memory : goal.returns-in-Err-Memory
returns-in-Err-Memory g c =
    let looked = last-look c.args.looks c.loop-look.look (Err Memory) c.args.caller.now c.loop-look.caller c.ask_quiet.new.caller (omega (arith, c.loop-look-test.true)) c.loop-look.invariant.none c.loop-look.invariant.vain
    (subst (λ (e : Refusal). AsksQuiet c.loop-look.caller (Err e) c.ask_quiet.new.caller) c.in-Err-Memory.field-0-is c.in-Err-Memory.ensures.asks) in
    record { none = looked.0; ends = looked.2; on = looked.1; turnstiles = c.ask_quiet.ensures.turnstiles ∙ c.loop-look.invariant.at }

pub returns-then-has_ended : goal.returns-then-has_ended
returns-then-has_ended g c =
    let none = looks-none c.args.caller.now c.loop-look.caller c.ask_quiet.new.caller c.ask_quiet.result c.loop-look.invariant.none c.ask_quiet.ensures.asks in
    let vain = vain-more c.loop-look.look c.in-Ok-NotQuiet.field-0-0 c.in-Ok-NotQuiet.field-0-1 c.in-Ok-NotQuiet.field-0 c.args.caller.now c.loop-look.caller c.ask_quiet.new.caller c.in-Ok-NotQuiet.field-0-is c.loop-look.invariant.vain c.in-Ok-NotQuiet.ensures.asks in
    record { none = none; ends = (c.loop-look.look + 1, omega arith, omega (arith, c.loop-look-test.true), vain); on = none-on c.args.caller.now c.ask_quiet.new.caller none; turnstiles = c.ask_quiet.ensures.turnstiles ∙ c.loop-look.invariant.at }

pub loop-look-preserved : goal.loop-look-preserved
loop-look-preserved g c =
    record {
      none = looks-none c.args.caller.now c.loop-look.caller c.ask_quiet.new.caller c.ask_quiet.result c.loop-look.invariant.none c.ask_quiet.ensures.asks;
      at = c.ask_quiet.ensures.turnstiles ∙ c.loop-look.invariant.at;
      vain = vain-more c.loop-look.look c.in-Ok-NotQuiet.field-0-0 c.in-Ok-NotQuiet.field-0-1 c.in-Ok-NotQuiet.field-0 c.args.caller.now c.loop-look.caller c.ask_quiet.new.caller c.in-Ok-NotQuiet.field-0-is c.loop-look.invariant.vain c.in-Ok-NotQuiet.ensures.asks;
    }

pub returns : goal.returns
returns g c =
    let same : c.loop-look.look ≡ c.args.looks = first_of (omega (arith, c.loop-look-test.false, c.loop-look.auto.look-end), search rules, grind (arith, common_steps)) in
    record {
      none = c.loop-look.invariant.none;
      ends = subst (λ (looks : ℕ). LooksInVain looks c.args.caller.now c.loop-look.caller) same c.loop-look.invariant.vain;
      on = none-on c.args.caller.now c.loop-look.caller c.loop-look.invariant.none;
      turnstiles = c.loop-look.invariant.at;
    }
