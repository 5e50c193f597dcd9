use Rattle.turnstile.proofs.Prelude.{rules}
use Rattle.std.proofs.lemmas.List.{nil_from_length}
use Rattle.turnstile.specs.Calls.{IsOf}
use Rattle.turnstile.proofs.Gathering.{all_front, all_last, taken_first, taken_more, taken_all}
use Rattle.turnstile.proofs.turnstile.Turnstile.gather.Goals as goal

pub loop-other-init : goal.loop-other-init
loop-other-init g c =
    let all = c.requires.passes in
    let items = c.in-Some.ensures.items in (
      all_last (IsOf c.args.self.now) _ _ c.in-Some.kept items all,
      all_front (IsOf c.args.self.now) _ _ _ items all,
      taken_first _ _ c.in-Some.kept items,
    )

pub loop-other-preserved : goal.loop-other-preserved
loop-other-preserved g c = (
  search rules,
  all_front (IsOf c.args.self.now) _ _ _ c.in-Some-pop.ensures.items c.loop-other.invariant.1,
  taken_more _ c.loop-other.passes.items _ c.loop-other.kept c.in-Some-pop.other c.join.new.pass c.in-Some-pop.ensures.items c.join.ensures.joined c.join.ensures.agree c.loop-other.invariant.2,
)

pub join-requires-clause-other : goal.join-requires-clause-other
join-requires-clause-other g c =
    all_last (IsOf c.args.self.now) _ _ c.in-Some-pop.other c.in-Some-pop.ensures.items c.loop-other.invariant.1

pub returns : goal.returns
returns g c =
    record {
      pass = c.loop-other.invariant.0;
      gathered = taken_all c.args.passes.items c.loop-other.passes.items c.loop-other.kept (nil_from_length c.loop-other.passes.items (search rules)) c.loop-other.invariant.2;
    }
