use Rattle.turnstile.proofs.Gathering.{traced}
use Rattle.turnstile.proofs.turnstile.Turnstile.close.Goals as goal

pub returns-in-Some : goal.returns-in-Some
returns-in-Some g c =
    traced _ _ _ _ c.args.passes.items c.count_first-made.new.passes.items c.gather-kept.result c.count_first-made.result _ _ c.count_first-made.ensures.counted c.gather-kept.ensures.gathered c.in-Some.ensures
