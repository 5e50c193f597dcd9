-- The front of a mailbox that a turn takes.
use Rattle.std.proofs.Common.{◌≡◌, ℕ, zero, suc, true, ◌&&◌, List, [], ◌∷◌, refl, nat_le, ◌==◌}
use Rattle.std.proofs.lemmas.Bool.{and_from, and_parts, cond_both}
use Rattle.consumer_grain.specs.declared.mailbox.Delivery.{Delivery}
use Rattle.consumer_grain.specs.Activations.{front_of}
use Rattle.consumer_grain.specs.Handled.{rises_from}

-- what a read gives where there is no delivery
abbrev pub no_delivery : Delivery
no_delivery = record { sub = 0; position = 0 }

-- the front rises
pub rises_from-front_of : (n s from : ℕ) (ds : List Delivery) → rises_from from (front_of n s from ds) ≡ true
rises_from-front_of zero s from ds = refl
rises_from-front_of (suc n) s from [] = refl
rises_from-front_of (suc n) s from (d ∷ ds) =
    cond_both ((s == d.sub) && nat_le from d.position) (d.position ∷ front_of n s (suc d.position) ds) [] (λ front. rises_from from front ≡ true)
    (λ taken.
    let parts = and_parts (s == d.sub) (nat_le from d.position) taken in
    and_from (nat_le from d.position) (rises_from (suc d.position) (front_of n s (suc d.position) ds)) parts.1 (rises_from-front_of n s (suc d.position) ds))
    (λ _. refl)
