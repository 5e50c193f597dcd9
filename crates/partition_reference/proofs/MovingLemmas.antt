-- What a move of the queue leaves and answers, case by case.
use Rattle.partition_reference.proofs.Prelude.{◌≡◌, ℕ, suc, min, false, List, [], ◌∷◌, sym, ap, ◌∙◌, arith, if◌then◌else◌, each_value, least_with, SubName, Token, is_spent, least_or, open_resumes, slowest, token_at, rewound_where, Reply, PlainPartition, Subscription}
use Rattle.stream_model.specs.declared.reply.Reply.TheVariants as reply
use Rattle.stream_model.specs.Pulling.{move, move_to}

-- the least of some numbers and one more, by the least of them
least_with-or : (n : ℕ) (xs : List ℕ) → min n (least_or n xs) ≡ least_with n xs
least_with-or n [] = omega arith
least_with-or n (x ∷ xs) = swapped n x xs
  where
    swapped : (n x : ℕ) (xs : List ℕ) → min n (least_with x xs) ≡ min x (least_with n xs)
    swapped n x [] = omega arith
    swapped n x (y ∷ xs) = let h = swapped n x xs in omega arith

pub move-done : (p : PlainPartition) (silo position generation rises : ℕ) (low : Token) (subs : List (SubName × Subscription)) → is_spent p ≡ false → position ≡ min p.high (slowest p) → generation ≡ suc p.generation → rises ≡ suc p.rises → low ≡ token_at p position → subs ≡ each_value (λ (r : Subscription). rewound_where r.is_open r) p.subs → (record p { generation = generation; silo = silo; rises = rises; low = position; high = position; subs = subs }, reply.Moved generation low) ≡ move p silo
unfolding move move_to
move-done p silo position generation rises low subs left is_position is_generation is_rises is_low is_subs =
    let at : position ≡ least_with p.high (open_resumes p) = is_position ∙ least_with-or p.high (open_resumes p) in
    (λ i. (record p { generation = is_generation i; silo = silo; rises = is_rises i; low = position; high = position; subs = is_subs i }, reply.Moved (is_generation i) (is_low i)))
    ∙ (ap (move_to p silo) at
    ∙ sym (ap {B = PlainPartition × Reply} (λ b. if b then (p, reply.Spent) else move_to p silo (least_with p.high (open_resumes p))) left))
