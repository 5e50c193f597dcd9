-- The laws on refused starts, from what holds of a legal history.
use Rattle.stream_laws.proofs.Prelude.{◌≡◌, ◌≢◌, ℕ, true, false, ◌∷◌, length, sym, ap, subst, ◌∙◌, nat_le, cond-false, cond-true, cond_both, batch_token, token_lt, GrainId, StreamId, Token, high_token, low_token, lower_bound, Reply, Subscribe, At, Latest, PlainPartition, Miss}
use Rattle.stream_laws.specs.Laws.{LatestIsNeverMissed, MissesBelowLow}
use Rattle.stream_model.specs.Publishing.{subscribe, subscribe_at}
use Rattle.stream_model.specs.Step.{step}
use Rattle.stream_laws.proofs.Legal.{StepsKeep, reaches-stands}

missed : (p : PlainPartition) (stream : StreamId) (grain : GrainId) (token : Token) → token_lt token (low_token p) ≡ true → (step p (Subscribe stream grain (At token))).1 ≡ Miss token (low_token p) (high_token p)
unfolding step subscribe
missed p stream grain token below =
    ap (λ (out : PlainPartition × Reply). out.1) (cond-true (token_lt token (low_token p)) (p, Miss token (low_token p) (high_token p)) (subscribe_at p stream grain token (lower_bound p token)) below)

-- no reply of these is a miss
subscribed-no_miss : (p : PlainPartition) (stream : StreamId) (grain : GrainId) (token : Token) (position : ℕ) (requested low high : Token) → (subscribe_at p stream grain token position).1 ≢ Miss requested low high
unfolding subscribe_at
subscribed-no_miss p stream grain token position requested low high =
    cond_both (nat_le p.limits.subs (length p.subs)) _ _ (λ (out : PlainPartition × Reply). out.1 ≢ Miss requested low high) (λ full told. cc) (λ room told. cc)

latest-no_miss : (p : PlainPartition) (stream : StreamId) (grain : GrainId) (requested low high : Token) → (step p (Subscribe stream grain Latest)).1 ≢ Miss requested low high
unfolding step subscribe
latest-no_miss p stream grain requested low high = subscribed-no_miss p stream grain (batch_token p.batches) p.high requested low high

not-missed : (p : PlainPartition) (stream : StreamId) (grain : GrainId) (token requested low high : Token) → token_lt token (low_token p) ≡ false → (step p (Subscribe stream grain (At token))).1 ≢ Miss requested low high
unfolding step subscribe
not-missed p stream grain token requested low high there told =
    subscribed-no_miss p stream grain token (lower_bound p token) requested low high
    (sym (ap (λ (out : PlainPartition × Reply). out.1) (cond-false (token_lt token (low_token p)) (p, Miss token (low_token p) (high_token p)) (subscribe_at p stream grain token (lower_bound p token)) there)) ∙ told)

pub misses_below_low-from : StepsKeep → MissesBelowLow
misses_below_low-from keep blocks limits before e later q stands stream grain token asked =
    let reaches = reaches-stands keep blocks limits before (e ∷ later) q stands in
    let low = reaches.fits.log.low in
    let told : (step reaches.state (Subscribe stream grain (At token))).1 ≡ e.reply =
    ap (λ op. (step reaches.state op).1) (sym asked) ∙ reaches.leads.0 in (
      λ below.
          let below_state : token_lt token (low_token reaches.state) ≡ true = subst (λ bound. token_lt token bound ≡ true) low below in (
            high_token reaches.state,
            sym told ∙ (missed reaches.state stream grain token below_state ∙ ap (λ bound. Miss token bound (high_token reaches.state)) (sym low)),
          ),
      λ there requested from to is_miss.
          let there_state : token_lt token (low_token reaches.state) ≡ false = subst (λ bound. token_lt token bound ≡ false) low there in
          not-missed reaches.state stream grain token requested from to there_state (told ∙ is_miss),
    )

pub latest_is_never_missed-from : StepsKeep → LatestIsNeverMissed
latest_is_never_missed-from keep blocks limits before e later q stands stream grain asked requested low high is_miss =
    let reaches = reaches-stands keep blocks limits before (e ∷ later) q stands in
    latest-no_miss reaches.state stream grain requested low high (ap (λ op. (step reaches.state op).1) (sym asked) ∙ (reaches.leads.0 ∙ is_miss))
