-- What a worker's commit leaves and answers, case by case.
use Rattle.stream_model.proofs.Prelude.{◌≡◌, ℕ, pred, true, false, ◌&&◌, ◌==◌, List, Option, Some, None, refl, sym, ap, same_grain, same_sub, past, with_value, GrainId, SubName, Token}
use Rattle.stream_model.specs.declared.plain.Grain.{Grain}
use Rattle.stream_model.specs.declared.plain.PlainPartition.{PlainPartition}
use Rattle.stream_model.specs.declared.plain.RunningTurn.{RunningTurn}
use Rattle.stream_model.specs.declared.plain.Subscription.{Subscription}
use Rattle.stream_model.specs.declared.reply.Reply.TheVariants as reply
use Rattle.stream_model.specs.Places.{place_of, handled_also}
use Rattle.stream_model.specs.Positions.{grain_at, new_grain, sub_at, token_at}
use Rattle.stream_model.specs.Step.{takes_memory}
use Rattle.stream_model.specs.Turns.{commit, commit_running, commit_for, committed}
use Rattle.stream_model.proofs.Beginning.{grain_at-new}
use Rattle.stream_model.proofs.Lookups.{place_of-none}

-- the grain's record decides
commit-at : (p : PlainPartition) (g : GrainId) (activation turn note : ℕ) (st : Grain) (running : Option RunningTurn) → grain_at p g ≡ st → st.running ≡ running → commit p g activation turn note ≡ commit_running p g st activation turn note running
unfolding commit
commit-at p g activation turn note st running is_st is_running = rw (is_st, is_running) refl

pub commit-none : (p : PlainPartition) (g : GrainId) (activation turn note : ℕ) (st : Grain) → grain_at p g ≡ st → st.running ≡ None → (p, reply.Stale) ≡ commit p g activation turn note
unfolding commit_running
commit-none p g activation turn note st is_st free = sym (commit-at p g activation turn note st None is_st free)

pub commit-unknown : (p : PlainPartition) (g : GrainId) (activation turn note : ℕ) → place_of same_grain g p.grains ≡ None → (p, reply.Stale) ≡ commit p g activation turn note
commit-unknown p g activation turn note e = commit-none p g activation turn note new_grain (grain_at-new p g e) refl

pub commit-other : (p : PlainPartition) (g : GrainId) (activation turn note : ℕ) (st : Grain) (run : RunningTurn) → grain_at p g ≡ st → st.running ≡ Some run → ((activation == st.activation) && (turn == run.turn)) ≡ false → (p, reply.Stale) ≡ commit p g activation turn note
unfolding commit_running
commit-other p g activation turn note st run is_st is_run other =
    rw (commit-at p g activation turn note st (Some run) is_st is_run, other) refl

pub commit-current : (p : PlainPartition) (g : GrainId) (activation turn note : ℕ) (st : Grain) (run : RunningTurn) → grain_at p g ≡ st → st.running ≡ Some run → ((activation == st.activation) && (turn == run.turn)) ≡ true → commit_for p g (grain_at p g) run note (sub_at p run.sub) ≡ commit p g activation turn note
unfolding commit_running
commit-current p g activation turn note st run is_st is_run current =
    rw (commit-at p g activation turn note st (Some run) is_st is_run, current, is_st) refl

pub commit_for-unknown : (p : PlainPartition) (g : GrainId) (st : Grain) (run : RunningTurn) (note : ℕ) → place_of same_sub run.sub p.subs ≡ None → (p, reply.Stale) ≡ commit_for p g st run note (sub_at p run.sub)
unfolding commit_for
commit_for-unknown p g st run note e = sym (ap (commit_for p g st run note) (place_of-none same_sub run.sub p.subs e))

pub commit_for-closed : (p : PlainPartition) (g : GrainId) (st : Grain) (run : RunningTurn) (note : ℕ) (r : Subscription) (grains : List (GrainId × Grain)) → sub_at p run.sub ≡ Some r → r.is_open ≡ false → grains ≡ with_value same_grain g (record st { running = None }) p.grains → (record p { grains = grains }, reply.Closed) ≡ commit_for p g st run note (sub_at p run.sub)
unfolding commit_for
commit_for-closed p g st run note r grains is_r closed changed = rw (changed, is_r, closed) refl

-- the turn of an open subscription ends with its events handled
commit_for-open : (p : PlainPartition) (g : GrainId) (st : Grain) (run : RunningTurn) (note : ℕ) (r : Subscription) → sub_at p run.sub ≡ Some r → r.is_open ≡ true → commit_for p g st run note (sub_at p run.sub) ≡ (committed p g st run r note, reply.Committed run.sub (token_at p (pred (past run.positions))))
unfolding commit_for
commit_for-open p g st run note r is_r is_open = rw (is_r, is_open) refl

pub commit_for-done : (p : PlainPartition) (g : GrainId) (st : Grain) (run : RunningTurn) (note : ℕ) (r : Subscription) (subs : List (SubName × Subscription)) (grains : List (GrainId × Grain)) (token : Token) → sub_at p run.sub ≡ Some r → r.is_open ≡ true → subs ≡ with_value same_sub run.sub (handled_also run.positions note r) p.subs → grains ≡ with_value same_grain g (record st { running = None }) p.grains → token ≡ token_at p (pred (past run.positions)) → (record p { subs = subs; grains = grains }, reply.Committed run.sub token) ≡ commit_for p g st run note (sub_at p run.sub)
commit_for-done p g st run note r subs grains token is_r is_open is_subs is_grains is_token =
    rw (is_subs, is_grains, is_token) (sym (commit_for-open p g st run note r is_r is_open))

pub commit_for-takes : (p : PlainPartition) (g : GrainId) (st : Grain) (run : RunningTurn) (note : ℕ) (r : Subscription) → sub_at p run.sub ≡ Some r → r.is_open ≡ true → takes_memory (commit_for p g st run note (sub_at p run.sub)).1 ≡ true
commit_for-takes p g st run note r is_r is_open = rw (commit_for-open p g st run note r is_r is_open) refl
