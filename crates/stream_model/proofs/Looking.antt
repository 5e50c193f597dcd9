-- What the looks answer, by what the code finds.
use Rattle.stream_model.proofs.Prelude.{◌≡◌, ◌∙◌, ap, refl, Bool, ◌&&◌, not, List, Option, Some, None, grain_lt, sub_lt, keys_where, next_after, or_else, GrainId, SubName, Token}
use Rattle.std.specs.Option.{option_or}
use Rattle.stream_model.specs.declared.plain.Grain.{Grain}
use Rattle.stream_model.specs.declared.plain.PlainPartition.{PlainPartition}
use Rattle.stream_model.specs.declared.reply.Pending.{Pending}
use Rattle.stream_model.specs.declared.reply.Reply.TheVariants as reply
use Rattle.stream_model.specs.Least.{least_key}
use Rattle.stream_model.specs.Looks.{due, due_reply, is_due, is_running, is_waiting, pending_in, quiet, quiet_reply, ready, ready_reply, to_acknowledge}
use Rattle.stream_model.specs.Positions.{sub_at}

or-else : {A : Type 0} (first second : Option A) → option_or first second ≡ or_else first second
or-else None second = refl
or-else (Some x) second = refl

-- the first after the given one, else the first of all
pub next-found : {K V : Type 0} (lt : K → K → Bool) (after : Option K) (passes : V → Bool) (entries read : List (K × V)) (found above all : Option K) → read ≡ entries → found ≡ option_or above all → above ≡ least_key lt after passes read → all ≡ least_key lt None passes read → found ≡ next_after lt after (keys_where passes entries)
next-found lt after passes entries read found above all is_read is_found is_above is_all =
    rw (is_found, or-else above all, is_above, is_all, is_read) refl

pub ready-told : (p : PlainPartition) (after next : Option GrainId) → next ≡ next_after grain_lt after (keys_where (λ (st : Grain). is_waiting st && not (is_running st)) p.grains) → ready_reply next ≡ ready p after
unfolding ready
ready-told p after next is_next = ap ready_reply is_next

pub due-none : (p : PlainPartition) (after : Option SubName) → None ≡ next_after sub_lt after (keys_where (is_due p) p.subs) → reply.NoneDue ≡ due p after
unfolding due
due-none p after is_next = ap (due_reply p) is_next

pub due-told : (p : PlainPartition) (after : Option SubName) (s : SubName) (token : Option Token) → Some s ≡ next_after sub_lt after (keys_where (is_due p) p.subs) → token ≡ to_acknowledge p (sub_at p s) → reply.DueSub s token ≡ due p after
unfolding due
due-told p after s token is_next is_token = ap (reply.DueSub s) is_token ∙ ap (due_reply p) is_next

pub quiet-told : (p : PlainPartition) (why : Option Pending) → why ≡ pending_in p → quiet_reply why ≡ quiet p
unfolding quiet
quiet-told p why is_why = ap quiet_reply is_why
