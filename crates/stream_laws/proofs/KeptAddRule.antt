-- AddRule keeps what holds of a history and its partition.
use Rattle.stream_laws.proofs.Prelude.{◌≡◌, ◌∙◌, ap, sym, subst, refl, ℕ, ◌&&◌, nat_le, false, List, [], ◌∷◌, ◌++◌, length, Option, Some, None, get_or, true, arith, cond_both, list_any, batch_token, same_name, token_lt, or_else, SubName, Rule, Binding, bound_by_rule, no_event, PlainPartition}
use Rattle.stream_ident.specs.declared.ident.SubName.TheVariants as name
use Rattle.stream_model.specs.declared.op.Op.TheVariants as op
use Rattle.stream_model.specs.declared.reply.Reply.TheVariants as reply
use Rattle.stream_model.specs.Publishing.{add_rule}
use Rattle.stream_laws.proofs.Invariant.{Fits, GrainsFit, Kept, LogFits, NamesFit, NumbersFit, SubsFit, UnmadeFit, marks_of}
use Rattle.stream_laws.proofs.LogLemmas.{clear-before}
use Rattle.stream_laws.proofs.Marks.{IsClear}
use Rattle.stream_laws.proofs.OneChanged.{GrainsFit-carried_to}
use Rattle.stream_laws.proofs.RuleLemmas.{RulesDiffer-push, bound_by_rule-start, bound_by_rules-push}
use Rattle.stream_laws.proofs.Summary.{Summary, after}

module _ (t : Summary) (p : PlainPartition) (kind namespace : List ℕ) (new : list_any (λ (rule : Rule). same_name kind rule.kind && same_name namespace rule.namespace) p.rules ≡ false) (fits : Fits t p) where
  abbrev last : Rule
  last = record { kind = kind; namespace = namespace; from = p.batches }

  abbrev next : PlainPartition
  next = record p { rules = p.rules ++ last ∷ [] }

  abbrev told : Summary
  told = after t (op.AddRule kind namespace) (reply.RuleAdded p.batches)

  log-ruled : LogFits told next
  log-ruled =
      let old = fits.log in
      record { log = old.log; batches = old.batches; low = old.low; low_high = old.low_high; high_end = old.high_end; rising = old.rising; ended = old.ended }

  subs-ruled : SubsFit told next
  subs-ruled s r found =
      let old = fits.subs s r found in
      record {
        binding = ap (λ o. or_else o (bound_by_rule s kind namespace t.batches)) old.binding;
        handled = old.handled;
        closed = old.closed;
        note = old.note;
        in_turn = old.in_turn;
        served = old.served;
      }

  -- no event is as late as the rule
  unseen-ruled : (s : SubName) (b : Binding) → bound_by_rule s kind namespace t.batches ≡ Some b → IsClear (marks_of b.stream b.start p.log) 0 p.high
  unseen-ruled s b bound =
      let start : b.start ≡ batch_token p.batches = bound_by_rule-start s kind namespace t.batches b bound ∙ ap batch_token (sym fits.log.batches) in
      clear-before b.stream b.start p.log 0 p.high (λ q from below within. subst (λ token. token_lt (get_or p.log q no_event).token token ≡ true) (sym start) (fits.log.ended q within))

  unmade-ruled : UnmadeFit told next
  unmade-ruled s none =
      let old = fits.unmade s none in
      record { handled = old.handled; closed = old.closed; note = old.note; unseen = λ b. by b (t.binding s) old.unseen }
    where
      by : (b : Binding) (o : Option Binding) → ((b : Binding) → o ≡ Some b → IsClear (marks_of b.stream b.start p.log) 0 p.high) → or_else o (bound_by_rule s kind namespace t.batches) ≡ Some b → IsClear (marks_of b.stream b.start p.log) 0 p.high
      by b None old bound = unseen-ruled s b bound
      by b (Some x) old bound = old b bound

  names-ruled : NamesFit told next
  names-ruled =
      let old = fits.names in
      record {
        unused = old.unused;
        unbound = λ n none. ap (λ o. or_else o None) (old.unbound n none);
        implied = λ own_kind stream.
            ap (λ n. or_else (t.binding (name.Implicit own_kind stream)) (bound_by_rule (name.Implicit own_kind stream) kind namespace n)) (sym fits.log.batches)
            ∙ ap (λ o. or_else o (bound_by_rule (name.Implicit own_kind stream) kind namespace p.batches)) (old.implied own_kind stream)
            ∙ sym (bound_by_rules-push (name.Implicit own_kind stream) p.rules last);
        differ = RulesDiffer-push p.rules last old.differ new;
      }

  grains-ruled : GrainsFit told next
  grains-ruled =
      GrainsFit-carried_to t told p next (λ s r found. (r, found, refl, refl)) refl (omega arith) (λ g. refl) (λ k. record { events = refl; begun = refl; committed = refl }) fits.grains

  numbers-ruled : NumbersFit told next
  numbers-ruled = record { unused = fits.numbers.unused; uncommitted = fits.numbers.uncommitted; begun = fits.numbers.begun; committed = fits.numbers.committed }

  fits-ruled : Fits told next
  fits-ruled = record { log = log-ruled; subs = subs-ruled; unmade = unmade-ruled; names = names-ruled; grains = grains-ruled; numbers = numbers-ruled }

pub kept-add_rule : (t : Summary) (p : PlainPartition) (kind namespace : List ℕ) → Fits t p → Kept t (op.AddRule kind namespace) (add_rule p kind namespace)
unfolding add_rule
kept-add_rule t p kind namespace fits =
    cond_both (list_any (λ (rule : Rule). same_name kind rule.kind && same_name namespace rule.namespace) p.rules) _ _ (Kept t (op.AddRule kind namespace)) (λ _. (fits, tt))
    (λ new. cond_both (nat_le p.limits.rules (length p.rules)) _ _ (Kept t (op.AddRule kind namespace)) (λ _. (fits, tt))
    (λ _. (fits-ruled t p kind namespace new fits, tt)))
