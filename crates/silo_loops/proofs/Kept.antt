-- What a line keeps over a call, a rest, a split and a join.
use Rattle.silo_loops.proofs.Prelude.{DirectoryReply, IsOfEmpty, LeavesLegal, TellsOneHistory, after, replied, ◌≡◌, ◌↔◌, ℕ, ◌≤◌, Bool, true, false, ◌||◌, List, [], ◌++◌, length, Result, Ok, Err, OnOk, OnErr, refl, sym, ap, subst, ◌∙◌, arith, false≢true, append-nil, length-append, Reply, Op, Agree, HasOnlyMade, IsOf, joined_pass, numbers_of, Foreign, Origin, Entry, Refusal}
use Rattle.activation_directory.specs.declared.op.DirectoryOp.{DirectoryOp}
use Rattle.activation_directory.specs.Plain.{PlainDirectory}
use Rattle.shared_partition.specs.Directories as directory
use Rattle.stream_model.specs.declared.plain.PlainPartition.{PlainPartition}
use Rattle.stream_model.specs.Producers.{is_producer}
use Rattle.silo_loops.specs.Lines.{CallsOn, DirectoryCalls, DirectoryPass, IsKept, LineView, NeverProduces, QueuePass, is_pull, is_ready}
use Rattle.silo_loops.specs.Passes.{CallsBy, HasOwnPast}
use Rattle.silo_loops.proofs.Owning.{calls-number, owns-called, owns-foreign, owns-joined, past-answered, past-before, past-before-called, past-called, past-more}
use Rattle.silo_loops.proofs.Taking.{called-alone}

longer-seen : (mark : ℕ) (p q : QueuePass) (more : List (Entry Op Reply)) → q.seen ≡ p.seen ++ more → mark ≤ length p.seen → mark ≤ length q.seen
longer-seen mark p q more seen below = omega (arith, ap length seen, length-append p.seen more)

-- a flag that tells whether the pass has made such a call past the mark, over a call that was answered
flag-told : (test : Op → Bool) (flag picked : Bool) (mark : ℕ) (p q : QueuePass) (op : Op) (r : Reply) → picked ≡ test op → CallsBy replied after p op (Ok r) q → mark ≤ length p.seen → (flag ≡ true) ↔ HasOwnPast test mark p
    → ((flag || picked) ≡ true) ↔ HasOwnPast test mark q
flag-told test true picked mark p q op r is calls below flags = ((λ t. past-called replied after test mark p op (Ok r) q calls (flags.0 refl)), (λ has. refl))
flag-told test false true mark p q op r is calls below flags = ((λ t. past-answered replied after test mark p op r q calls below (sym is)), (λ has. refl))
flag-told test false false mark p q op r is calls below flags =
    ((λ t. absurd (false≢true t)), (λ has. flags.1 (past-before-called replied after test mark p op (Ok r) q (sym is) calls has)))

-- a call that tells what it has seen is one of the line
pub line-called : (l : LineView) (p q : QueuePass) (mark : ℕ) (op : Op) (result : Result Reply Refusal) → record { pass = p; mark = mark } ≡ l → CallsBy replied after p op result q → TellsOneHistory q.seen
    → ((t : Origin PlainPartition) → IsOf t p → LeavesLegal t.start q.seen) → CallsOn l op result (record { pass = q; mark = mark })
line-called l p q mark op result is calls headline stands =
    subst (λ (l : LineView). CallsOn l op result (record { pass = q; mark = mark })) is (record { mark = refl; call = calls; headline = headline; stands = stands calls.origin calls.of })

pub directory-called : (d p q : DirectoryPass) (op : DirectoryOp) (result : Result DirectoryReply Refusal) → p ≡ d → CallsBy directory.replied directory.after p op result q → directory.TellsOnePermit q.seen
    → ((t : Origin PlainDirectory) → IsOf t p → directory.LeavesLegal t.start q.seen) → DirectoryCalls d op result q
directory-called d p q op result is calls permit stands =
    subst (λ (d : DirectoryPass). DirectoryCalls d op result q) is (record { call = calls; permit = permit; stands = stands calls.origin calls.of })

-- a call leaves the pass at its turnstile
pub of-called : (p q : QueuePass) (op : Op) (result : Result Reply Refusal) → CallsBy replied after p op result q → IsOfEmpty p → IsOfEmpty q
of-called p q op result calls of = (of.0, ap (λ (w : QueuePass). w.turnstile) calls.only ∙ of.1, of.2)

-- a pass that has seen more, of which nothing is its own
flag-more : (test : Op → Bool) (flag : Bool) (mark : ℕ) (p q : QueuePass) (more : List (Entry Op Reply)) → q.number ≡ p.number → q.seen ≡ p.seen ++ more → Foreign (numbers_of p) more → (flag ≡ true) ↔ HasOwnPast test mark p
    → (flag ≡ true) ↔ HasOwnPast test mark q
flag-more test flag mark p q more number seen foreign flags = (
  λ t. past-more test mark p q more number seen (flags.0 t),
  λ has. flags.1 (past-before test mark p q more number seen (owns-foreign test (numbers_of p) more foreign) has),
)

-- what a line keeps where its pass has seen more, of which nothing is its own
kept-more : (p q : QueuePass) (mark : ℕ) (looked pulled : Bool) (more : List (Entry Op Reply)) → NeverProduces q → q.number ≡ p.number → q.seen ≡ p.seen ++ more → Foreign (numbers_of p) more
    → IsKept (record { pass = p; mark = mark }) looked pulled → IsKept (record { pass = q; mark = mark }) looked pulled
kept-more p q mark looked pulled more never number seen foreign kept =
    record {
      never = never;
      marked = longer-seen mark p q more seen kept.marked;
      has_looked = flag-more is_ready looked mark p q more number seen foreign kept.has_looked;
      has_pulled = flag-more is_pull pulled mark p q more number seen foreign kept.has_pulled;
    }

-- what a line keeps over a call that was refused
pub kept-refused : (p q : QueuePass) (mark : ℕ) (op : Op) (result : Result Reply Refusal) (e : Refusal) (looked pulled : Bool) → CallsBy replied after p op result q → result ≡ Err e → is_producer op ≡ false
    → IsKept (record { pass = p; mark = mark }) looked pulled → IsKept (record { pass = q; mark = mark }) looked pulled
kept-refused p q mark op result e looked pulled calls is none kept =
    let refused : CallsBy replied after p op (Err e) q = subst (λ (x : Result Reply Refusal). CallsBy replied after p op x q) is calls in
    kept-more p q mark looked pulled refused.call.0 (owns-called replied after is_producer p op result q none kept.never calls) (calls-number replied after p op (Err e) q refused) refused.call.1 refused.call.2 kept

-- and over one that was answered
pub kept-told : (p q : QueuePass) (mark : ℕ) (op : Op) (result : Result Reply Refusal) (r : Reply) (looked pulled looks pulls : Bool) → CallsBy replied after p op result q → result ≡ Ok r → looks ≡ is_ready op → pulls ≡ is_pull op
    → is_producer op ≡ false → IsKept (record { pass = p; mark = mark }) looked pulled → IsKept (record { pass = q; mark = mark }) (looked || looks) (pulled || pulls)
kept-told p q mark op result r looked pulled looks pulls calls is ready pull none kept =
    let told = subst (λ (x : Result Reply Refusal). CallsBy replied after p op x q) is calls in
    let more = called-alone replied after p op result q calls in
    record {
      never = owns-called replied after is_producer p op result q none kept.never calls;
      marked = longer-seen mark p q more.0 more.1 kept.marked;
      has_looked = flag-told is_ready looked looks mark p q op r ready told kept.marked kept.has_looked;
      has_pulled = flag-told is_pull pulled pulls mark p q op r pull told kept.marked kept.has_pulled;
    }

pub kept-join : (p q r : QueuePass) (mark : ℕ) (looked pulled : Bool) → r ≡ joined_pass p q → Agree p q r → NeverProduces q → IsOfEmpty p → IsKept (record { pass = p; mark = mark }) looked pulled
    → IsOfEmpty r × IsKept (record { pass = r; mark = mark }) looked pulled
kept-join p q r mark looked pulled is agree never of kept =
    let w = joined_pass p q in
    let agreed = subst (λ (x : QueuePass). Agree p q x) is agree in
    subst (λ (x : QueuePass). IsOfEmpty x × IsKept (record { pass = x; mark = mark }) looked pulled) (sym is)
    (of, kept-more p w mark looked pulled agreed.0.rest (owns-joined is_producer p q agreed kept.never never) refl agreed.0.is agreed.0.foreign kept)

pub kept-split : {X E : Type 0} (p q : QueuePass) (mark : ℕ) (looked pulled : Bool) (result : Result X E) → OnOk result (q ≡ p) → OnErr result (HasOnlyMade p q) → IsOfEmpty p
    → IsKept (record { pass = p; mark = mark }) looked pulled → IsOfEmpty q × IsKept (record { pass = q; mark = mark }) looked pulled
kept-split p q mark looked pulled (Ok x) same made of kept =
    subst (λ (w : QueuePass). IsOfEmpty w × IsKept (record { pass = w; mark = mark }) looked pulled) (sym same) (of, kept)
kept-split p q mark looked pulled (Err e) same made of kept =
    subst (λ (w : QueuePass). IsOfEmpty w × IsKept (record { pass = w; mark = mark }) looked pulled) (sym made.0)
    (of, kept-more p (record p { made = q.made }) mark looked pulled [] kept.never refl (sym (append-nil p.seen)) tt kept)
