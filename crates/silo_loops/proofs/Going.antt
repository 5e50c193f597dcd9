-- Passes that go on, and the lines that have them.
use Rattle.silo_loops.proofs.Prelude.{◌≡◌, ℕ, zero, suc, ◌<◌, ◌≤◌, ◌+◌, List, [], ◌∷◌, ◌++◌, length, get_or, set, Contains, Option, refl, sym, ap, subst, ◌∙◌, append_assoc, arith, append-nil, get_or-set_same, length-map, length-set, length_push, rules, set-get_or, AllZip-get_or, Contains-append_left, AllByRecursion, AllZip, Agree, HasOnlyMade, joined_pass, numbers_of, Foreign, Origin, PassView, Entry}
use Rattle.std.proofs.lemmas.Slice.Zip.{AllZip-long}
use Rattle.turnstile.proofs.Histories.{foreign-append}
use Rattle.stream_model.specs.declared.plain.PlainPartition.{PlainPartition}
use Rattle.silo_loops.specs.Lines.{DirectoryPass, LineView, places}
use Rattle.silo_loops.specs.Workers.{WorkerView}
use Rattle.silo_loops.specs.Fronts.{AllZipFront}
use Rattle.silo_loops.specs.Silos.{AreAlike, AreSilent, AreTakenIn, GoOn, GoesOn, HasTakenIn, IsMarked, IsSilent, IsSplitLine, IsSplitWorker, IsWorkerAt, LineGoesOn, LineIsSilent, SiloView, joined_line, joined_lines}
use Rattle.silo_loops.specs.Passes.{IsOtherIn}
use Rattle.silo_loops.proofs.Taking.{alone-append, alone-fewer, alone-foreign, taken-joined, taken-on}
use Rattle.silo_loops.proofs.Fronts.{front-all, front-fits, front-last, front-push, front-set, front-weaker}

-- the first of a longer list
pub first-of-all : (number : ℕ) (joined : List ℕ) (k : ℕ) → Contains (number ∷ []) k → Contains (number ∷ joined) k
first-of-all number joined k (zero, within, same) = (0, omega arith, same)
first-of-all number joined k (suc at, within, same) = absurd (omega arith)

module _ {O R S : Type 0} where
  abbrev pub on-refl : (p : PassView O R S) → GoesOn p p
  on-refl p = record { turnstile = refl; number = refl; numbers = λ k here. here; more = []; seen = sym (append-nil p.seen); alone = tt }

  abbrev pub on-trans : (p q r : PassView O R S) → GoesOn p q → GoesOn q r → GoesOn p r
  on-trans p q r a b =
      record {
        turnstile = b.turnstile ∙ a.turnstile;
        number = b.number ∙ a.number;
        numbers = λ k here. b.numbers k (a.numbers k here);
        more = a.more ++ b.more;
        seen = b.seen ∙ ap (λ (es : List (Entry O R)). es ++ b.more) a.seen ∙ append_assoc p.seen a.more b.more;
        alone = alone-append p a.more b.more a.alone (alone-fewer p q b.more a.numbers a.number b.alone);
      }

  abbrev pub on-joined : (p q r : PassView O R S) → r ≡ joined_pass p q → Agree p q r → GoesOn p r
  on-joined p q r is agree =
      record {
        turnstile = ap (λ (w : PassView O R S). w.turnstile) is;
        number = ap (λ (w : PassView O R S). w.number) is;
        numbers = λ k here.
            subst (λ (ks : List ℕ). Contains ks k) (sym (ap (λ (w : PassView O R S). numbers_of w) is)) (Contains-append_left (numbers_of p) (numbers_of q) k here);
        more = agree.0.rest;
        seen = agree.0.is;
        alone = alone-foreign p agree.0.rest agree.0.foreign;
      }

  -- what was taken in stays so
  pub taken-goes : (p q r : PassView O R S) → IsOtherIn p q → GoesOn q r → IsOtherIn p r
  taken-goes p q r taken on = taken-on p q r on.more taken on.number on.numbers on.seen on.alone

module _ {O R : Type 0} where
  -- who owns none of more numbers owns none of fewer
  foreign-first : (number : ℕ) (joined : List ℕ) (es : List (Entry O R)) → Foreign (number ∷ joined) es → Foreign (number ∷ []) es
  foreign-first number joined [] foreign = tt
  foreign-first number joined (e ∷ es) foreign = ((λ here. foreign.0 (first-of-all number joined e.number here)), foreign-first number joined es foreign.1)

module _ {O R S : Type 0} where
  pub silent-refl : (p : PassView O R S) → IsSilent p p
  silent-refl p = record { on = on-refl p; foreign = tt }

  pub silent-trans : (p q r : PassView O R S) → IsSilent p q → IsSilent q r → IsSilent p r
  silent-trans p q r a b =
      record {
        on = on-trans p q r a.on b.on;
        foreign = foreign-append (p.number ∷ []) a.on.more b.on.more a.foreign (subst (λ n. Foreign (n ∷ []) b.on.more) a.on.number b.foreign);
      }

  pub silent-made : (p q : PassView O R S) → HasOnlyMade p q → IsSilent p q
  silent-made p q made = subst (λ (w : PassView O R S). IsSilent p w) (sym made.0) (record { on = record { turnstile = refl; number = refl; numbers = λ k here. here; more = []; seen = sym (append-nil p.seen); alone = tt }; foreign = tt })

  pub silent-joined : (p q r : PassView O R S) → r ≡ joined_pass p q → Agree p q r → IsSilent p r
  silent-joined p q r is agree = record { on = on-joined p q r is agree; foreign = foreign-first p.number p.joined agree.0.rest agree.0.foreign }

-- what holds of each element and itself, and of one element and a third where it does of each and the second
module _ {A : Type 0} (R : A → A → Type 0) where
  zip-refl : ((x : A) → R x x) → (xs : List A) → AllZip R xs xs
  zip-refl same [] = tt
  zip-refl same (x ∷ xs) = (same x, zip-refl same xs)

  zip-set : ((x : A) → R x x) → (xs : List A) (at : ℕ) (d y : A) → at < length xs → R (get_or xs at d) y → AllZip R xs (set xs at y)
  zip-set same [] at d y less one = absurd (omega arith)
  zip-set same (x ∷ xs) zero d y less one = (one, zip-refl same xs)
  zip-set same (x ∷ xs) (suc at) d y less one = (same x, zip-set same xs at d y (omega arith) one)

  zip-trans : ((x y z : A) → R x y → R y z → R x z) → (xs ys zs : List A) → AllZip R xs ys → AllZip R ys zs → AllZip R xs zs
  zip-trans on [] [] [] a b = tt
  zip-trans on (x ∷ xs) (y ∷ ys) (z ∷ zs) a b = (on x y z a.0 b.0, zip-trans on xs ys zs a.1 b.1)
  zip-trans on _ _ _ a b = absurd (search rules)

pub silents-refl : (ls : List LineView) → AreSilent ls ls
silents-refl ls = zip-refl LineIsSilent (λ l. silent-refl l.pass) ls

pub silents-trans : (ls ms ns : List LineView) → AreSilent ls ms → AreSilent ms ns → AreSilent ls ns
silents-trans ls ms ns a b = zip-trans LineIsSilent (λ l m n. silent-trans l.pass m.pass n.pass) ls ms ns a b

pub goes-refl : (ls : List LineView) → GoOn ls ls
goes-refl ls = zip-refl LineGoesOn (λ l. on-refl l.pass) ls

pub goes-trans : (ls ms ns : List LineView) → GoOn ls ms → GoOn ms ns → GoOn ls ns
goes-trans ls ms ns a b = zip-trans LineGoesOn (λ l m n. on-trans l.pass m.pass n.pass) ls ms ns a b

-- one line goes on
pub goes-set : (ls : List LineView) (at : ℕ) (d m : LineView) → at < length ls → LineGoesOn (get_or ls at d) m → GoOn ls (set ls at m)
goes-set ls at d m less on = zip-set LineGoesOn (λ l. on-refl l.pass) ls at d m less on

zip-places : (R : LineView → LineView → Type 0) → ((l m : LineView) → R l m → AreAlike l m) → (ls ms : List LineView) → AllZip R ls ms → places ms ≡ places ls
zip-places R alike [] [] all = refl
zip-places R alike (l ∷ ls) (m ∷ ms) all = ap (λ t. t ∷ places ms) (alike l m all.0) ∙ ap (λ ts. l.pass.turnstile ∷ ts) (zip-places R alike ls ms all.1)
zip-places R alike _ _ all = absurd all

-- lines that go on are at their turnstiles
pub goes-places : (ls ms : List LineView) → GoOn ls ms → places ms ≡ places ls
goes-places ls ms on = zip-places LineGoesOn (λ l m goes. goes.turnstile) ls ms on

pub goes-length : (ls ms : List LineView) → GoOn ls ms → length ms ≡ length ls
goes-length ls ms on = AllZip-long LineGoesOn ls ms on

pub front-alike : (ls ms : List LineView) → places ms ≡ places ls → AllZipFront AreAlike ls ms
front-alike ls [] same = tt
front-alike [] (m ∷ ms) same = absurd (cc)
front-alike (l ∷ ls) (m ∷ ms) same =
    let rest : places ms ≡ places ls = cc in
    let first : m.pass.turnstile ≡ l.pass.turnstile = cc in
    (first, front-alike ls ms rest)

split-alike : (l m : LineView) → IsSplitLine l m → AreAlike l m
split-alike l m split = ap (λ w. w.turnstile) split.0.0

pub split-places : (ls ms : List LineView) → AllZip IsSplitLine ls ms → places ms ≡ places ls
split-places ls ms all = zip-places IsSplitLine split-alike ls ms all

pub split-marked : (ls ms : List LineView) → AllZip IsSplitLine ls ms → AllByRecursion IsMarked ms
split-marked [] [] all = tt
split-marked (l ∷ ls) (m ∷ ms) all = (all.0.1, split-marked ls ms all.1)
split-marked _ _ all = absurd all

-- a loop that joins each of the others to the one at its place, from the last one on
pub join-next : (ls ms rest : List LineView) (at : ℕ) (l m : LineView) → ms ≡ rest ++ m ∷ [] → at ≡ length rest → AllZipFront AreAlike ls ms → (at < length ls) × (l ≡ get_or ls at l → AreAlike l m)
join-next ls ms rest at l m is here all =
    let last = front-last AreAlike ls rest l m (subst (λ (es : List LineView). AllZipFront AreAlike ls es) is all) in
    (omega (arith, last.0), λ read. last.1 ∙ ap (λ (w : LineView). w.pass.turnstile) (ap (λ n. get_or ls n l) (sym here) ∙ sym read))

-- the last one is joined first
joined-last : (ls ms : List LineView) (d m : LineView) → length ms < length ls → joined_lines ls (ms ++ m ∷ []) ≡ joined_lines (set ls (length ms) (joined_line (get_or ls (length ms) d) m)) ms
joined-last [] ms d m less = absurd (omega arith)
joined-last (l ∷ ls) [] d m less = refl
joined-last (l ∷ ls) (x ∷ ms) d m less = ap (λ (es : List LineView). joined_line l x ∷ es) (joined-last ls ms d m (omega arith))

-- a loop that splits each, from the first one on
pub split-more : (old now fresh made more : List LineView) (at : ℕ) (l m new : LineView) → at < length old → now ≡ old → length made ≡ at → AllZipFront IsSplitLine old made → l ≡ get_or now at l → m ≡ l → fresh ≡ set now at m
    → IsSplitLine l new → more ≡ made ++ new ∷ [] → (fresh ≡ old) × (length more ≡ at + 1) × AllZipFront IsSplitLine old more
split-more old now fresh made more at l m new within same here all read kept put split is = (
  put ∙ ap (λ (e : LineView). set now at e) (kept ∙ read) ∙ set-get_or now at l ∙ same,
  ap (λ (es : List LineView). length es) is ∙ length_push made new ∙ ap (λ n. n + 1) here,
  subst (λ (es : List LineView). AllZipFront IsSplitLine old es) (sym is)
      (front-push IsSplitLine old made l new (omega arith) all
      (subst (λ (e : LineView). IsSplitLine e new) (read ∙ ap (λ (es : List LineView). get_or es at l) same ∙ ap (λ n. get_or old n l) (sym here)) split)),
)

-- where one is refused, what was split off is at the turnstiles of those before it
pub refused-alike : (old now fresh made : List LineView) (at : ℕ) (m : LineView) → now ≡ old → length made ≡ at → AllZipFront IsSplitLine old made → fresh ≡ set now at m → AllZipFront AreAlike fresh made
refused-alike old now fresh made at m same here all put =
    subst (λ (es : List LineView). AllZipFront AreAlike es made) (sym (put ∙ ap (λ (es : List LineView). set es at m) same ∙ ap (λ n. set old n m) (sym here)))
    (front-set AreAlike old made m (front-weaker IsSplitLine AreAlike split-alike old made all))

pub refused-on : (old now fresh : List LineView) (at : ℕ) (l m : LineView) → at < length old → now ≡ old → l ≡ get_or now at l → HasOnlyMade l.pass m.pass → fresh ≡ set now at m → GoOn old fresh
refused-on old now fresh at l m within same read made put =
    subst (λ (es : List LineView). GoOn old es) (sym (put ∙ ap (λ (es : List LineView). set es at m) same))
    (goes-set old at l m within (subst (λ (v : LineView). LineGoesOn v m) (read ∙ ap (λ (es : List LineView). get_or es at l) same) (silent-made l.pass m.pass made).on))

pub splits-all : (old made : List LineView) (at : ℕ) → length old ≤ at → length made ≡ at → AllZipFront IsSplitLine old made → AllZip IsSplitLine old made
splits-all old made at past long front = front-all IsSplitLine old made (omega (arith, front-fits IsSplitLine old made front)) front

-- lines that were split off these are at their turnstiles, and stay there
pub split-at : (old own new : List LineView) → AllZip IsSplitLine old own → GoOn old new → places own ≡ places new
split-at old own new split on = split-places old own split ∙ sym (goes-places old new on)

-- a worker whose passes were split off from the same passes
pub split-same : (old new : List LineView) (d e : DirectoryPass) (w : WorkerView) → (new ≡ old) × (e ≡ d) → IsSplitWorker new e w → IsSplitWorker old d w
split-same old new d e w same split =
    subst (λ (ls : List LineView). IsSplitWorker ls d w) same.0 (subst (λ (x : DirectoryPass). IsSplitWorker new x w) same.1 split)

-- what is at the turnstiles of these lines is so when they have gone on
pub still-at : (others ls ms : List LineView) → places others ≡ places ls → GoOn ls ms → places others ≡ places ms
still-at others ls ms at on = at ∙ sym (goes-places ls ms on)

-- and so is what a worker has
pub worker-still : (ls ms : List LineView) (d e : DirectoryPass) (w : WorkerView) → IsWorkerAt ls d w → GoOn ls ms → IsSilent d e → IsWorkerAt ms e w
worker-still ls ms d e w at on silent = (still-at w.lines ls ms at.0 on, at.1 ∙ sym silent.on.turnstile)

pub split-some : (old own : List LineView) → AllZip IsSplitLine old own → 0 < length old → 0 < length own
split-some old own split some = let long = AllZip-long IsSplitLine old own split in omega (arith, long)

pub goes-some : (ls ms : List LineView) → GoOn ls ms → 0 < length ls → 0 < length ms
goes-some ls ms on some = let long = goes-length ls ms on in omega (arith, long)

-- the lines have taken in others, and stay so
pub taken-lines : (ls ms : List LineView) (xs : List LineView) → GoOn ls ms → AllZip HasTakenIn ls xs → AllZip HasTakenIn ms xs
taken-lines [] [] [] on taken = tt
taken-lines (l ∷ ls) (m ∷ ms) (x ∷ xs) on taken = (taken-goes x.pass l.pass m.pass taken.0 on.0, taken-lines ls ms xs on.1 taken.1)
taken-lines _ _ _ on taken = absurd (search rules)

pub taken-silo : (ls ms : List LineView) (d e : DirectoryPass) (s : SiloView) → GoOn ls ms → GoesOn d e → AreTakenIn ls d s → AreTakenIn ms e s
taken-silo ls ms d e s lines directory taken =
    record {
      agent = taken-lines ls ms s.agent.lines lines taken.agent;
      first = taken-lines ls ms s.first.lines lines taken.first;
      second = taken-lines ls ms s.second.lines lines taken.second;
      first_asks = taken-goes s.first.directory d e taken.first_asks directory;
      second_asks = taken-goes s.second.directory d e taken.second_asks directory;
    }

-- lines that go on from these, and have taken in the rest, have taken in all
abbrev pub Takes : List LineView → List LineView → List LineView → Type 0
Takes ls rest all = (ms : List LineView) → GoOn ls ms → AllZipFront HasTakenIn ms rest → AllZipFront HasTakenIn ms all

-- these lines come of the old ones and of all that are joined to them but the rest
pub record Joining (old all ls rest : List LineView) : Type 0 where
  pub alike : AllZipFront AreAlike ls rest
  pub on : GoOn old ls
  pub silent : AreSilent old ls
  pub joined : joined_lines ls rest ≡ joined_lines old all
  pub takes : Takes ls rest all

pub joining-more : (old all ls ms rest : List LineView) (at : ℕ) (l m w : LineView) → ms ≡ rest ++ m ∷ [] → at ≡ length rest → l ≡ get_or ls at l → w ≡ joined_line l m → Agree l.pass m.pass w.pass → Joining old all ls ms
    → Joining old all (set ls at w) rest
joining-more old all ls ms rest at l m w is here read made agree was =
    let last = front-last AreAlike ls rest l m (subst (λ (es : List LineView). AllZipFront AreAlike ls es) is was.alike) in
    let less : at < length ls = omega (arith, last.0, here) in
    let pass = ap (λ (v : LineView). v.pass) made in
    let this : w ≡ joined_line (get_or ls (length rest) l) m = made ∙ ap (λ (v : LineView). joined_line v m) (read ∙ ap (λ n. get_or ls n l) here) in
    let put : GoOn ls (set ls at w) = goes-set ls at l w less (subst (λ (v : LineView). LineGoesOn v w) read (on-joined l.pass m.pass w.pass pass agree)) in
    record {
      alike = subst (λ n. AllZipFront AreAlike (set ls n w) rest) (sym here) (front-set AreAlike ls rest w last.2);
      on = goes-trans old ls (set ls at w) was.on put;
      silent =
          silents-trans old ls (set ls at w) was.silent
          (zip-set LineIsSilent (λ e. silent-refl e.pass) ls at l w less (subst (λ (v : LineView). LineIsSilent v w) read (silent-joined l.pass m.pass w.pass pass agree)));
      joined =
          ap (λ (es : List LineView). joined_lines es rest) (ap (λ n. set ls n w) here ∙ ap (λ (v : LineView). set ls (length rest) v) this)
          ∙ sym (joined-last ls rest l m last.0) ∙ ap (λ (es : List LineView). joined_lines ls es) (sym is) ∙ was.joined;
      takes = λ later on front.
          let before : GoOn ls later = goes-trans ls (set ls at w) later put on in
          let kept : LineGoesOn w (get_or later at l) = subst (λ (v : LineView). LineGoesOn v (get_or later at l)) (get_or-set_same ls at w l less) (AllZip-get_or LineGoesOn (set ls at w) later at l l on (omega (arith, less, length-set ls at w))) in
          let taken : HasTakenIn (get_or later (length rest) l) m = subst (λ n. HasTakenIn (get_or later n l) m) here (taken-goes m.pass w.pass (get_or later at l).pass (taken-joined l.pass m.pass w.pass pass agree) kept) in
          was.takes later before (subst (λ (es : List LineView). AllZipFront HasTakenIn later es) (sym is) (front-push HasTakenIn later rest l m (omega (arith, last.0, goes-length ls later before)) front taken));
    }

-- which of as many lines others are at
pub front-whole : (ls ms : List LineView) → places ms ≡ places ls → AllZipFront HasTakenIn ls ms → AllZip HasTakenIn ls ms
front-whole ls ms same front =
    front-all HasTakenIn ls ms (sym (length-map ms (λ (l : LineView). l.pass.turnstile)) ∙ ap (λ (ts : List (Option (Origin PlainPartition))). length ts) same ∙ length-map ls (λ (l : LineView). l.pass.turnstile)) front
