-- One step of the scanner, or a run of bytes of a class, at an offset of its line. Assumes nothing.
use Rattle.std.proofs.Common.{◌≡◌, ℕ, zero, suc, ◌+◌, ◌-◌, ◌<◌, ◌≤◌, Bool, true, false, cond, leb, ◌⊎◌, List, [], ◌∷◌, length, get_or, take, refl, ap, ◌∙◌, inl, inr, ⊎_elim, arith}
use Rattle.std.proofs.lemmas.Bool.{cases_lt, cond-true, le-leb}
use Rattle.std.proofs.lemmas.Bool.Decides.{nat_tests}
use Rattle.std.proofs.lemmas.List.{take_more}
use Rattle.grammar.specs.Regular.{Range, inside}
use Rattle.grammar.specs.Productions.{blank, letter, alnum, label_char, iri_char, string_char, uchar_letter, comment_char}
use Rattle.grammar.specs.Scanner as scan
use Rattle.grammar.specs.Scanner.{Next, verb, thing, dot, Role, State, start, iri, label, before, string, at, tag, sub, ended, remark, dead, move, step, run, Sort, inner, between, done, slashes, escapes, letters, none, sort, plain, in_term, in_line, Stands, Slashed, in_iri, in_string, Halted, Halts, Stuck, StuckEscape, Ended, RunTo}
use Rattle.grammar.proofs.Classes.{low_ranges, low-inside}
use Rattle.grammar.proofs.Runs.{run-append}
use Rattle.grammar.proofs.Slices.{run_rest}
use Rattle.grammar.proofs.States.{where_passed}

-- where no move is, no step is
pub no_step : (t : State) (c : ℕ) → move t c ≡ dead → step t c ≡ dead
no_step t c e = grind (arith, nat_tests)

pub same_step : (t u : State) (c : ℕ) → move t c ≡ move u c → step t c ≡ step u c
same_step t u c e = ap (λ m. cond (leb c 127) m dead) e

-- a byte of a class, at which the state moves to u, is up to 127
pub class_step : (rs : List Range) (t u v : State) (c : ℕ) → low_ranges rs ≡ true → move t c ≡ cond (inside rs c) u v → inside rs c ≡ true → step t c ≡ u
class_step rs t u v c l m i =
    let b = low-inside rs c l i in
    cond-true (leb c 127) _ _ (le-leb c 127 (omega arith)) ∙ m ∙ cond-true (inside rs c) u v i

-- one byte further
pub onward : (s : State) (bs : List ℕ) (k : ℕ) (t u : State) → Stands s bs k t → k < length bs → step t (get_or bs k 0) ≡ u → Stands s bs (k + 1) u
onward s bs k t u h l e = rw (take_more bs k 0 l, run-append s (take k bs) (get_or bs k 0 ∷ []), h) e

pub by_byte : (s : State) (bs : List ℕ) (k b : ℕ) (t u : State) → Stands s bs k t → k < length bs → get_or bs k 0 ≡ b → step t b ≡ u → Stands s bs (k + 1) u
by_byte s bs k b t u h l e m = onward s bs k t u h l (ap (step t) e ∙ m)

-- a class of bytes at which a state stays
abbrev pub Loops : List Range → State → Type 0
Loops rs t = (c : ℕ) → inside rs c ≡ true → step t c ≡ t

pub loops_iri : (n : Next) → Loops iri_char (iri n)
loops_iri n c i = class_step iri_char (iri n) (iri n) _ c refl refl i

pub loops_label : (r : Role) → Loops label_char (label r)
loops_label r c i = class_step label_char (label r) (label r) _ c refl refl i

pub loops_string : Loops string_char string
loops_string c i = class_step string_char string string _ c refl refl i

pub loops_tag : Loops letter tag
loops_tag c i = class_step letter tag tag _ c refl refl i

pub loops_sub : Loops alnum sub
loops_sub c i = class_step alnum sub sub _ c refl refl i

pub loops_start : Loops blank start
loops_start c i = class_step blank start start _ c refl refl i

pub loops_ended : Loops blank ended
loops_ended c i = class_step blank ended ended _ c refl refl i

pub loops_remark : Loops comment_char remark
loops_remark c i = class_step comment_char remark remark _ c refl refl i

loops_before : (n : Next) → Loops blank (before n)
loops_before verb c i = class_step blank (before verb) (before verb) _ c refl refl i
loops_before thing c i = class_step blank (before thing) (before thing) _ c refl refl i
loops_before dot c i = class_step blank (before dot) (before dot) _ c refl refl i

module _ (s : State) (bs : List ℕ) (rs : List Range) (t : State) (h : Loops rs t) where
  pub stays : (n k e : ℕ) → e ≡ k + n → e ≤ length bs → ((j : ℕ) → k ≤ j → j < e → inside rs (get_or bs j 0) ≡ true) → Stands s bs k t → Stands s bs e t
  stays zero k e q l i st = let z : k ≡ e = omega arith in rw z at st
  stays (suc n) k e q l i st =
      stays n (k + 1) e (omega arith) l (λ j a b. i j (omega arith) b) (onward s bs k t t st (omega arith) (h (get_or bs k 0) (i k (omega arith) (omega arith))))

  pub run-stays : (k e : ℕ) → RunTo rs bs k e → Stands s bs k t → Stands s bs e t
  run-stays k e r st = stays (e - k) k e (omega (arith, r.forward)) r.within r.all st

  -- a run of at least one byte, of which the first leads to t
  pub run_enters : (u : State) (k e : ℕ) → RunTo rs bs k e → k < e → ((c : ℕ) → inside rs c ≡ true → step u c ≡ t) → Stands s bs k u → Stands s bs e t
  run_enters u k e r l m st =
      run-stays (k + 1) e (run_rest rs bs k e r l) (onward s bs k u t st (omega (arith, r.within)) (m (get_or bs k 0) (r.all k (omega arith) l)))

-- after a term, blanks change nothing
pub before-ended : (s : State) (bs : List ℕ) (k : ℕ) (n : Next) → Stands s bs k (before n) → Ended s bs k n
before-ended s bs k n h = record { state = before n; stands = h; over = refl; next = λ _. refl }

pub blanks-ended : (s : State) (bs : List ℕ) (k e : ℕ) (n : Next) → RunTo blank bs k e → Ended s bs k n → Ended s bs e n
blanks-ended s bs k e n r h =
    ⊎_elim
    (λ l. before-ended s bs e n (run-stays s bs blank (before n) (loops_before n) (k + 1) e (run_rest blank bs k e r l)
    (onward s bs k h.state (before n) h.stands (omega (arith, r.within)) (h.next (omega (arith, r.within)) ∙ loops_before n (get_or bs k 0) (r.all k (omega arith) l)))))
    (λ l. let z : k ≡ e = omega (arith, r.forward) in rw z at h)
    (cases_lt k e)

-- what is known where the code finds that a line cannot go on
module _ (f : Sort → Bool) (s : State) (bs : List ℕ) (k : ℕ) where
  pub stuck_at : (t : State) → Stands s bs k t → plain (sort t) ≡ true → (k < length bs → move t (get_or bs k 0) ≡ dead) → (k ≡ length bs → f (sort t) ≡ true) → Stuck f s bs k
  stuck_at t h p d e = record { state = t; stands = h; live = inl p; next = λ l. no_step t (get_or bs k 0) (d l); end = e }

  halts_by : (n : ℕ) (h : Stuck f s bs k) → Halted f s bs k h.state n → Halts f s bs k n
  halts_by n h w = record { state = h.state; stands = h.stands; live = h.live; why = w }

  pub halt_short : Stuck f s bs k → k ≡ length bs → Halts f s bs k 3
  halt_short h e = halts_by 3 h (scan.short e (h.end e))

  pub halt_high : Stuck f s bs k → k < length bs → 128 ≤ get_or bs k 0 → Halts f s bs k 1
  halt_high h l c = halts_by 1 h (scan.high l c)

  pub halt_other : Stuck f s bs k → k < length bs → get_or bs k 0 < 128 → Halts f s bs k 3
  halt_other h l c = halts_by 3 h (scan.other l c (h.next l))

is_letter : (c : ℕ) → inside uchar_letter c ≡ true → (c ≡ 117) ⊎ (c ≡ 85)
is_letter c i = grind (arith, nat_tests)

module _ (s : State) (bs : List ℕ) (k : ℕ) (h : StuckEscape s bs k) where
  pub halt_letter : k < length bs → inside uchar_letter (get_or bs k 0) ≡ true → Halts in_term s bs k 2
  halt_letter l i = record { state = h.state; stands = h.stands; live = inr h.slashed; why = scan.unicode l h.slashed (is_letter (get_or bs k 0) i) }

  pub escape_stuck : (k < length bs → inside uchar_letter (get_or bs k 0) ≡ false) → Stuck in_term s bs k
  escape_stuck n = record {
    state = h.state;
    stands = h.stands;
    live = inr h.slashed;
    next = λ l. h.next l (λ e. grind (arith, nat_tests, n l)) (λ e. grind (arith, nat_tests, n l));
    end = λ _. deep h.state h.slashed;
  }
    where
      deep : (t : State) → Slashed s bs k t → in_term (sort t) ≡ true
      deep t (in_iri n j a b x y) = refl
      deep t in_string = refl

-- what is refused inside a term is refused in the line
pub wider : (s : State) (bs : List ℕ) (k n : ℕ) → Halts in_term s bs k n → Halts in_line s bs k n
wider s bs k n h = record { state = h.state; stands = h.stands; live = h.live; why = go n h.why }
  where
    go : (n : ℕ) → Halted in_term s bs k h.state n → Halted in_line s bs k h.state n
    go n (scan.high l c) = scan.high l c
    go n (scan.unicode l x e) = scan.unicode l x e
    go n (scan.other l c d) = scan.other l c d
    go n (scan.short e i) = scan.short e (where_passed (λ t. in_term (sort t)) (λ t. in_line (sort t)) refl h.state i)
