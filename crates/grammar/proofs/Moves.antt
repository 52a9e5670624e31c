-- What the scanner's states do at the bytes that the code tests. Assumes nothing.
use Rattle.std.proofs.Common.{◌≡◌, ℕ, ◌+◌, ◌<◌, true, false, List, length, get_or, refl, arith, ap, ◌∙◌, inl, inr}
use Rattle.std.proofs.lemmas.Bool.Decides.{nat_tests}
use Rattle.grammar.specs.Regular.{inside}
use Rattle.grammar.specs.Productions.{blank, letter, alnum, label_char, iri_char, string_char, escape_letter, comment_char}
use Rattle.grammar.specs.Scanner.{Next, verb, thing, dot, Role, follows, State, start, iri, slash, colon, label, before, string, escape, at, tag, hyphen, sub, carets, ended, remark, dead, move, step, between, sort, plain, in_line, Stands, in_iri, in_string, Stuck, StuckEscape, Ended, Tagged, RunTo}
use Rattle.grammar.proofs.Steps.{class_step, onward, by_byte, no_step, same_step, run_enters, loops_label, loops_tag, loops_sub}

-- a test that fails
abbrev Not : ℕ → ℕ → Type 0
Not c b = c ≡ b → ⊥

-- no move from a state but by the bytes that it names
pub no_iri : (n : Next) (c : ℕ) → inside iri_char c ≡ false → Not c 62 → Not c 92 → move (iri n) c ≡ dead
no_iri n c e u v = grind (arith, nat_tests)

pub no_colon : (r : Role) (c : ℕ) → inside label_char c ≡ false → move (colon r) c ≡ dead
no_colon r c e = grind (arith, nat_tests)

pub no_string : (c : ℕ) → inside string_char c ≡ false → Not c 34 → Not c 92 → move string c ≡ dead
no_string c e u v = grind (arith, nat_tests)

pub no_hyphen : (c : ℕ) → inside alnum c ≡ false → move hyphen c ≡ dead
no_hyphen c e = grind (arith, nat_tests)

pub no_carets : (c : ℕ) → Not c 60 → move carets c ≡ dead
no_carets c u = grind (arith, nat_tests)

pub no_start : (c : ℕ) → inside blank c ≡ false → Not c 35 → Not c 60 → Not c 95 → move start c ≡ dead
no_start c e u v w = grind (arith, nat_tests)

pub no_ended : (c : ℕ) → inside blank c ≡ false → Not c 35 → move ended c ≡ dead
no_ended c e u = grind (arith, nat_tests)

pub no_remark : (c : ℕ) → inside comment_char c ≡ false → move remark c ≡ dead
no_remark c e = grind (arith, nat_tests)

pub no_verb : (c : ℕ) → inside blank c ≡ false → Not c 60 → move (before verb) c ≡ dead
no_verb c e u = grind (arith, nat_tests)

pub no_thing : (c : ℕ) → inside blank c ≡ false → Not c 60 → Not c 95 → Not c 34 → move (before thing) c ≡ dead
no_thing c e u v w = grind (arith, nat_tests)

pub no_dot : (c : ℕ) → inside blank c ≡ false → Not c 46 → move (before dot) c ≡ dead
no_dot c e u = grind (arith, nat_tests)

-- after a backslash
module _ (s : State) (bs : List ℕ) (k : ℕ) where
  pub slash_stuck : (n : Next) → k < length bs → get_or bs k 0 ≡ 92 → Stands s bs k (iri n) → StuckEscape s bs (k + 1)
  slash_stuck n l e h = record {
    state = slash n;
    stands = by_byte s bs k 92 (iri n) (slash n) h l e refl;
    slashed = in_iri n k refl l h e;
    next = λ m u v. no_step (slash n) (get_or bs (k + 1) 0) (grind (arith, nat_tests));
  }

  pub string_stuck : Stands s bs k escape → (k < length bs → inside escape_letter (get_or bs k 0) ≡ false) → StuckEscape s bs k
  string_stuck h e = record {
    state = escape;
    stands = h;
    slashed = in_string;
    next = λ m u v. no_step escape (get_or bs k 0) (grind (arith, nat_tests, e m));
  }

-- the ends of terms
module _ (s : State) (bs : List ℕ) (k : ℕ) where
  ends_term : (t : State) (n : Next) → Stands s bs k t → sort t ≡ between → (k < length bs → move t (get_or bs k 0) ≡ move (before n) (get_or bs k 0)) → Ended s bs k n
  ends_term t n h b m = record { state = t; stands = h; over = b; next = λ l. same_step t (before n) (get_or bs k 0) (m l) }

  pub label-ended : (r : Role) → Stands s bs k (label r) → (k < length bs → inside label_char (get_or bs k 0) ≡ false) → Ended s bs k (follows r)
  label-ended r h e = ends_term (label r) (follows r) h refl (λ l. grind (arith, nat_tests, e l))

  pub tag-hyphen : Tagged s bs k → k < length bs → get_or bs k 0 ≡ 45 → Stands s bs (k + 1) hyphen
  tag-hyphen (inl (h, e)) l q = by_byte s bs k 45 tag hyphen h l q refl
  tag-hyphen (inr (h, e)) l q = by_byte s bs k 45 sub hyphen h l q refl

-- runs of bytes of a class
module _ (s : State) (bs : List ℕ) (k : ℕ) where
  pub label-run : (e : ℕ) (r : Role) → RunTo label_char bs k e → k < e → Stands s bs k (colon r) → Ended s bs e (follows r)
  label-run e r u l h =
      label-ended s bs e r (run_enters s bs label_char (label r) (loops_label r) (colon r) k e u l (λ c i. class_step label_char (colon r) (label r) _ c refl refl i) h) u.past

  pub tag-run : (e : ℕ) → RunTo letter bs k e → k < e → Stands s bs k at → Tagged s bs e
  tag-run e u l h = inl (run_enters s bs letter tag loops_tag at k e u l (λ c i. class_step letter at tag _ c refl refl i) h, u.past)

  pub sub-run : (e : ℕ) → RunTo alnum bs k e → k < e → Stands s bs k hyphen → Tagged s bs e
  sub-run e u l h = inr (run_enters s bs alnum sub loops_sub hyphen k e u l (λ c i. class_step alnum hyphen sub _ c refl refl i) h, u.past)

  pub escape-letter : k < length bs → inside escape_letter (get_or bs k 0) ≡ true → Stands s bs k escape → Stands s bs (k + 1) string
  escape-letter l i h = onward s bs k escape string h l (class_step escape_letter escape string _ (get_or bs k 0) refl refl i)

-- after a term
module _ (s : State) (bs : List ℕ) (k : ℕ) (n : Next) (h : Ended s bs k n) where
  pub after-byte : (b : ℕ) (t : State) → k < length bs → get_or bs k 0 ≡ b → step (before n) b ≡ t → Stands s bs (k + 1) t
  after-byte b t l e m = onward s bs k h.state t h.stands l (h.next l ∙ ap (step (before n)) e ∙ m)

  pub after_stuck : (k < length bs → move (before n) (get_or bs k 0) ≡ dead) → Stuck in_line s bs k
  after_stuck d = record { state = h.state; stands = h.stands; live = inl (ap plain h.over); next = λ l. h.next l ∙ no_step (before n) (get_or bs k 0) (d l); end = λ _. ap in_line h.over }
