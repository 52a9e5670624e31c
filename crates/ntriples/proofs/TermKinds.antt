-- What the kinds of terms have in common. Assumes nothing.
use Rattle.std.proofs.Common.{◌≡◌, ℕ, ◌<◌, ◌≤◌, Bool, true, false, List, [], ◌∷◌, length, get_or, nat_eq, Result, MatchResult, Ok, Err, refl, ◌∙◌, sym, inl, inr}
use Rattle.std.proofs.lemmas.Bool.{both_ways}
use Rattle.std.proofs.lemmas.Result.{MatchResult-weaker}
use Rattle.grammar.specs.Regular.{to, Spells, Is}
use Rattle.grammar.specs.Productions.{part, object}
use Rattle.grammar.specs.Readings.{Kind, an_iri, a_label, a_literal, production}
use Rattle.grammar.specs.Scanner.{thing, dot, last, State, iri, under, before, string, Next, in_term, in_line, Stands, Halts, Ended, piece}
use Rattle.grammar.proofs.Derivatives.{nullable}
use Rattle.grammar.proofs.LL1.{firsts}
use Rattle.grammar.proofs.Steps.{by_byte, wider}
use Rattle.grammar.proofs.Recognise.{is_all, not_all, not_stuck, first_is}
use Rattle.ntriples.specs.declared.cursor.Cursor.{Cursor}
use Rattle.ntriples.specs.declared.fault.Fault.{Fault}
use Rattle.ntriples.specs.declared.form.Found.{Found}
use Rattle.ntriples.specs.Answers.{number}
use Rattle.ntriples.specs.Cursors.{first_byte, Opens}

-- a term may stand as the object
pub as_object : (k : Kind) (u : List ℕ) → Spells (production k) u → Spells (object part) u
as_object an_iri u h = inl h
as_object a_label u h = inr (inl h)
as_object a_literal u h = inr (inr h)

first-firsts : (k : Kind) → firsts (production k) [] ≡ to (first_byte k) (first_byte k) ∷ []
first-firsts an_iri = refl
first-firsts a_label = refl
first-firsts a_literal = refl

not-nullable : (k : Kind) → nullable (production k) ≡ false
not-nullable an_iri = refl
not-nullable a_label = refl
not-nullable a_literal = refl

pub first_byte-is : (k : Kind) (bs : List ℕ) → Is (production k) bs → (0 < length bs) × (get_or bs 0 0 ≡ first_byte k)
first_byte-is k bs i = first_is (production k) (first_byte k) bs (first-firsts k) (not-nullable k) i

-- the state past the first byte of an object
pub opened : (k : Kind) → State
opened an_iri = iri dot
opened a_label = under last
opened a_literal = string

pub opened-opens : (k : Kind) → Opens k dot (opened k)
unfolding opened
opened-opens an_iri = refl
opened-opens a_label = (last, refl, refl)
opened-opens a_literal = (refl, refl)

pub opened-stands : (k : Kind) (bs : List ℕ) → 0 < length bs → get_or bs 0 0 ≡ first_byte k → Stands (before thing) bs 1 (opened k)
unfolding opened
opened-stands an_iri bs l e = by_byte (before thing) bs 0 60 (before thing) (iri dot) refl l e refl
opened-stands a_label bs l e = by_byte (before thing) bs 0 95 (before thing) (under last) refl l e refl
opened-stands a_literal bs l e = by_byte (before thing) bs 0 34 (before thing) string refl l e refl

-- whether the place where a term ends is the text's end, by the answer of the scanner and the code's test of it
module _ (k : Kind) (bs : List ℕ) (b : Bool) where
  pub fills-yes : (r : Result Cursor Fault) → MatchResult r (λ e. (e.pos ≤ length bs) × Is (production k) (piece bs 0 e.pos)) (λ _. Unit {0})
      → MatchResult r (λ e. b ≡ nat_eq e.pos (length bs)) (λ _. b ≡ false) → b ≡ true → Is (production k) bs
  fills-yes (Ok e) h r t = is_all (production k) (as_object k) bs e.pos h.0 h.1 (sym r ∙ t)
  fills-yes (Err f) h r t = absurd (both_ways b r t)

  pub fills-no : (r : Result Cursor Fault) → MatchResult r (λ e. (e.pos ≤ length bs) × Is (production k) (piece bs 0 e.pos)) (λ _. Unit {0})
      → MatchResult r (λ e. Ended (before thing) bs e.pos dot) (λ f. Halts in_term (before thing) bs f.offset (number f.kind))
      → MatchResult r (λ e. b ≡ nat_eq e.pos (length bs)) (λ _. b ≡ false) → b ≡ false → Is (production k) bs → ⊥
  fills-no (Ok e) h g r t i = not_all (production k) (as_object k) bs e.pos h.0 h.1 g (sym r ∙ t) i
  fills-no (Err f) h g r t i = not_stuck (production k) (as_object k) bs f.offset (number f.kind) g i

-- what is refused inside a term of a line is refused in the line
pub term-in_line : (s : State) (bs : List ℕ) (n : Next) (r : Result Found Fault) → MatchResult r (λ x. Ended s bs x.end.pos n) (λ f. Halts in_term s bs f.offset (number f.kind))
    → MatchResult r (λ x. Ended s bs x.end.pos n) (λ f. Halts in_line s bs f.offset (number f.kind))
term-in_line s bs n r h = MatchResult-weaker r h (λ x k. k) (λ f k. wider s bs f.offset (number f.kind) k)
