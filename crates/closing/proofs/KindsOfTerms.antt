-- The kinds of a book's terms, and terms of any kinds.
use Rattle.std.proofs.Common.{◌≡◌, ℕ, suc, ◌+◌, ◌-◌, ◌<◌, ◌≤◌, Bool, true, false, T, List, [], ◌∷◌, ◌++◌, length, get_or, map, codes, refl, sym, ap, ◌∙◌, ap₂, ⊎_elim, length-append, arith}
use Rattle.std.proofs.lemmas.Bool.{cases_lt}
use Rattle.std.proofs.lemmas.List.{map-append, get_or-replicate, get_or_append_left, get_or-append_right}
use Rattle.std.proofs.Math.ListN.{replicate}
use Rattle.entailment.specs.Terms.{Term, iri, literal, blank, named, position, rdf, rdfs, thirty}
use Rattle.entailment.proofs.Names.{position-named}
use Rattle.closing.specs.declared.kinds.TermKind.{TermKind}
use Rattle.closing.specs.declared.kinds.TermKind.TheVariants.{Name, Position, Blank}
use Rattle.closing.specs.declared.starts.Which.{Which}
use Rattle.closing.specs.declared.starts.Which.TheVariants.{Names, Positions}
use Rattle.closing.specs.Kinds.{kind, kind_by}
use Rattle.closing.specs.Closes.{KindsHaveTerms}
use Rattle.closing.specs.Seeds.{all_kinds, picks}

term_of : TermKind → Term
term_of Name = literal []
term_of Position = iri (codes "<http://www.w3.org/1999/02/22-rdf-syntax-ns#_1>")
term_of Blank = blank

kind-term_of : (k : TermKind) → kind (term_of k) ≡ k
unfolding term_of
kind-term_of Name = refl
kind-term_of Position = refl
kind-term_of Blank = refl

pub kinds_have_terms : KindsHaveTerms
kinds_have_terms [] = ([], refl)
kinds_have_terms (k ∷ ks) = let rest = kinds_have_terms ks in (term_of k ∷ rest.0, ap₂ (λ (x : TermKind) (xs : List TermKind). x ∷ xs) (kind-term_of k) rest.1)

pub all_kinds-of : (more : List Term) → all_kinds (map kind more) ≡ map kind (thirty ++ more)
unfolding all_kinds
all_kinds-of more = sym (map-append kind thirty more)

-- the fifteenth of the thirty is a container position, the others are names
thirty-kinds : map kind thirty ≡ replicate 14 Name ++ (Position ∷ replicate 15 Name)
unfolding thirty rdf rdfs
thirty-kinds = refl

thirty-length : length (map kind thirty) ≡ 30
unfolding thirty
thirty-length = refl

pub all_kinds-length : (ks : List TermKind) → length (all_kinds ks) ≡ 30 + length ks
unfolding all_kinds
all_kinds-length ks = length-append (map kind thirty) ks ∙ ap (λ n. n + length ks) thirty-length

module _ (ks : List TermKind) (n : ℕ) where
  low : n < 30 → get_or (all_kinds ks) n Blank ≡ get_or (replicate 14 Name ++ (Position ∷ replicate 15 Name)) n Blank
  unfolding all_kinds
  low l = let l' : n < length (map kind thirty) = omega (arith, thirty-length) in get_or_append_left (map kind thirty) ks Blank n l' ∙ ap (λ (xs : List TermKind). get_or xs n Blank) thirty-kinds

  pub kind_past : 30 ≤ n → get_or (all_kinds ks) n Blank ≡ get_or ks (n - 30) Blank
  unfolding all_kinds
  kind_past l = get_or-append_right (map kind thirty) ks 30 n Blank thirty-length l

  pub kind_position : n ≡ 14 → get_or (all_kinds ks) n Blank ≡ Position
  kind_position e = let l : n < 30 = omega arith in low l ∙ ap (λ i. get_or (replicate 14 Name ++ (Position ∷ replicate 15 Name)) i Blank) e

  pub kind_name : n < 30 → (n ≡ 14 → ⊥) → get_or (all_kinds ks) n Blank ≡ Name
  kind_name l ne =
      low l
      ∙ ⊎_elim
      (λ h. get_or_append_left (replicate 14 Name) (Position ∷ replicate 15 Name) Blank n h ∙ get_or-replicate 14 n Name Blank h)
      (λ h.
      let e : n - 14 ≡ suc (n - 15) = omega arith in
      let s : n - 15 < 15 = omega arith in
      get_or-append_right (replicate 14 Name) (Position ∷ replicate 15 Name) 14 n Blank refl h
      ∙ ap (λ i. get_or (Position ∷ replicate 15 Name) i Blank) e
      ∙ get_or-replicate 15 (n - 15) Name Blank s)
      (cases_lt n 14)

-- which terms a part of a start set picks
abbrev pub tested : Which → Term → Bool
tested Names = named
tested Positions = position

picks_by : (w : Which) (p n : Bool) → (T p → T n) → picks w (kind_by p n) ≡ elim w [ Names ↦ n | Positions ↦ p ]
picks_by Names true true h = refl
picks_by Names true false h = absurd (h tt)
picks_by Names false true h = refl
picks_by Names false false h = refl
picks_by Positions true n h = refl
picks_by Positions false true h = refl
picks_by Positions false false h = refl

pub picks-kind : (w : Which) (t : Term) → picks w (kind t) ≡ tested w t
picks-kind Names t = picks_by Names (position t) (named t) (position-named t)
picks-kind Positions t = picks_by Positions (position t) (named t) (position-named t)
