-- Where a term ends, and its kind, are determined. Assumes nothing.
use Rattle.std.proofs.Common.{◌≡◌, ℕ, List, [], ◌∷◌, ◌++◌, refl}
use Rattle.grammar.specs.Regular.{Range, to, Spells}
use Rattle.grammar.specs.Productions.{part, object, IRIREF, BLANK_NODE_LABEL, literal}
use Rattle.grammar.specs.Readings.{Kind, an_iri, a_label, a_literal, production}
use Rattle.grammar.proofs.Spans.{First, In}
use Rattle.grammar.proofs.LL1.{cuts}
use Rattle.grammar.proofs.Pieces.{not_both}

-- what may follow a term: a blank, the dot, or the < of an IRI
abbrev pub delimiter : List Range
delimiter = to 9 9 ∷ to 32 32 ∷ to 46 46 ∷ to 60 60 ∷ []

pub one_term : (u v x y : List ℕ) → Spells (object part) u → Spells (object part) v → First (In delimiter) x → First (In delimiter) y → u ++ x ≡ v ++ y → (u ≡ v) × (x ≡ y)
one_term = cuts (object part) delimiter refl

pub one-kind : (k l : Kind) (u : List ℕ) → Spells (production k) u → Spells (production l) u → k ≡ l
one-kind an_iri an_iri u h i = refl
one-kind an_iri a_label u h i = absurd (not_both (IRIREF part) BLANK_NODE_LABEL u refl refl h i)
one-kind an_iri a_literal u h i = absurd (not_both (IRIREF part) (literal part) u refl refl h i)
one-kind a_label an_iri u h i = absurd (not_both BLANK_NODE_LABEL (IRIREF part) u refl refl h i)
one-kind a_label a_label u h i = refl
one-kind a_label a_literal u h i = absurd (not_both BLANK_NODE_LABEL (literal part) u refl refl h i)
one-kind a_literal an_iri u h i = absurd (not_both (literal part) (IRIREF part) u refl refl h i)
one-kind a_literal a_label u h i = absurd (not_both (literal part) BLANK_NODE_LABEL u refl refl h i)
one-kind a_literal a_literal u h i = refl
