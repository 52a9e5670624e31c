-- An inner device: spans of the bytes that lie one after another, each the spelling of a term. No public contract ends on it.
-- Assumes nothing.
use Rattle.std.specs.Prelude.{◌≡◌, ℕ, ◌≤◌, List, [], ◌∷◌, map, take, slice_range, length}
use Rattle.entailment.specs.Terms.{Term}
use Rattle.names.specs.declared.span.Span.{Span}
use Rattle.names.specs.Terms.{term_spelled, IsTable}

-- the bytes in a span
abbrev pub spelling_in : List ℕ → Span → List ℕ
spelling_in bytes s = slice_range bytes s.start s.end

-- the terms that spans of the bytes spell
unfoldable pub terms_in : List ℕ → List Span → List Term
terms_in bytes spans = map (λ s. term_spelled (spelling_in bytes s)) spans

-- the spans begin at a, follow one another, and end at b
abbrev pub Lie : ℕ → List Span → ℕ → Type 0
Lie a [] b = a ≡ b
Lie a (s ∷ spans) b = (s.start ≡ a) × (a ≤ s.end) × Lie s.end spans b

-- the first n spans take the first `used` bytes, and spell the terms of a table
pub record IsPacked (bytes : List ℕ) (used : ℕ) (spans : List Span) (n : ℕ) : Type 0 where
  pub sizes : (length bytes ≡ 8192) × (length spans ≡ 226)
  pub within : (used ≤ 8192) × (n ≤ 226)
  pub lie : Lie 0 (take n spans) used
  pub table : IsTable (terms_in bytes (take n spans))
