-- The lines of a document. Assumes nothing.
use Rattle.std.specs.Prelude.{◌≡◌, ℕ, ◌+◌, ◌⊎◌, List, [], ◌∷◌, ◌++◌, length, drop}
use Rattle.grammar.specs.Readings.{Reading, Reads}

-- LF and CR end a line
abbrev pub EndsLine : ℕ → Type 0
EndsLine c = (c ≡ 10) ⊎ (c ≡ 13)

-- no byte of the string ends a line
abbrev pub Unbroken : List ℕ → Type 0
Unbroken [] = Unit {0}
Unbroken (c ∷ u) = (EndsLine c → ⊥) × Unbroken u

-- what ends a line before the rest of a text: LF, CR, or nothing at the text's end
pub data Ending (after : List ℕ) : List ℕ → Type 0 where
  by : (c : ℕ) → EndsLine c → Ending after (c ∷ [])
  at_end : after ≡ [] → Ending after []

-- a text that is not empty, cut into its first line, what ends that, and the text after it
pub record Cut (text bs ending after : List ℕ) : Type 0 where
  pub some : text ≡ [] → ⊥
  pub split : text ≡ bs ++ (ending ++ after)
  pub unbroken : Unbroken bs
  pub ended : Ending after ending

-- the line of a document at the offset from is read so, and the next line begins at next
pub record LineAt (text : List ℕ) (from : ℕ) (r : Reading) (next : ℕ) : Type 0 where
  pub bs : List ℕ
  pub ending : List ℕ
  pub cut : Cut (drop from text) bs ending (drop next text)
  pub next_is : next ≡ from + length bs + length ending
  pub reads : Reads from bs r

-- a line of a document: its offset, its bytes, what ends it, and what it is read as
pub record Row : Type 0 where
  pub offset : ℕ
  pub text : List ℕ
  pub ending : List ℕ
  pub reading : Reading

-- the lines of a text whose first byte has the offset at
pub data Lines : ℕ → List ℕ → List Row → Type 0 where
  none : {at : ℕ} → Lines at [] []
  more : {at : ℕ} {text : List ℕ} {row : Row} {rows : List Row} (after : List ℕ) → Cut text row.text row.ending after → row.offset ≡ at → Reads at row.text row.reading
      → Lines (at + length row.text + length row.ending) after rows → Lines at text (row ∷ rows)

-- the lines with their ends, joined
abbrev pub joined : List Row → List ℕ
joined [] = []
joined (row ∷ rows) = row.text ++ (row.ending ++ joined rows)
