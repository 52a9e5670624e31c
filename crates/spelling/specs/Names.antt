-- What a token denotes, and the canonical N-Triples spelling of a name. Assumes nothing.
use Rattle.std.specs.Prelude.{◌≡◌, ℕ, ◌≤◌, cond, ◌⊎◌, List, [], ◌∷◌, ◌++◌, length, ◌==◌, ◌≢◌}
use Rattle.grammar.specs.Regular.{Spells}
use Rattle.grammar.specs.Productions.{part, IRIREF, STRING_LITERAL_QUOTE, LANGTAG}
use Rattle.grammar.specs.Readings.{Kind, an_iri, a_literal}

-- the byte that an escape letter stands for
pub data Escape : ℕ → ℕ → Type 0 where
  tab : Escape 116 9  -- \t
  backspace : Escape 98 8  -- \b
  newline : Escape 110 10  -- \n
  return : Escape 114 13  -- \r
  feed : Escape 102 12  -- \f
  quote : Escape 34 34  -- \"
  apostrophe : Escape 39 39  -- \'
  backslash : Escape 92 92  -- \\

-- the bytes between the quotes, and the lexical form that they stand for
pub data Means : List ℕ → List ℕ → Type 0 where
  none : Means [] []
  plain : {c : ℕ} {u v : List ℕ} → (c ≢ 92) → Means u v → Means (c ∷ u) (c ∷ v)
  escape : {l c : ℕ} {u v : List ℕ} → Escape l c → Means u v → Means (92 ∷ l ∷ u) (c ∷ v)

-- a name: an IRI, or a literal by its lexical form and its language tag or datatype, each as read
pub data Name : Type 0 where
  iri_name : List ℕ → Name
  plain_name : List ℕ → Name
  tagged_name : List ℕ → List ℕ → Name
  typed_name : List ℕ → List ℕ → Name

abbrev pub quoted : List ℕ → List ℕ
quoted u = 34 ∷ (u ++ 34 ∷ [])

abbrev pub bracketed : List ℕ → List ℕ
bracketed u = 60 ∷ (u ++ 62 ∷ [])

-- a token of the kind, with these bytes, denotes the name
pub data Denotes : Kind → List ℕ → Name → Type 0 where
  by_iri : {t : List ℕ} (i : List ℕ) → t ≡ bracketed i → Spells (IRIREF part) (bracketed i) → Denotes an_iri t (iri_name i)
  by_plain : {t : List ℕ} (u v : List ℕ) → t ≡ quoted u → Spells (STRING_LITERAL_QUOTE part) (quoted u) → Means u v → Denotes a_literal t (plain_name v)
  by_tagged : {t : List ℕ} (u v g : List ℕ) → t ≡ quoted u ++ 64 ∷ g → Spells (STRING_LITERAL_QUOTE part) (quoted u) → Means u v → Spells LANGTAG (64 ∷ g) → Denotes a_literal t (tagged_name v g)
  by_typed : {t : List ℕ} (u v i : List ℕ) → t ≡ quoted u ++ 94 ∷ 94 ∷ bracketed i → Spells (STRING_LITERAL_QUOTE part) (quoted u) → Means u v → Spells (IRIREF part) (bracketed i) → Denotes a_literal t (typed_name v i)

-- only LF, CR, " and \ are escaped in the canonical form
abbrev pub escaped_byte : ℕ → List ℕ
escaped_byte c =
    cond (c == 10) (92 ∷ 110 ∷ [])
    (cond (c == 13) (92 ∷ 114 ∷ [])
    (cond (c == 34) (92 ∷ 34 ∷ [])
    (cond (c == 92) (92 ∷ 92 ∷ []) (c ∷ []))))

abbrev pub escaped : List ℕ → List ℕ
escaped [] = []
escaped (c ∷ v) = escaped_byte c ++ escaped v

-- the canonical spelling of a name
abbrev pub canonical : Name → List ℕ
canonical (iri_name i) = bracketed i
canonical (plain_name v) = quoted (escaped v)
canonical (tagged_name v g) = quoted (escaped v) ++ 64 ∷ g
canonical (typed_name v i) = quoted (escaped v) ++ 94 ∷ 94 ∷ bracketed i

-- a spelling has at most 255 bytes
abbrev pub longest : ℕ
longest = 255

-- the bytes are the canonical spelling of some token of the kind, and not too long
pub record LawfulAs (k : Kind) (bs : List ℕ) : Type 0 where
  pub text : List ℕ
  pub name : Name
  pub denoted : Denotes k text name
  pub spelled : canonical name ≡ bs
  pub short : length bs ≤ longest

-- the bytes are the canonical spelling of some token, and not too long; labels have none
abbrev pub Lawful : List ℕ → Type 0
Lawful bs = LawfulAs an_iri bs ⊎ LawfulAs a_literal bs
