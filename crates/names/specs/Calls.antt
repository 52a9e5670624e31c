-- What the calls on a table of names answer, and which terms it has afterwards. Of its terms, those after the thirty are given.
-- Assumes nothing.
use Rattle.std.specs.Prelude.{◌≡◌, ℕ, ◌+◌, ◌<◌, ◌≤◌, ◌⊎◌, min, List, [], ◌∷◌, ◌++◌, length, Some, None, Option, Ok, Err, Result}
use Rattle.spelling.specs.Names.{Lawful}
use Rattle.entailment.specs.Terms.{Term, iri, literal, blank}
use Rattle.names.specs.declared.view.View.{View}
use Rattle.names.specs.declared.view.View.TheVariants.{Iri, Literal, Blank}
use Rattle.names.specs.declared.refusal.Refusal.{Refusal}
use Rattle.names.specs.declared.refusal.Refusal.TheVariants.{NotLawful, Terms, Bytes}
use Rattle.names.specs.Terms.{term_spelled, spelled_bytes, most_bytes, most_terms, all_terms, IsNumberOf, IsUnknown}

-- the number of a refusal
abbrev pub number : Refusal → ℕ
number NotLawful = 11
number Terms = 12
number Bytes = 13

-- the term that is seen
abbrev pub term_of : View → Term
term_of (Iri b) = iri b.now
term_of (Literal b) = literal b.now
term_of Blank = blank

-- the number of the name with this spelling; none where no name has it
abbrev pub Finds : List ℕ → List Term → Option ℕ → Type 0
Finds b more (Some n) = IsNumberOf b (all_terms more) n
Finds b more None = IsUnknown b (all_terms more)

-- there are as many terms as the limit, or 256
abbrev pub IsFull : ℕ → List Term → Type 0
IsFull limit more = min limit most_terms ≤ length (all_terms more)

-- a spelling more does not go into the bytes
abbrev pub Overflows : List ℕ → List Term → Type 0
Overflows b more = most_bytes < spelled_bytes more + length b

-- the term is the last afterwards, and n is its number
pub record Appends (t : Term) (old new : List Term) (n : ℕ) : Type 0 where
  pub last : new ≡ old ++ t ∷ []
  pub number : n ≡ length (all_terms old)

-- the name is lawful and was there, and nothing changes
pub record IsKnown (b : List ℕ) (old new : List Term) (n : ℕ) : Type 0 where
  pub lawful : Lawful b
  pub found : IsNumberOf b (all_terms old) n
  pub same : new ≡ old

-- the name is lawful and new, and there is room for it
pub record IsAdded (b : List ℕ) (limit : ℕ) (old new : List Term) (n : ℕ) : Type 0 where
  pub lawful : Lawful b
  pub unknown : IsUnknown b (all_terms old)
  pub room : ¬ IsFull limit old
  pub fits : ¬ Overflows b old
  pub appends : Appends (term_spelled b) old new n

-- when a name is refused so
abbrev pub Refuses : List ℕ → ℕ → List Term → Refusal → Type 0
Refuses b limit old NotLawful = ¬ Lawful b
Refuses b limit old Terms = Lawful b × IsUnknown b (all_terms old) × IsFull limit old
Refuses b limit old Bytes = Lawful b × IsUnknown b (all_terms old) × (¬ IsFull limit old) × Overflows b old

-- what interning a name answers: a refusal changes nothing
abbrev pub Interns : List ℕ → ℕ → List Term → List Term → Result ℕ Refusal → Type 0
Interns b limit old new (Ok n) = IsKnown b old new n ⊎ IsAdded b limit old new n
Interns b limit old new (Err e) = Refuses b limit old e × (new ≡ old)

-- what a new blank answers
abbrev pub AddsBlank : ℕ → List Term → List Term → Result ℕ Refusal → Type 0
AddsBlank limit old new (Ok n) = (¬ IsFull limit old) × Appends blank old new n
AddsBlank limit old new (Err e) = (e ≡ Terms) × IsFull limit old × (new ≡ old)
