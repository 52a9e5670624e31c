-- What the texts of calls say: whether bytes are a lawful spelling, and what the lines of a document are. Assumes nothing.
use Rattle.std.specs.Prelude.{◌≡◌, ℕ, ◌+◌, ◌<◌, ◌≤◌, Bool, List, [], ◌∷◌, length, MatchBool, IsOk}
use Rattle.grammar.specs.Readings.{Term, Reading, a_triple, a_comment, nothing, a_fault, Reads, a_label}
use Rattle.grammar.specs.Documents.{Cut}
use Rattle.spelling.specs.Names.{Name, Denotes, canonical, longest, Lawful}
use Rattle.ledger.specs.Ledger.{Ledger}
use Rattle.ledger.specs.declared.refusal.Refusal.TheVariants.{NoSheet}
use Rattle.ledger.specs.Steps.{Sheet, Outcome, refuses, is_refused, bytes_step}
use Rattle.ledger.specs.Loads.{Item, a_name, a_label as label_of, Place, Line, says, is_silent, is_refused_at, LoadOutcome, load_step}

-- the term names something whose spelling is too long
abbrev pub IsLong : Term → Type 0
IsLong t = (n : Name) × Denotes t.kind t.text n × (longest < length (canonical n))

-- what the ledger takes a term for: a name by its canonical spelling, or a label
pub data TakenFor (t : Term) : Item → Type 0 where
  by_name : (n : Name) → Denotes t.kind t.text n → length (canonical n) ≤ longest → TakenFor t (a_name (canonical n))
  by_label : t.kind ≡ a_label → TakenFor t (label_of t.text)

pub record StandsAt (t : Term) (p : Place) : Type 0 where
  pub item : TakenFor t p.item
  pub offset : p.offset ≡ t.offset

-- what a line that is read so is for the ledger; the first term that is too long refuses it by 4
pub data Judged : Reading → Line → Type 0 where
  by_triple : {at : ℕ} {s p o : Term} {x y z : Place} → StandsAt s x → StandsAt p y → StandsAt o z → Judged (a_triple at s p o) (says x y z)
  long_subject : {at : ℕ} {s p o : Term} → IsLong s → Judged (a_triple at s p o) (is_refused_at 4 s.offset)
  long_predicate : {at : ℕ} {s p o : Term} → ¬ IsLong s → IsLong p → Judged (a_triple at s p o) (is_refused_at 4 p.offset)
  long_object : {at : ℕ} {s p o : Term} → ¬ IsLong s → ¬ IsLong p → IsLong o → Judged (a_triple at s p o) (is_refused_at 4 o.offset)
  by_comment : Judged a_comment is_silent
  by_nothing : Judged nothing is_silent
  by_fault : {n k : ℕ} → Judged (a_fault n k) (is_refused_at n k)

-- the first lines of a text whose first byte has the offset at, and the text after them
pub data FirstLines : ℕ → List ℕ → List Line → List ℕ → Type 0 where
  none : {at : ℕ} {text : List ℕ} → FirstLines at text [] text
  more : {at : ℕ} {text rest : List ℕ} {x : Line} {xs : List Line} (bs ending after : List ℕ) (r : Reading)
      → Cut text bs ending after → Reads at bs r → Judged r x
      → FirstLines (at + length bs + length ending) after xs rest → FirstLines at text (x ∷ xs) rest

-- the outcome is that of the step, told whether the bytes are a lawful spelling
pub record Names (bs : List ℕ) (step : Bool → Outcome ℕ) (o : Outcome ℕ) : Type 0 where
  pub lawful : Bool
  pub judged : MatchBool lawful (Lawful bs) (¬ Lawful bs)
  pub gives : o ≡ step lawful

-- name with any bytes; 10 comes before they are judged
abbrev pub NamesUnder : ℕ → Sheet → ℕ → List ℕ → Ledger → Outcome ℕ → Type 0
NamesUnder number s side bs l o = MatchBool (is_refused number s l) (o ≡ refuses NoSheet l) (Names bs (λ lawful. bytes_step lawful side bs l) o)

-- load with any text: its lines from the first on, all of them where it is served, and else up to the one with the fault
pub record Loads (side number : ℕ) (s : Sheet) (text : List ℕ) (room : ℕ) (l : Ledger) (o : LoadOutcome) : Type 0 where
  pub lines : List Line
  pub rest : List ℕ
  pub read : FirstLines 0 text lines rest
  pub whole : IsOk o.answer → rest ≡ []
  pub step : o ≡ load_step side number s room lines l
