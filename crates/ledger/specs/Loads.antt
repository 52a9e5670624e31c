-- What a document does to a ledger, through name, blank and enter. Assumes nothing.
use Rattle.std.specs.Prelude.{ℕ, ◌+◌, cond, List, [], ◌∷◌, ◌++◌, length, nat_lt, bytes_eq, Some, None, Ok, Err, Option, Result}
use Rattle.triples.specs.declared.store.Added.{Added}
use Rattle.triples.specs.declared.store.Added.TheVariants.{New, Had}
use Rattle.entailment.specs.Rows.{triple}
use Rattle.ledger.specs.declared.refusal.Refusal.{Refusal}
use Rattle.ledger.specs.declared.refusal.Refusal.TheVariants.{LabelsFull}
use Rattle.ledger.specs.declared.fault.Layer.{Layer}
use Rattle.ledger.specs.declared.fault.Layer.TheVariants.{Reader, Terms, Triples}
use Rattle.ledger.specs.Numbers.{number}
use Rattle.ledger.specs.Ledger.{Ledger}
use Rattle.ledger.specs.Steps.{Sheet, Outcome, is_refused, name_step, blank_step, enter_step}

-- a term of a line: a name by its spelling, or a label
pub data Item : Type 0 where
  a_name : List ℕ → Item
  a_label : List ℕ → Item

-- with the offset where it begins
pub record Place : Type 0 where
  pub item : Item
  pub offset : ℕ

-- what a line is, once it is judged: a triple, which begins where its subject does; nothing to enter; or refused by the reader
pub data Line : Type 0 where
  says : Place → Place → Place → Line
  is_silent : Line
  is_refused_at : ℕ → ℕ → Line  -- the refusal number, and the offset

-- what a refused document tells
pub record Fault : Type 0 where
  pub number : ℕ
  pub layer : Layer
  pub offset : ℕ

-- a label of this document, and the number of its blank
pub record Known : Type 0 where
  pub label : List ℕ
  pub number : ℕ

-- how far a document has come
pub record Progress : Type 0 where
  pub ledger : Ledger
  pub labels : List Known

-- what a step gives, and how far the document has come then
pub record Step (A : Type 0) : Type 0 where
  pub answer : Result A Fault
  pub after : Progress

abbrev pub gives : {A : Type 0} → A → Progress → Step A
gives a s = record { answer = Ok a; after = s }

abbrev pub stops : {A : Type 0} → Fault → Progress → Step A
stops f s = record { answer = Err f; after = s }

abbrev pub going_on : {A B : Type 0} → Result A Fault → Progress → (A → Progress → Step B) → Step B
going_on (Ok a) s f = f a s
going_on (Err e) s f = stops e s

-- a step after one that gives an answer; a fault ends it, and what came before it stays
abbrev pub then : {A B : Type 0} → Step A → (A → Progress → Step B) → Step B
then x f = going_on x.answer x.after f

-- a refusal of the ledger as a fault of this layer at this offset
abbrev pub blame : {A : Type 0} → Layer → ℕ → Result A Refusal → Result A Fault
blame layer at (Ok a) = Ok a
blame layer at (Err e) = Err (record { number = number e; layer = layer; offset = at })

-- a call's outcome as a step of the document
abbrev pub on_ledger : {A : Type 0} → Layer → ℕ → List Known → Outcome A → Step A
on_ledger layer at known o = record { answer = blame layer at o.answer; after = record { ledger = o.after; labels = known } }

abbrev pub find_label : List ℕ → List Known → Option ℕ
find_label bs [] = None
find_label bs (k ∷ ks) = cond (bytes_eq k.label bs) (Some k.number) (find_label bs ks)

abbrev pub noted : List ℕ → ℕ → Progress → Step ℕ
noted bs n s = gives n (record { ledger = s.ledger; labels = s.labels ++ record { label = bs; number = n } ∷ [] })

-- a label: its blank's number, or a new blank's, where one of the `room` label records is free
abbrev pub label_step : ℕ → ℕ → ℕ → List ℕ → Option ℕ → Progress → Step ℕ
label_step side room at bs (Some n) s = gives n s
label_step side room at bs None s =
    cond (nat_lt (length s.labels) room)
    (then (on_ledger Terms at s.labels (blank_step side s.ledger)) (noted bs))
    (stops (record { number = number LabelsFull; layer = Terms; offset = at }) s)

abbrev pub item_step : ℕ → ℕ → ℕ → Item → Progress → Step ℕ
item_step side room at (a_name bs) s = on_ledger Terms at s.labels (name_step side bs s.ledger)
item_step side room at (a_label bs) s = label_step side room at bs (find_label bs s.labels) s

abbrev pub place_step : ℕ → ℕ → Place → Progress → Step ℕ
place_step side room p s = item_step side room p.offset p.item s

-- subject, predicate, object, and then the triple
abbrev pub triple_step : ℕ → ℕ → Place → Place → Place → Progress → Step Added
triple_step side room x y z s =
    then (place_step side room x s) (λ a s₁.
    then (place_step side room y s₁) (λ b s₂.
    then (place_step side room z s₂) (λ c s₃.
    on_ledger Triples x.offset s₃.labels (enter_step (triple a b c) s₃.ledger))))

abbrev pub line_step : ℕ → ℕ → Line → Progress → Step Added
line_step side room (says x y z) s = triple_step side room x y z s
line_step side room is_silent s = gives Had s
line_step side room (is_refused_at n at) s = stops (record { number = n; layer = Reader; offset = at }) s

abbrev pub one_more : Added → ℕ → ℕ
one_more New n = n + 1
one_more Had n = n

-- line after line; how many triples were new, after n of earlier lines
abbrev pub lines_step : ℕ → ℕ → ℕ → List Line → Progress → Step ℕ
lines_step side room n [] s = gives n s
lines_step side room n (x ∷ xs) s = then (line_step side room x s) (λ a s₁. lines_step side room (one_more a n) xs s₁)

-- what load gives, and the ledger afterwards
pub record LoadOutcome : Type 0 where
  pub answer : Result ℕ Fault
  pub after : Ledger

abbrev pub document_step : ℕ → ℕ → List Line → Ledger → LoadOutcome
document_step side room xs l =
    let s = lines_step side room 0 xs (record { ledger = l; labels = [] }) in
    record { answer = s.answer; after = s.after.ledger }

-- under a sheet; a 10 is a fault at offset 0
abbrev pub load_step : ℕ → ℕ → Sheet → ℕ → List Line → Ledger → LoadOutcome
load_step side number s room xs l =
    cond (is_refused number s l)
    (record { answer = Err (record { number = 10; layer = Terms; offset = 0 }); after = l })
    (document_step side room xs l)
