-- Calls as data: a kind and the arguments other than book and store; memory that is lent goes in as its length. What each
-- answers, and the ledger afterwards. Assumes nothing.
use Rattle.std.specs.Prelude.{◌≡◌, ℕ, true, List, [], ◌∷◌, Ok, Err, Result}
use Rattle.triples.specs.declared.triple.Triple.{Triple}
use Rattle.triples.specs.declared.store.Added.{Added}
use Rattle.ledger.specs.declared.refusal.Refusal.{Refusal}
use Rattle.ledger.specs.declared.refusal.Refusal.TheVariants.{StillOpen}
use Rattle.ledger.specs.Ledger.{Ledger, is_open}
use Rattle.ledger.specs.Steps.{Sheet, Outcome, under, open_step, blank_step, enter_step, keep_step, strike_step}
use Rattle.ledger.specs.Loads.{Fault, LoadOutcome}
use Rattle.ledger.specs.Texts.{NamesUnder, Loads}

pub data Call : Type 0 where
  opens : Call
  names : Sheet → List ℕ → Call
  blanks : Sheet → Call
  enters : Sheet → Triple → Call
  loads : Sheet → List ℕ → ℕ → Call  -- the document, and how many label records there are
  keeps : Sheet → Call
  strikes : Sheet → Call
  closes : Call

pub data Answer : Type 0 where
  opened : Sheet → Answer
  numbered : ℕ → Answer  -- the number of a term
  entered : Added → Answer
  loaded : ℕ → Answer  -- how many triples were new
  done : Answer  -- kept or struck
  closed : ℕ → Answer  -- the closure's size
  refused : Refusal → Answer
  faulted : Fault → Answer
  handed_back : Refusal → Sheet → Answer  -- a keep or strike that is refused

abbrev pub told : {A : Type 0} → (A → Answer) → Result A Refusal → Answer
told f (Ok a) = f a
told f (Err e) = refused e

abbrev pub told_back : Sheet → Result (Unit {0}) Refusal → Answer
told_back s (Ok a) = done
told_back s (Err e) = handed_back e s

abbrev pub told_load : Result ℕ Fault → Answer
told_load (Ok n) = loaded n
told_load (Err f) = faulted f

-- an answer, and the ledger afterwards
pub record Reply : Type 0 where
  pub answer : Answer
  pub after : Ledger

abbrev pub reply : {A : Type 0} → (A → Answer) → Outcome A → Reply
reply f o = record { answer = told f o.answer; after = o.after }

abbrev pub reply_back : Sheet → Outcome (Unit {0}) → Reply
reply_back s o = record { answer = told_back s o.answer; after = o.after }

abbrev pub reply_load : LoadOutcome → Reply
reply_load o = record { answer = told_load o.answer; after = o.after }

-- The call gets this answer and leaves this ledger, on a book with this side and number. Of close it says what the ledger says:
-- it is refused by 21 while a sheet is open, and leaves the ledger.
abbrev pub Gives : ℕ → ℕ → Call → Ledger → Reply → Type 0
Gives side number opens l r = r ≡ reply opened (open_step number l)
Gives side number (names s bs) l r = (o : Outcome ℕ) × NamesUnder number s side bs l o × (r ≡ reply numbered o)
Gives side number (blanks s) l r = r ≡ reply numbered (under number s (blank_step side) l)
Gives side number (enters s t) l r = r ≡ reply entered (under number s (enter_step t) l)
Gives side number (loads s text room) l r = (o : LoadOutcome) × Loads side number s text room l o × (r ≡ reply_load o)
Gives side number (keeps s) l r = r ≡ reply_back s (under number s keep_step l)
Gives side number (strikes s) l r = r ≡ reply_back s (under number s strike_step l)
Gives side number closes l r = (r.after ≡ l) × (is_open l ≡ true → r.answer ≡ refused StillOpen)

-- calls one after another, their answers, and the ledger from first to last
pub data Run (side number : ℕ) : List Call → List Answer → Ledger → Ledger → Type 0 where
  none : {l : Ledger} → Run side number [] [] l l
  more : {c : Call} {cs : List Call} {a : Answer} {ans : List Answer} {l l₁ l₂ : Ledger}
      → Gives side number c l (record { answer = a; after = l₁ }) → Run side number cs ans l₁ l₂ → Run side number (c ∷ cs) (a ∷ ans) l l₂
