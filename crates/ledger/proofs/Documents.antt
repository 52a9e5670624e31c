-- What every step of a document preserves, by one induction over its lines.
use Rattle.std.proofs.Common.{ℕ, List, [], ◌∷◌, ◌++◌, length, Some, None, Option, Ok, Err, Result}
use Rattle.std.proofs.lemmas.Bool.{cond_both}
use Rattle.std.specs.Prelude.{nat_lt}
use Rattle.entailment.specs.Terms.{blank}
use Rattle.entailment.specs.Rows.{triple}
use Rattle.ledger.specs.declared.fault.Layer.TheVariants.{Terms}
use Rattle.ledger.specs.Ledger.{Ledger, terms, with_term}
use Rattle.ledger.specs.Steps.{with_room, add_term, blank_step}
use Rattle.ledger.specs.Loads.{Item, a_name, a_label, Place, Line, says, is_silent, is_refused_at, Fault, Progress, Step, going_on, then, on_ledger, find_label, noted, label_step, item_step, place_step, triple_step, line_step, one_more, lines_step}
use Rattle.ledger.proofs.Extending.{Extends, name_adds, enter_adds}

-- with this label noted for a new blank
abbrev pub labelled : List ℕ → Progress → Progress
labelled bs s = record { ledger = with_term blank s.ledger; labels = s.labels ++ record { label = bs; number = length (terms s.ledger) } ∷ [] }

module _ (P : Progress → Type 0)
    (on_ledgers : (s : Progress) (l : Ledger) → P s → Extends s.ledger l → P (record { ledger = l; labels = s.labels }))
    (on_labels : (s : Progress) (bs : List ℕ) → P s → P (labelled bs s)) where
  after_then : {A B : Type 0} (x : Step A) (f : A → Progress → Step B) → P x.after → ((a : A) (s : Progress) → P s → P (f a s).after) → P (then x f).after
  after_then {A} {B} x f h k = go x.answer x.after h
    where
      go : (r : Result A Fault) (s : Progress) → P s → P (going_on r s f).after
      go (Ok a) s p = k a s p
      go (Err e) s p = p

  new_blank : (side at : ℕ) (bs : List ℕ) (s : Progress) → P s → P (then (on_ledger Terms at s.labels (blank_step side s.ledger)) (noted bs)).after
  new_blank side at bs s p =
      cond_both (with_room side s.ledger) (add_term blank s.ledger) _
      (λ o. P (then (on_ledger Terms at s.labels o) (noted bs)).after)
      (λ _. on_labels s bs p)
      (λ _. p)

  after_label : (side room at : ℕ) (bs : List ℕ) (o : Option ℕ) (s : Progress) → P s → P (label_step side room at bs o s).after
  after_label side room at bs (Some n) s p = p
  after_label side room at bs None s p =
      cond_both (nat_lt (length s.labels) room) (then (on_ledger Terms at s.labels (blank_step side s.ledger)) (noted bs)) _
      (λ x. P x.after) (λ _. new_blank side at bs s p) (λ _. p)

  after_item : (side room at : ℕ) (i : Item) (s : Progress) → P s → P (item_step side room at i s).after
  after_item side room at (a_name bs) s p = on_ledgers s _ p (name_adds side bs s.ledger)
  after_item side room at (a_label bs) s p = after_label side room at bs (find_label bs s.labels) s p

  after_triple : (side room : ℕ) (x y z : Place) (s : Progress) → P s → P (triple_step side room x y z s).after
  after_triple side room x y z s p =
      after_then (place_step side room x s) _ (after_item side room x.offset x.item s p) (λ a s₁ p₁.
      after_then (place_step side room y s₁) _ (after_item side room y.offset y.item s₁ p₁) (λ b s₂ p₂.
      after_then (place_step side room z s₂) _ (after_item side room z.offset z.item s₂ p₂) (λ c s₃ p₃.
      on_ledgers s₃ _ p₃ (enter_adds (triple a b c) s₃.ledger))))

  after_line : (side room : ℕ) (x : Line) (s : Progress) → P s → P (line_step side room x s).after
  after_line side room (says x y z) s p = after_triple side room x y z s p
  after_line side room is_silent s p = p
  after_line side room (is_refused_at n at) s p = p

  pub after_lines : (side room n : ℕ) (xs : List Line) (s : Progress) → P s → P (lines_step side room n xs s).after
  after_lines side room n [] s p = p
  after_lines side room n (x ∷ xs) s p = after_then (line_step side room x s) _ (after_line side room x s p) (λ a s₁ p₁. after_lines side room (one_more a n) xs s₁ p₁)
