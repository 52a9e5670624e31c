-- Growth goes on, and is told to fewer sets.
use Rattle.std.proofs.Common.{◌≡◌, ℕ, true, false, Ok, Err, Result}
use Rattle.std.specs.Result.{IsErr}
use Rattle.triples.specs.Sets.{Graph}
use Rattle.closing.specs.declared.passes.NoRoom.{NoRoom}
use Rattle.closing.specs.Passes.{Within, Grown, Spilt, Outcome}

pub grown_self : (C : Graph → Type 0) (f : Graph) → Grown C f f
grown_self C f = record { keeps = λ t h. h; sound = λ other c w. w }

module _ {C : Graph → Type 0} {f g h : Graph} where
  pub grown_on : Grown C f g → Grown C g h → Grown C f h
  grown_on a b = record { keeps = λ t i. b.keeps t (a.keeps t i); sound = λ other c w. b.sound other c (a.sound other c w) }

  pub spilt_on : {m : ℕ} → Grown C f g → Spilt C m g h → Spilt C m f h
  spilt_on a b = record { extra = b.extra; inside = b.inside; missing = b.missing; full = b.full; sound = λ other c w. b.sound other c (a.sound other c w) }

-- a kind of sets that has fewer of them
module _ {C D : Graph → Type 0} {f g : Graph} (fewer : (other : Graph) → D other → Within f other → C other) where
  pub grown_fewer : Grown C f g → Grown D f g
  grown_fewer a = record { keeps = a.keeps; sound = λ other d w. a.sound other (fewer other d w) w }

  pub spilt_fewer : {m : ℕ} → Spilt C m f g → Spilt D m f g
  spilt_fewer a = record { extra = a.extra; inside = a.inside; missing = a.missing; full = a.full; sound = λ other d w. a.sound other (fewer other d w) w }

pub outcome_fewer : (C D : Graph → Type 0) (Done Less : Type 0) (m : ℕ) (f g : Graph) → ((other : Graph) → D other → Within f other → C other) → (Done → Less)
    → (r : Result (Unit {0}) NoRoom) → Outcome C Done m f g r → Outcome D Less m f g r
outcome_fewer C D Done Less m f g fewer k (Ok u) h = (grown_fewer fewer h.0, k h.1)
outcome_fewer C D Done Less m f g fewer k (Err e) h = (grown_fewer fewer h.0, spilt_fewer fewer h.1)

-- a part that is done, and what is made of what it leaves
pub outcome_on : (C : Graph → Type 0) (Done Less : Type 0) (m : ℕ) (f g h : Graph) → Grown C f g → (Done → Less)
    → (r : Result (Unit {0}) NoRoom) → Outcome C Done m g h r → Outcome C Less m f h r
outcome_on C Done Less m f g h a k (Ok u) b = (grown_on a b.0, k b.1)
outcome_on C Done Less m f g h a k (Err e) b = (grown_on a b.0, spilt_on a b.1)

-- an error that is handed on
pub broken : (C : Graph → Type 0) (Done : Type 0) (m : ℕ) (f g : Graph) (r : Result (Unit {0}) NoRoom) → IsErr r → Grown C f g → Spilt C m f g → Outcome C Done m f g r
broken C Done m f g (Ok u) e a b = let no : false ≡ true = e in cc
broken C Done m f g (Err x) e a b = (a, b)
