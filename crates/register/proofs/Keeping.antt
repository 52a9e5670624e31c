-- A step of the ledger leaves its memory sound.
use Rattle.std.proofs.Common.{◌≡◌, ℕ, ◌-◌, ◌≤◌, List, length, take, sym, ap, subst, refl, Some, None, Option, Result, arith}
use Rattle.std.proofs.lemmas.List.{length-take-le}
use Rattle.triples.specs.declared.triple.Triple.{Triple}
use Rattle.entailment.specs.Terms.{Term}
use Rattle.names.specs.Terms.{all_terms}
use Rattle.ledger.specs.declared.mark.Mark.{Mark}
use Rattle.ledger.specs.declared.refusal.Refusal.{Refusal}
use Rattle.ledger.specs.Ledger.{Ledger}
use Rattle.ledger.specs.Steps.{Outcome}
use Rattle.ledger.specs.Soundness.{Sound}
use Rattle.ledger.proofs.Extending.{front}
use Rattle.ledger.proofs.Soundness.{note_sound, cut_sound}
use Rattle.register.specs.Kept.{ledger_of, IsKept}

pub after_step : {A : Type 0} (old new : List Term) (slots : List Triple) (n : ℕ) (m : Option Mark) (step : Ledger → Outcome A)
    → ((l : Ledger) → Sound l → Sound (step l).after) → IsKept old slots n m → (r : Result A Refusal)
    → record { answer = r; after = ledger_of new slots n m } ≡ step (ledger_of old slots n m) → IsKept new slots n m
after_step old new slots n m step sound k r e =
    record { room = k.room; used = k.used; sound = subst Sound (sym (ap (λ o. o.after) e)) (sound (ledger_of old slots n m) k.sound) }

pub noted : (names : List Term) (slots : List Triple) (n : ℕ) (m : Option Mark) (terms : ℕ) → terms ≡ length (all_terms names) → IsKept names slots n m
    → IsKept names slots n (Some (record { terms = terms; triples = n }))
noted names slots n m terms e k =
    let all : length (take n slots) ≡ n = length-take-le n slots (omega (arith, k.used, k.room)) in
    let marked : record { terms = length (all_terms names); triples = length (take n slots) } ≡ record { terms = terms; triples = n } = rw (e, all) refl in
    record { room = k.room; used = k.used; sound = subst (λ x. Sound (ledger_of names slots n (Some x))) marked (note_sound (ledger_of names slots n m) k.sound) }

pub struck : (names : List Term) (slots : List Triple) (n : ℕ) (m : Option Mark) (mark : Mark) (cut : List Term) → m ≡ Some mark → cut ≡ take (mark.terms - 30) names → IsKept names slots n m
    → IsKept cut slots mark.triples None
struck names slots n m mark cut e c k =
    let all : length (take n slots) ≡ n = length-take-le n slots (omega (arith, k.used, k.room)) in
    let before : IsKept names slots n (Some mark) = subst (IsKept names slots n) e k in
    let few : mark.triples ≤ length (take n slots) = before.sound.mark.triples in
    let shorter : take mark.triples slots ≡ take mark.triples (take n slots) = front mark.triples (take n slots) slots few (ap (λ i. take i slots) all) in
    record {
      room = k.room;
      used = omega (arith, few, all, k.used);
      sound = rw (c, shorter) (cut_sound (ledger_of names slots n (Some mark)) before.sound);
    }
