-- Terms and triples are only appended, but by strike.
use Rattle.std.proofs.Common.{◌≡◌, ℕ, List, [], ◌∷◌, sym, ap, subst, ◌∙◌, false, Some, None, Option}
use Rattle.std.proofs.Math.Seq.{take-length}
use Rattle.std.proofs.lemmas.Bool.{cond_both, true≢false}
use Rattle.std.specs.Prelude.{nat_lt}
use Rattle.entailment.specs.Terms.{blank}
use Rattle.ledger.specs.declared.mark.Mark.{Mark}
use Rattle.ledger.specs.Ledger.{Ledger, is_open, counts, with_mark}
use Rattle.ledger.specs.Steps.{Sheet, Outcome, serves, refuses, is_refused, under, open_step, bytes_step, blank_step, enter_step, keep_step, most_triples}
use Rattle.ledger.specs.Loads.{Line, document_step, load_step}
use Rattle.ledger.specs.Calls.{Call, opens, names, blanks, enters, loads, keeps, strikes, closes, Reply, Gives, none, more}
use Rattle.ledger.specs.Laws.{Grows, is_strike, OnlyAppended}
use Rattle.ledger.proofs.Extending.{Extends, stays, goes_on, same_grows, grows_on, term_more, bytes_adds, named_under, blank_adds, enter_adds}
use Rattle.ledger.proofs.Documents.{after_lines}

pub document_adds : (side room : ℕ) (lines : List Line) (l : Ledger) → Extends l (document_step side room lines l).after
document_adds side room lines l =
    after_lines (λ s. Extends l s.ledger) (λ s l' p e. goes_on l s.ledger l' p e) (λ s bs p. goes_on l s.ledger _ p (term_more blank s.ledger)) side room 0 lines _ (stays l)

under_grows : {A : Type 0} (number : ℕ) (s : Sheet) (f : Ledger → Outcome A) → ((l : Ledger) → Grows l (f l).after) → (l : Ledger) → Grows l (under number s f l).after
under_grows number s f adds l = cond_both (is_refused number s l) (refuses _ l) (f l) (λ x. Grows l x.after) (λ _. same_grows l) (λ _. adds l)

marked : (m : Option Mark) (l : Ledger) → Grows l (with_mark m l)
marked m l = record { more = take-length l.more; triples = take-length l.triples }

keep_grows : (l : Ledger) → Grows l (keep_step l).after
keep_grows l = cond_both (nat_lt most_triples _) (refuses _ l) (serves (tt {0}) (with_mark None l)) (λ x. Grows l x.after) (λ _. same_grows l) (λ _. marked None l)

open_grows : (number : ℕ) (l : Ledger) → Grows l (open_step number l).after
open_grows number l = cond_both (is_open l) (refuses {A = Sheet} _ l) (serves (record { book = number }) (with_mark (Some (counts l)) l)) (λ x. Grows l x.after) (λ _. same_grows l) (λ _. marked (Some (counts l)) l)

load_grows : (side number : ℕ) (s : Sheet) (room : ℕ) (lines : List Line) (l : Ledger) → Grows l (load_step side number s room lines l).after
load_grows side number s room lines l =
    cond_both (is_refused number s l) _ (document_step side room lines l) (λ x. Grows l x.after) (λ _. same_grows l) (λ _. (document_adds side room lines l).grows)

moved : (l l₁ l₂ : Ledger) → l₂ ≡ l₁ → Grows l l₁ → Grows l l₂
moved l l₁ l₂ e h = subst (Grows l) (sym e) h

call_grows : (side number : ℕ) (c : Call) (l : Ledger) (r : Reply) → Gives side number c l r → is_strike c ≡ false → Grows l r.after
call_grows side number opens l r g e = moved l _ _ (ap (λ x. x.after) g) (open_grows number l)
call_grows side number (names s bs) l r (o, n, g) e =
    let (lawful, gives) = named_under number s side bs l o n in
    moved l _ _ (ap (λ x. x.after) g ∙ ap (λ x. x.after) gives) (under_grows number s (bytes_step lawful side bs) (λ m. (bytes_adds lawful side bs m).grows) l)
call_grows side number (blanks s) l r g e = moved l _ _ (ap (λ x. x.after) g) (under_grows number s (blank_step side) (λ m. (blank_adds side m).grows) l)
call_grows side number (enters s t) l r g e = moved l _ _ (ap (λ x. x.after) g) (under_grows number s (enter_step t) (λ m. (enter_adds t m).grows) l)
call_grows side number (loads s text room) l r (o, n, g) e =
    moved l _ _ (ap (λ x. x.after) g ∙ ap (λ x. x.after) n.step) (load_grows side number s room n.lines l)
call_grows side number (keeps s) l r g e = moved l _ _ (ap (λ x. x.after) g) (under_grows number s keep_step keep_grows l)
call_grows side number (strikes s) l r g e = absurd (true≢false e)
call_grows side number closes l r g e = moved l _ _ g.0 (same_grows l)

pub only_appended : OnlyAppended
only_appended side number [] [] l l' none w = same_grows l
only_appended side number [] (a ∷ ans) l l' run w = elim run [ ]
only_appended side number (c ∷ cs) [] l l' run w = elim run [ ]
only_appended side number (c ∷ cs) (a ∷ ans) l l' (more {l₁ = l₁} g run) (w, ws) =
    grows_on l l₁ l' (call_grows side number c l _ g w) (only_appended side number cs ans l₁ l' run ws)
