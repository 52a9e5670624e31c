-- What the table of names answers is the step of the ledger.
use Rattle.std.proofs.Common.{◌≡◌, ℕ, suc, ◌+◌, ◌<◌, ◌≤◌, min, List, length, refl, ap, true, false, arith, Option, Ok, Err, Result, ⊎_elim}
use Rattle.std.proofs.lemmas.Bool.{lt-ltb, le-ltb, le-leb, lt-leb}
use Rattle.std.specs.Prelude.{IsErrAnd, nat_lt, nat_le}
use Rattle.triples.specs.declared.triple.Triple.{Triple}
use Rattle.entailment.specs.Terms.{Term}
use Rattle.names.specs.Terms.{spelled_bytes, most_bytes, most_terms, all_terms, IsTable}
use Rattle.names.specs.declared.refusal.Refusal.{Refusal as OfNames}
use Rattle.names.specs.declared.refusal.Refusal.TheVariants.{NotLawful, Terms, Bytes}
use Rattle.names.specs.Calls.{Interns, IsFull, Overflows, IsKnown, IsAdded}
use Rattle.ledger.specs.declared.mark.Mark.{Mark}
use Rattle.ledger.specs.declared.refusal.Refusal.{Refusal}
use Rattle.ledger.specs.Numbers.{of_names}
use Rattle.ledger.specs.Ledger.{Ledger}
use Rattle.ledger.specs.Steps.{bytes_step}
use Rattle.ledger.specs.Texts.{Names as Naming}
use Rattle.register.proofs.Finding.{none, found}

pub is_error : (r : Result ℕ Refusal) (e : Refusal) → IsErrAnd r (λ x. x ≡ e) → r ≡ Err e
is_error (Ok n) e h = absurd h
is_error (Err x) e h = ap Err h

≤_by_not : (a b : ℕ) → ¬ (a ≤ b) → b < a
≤_by_not a b h = omega (arith, h)

module _ (ts : List Triple) (m : Option Mark) (bs : List ℕ) (side : ℕ) where
  abbrev with : List Term → Ledger
  with more = record { more = more; triples = ts; mark = m }

  abbrev pub Step : List Term → List Term → Result ℕ Refusal → Type 0
  Step old new r = Naming bs (λ lawful. bytes_step lawful (min side most_terms) bs (with old)) (record { answer = r; after = with new })

  known : (old new : List Term) (n : ℕ) → IsTable old → IsKnown bs old new n → Step old new (Ok n)
  known old new n t k =
      record {
        lawful = true;
        judged = k.lawful;
        gives = rw (k.same, found bs n (all_terms old) t.distinct k.found) refl;
      }

  -- what the tests of the step answer where the table says so
  has_room : (old : List Term) → ¬ IsFull side old → nat_lt (length (all_terms old)) (min side most_terms) ≡ true
  has_room old h = lt-ltb _ _ (≤_by_not _ _ h)

  has_none : (old : List Term) → IsFull side old → nat_lt (length (all_terms old)) (min side most_terms) ≡ false
  has_none old h = le-ltb _ _ h

  goes_in : (old : List Term) → ¬ Overflows bs old → nat_le (spelled_bytes old + length bs) most_bytes ≡ true
  goes_in old h = le-leb _ _ (omega (arith, ≤_by_not (suc most_bytes) (spelled_bytes old + length bs) (λ l. h (omega (arith, l)))))

  goes_over : (old : List Term) → Overflows bs old → nat_le (spelled_bytes old + length bs) most_bytes ≡ false
  goes_over old h = lt-leb _ _ h

  added : (old new : List Term) (n : ℕ) → IsAdded bs side old new n → Step old new (Ok n)
  added old new n a =
      record {
        lawful = true;
        judged = a.lawful;
        gives = rw (none bs (all_terms old) a.unknown, has_room old a.room, goes_in old a.fits, a.appends.last, a.appends.number) refl;
      }

  pub served : (old new : List Term) (n : ℕ) → IsTable old → Interns bs side old new (Ok n) → Step old new (Ok n)
  served old new n t h = ⊎_elim (known old new n t) (added old new n) h

  pub refused : (old new : List Term) (e : OfNames) → Interns bs side old new (Err e) → Step old new (Err (of_names e))
  refused old new NotLawful (h, same) = record { lawful = false; judged = h; gives = rw same refl }
  refused old new Terms ((law, u, h), same) = record { lawful = true; judged = law; gives = rw (same, none bs (all_terms old) u, has_none old h) refl }
  refused old new Bytes ((law, u, h, k), same) =
      record { lawful = true; judged = law; gives = rw (same, none bs (all_terms old) u, has_room old h, goes_over old k) refl }
