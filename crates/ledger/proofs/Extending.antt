-- Calls under a sheet only append terms and triples, and leave what stood at open.
use Rattle.std.proofs.Common.{◌≡◌, ℕ, ◌+◌, ◌≤◌, List, [], ◌∷◌, ◌++◌, length, take, drop, refl, sym, ap, ◌∙◌, Bool, cond, arith, Some, None, Option, true, false}
use Rattle.std.proofs.Math.Seq.{take-append_seam, take-length}
use Rattle.std.proofs.lemmas.Bool.{cond_both}
use Rattle.std.proofs.lemmas.List.{take-append-le, take-append-drop, length-append}
use Rattle.triples.specs.declared.triple.Triple.{Triple}
use Rattle.triples.specs.Sets.{among}
use Rattle.triples.specs.declared.store.Added.TheVariants.{New, Had}
use Rattle.std.specs.Prelude.{MatchBool, nat_lt, nat_le}
use Rattle.entailment.specs.Terms.{Term, thirty, blank}
use Rattle.names.specs.Terms.{term_spelled, spelled_bytes, most_bytes}
use Rattle.ledger.specs.Spelled.{number_of}
use Rattle.ledger.specs.Ledger.{Ledger, terms, with_term, with_triple}
use Rattle.ledger.specs.Steps.{Outcome, serves, with_room, add_term, number_step, name_step, bytes_step, blank_step, has_terms, is_sayable, put_step, enter_step, most_triples, Sheet, is_refused, under, refuses}
use Rattle.ledger.specs.declared.refusal.Refusal.TheVariants.{NoSheet}
use Rattle.ledger.specs.Texts.{Names, NamesUnder}
use Rattle.ledger.specs.Laws.{Grows}

pub counted : (ts : List Term) → length (thirty ++ ts) ≡ 30 + length ts
unfolding thirty
counted ts = length-append thirty ts

-- the second goes on from the first, under the same sheet
pub record Extends (l l' : Ledger) : Type 0 where
  pub grows : Grows l l'
  pub mark : l'.mark ≡ l.mark

pub same_grows : (l : Ledger) → Grows l l
same_grows l = record { more = take-length l.more; triples = take-length l.triples }

pub stays : (l : Ledger) → Extends l l
stays l = record { grows = same_grows l; mark = refl }

-- a front of a list is a front of what it is the front of
pub front : {A : Type 0} (n : ℕ) (xs ys : List A) → n ≤ length xs → take (length xs) ys ≡ xs → take n ys ≡ take n xs
front n xs ys h e =
    let split : xs ++ drop (length xs) ys ≡ ys = ap (λ z. z ++ drop (length xs) ys) (sym e) ∙ take-append-drop (length xs) ys in
    sym (ap (take n) split) ∙ take-append-le n xs (drop (length xs) ys) h

pub longer : {A : Type 0} (xs ys : List A) → take (length xs) ys ≡ xs → length xs ≤ length ys
longer xs ys e =
    let split : xs ++ drop (length xs) ys ≡ ys = ap (λ z. z ++ drop (length xs) ys) (sym e) ∙ take-append-drop (length xs) ys in
    omega (arith, ap length split, length-append xs (drop (length xs) ys))

pub grows_on : (l m n : Ledger) → Grows l m → Grows m n → Grows l n
grows_on l m n g h =
    record {
      more = front (length l.more) m.more n.more (longer l.more m.more g.more) h.more ∙ g.more;
      triples = front (length l.triples) m.triples n.triples (longer l.triples m.triples g.triples) h.triples ∙ g.triples;
    }

pub goes_on : (l m n : Ledger) → Extends l m → Extends m n → Extends l n
goes_on l m n g h = record { grows = grows_on l m n g.grows h.grows; mark = h.mark ∙ g.mark }

pub term_more : (t : Term) (l : Ledger) → Extends l (with_term t l)
term_more t l = record { grows = record { more = take-append_seam l.more (t ∷ []); triples = take-length l.triples }; mark = refl }

triple_more : (t : Triple) (l : Ledger) → Extends l (with_triple t l)
triple_more t l = record { grows = record { more = take-length l.more; triples = take-append_seam l.triples (t ∷ []) }; mark = refl }

abbrev pub Adds : {A : Type 0} → Ledger → Outcome A → Type 0
Adds l o = Extends l o.after

either : {A : Type 0} (l : Ledger) (b : Bool) (x y : Outcome A) → Adds l x → Adds l y → Adds l (cond b x y)
either l b x y h k = cond_both b x y (Adds l) (λ _. h) (λ _. k)

number_adds : (o : Option ℕ) (side : ℕ) (bs : List ℕ) (l : Ledger) → Adds l (number_step o side bs l)
number_adds (Some n) side bs l = stays l
number_adds None side bs l =
    either l (with_room side l) _ _
    (either l (nat_le (spelled_bytes l.more + length bs) most_bytes) (add_term (term_spelled bs) l) _ (term_more (term_spelled bs) l) (stays l))
    (stays l)

pub name_adds : (side : ℕ) (bs : List ℕ) (l : Ledger) → Adds l (name_step side bs l)
name_adds side bs l = number_adds (number_of bs (terms l)) side bs l

pub bytes_adds : (lawful : Bool) (side : ℕ) (bs : List ℕ) (l : Ledger) → Adds l (bytes_step lawful side bs l)
bytes_adds lawful side bs l = either l lawful (name_step side bs l) _ (name_adds side bs l) (stays l)

pub blank_adds : (side : ℕ) (l : Ledger) → Adds l (blank_step side l)
blank_adds side l = either l (with_room side l) (add_term blank l) _ (term_more blank l) (stays l)

put_adds : (t : Triple) (l : Ledger) → Adds l (put_step t l)
put_adds t l =
    either l (among l.triples t) (serves Had l) _ (stays l)
    (either l (nat_lt (length l.triples) most_triples) (serves New (with_triple t l)) _ (triple_more t l) (stays l))

pub enter_adds : (t : Triple) (l : Ledger) → Adds l (enter_step t l)
enter_adds t l = either l (has_terms t l) _ _ (either l (is_sayable t l) (put_step t l) _ (put_adds t l) (stays l)) (stays l)

-- name with any bytes is a step under a sheet
pub named_under : (number : ℕ) (s : Sheet) (side : ℕ) (bs : List ℕ) (l : Ledger) (o : Outcome ℕ) → NamesUnder number s side bs l o → (lawful : Bool) × (o ≡ under number s (bytes_step lawful side bs) l)
named_under number s side bs l o h = go (is_refused number s l) h
  where
    go : (b : Bool) → MatchBool b (o ≡ refuses NoSheet l) (Names bs (λ lawful. bytes_step lawful side bs l) o) → (lawful : Bool) × (o ≡ cond b (refuses NoSheet l) (bytes_step lawful side bs l))
    go true e = (true, e)
    go false n = (n.lawful, n.gives)
