-- Each step leaves a sound ledger sound.
use Rattle.std.proofs.Common.{◌≡◌, ℕ, ◌+◌, ◌-◌, ◌<◌, ◌≤◌, List, [], ◌∷◌, ◌++◌, length, take, sym, subst, arith, Some, None, Option, Bool}
use Rattle.std.specs.Prelude.{nat_le}
use Rattle.std.proofs.lemmas.Bool.{cond_both}
use Rattle.std.proofs.Math.Seq.{take-length}
use Rattle.std.proofs.lemmas.List.{take-append-le, length-append, length-take-le}
use Rattle.std.specs.List.{AllByRecursion}
use Rattle.triples.specs.declared.triple.Triple.{Triple}
use Rattle.triples.specs.Codes.{Inside}
use Rattle.entailment.specs.Terms.{Term, blank}
use Rattle.ledger.specs.declared.mark.Mark.{Mark}
use Rattle.ledger.specs.Ledger.{Ledger, terms, fresh, counts, with_term, with_triple, with_mark, cut_to}
use Rattle.names.specs.Terms.{term_spelled, spelled_bytes, most_bytes}
use Rattle.ledger.specs.Spelled.{number_of}
use Rattle.ledger.specs.Steps.{most_triples, refuses, with_room, add_term, number_step, name_step, bytes_step, blank_step}
use Rattle.ledger.specs.Soundness.{MarkStands, Sound}
use Rattle.ledger.proofs.Extending.{counted}

pub fresh_sound : Sound fresh
fresh_sound = record { of_terms = tt; few = omega arith; mark = tt }

wider : (n m : ℕ) (ts : List Triple) → n ≤ m → AllByRecursion (Inside n) ts → AllByRecursion (Inside m) ts
wider n m [] h a = tt
wider n m (t ∷ ts) h (a, rest) = ((omega (arith, a.0, h), omega (arith, a.1, h), omega (arith, a.2, h)), wider n m ts h rest)

further : (n : ℕ) (ts : List Triple) (t : Triple) → AllByRecursion (Inside n) ts → Inside n t → AllByRecursion (Inside n) (ts ++ t ∷ [])
further n [] t a h = (h, tt)
further n (u ∷ ts) t (a, rest) h = (a, further n ts t rest h)

mark_wider : (o : Option Mark) (n m : ℕ) (ts : List Triple) → n ≤ m → MarkStands o n ts → MarkStands o m ts
mark_wider None n m ts h s = tt
mark_wider (Some k) n m ts h s = record { thirty = s.thirty; terms = omega (arith, s.terms, h); triples = s.triples; of_terms = s.of_terms }

mark_further : (o : Option Mark) (n : ℕ) (ts : List Triple) (t : Triple) → MarkStands o n ts → MarkStands o n (ts ++ t ∷ [])
mark_further None n ts t s = tt
mark_further (Some k) n ts t s =
    record {
      thirty = s.thirty;
      terms = s.terms;
      triples = omega (arith, s.triples, length-append ts (t ∷ []));
      of_terms = rw (take-append-le k.triples ts (t ∷ []) s.triples) s.of_terms;
    }

pub term_sound : (t : Term) (l : Ledger) → Sound l → Sound (with_term t l)
term_sound t l s =
    let wide : length (terms l) ≤ length (terms (with_term t l)) = omega (arith, counted l.more, counted (l.more ++ t ∷ []), length-append l.more (t ∷ [])) in
    record { of_terms = wider _ _ l.triples wide s.of_terms; few = s.few; mark = mark_wider l.mark _ _ l.triples wide s.mark }

pub triple_sound : (t : Triple) (l : Ledger) → Inside (length (terms l)) t → length l.triples < most_triples → Sound l → Sound (with_triple t l)
triple_sound t l h room s =
    record {
      of_terms = further _ l.triples t s.of_terms h;
      few = omega (arith, room, length-append l.triples (t ∷ []));
      mark = mark_further l.mark _ l.triples t s.mark;
    }

pub note_sound : (l : Ledger) → Sound l → Sound (with_mark (Some (counts l)) l)
note_sound l s =
    record {
      of_terms = s.of_terms;
      few = s.few;
      mark = record { thirty = omega (arith, counted l.more); terms = omega arith; triples = omega arith; of_terms = rw (take-length l.triples) s.of_terms };
    }

pub keep_sound : (l : Ledger) → Sound l → Sound (with_mark None l)
keep_sound l s = record { of_terms = s.of_terms; few = s.few; mark = tt }

cut_sound_by : (o : Option Mark) (l : Ledger) → MarkStands o (length (terms l)) l.triples → Sound l → Sound (cut_to o l)
cut_sound_by None l m s = s
cut_sound_by (Some k) l m s =
    let left : length (terms (cut_to (Some k) l)) ≡ k.terms = omega (arith, counted (take (k.terms - 30) l.more), length-take-le (k.terms - 30) l.more (omega (arith, m.terms, counted l.more)), m.thirty) in
    record {
      of_terms = subst (λ n. AllByRecursion (Inside n) (take k.triples l.triples)) (sym left) m.of_terms;
      few = omega (arith, s.few, m.triples, length-take-le k.triples l.triples m.triples);
      mark = tt;
    }

pub cut_sound : (l : Ledger) → Sound l → Sound (cut_to l.mark l)
cut_sound l s = cut_sound_by l.mark l s.mark s

number_sound : (o : Option ℕ) (side : ℕ) (bs : List ℕ) (l : Ledger) → Sound l → Sound (number_step o side bs l).after
number_sound (Some n) side bs l s = s
number_sound None side bs l s =
    cond_both (with_room side l) _ (refuses _ l) (λ o. Sound o.after)
    (λ _. cond_both (nat_le (spelled_bytes l.more + length bs) most_bytes) (add_term (term_spelled bs) l) (refuses _ l) (λ o. Sound o.after) (λ _. term_sound (term_spelled bs) l s) (λ _. s))
    (λ _. s)

pub bytes_sound : (lawful : Bool) (side : ℕ) (bs : List ℕ) (l : Ledger) → Sound l → Sound (bytes_step lawful side bs l).after
bytes_sound lawful side bs l s =
    cond_both lawful (name_step side bs l) (refuses _ l) (λ o. Sound o.after) (λ _. number_sound (number_of bs (terms l)) side bs l s) (λ _. s)

pub blank_sound : (side : ℕ) (l : Ledger) → Sound l → Sound (blank_step side l).after
blank_sound side l s = cond_both (with_room side l) (add_term blank l) (refuses _ l) (λ o. Sound o.after) (λ _. term_sound blank l s) (λ _. s)
