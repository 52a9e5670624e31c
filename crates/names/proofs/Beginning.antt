-- The thirty: how many they are, that their spellings are lawful, and that no two are one.
use Rattle.std.proofs.Common.{◌≡◌, ℕ, zero, suc, inl, ◌+◌, ◌-◌, ◌≤◌, Bool, true, false, not, ◌&&◌, T, List, [], ◌∷◌, length, take, drop, map, refl, sym, ap, ◌∙◌, arith, leb, length-append, bytes_eq}
use Rattle.std.specs.List.{All, list_all}
use Rattle.std.proofs.lemmas.List.Elements.{All-map, All-from_recursion}
use Rattle.std.proofs.lemmas.Slice.Eq.{bytes_eq-Decides}
use Rattle.std.proofs.lemmas.Bool.Decides.{nat_tests}
use Rattle.grammar.specs.Regular.{inside, one, ◌or◌, Star, stop, more as next, Spells}
use Rattle.grammar.specs.Productions.{part, iri_char, UCHAR}
use Rattle.spelling.specs.Names.{bracketed, iri_name, by_iri, longest}
use Rattle.spelling.proofs.Delimited.{wrap}
use Rattle.entailment.specs.Terms.{Term, iri, literal, blank, rdf, rdfs, thirty}
use Rattle.entailment.proofs.Basics.{and_left, and_right, all-by_test}
use Rattle.names.specs.Terms.{all_terms, HasSpelling, IsNumberOf, IsLawful, HasNoNameTwice}

pub length-thirty : length thirty ≡ 30
unfolding thirty
length-thirty = refl

pub length_all_terms : (more : List Term) → length (all_terms more) ≡ 30 + length more
length_all_terms more = length-append thirty more ∙ ap (λ n. n + length more) length-thirty

is_true : (b : Bool) → T b → b ≡ true
is_true true h = refl
is_true false h = absurd h

-- a spelling of bytes that an IRI may have
abbrev fits : List ℕ → Bool
fits i = list_all (inside iri_char) i && leb (length (bracketed i)) 255

chars : (i : List ℕ) → T (list_all (inside iri_char) i) → Star (Spells (one iri_char or UCHAR part)) i
chars [] h = stop
chars (c ∷ i) h =
    next (c ∷ []) i refl (inl (c, refl, is_true (inside iri_char c) (and_left (inside iri_char c) (list_all (inside iri_char) i) h)))
    (chars i (and_right (inside iri_char c) (list_all (inside iri_char) i) h))

lawful_iri : (i : List ℕ) → T (fits i) → IsLawful (iri (bracketed i))
lawful_iri i h =
    let ok = and_left (list_all (inside iri_char) i) (leb (length (bracketed i)) 255) h in
    let test = is_true (leb (length (bracketed i)) 255) (and_right (list_all (inside iri_char) i) (leb (length (bracketed i)) 255) h) in
    let short : length (bracketed i) ≤ longest = grind (arith, nat_tests) in
    record {
      text = bracketed i;
      name = iri_name i;
      denoted = by_iri i refl (wrap 60 62 (one iri_char or UCHAR part) i (chars i ok));
      spelled = refl;
      short = short;
    }

-- what stands between the brackets
abbrev inner : Term → List ℕ
inner (iri b) = take (length b - 2) (drop 1 b)
inner (literal b) = []
inner blank = []

pub thirty-lawful : All IsLawful thirty
unfolding thirty rdf rdfs
thirty-lawful =
    All-map IsLawful (λ i. iri (bracketed i)) (map inner thirty)
    (All-from_recursion (λ i. IsLawful (iri (bracketed i))) (map inner thirty) (all-by_test (λ i. IsLawful (iri (bracketed i))) fits lawful_iri (map inner thirty) tt))

-- the bytes of a term
abbrev text : Term → List ℕ
text (iri b) = b
text (literal b) = b
text blank = []

text-is : (b : List ℕ) (t : Term) → HasSpelling b t → text t ≡ b
text-is b (iri c) e = e
text-is b (literal c) e = e
text-is b blank e = absurd e

abbrev unlike : Term → Term → Bool
unlike t u = not (bytes_eq (text t) (text u))

abbrev apart : List Term → Bool
apart [] = true
apart (t ∷ ts) = list_all (unlike t) ts && apart ts

not_true : (b : Bool) → T (not b) → b ≡ true → ⊥
not_true true h e = h
not_true false h e = cc

none_like : (b : List ℕ) (t : Term) (ts : List Term) → T (list_all (unlike t) ts) → HasSpelling b t → (n : ℕ) → IsNumberOf b ts n → ⊥
none_like b t [] h e n k = k
none_like b t (u ∷ ts) h e zero k =
    not_true (bytes_eq (text t) (text u)) (and_left (unlike t u) (list_all (unlike t) ts) h) ((bytes_eq-Decides (text t) (text u)).1 (text-is b t e ∙ sym (text-is b u k)))
none_like b t (u ∷ ts) h e (suc n) k = none_like b t ts (and_right (unlike t u) (list_all (unlike t) ts) h) e n k

apart_once : (ts : List Term) → T (apart ts) → HasNoNameTwice ts
apart_once [] h b m n k l = absurd k
apart_once (t ∷ ts) h b zero zero k l = refl
apart_once (t ∷ ts) h b zero (suc n) k l = absurd (none_like b t ts (and_left (list_all (unlike t) ts) (apart ts) h) k n l)
apart_once (t ∷ ts) h b (suc m) zero k l = absurd (none_like b t ts (and_left (list_all (unlike t) ts) (apart ts) h) l m k)
apart_once (t ∷ ts) h b (suc m) (suc n) k l = ap suc (apart_once ts (and_right (list_all (unlike t) ts) (apart ts) h) b m n k l)

pub thirty-once : HasNoNameTwice thirty
unfolding thirty rdf rdfs
thirty-once = apart_once thirty tt
