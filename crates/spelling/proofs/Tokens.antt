-- Each IRI and each literal of the grammar denotes a name, and nothing else does. Assumes nothing.
use Rattle.std.proofs.Common.{ℕ, List, [], ◌∷◌, ◌++◌, sym, refl, ap, ◌∙◌, inl, inr, append-nil}
use Rattle.grammar.specs.Regular.{one, ◌or◌, Spells}
use Rattle.grammar.specs.Productions.{part, iri_char, UCHAR, IRIREF, literal}
use Rattle.grammar.specs.Readings.{an_iri, a_label, a_literal}
use Rattle.spelling.specs.Names.{Name, iri_name, quoted, Denotes, by_iri, by_plain, by_tagged, by_typed}
use Rattle.spelling.proofs.Delimited.{unwrap, delimited}
use Rattle.spelling.proofs.Bodies.{string-piece, body_of}
use Rattle.spelling.proofs.Literals.{closed, after_of, quoted_then}

pub denoted-iri : (t : List ℕ) → Spells (IRIREF part) t → (n : Name) × Denotes an_iri t n
denoted-iri t h =
    let (i, e, _) = unwrap 60 62 (one iri_char or UCHAR part) t h in
    (iri_name i, by_iri i e (rw e at h))

pub denoted-literal : (t : List ℕ) → Spells (literal part) t → (n : Name) × Denotes a_literal t n
denoted-literal t (s, r, q, x, y) =
    let (u, e, h) = unwrap 34 34 string-piece s x in
    let (v, b) = body_of u h in
    let (n, a) = after_of v r y in
    let split = q ∙ ap (λ l. l ++ r) e ∙ quoted_then u r in
    (n, closed t n (record { raw = u; lexical = v; tail = r; split = split; body = b; after = a }))

pub token_iri : (t : List ℕ) (n : Name) → Denotes an_iri t n → Spells (IRIREF part) t
token_iri t n (by_iri i e h) = rw e h

pub token_literal : (t : List ℕ) (n : Name) → Denotes a_literal t n → Spells (literal part) t
token_literal t n (by_plain u v e s m) = (quoted u, [], e ∙ sym (append-nil (quoted u)), s, inl refl)
token_literal t n (by_tagged u v g e s m h) = (quoted u, 64 ∷ g, e, s, inr (inl h))
token_literal t n (by_typed u v i e s m h) =
    (quoted u, 94 ∷ 94 ∷ delimited 60 i 62, e, s, inr (inr (94 ∷ [], _, refl, (94, refl, refl), (94 ∷ [], _, refl, (94, refl, refl), h))))

pub no_label : (t : List ℕ) (n : Name) → Denotes a_label t n → ⊥
no_label t n d = elim d [ ]
