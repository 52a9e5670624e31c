-- A token denotes one name, and a name is read back from its canonical spelling. Assumes nothing.
use Rattle.std.proofs.Common.{◌≡◌, ℕ, List, sym, refl, ap, ◌∙◌, subst}
use Rattle.grammar.specs.Readings.{Kind, an_iri, a_label, a_literal}
use Rattle.spelling.specs.Names.{Name, iri_name, Denotes, by_iri, escaped, canonical}
use Rattle.spelling.proofs.Delimited.{differ, same-inner}
use Rattle.spelling.proofs.Bodies.{body-one, body-again}
use Rattle.spelling.proofs.Literals.{Literal, opened, closed, one-after, canonical_is}
use Rattle.spelling.proofs.Tokens.{no_label}

iri_or_literal : (t : List ℕ) (n m : Name) → Denotes an_iri t n → Literal t m → n ≡ m
iri_or_literal t n m (by_iri i e h) l = absurd (differ 60 34 _ _ refl (sym e ∙ l.split))

literal-name : (t : List ℕ) (n m : Name) → Literal t n → Literal t m → n ≡ m
literal-name t n m l k =
    let f = l.split in
    let g = k.split in
    let (same, rest) = body-one l.raw l.lexical l.tail k.raw k.lexical k.tail l.body k.body cc in
    one-after k.lexical l.tail k.tail n m rest (rw same at l.after) k.after

pub one_name : (k l : Kind) (t : List ℕ) (n m : Name) → Denotes k t n → Denotes l t m → n ≡ m
one_name an_iri an_iri t n m (by_iri i e h) (by_iri j f k) = ap iri_name (same-inner 60 62 i j (sym e ∙ f))
one_name an_iri a_label t n m d e = absurd (no_label t m e)
one_name an_iri a_literal t n m d e = iri_or_literal t n m d (opened t m e)
one_name a_label l t n m d e = absurd (no_label t n d)
one_name a_literal an_iri t n m d e = sym (iri_or_literal t m n e (opened t n d))
one_name a_literal a_label t n m d e = absurd (no_label t m e)
one_name a_literal a_literal t n m d e = literal-name t n m (opened t n d) (opened t m e)

again : (t : List ℕ) (n : Name) → Literal t n → Literal (canonical n) n
again t n l = record {
  raw = escaped l.lexical;
  lexical = l.lexical;
  tail = l.tail;
  split = canonical_is l.lexical l.tail n l.after;
  body = body-again l.raw l.lexical l.body;
  after = l.after;
}

pub reads_back : (k : Kind) (t : List ℕ) (n : Name) → Denotes k t n → Denotes k (canonical n) n
reads_back an_iri t n (by_iri i e h) = by_iri i refl h
reads_back a_label t n d = absurd (no_label t n d)
reads_back a_literal t n d = closed (canonical n) n (again t n (opened t n d))

pub one_spelling : (k l : Kind) (t u : List ℕ) (n m : Name) → Denotes k t n → Denotes l u m → canonical n ≡ canonical m → n ≡ m
one_spelling k l t u n m d e same =
    one_name k l (canonical m) n m (subst (λ s. Denotes k s n) same (reads_back k t n d)) (reads_back l u m e)
