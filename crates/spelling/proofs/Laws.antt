-- The laws of spellings that the calls promise. Assumes nothing.
use Rattle.std.proofs.Common.{◌≡◌, ℕ, ◌≤◌, Bool, true, false, List, length, MatchBool, refl, ap, ◌∙◌, subst, arith}
use Rattle.std.proofs.lemmas.Bool.{both_ways}
use Rattle.grammar.specs.Readings.{Kind}
use Rattle.spelling.specs.Names.{Name, Denotes, canonical, longest, LawfulAs}
use Rattle.spelling.specs.Answers.{Over, ReadsBack, OneSpelling}
use Rattle.spelling.proofs.Spellings.{one_name, reads_back, one_spelling}

pub all_read_back : (k : Kind) (t : List ℕ) → ReadsBack k t
all_read_back k t n d = reads_back k t n d

pub all_one_spelling : (k : Kind) (t : List ℕ) → OneSpelling k t
all_one_spelling k t l u n m d e = (one_spelling k l t u n m d e, λ q. ap canonical q, λ q. one_name k l t n m d (rw q e))

-- a lawful spelling is a token, and denotes the name that it spells
pub own_name : (k : Kind) (bs : List ℕ) (h : LawfulAs k bs) → Denotes k bs h.name
own_name k bs h = subst (λ t. Denotes k t h.name) h.spelled (reads_back k h.text h.name h.denoted)

pub lawful_or_not : (k : Kind) (bs : List ℕ) (n : Name) (b : Bool) → Denotes k bs n → length (canonical n) ≤ longest → (b ≡ true → canonical n ≡ bs) → (canonical n ≡ bs → b ≡ true) → MatchBool b (LawfulAs k bs) (LawfulAs k bs → ⊥)
lawful_or_not k bs n true d l p q = record { text = bs; name = n; denoted = d; spelled = p refl; short = rw (p refl) at l }
lawful_or_not k bs n false d l p q = λ h. both_ways false refl (q (ap canonical (one_name k k bs n h.name d (own_name k bs h)) ∙ h.spelled))

pub over_lawful : (k : Kind) (bs : List ℕ) → Over k bs → LawfulAs k bs → ⊥
over_lawful k bs (n, d, l) h =
    let e = one_name k k bs n h.name d (own_name k bs h) in
    omega (arith, h.short, ap length h.spelled, ap (λ m. length (canonical m)) e)
