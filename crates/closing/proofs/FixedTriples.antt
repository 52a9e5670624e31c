-- The fixed triples of the start sets are of the thirty terms.
use Rattle.std.proofs.Common.{ℕ, ◌≤◌, Bool, ◌&&◌, T, nat_lt, arith}
use Rattle.std.specs.List.{AllByRecursion}
use Rattle.std.proofs.lemmas.Bool.{ltb-true}
use Rattle.triples.specs.declared.triple.Triple.{Triple}
use Rattle.triples.specs.Codes.{Inside}
use Rattle.entailment.specs.Starts.{rdf_fixed, rdfs_fixed}
use Rattle.entailment.proofs.Basics.{and_left, and_right, all-by_test}
use Rattle.entailment.proofs.Counting.{passed}

low : Triple → Bool
low t = nat_lt t.subject 30 && (nat_lt t.predicate 30 && nat_lt t.object 30)

low-inside : (n : ℕ) → 30 ≤ n → (t : Triple) → T (low t) → Inside n t
unfolding low
low-inside n w t h =
    let a = and_left (nat_lt t.subject 30) (nat_lt t.predicate 30 && nat_lt t.object 30) h in
    let b = and_right (nat_lt t.subject 30) (nat_lt t.predicate 30 && nat_lt t.object 30) h in
    let c = and_left (nat_lt t.predicate 30) (nat_lt t.object 30) b in
    let d = and_right (nat_lt t.predicate 30) (nat_lt t.object 30) b in
    (omega (arith, ltb-true t.subject 30 (passed (nat_lt t.subject 30) a)), omega (arith, ltb-true t.predicate 30 (passed (nat_lt t.predicate 30) c)), omega (arith, ltb-true t.object 30 (passed (nat_lt t.object 30) d)))

pub rdf_fixed-inside : (n : ℕ) → 30 ≤ n → AllByRecursion (Inside n) rdf_fixed
unfolding low
rdf_fixed-inside n w = all-by_test (Inside n) low (low-inside n w) rdf_fixed tt

pub rdfs_fixed-inside : (n : ℕ) → 30 ≤ n → AllByRecursion (Inside n) rdfs_fixed
unfolding low
rdfs_fixed-inside n w = all-by_test (Inside n) low (low-inside n w) rdfs_fixed tt
