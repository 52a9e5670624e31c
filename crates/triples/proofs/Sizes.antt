-- How many triples a set has.
use Rattle.std.proofs.Common.{◌≡◌, ◌+◌, ◌≤◌, false, sym, refl, ap, ◌∙◌}
use Rattle.triples.specs.declared.triple.Triple.{Triple}
use Rattle.triples.specs.Codes.{width, codes, code_of, triple_of, Inside}
use Rattle.triples.specs.Sets.{Graph, empty, adding, size}
use Rattle.triples.proofs.Triples.{triple_of_code, code_of-triple, code_below}
use Rattle.triples.proofs.Graphs.{adding-at, adding_off}
use Rattle.triples.proofs.Tallies.{tally-none, tally_le, tally-more, tally_off}

pub size-empty : size empty ≡ 0
unfolding size
size-empty = tally-none (λ k. false) codes (λ k l. refl)

pub size_le : (f : Graph) → size f ≤ codes
unfolding size
size_le f = tally_le (λ k. f (triple_of k)) codes

pub size-adding : (f : Graph) (t : Triple) → Inside width t → f t ≡ false → size (adding f t) ≡ size f + 1
unfolding size
size-adding f t i new =
    let at = triple_of_code t i in
    tally-more (λ k. f (triple_of k)) (λ k. adding f t (triple_of k)) (code_of t) codes (code_below t i)
    (ap f at ∙ new)
    (ap (adding f t) at ∙ adding-at f t)
    (λ k l ne. adding_off f t (triple_of k) (λ e. ne (sym (code_of-triple k) ∙ ap code_of e)))

-- a triple more makes a set larger by at most one
pub size-adding_le : (f : Graph) (t : Triple) → size (adding f t) ≤ size f + 1
unfolding size
size-adding_le f t =
    tally_off (λ k. f (triple_of k)) (λ k. adding f t (triple_of k)) (code_of t) codes
    (λ k ne. adding_off f t (triple_of k) (λ e. ne (sym (code_of-triple k) ∙ ap code_of e)))
