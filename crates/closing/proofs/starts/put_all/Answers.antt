use Rattle.std.proofs.Common.{◌≡◌, ℕ, true, get_or, sym, ◌∙◌, subst, below_more, arith}
use Rattle.std.proofs.lemmas.List.{get_or_default}
use Rattle.triples.specs.declared.triple.Triple.{Triple}
use Rattle.triples.specs.Codes.{Inside}
use Rattle.triples.specs.Sets.{Graph}
use Rattle.entailment.specs.Rows.{triple}
use Rattle.closing.specs.Passes.{HoldsAll}
use Rattle.closing.proofs.Elements.{all_at, all_by_number}
use Rattle.closing.proofs.Growing.{grown_on, spilt_on, grown_fewer, spilt_fewer, broken}
use Rattle.closing.proofs.starts.put_all.Goals as goal

pub put-requires : goal.put-requires
put-requires g c =
    let store = g.S.TripleStore in
    let n = c.loop-triple.triple-index in
    let xs = c.args.list.now in
    subst (λ (m : ℕ). Inside m (get_or xs n (triple 0 0 0))) (sym c.loop-triple.invariant.side) (all_at (Inside (store.side_of c.args.store.now)) xs n (triple 0 0 0) c.loop-triple-test.true c.requires)

pub returns-in_err-put-clause-puts : goal.returns-in_err-put-clause-puts
returns-in_err-put-clause-puts g c =
    let store = g.S.TripleStore in
    let f = store.held c.args.store.now in
    let k = store.held c.put.new.store in
    let xs = c.args.list.now in
    let i = c.loop-triple.invariant in
    let e = c.in_err-put.ensures in
    let n = c.loop-triple.triple-index in
    let one = λ (other : Graph) (all : HoldsAll xs other). all_at (λ t. other t ≡ true) xs n (triple 0 0 0) c.loop-triple-test.true all in
    broken (HoldsAll xs) (HoldsAll xs k) (store.capacity_of c.put.new.store) f k c.from_residual.result c.from_residual.ensures.0
    (grown_on i.grown (grown_fewer (λ other all w. one other all) e.puts.0))
    (spilt_on i.grown (spilt_fewer (λ other all w. one other all) e.puts.1))

pub loop-triple-preserved : goal.loop-triple-preserved
loop-triple-preserved g c =
    let store = g.S.TripleStore in
    let h = store.held c.loop-triple.store in
    let k = store.held c.put.new.store in
    let xs = c.args.list.now in
    let n = c.loop-triple.triple-index in
    let i = c.loop-triple.invariant in
    let e = c.in_ok-put.ensures in
    record {
      side = e.side ∙ i.side;
      capacity = e.capacity ∙ i.capacity;
      grown = grown_on i.grown (grown_fewer (λ other all w. all_at (λ t. other t ≡ true) xs n _ c.loop-triple-test.true all) e.puts.0);
      put = λ j d. below_more (λ m. k (get_or xs m d) ≡ true) n
          (λ m l. e.puts.0.keeps (get_or xs m d) (i.put m d l))
          (subst (λ (t : Triple). k t ≡ true) (get_or_default xs n _ d c.loop-triple-test.true) e.puts.1) j;
    }

pub returns-clause-puts : goal.returns-clause-puts
returns-clause-puts g c =
    let store = g.S.TripleStore in
    let i = c.loop-triple.invariant in
    (i.grown, all_by_number (λ t. store.held c.loop-triple.store t ≡ true) c.args.list.now (λ k d l. i.put k d (omega arith)))
