use Rattle.std.proofs.Common.{◌≡◌, ◌<◌, true, length, get_or, ap, sym, ◌∙◌, below_more, arith}
use Rattle.entailment.specs.Rows.{triple}
use Rattle.closing.specs.declared.kinds.TermKind.{TermKind}
use Rattle.closing.specs.declared.kinds.TermKind.TheVariants.{Blank}
use Rattle.closing.specs.Seeds.{all_kinds, picks, HoldsEach}
use Rattle.closing.proofs.KindsOfTerms.{all_kinds-length}
use Rattle.closing.proofs.Growing.{grown_on, spilt_on, grown_fewer, spilt_fewer, broken}
use Rattle.closing.proofs.starts.put_each.Goals as goal

pub returns-in_err-put_if-clause-puts : goal.returns-in_err-put_if-clause-puts
returns-in_err-put_if-clause-puts g c =
    let store = g.S.TripleStore in
    let a = c.args in
    let f = store.held a.store.now in
    let k = store.held c.put_if.new.store in
    let ks = a.more.now in
    let n = c.loop-number.number in
    let i = c.loop-number.invariant in
    let e = c.in_err-put_if.ensures in
    let low : n < length (all_kinds ks) = omega (arith, all_kinds-length ks, c.loop-number-test.true) in
    let picked = c.picks.ensures ∙ ap (λ (x : TermKind). picks a.which x) c.kind_of.ensures in
    broken (HoldsEach a.which a.predicate a.object ks) (HoldsEach a.which a.predicate a.object ks k) (store.capacity_of c.put_if.new.store) f k c.from_residual.result c.from_residual.ensures.0
    (grown_on i.grown (grown_fewer (λ other all w yes. all n low (sym picked ∙ yes)) e.puts.0))
    (spilt_on i.grown (spilt_fewer (λ other all w yes. all n low (sym picked ∙ yes)) e.puts.1))

pub loop-number-preserved : goal.loop-number-preserved
loop-number-preserved g c =
    let store = g.S.TripleStore in
    let a = c.args in
    let k = store.held c.put_if.new.store in
    let ks = a.more.now in
    let n = c.loop-number.number in
    let i = c.loop-number.invariant in
    let e = c.in_ok-put_if.ensures in
    let low : n < length (all_kinds ks) = omega (arith, all_kinds-length ks, c.loop-number-test.true) in
    let picked = c.picks.ensures ∙ ap (λ (x : TermKind). picks a.which x) c.kind_of.ensures in
    record {
      side = e.side ∙ i.side;
      capacity = e.capacity ∙ i.capacity;
      grown = grown_on i.grown (grown_fewer (λ other all w yes. all n low (sym picked ∙ yes)) e.puts.0);
      put =
          below_more (λ m. picks a.which (get_or (all_kinds ks) m Blank) ≡ true → k (triple m a.predicate a.object) ≡ true) n
          (λ m l yes. e.puts.0.keeps (triple m a.predicate a.object) (i.put m l yes))
          (λ yes. e.puts.1 (picked ∙ yes));
    }

pub returns-clause-puts : goal.returns-clause-puts
returns-clause-puts g c =
    (c.loop-number.invariant.grown, λ n l yes. c.loop-number.invariant.put n (omega (arith, all_kinds-length c.args.more.now, l, c.loop-number-test.false)) yes)
