use Rattle.std.proofs.Common.{◌∙◌, below_more, arith}
use Rattle.closing.specs.Steps.{conclusion_of}
use Rattle.closing.specs.Passes.{RowClosed, RowFrom, TermFrom}
use Rattle.closing.proofs.Growing.{grown_on, spilt_on, broken}
use Rattle.closing.proofs.Conclusions.{row_from, terms_do}
use Rattle.closing.proofs.passes.apply_by_terms.Goals as goal

pub returns-in_err-enter_for_term-clause-applies : goal.returns-in_err-enter_for_term-clause-applies
returns-in_err-enter_for_term-clause-applies g c =
    let store = g.S.TripleStore in
    let a = c.args in
    let f = store.held a.store.now in
    let k = store.held c.enter_for_term.new.store in
    broken (RowClosed a.row) (RowFrom a.row f k) (store.capacity_of c.enter_for_term.new.store) f k c.from_residual.result c.from_residual.ensures.0
    (grown_on c.loop-term.invariant.grown c.in_err-enter_for_term.ensures.enters.0)
    (spilt_on c.loop-term.invariant.grown c.in_err-enter_for_term.ensures.enters.1)

pub loop-term-preserved : goal.loop-term-preserved
loop-term-preserved g c =
    let store = g.S.TripleStore in
    let a = c.args in
    let f = store.held a.store.now in
    let k = store.held c.enter_for_term.new.store in
    let i = c.loop-term.invariant in
    let e = c.in_ok-enter_for_term.ensures in
    record {
      side = e.side ∙ i.side;
      capacity = e.capacity ∙ i.capacity;
      grown = grown_on i.grown e.enters.0;
      done =
          below_more (λ n. TermFrom a.row a.part n f k) c.loop-term.term
          (λ n low t j d. e.enters.0.keeps (conclusion_of a.row t t) (i.done n low t j d))
          (λ t j d. e.enters.1 t (i.grown.keeps t j) d);
    }

pub returns-clause-applies : goal.returns-clause-applies
returns-clause-applies g c =
    let store = g.S.TripleStore in
    let a = c.args in
    let f = store.held a.store.now in
    let h = store.held c.loop-term.store in
    let i = c.loop-term.invariant in
    (i.grown, row_from a.row f h (terms_do a.row a.part a.terms f h c.requires.part c.requires.inside (λ n low. i.done n (omega (arith, c.loop-term-test.false, low)))))
