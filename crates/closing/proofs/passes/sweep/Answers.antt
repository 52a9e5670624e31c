use Rattle.std.proofs.Common.{◌≡◌, ◌≤◌, ◌<◌, ◌∙◌, true, T, List, length, get_or, ap, sym, subst, below_more, arith}
use Rattle.std.proofs.ByRecursion.{All-weaker}
use Rattle.entailment.specs.declared.regime.Row.{Row}
use Rattle.entailment.specs.declared.regime.Row.TheVariants.{RdfD2}
use Rattle.entailment.specs.Rows.{uses, reading, premises, conclusion}
use Rattle.closing.specs.Steps.{rows_of}
use Rattle.closing.specs.Passes.{RowFrom, RowsClosed, RowsFrom}
use Rattle.closing.proofs.Growing.{grown_on, spilt_on, grown_fewer, spilt_fewer, broken}
use Rattle.closing.proofs.Insides.{stays_inside}
use Rattle.closing.proofs.Sweeping.{is_used, swept_all}
use Rattle.closing.proofs.passes.sweep.Goals as goal

pub loop-row-preserved : goal.loop-row-preserved
loop-row-preserved g c =
    let store = g.S.TripleStore in
    let r = c.args.regime in
    let f = store.held c.args.store.now in
    let h = store.held c.loop-row.store in
    let k = store.held c.apply.new.store in
    let xs = c.rows_of-row-items.result.now in
    let n = c.loop-row.row-index in
    let i = c.loop-row.invariant in
    let e = c.in_ok-apply.ensures in
    let row : Row = get_or xs n RdfD2 in
    let low : n < length (rows_of r) = omega (arith, c.loop-row-test.true, ap length c.rows_of-row-items.ensures) in
    let used : T (uses r row) = subst (λ (ys : List Row). T (uses r (get_or ys n RdfD2))) (sym c.rows_of-row-items.ensures) (is_used r n low) in
    record {
      side = e.side ∙ i.side;
      capacity = e.capacity ∙ i.capacity;
      grown = grown_on i.grown (grown_fewer (λ other closed w. closed row used) e.applies.0);
      swept =
          below_more (λ m. RowFrom (get_or xs m RdfD2) f k) n
          (λ m low σ pr. e.applies.0.keeps (reading σ (conclusion (get_or xs m RdfD2))) (i.swept m low σ pr))
          (λ σ pr. e.applies.1 σ (All-weaker (λ p. f (reading σ p) ≡ true) (λ p. h (reading σ p) ≡ true) (λ p. i.grown.keeps (reading σ p)) (premises row) pr));
    }

pub returns-in_err-apply-clause-sweeps : goal.returns-in_err-apply-clause-sweeps
returns-in_err-apply-clause-sweeps g c =
    let store = g.S.TripleStore in
    let r = c.args.regime in
    let f = store.held c.args.store.now in
    let k = store.held c.apply.new.store in
    let xs = c.rows_of-row-items.result.now in
    let n = c.loop-row.row-index in
    let row : Row = get_or xs n RdfD2 in
    let low : n < length (rows_of r) = omega (arith, c.loop-row-test.true, ap length c.rows_of-row-items.ensures) in
    let used : T (uses r row) = subst (λ (ys : List Row). T (uses r (get_or ys n RdfD2))) (sym c.rows_of-row-items.ensures) (is_used r n low) in
    let e = c.in_err-apply.ensures in
    let i = c.loop-row.invariant in
    broken (RowsClosed r) (RowsFrom r f k) (store.capacity_of c.apply.new.store) f k c.from_residual.result c.from_residual.ensures.0
    (grown_on i.grown (grown_fewer (λ other closed w. closed row used) e.applies.0))
    (spilt_on i.grown (spilt_fewer (λ other closed w. closed row used) e.applies.1))

pub returns-clause-sweeps : goal.returns-clause-sweeps
returns-clause-sweeps g c =
    let store = g.S.TripleStore in
    let r = c.args.regime in
    let f = store.held c.args.store.now in
    let h = store.held c.loop-row.store in
    let i = c.loop-row.invariant in
    let n = c.loop-row.row-index in
    let all : length (rows_of r) ≤ n = omega (arith, c.loop-row-test.false, ap length c.rows_of-row-items.ensures) in
    (i.grown, swept_all r f h n all (λ k low. subst (λ (ys : List Row). RowFrom (get_or ys k RdfD2) f h) c.rows_of-row-items.ensures (i.swept k low)))

pub apply-requires-clause-inside : goal.apply-requires-clause-inside
apply-requires-clause-inside g c =
    let store = g.S.TripleStore in
    stays_inside c.args.regime c.args.terms (store.held c.args.store.now) (store.held c.loop-row.store) c.requires.enough c.loop-row.invariant.grown c.requires.inside
