use Rattle.std.proofs.Common.{Option, ◌∙◌, sym, subst, ◌≡◌, arith}
use Rattle.triples.specs.declared.triple.Triple.{Triple}
use Rattle.triples.specs.declared.question.Pattern.{Pattern}
use Rattle.triples.specs.Questions.{Fits}
use Rattle.triples.specs.Codes.{code_of}
use Rattle.triples.proofs.Triples.{code_only}
use Rattle.triples.proofs.Lawfulness.{lawful-inside}
use Rattle.walks.specs.Steps.{past}
use Rattle.closing.specs.Steps.{conclusion_of}
use Rattle.closing.specs.Passes.{RowClosed, RowFrom, PartnersFrom}
use Rattle.closing.proofs.Growing.{grown_on, spilt_on, broken}
use Rattle.closing.proofs.Conclusions.{row_from}
use Rattle.closing.proofs.Walking.{Current, Walked, next_current, walk_steps}
use Rattle.closing.proofs.passes.apply_by_triples.Goals as goal

pub returns-in_err-apply_to-clause-applies : goal.returns-in_err-apply_to-clause-applies
returns-in_err-apply_to-clause-applies g c =
    let store = g.S.TripleStore in
    let a = c.args in
    let f = store.held a.store.now in
    let h = store.held c.apply_to.new.store in
    broken (RowClosed a.row) (RowFrom a.row f h) (store.capacity_of c.apply_to.new.store) f h c.from_residual.result c.from_residual.ensures.0
    (grown_on c.loop-candidate.invariant.grown c.in_err-apply_to.ensures.enters.0)
    (spilt_on c.loop-candidate.invariant.grown c.in_err-apply_to.ensures.enters.1)

pub loop-candidate-preserved : goal.loop-candidate-preserved
loop-candidate-preserved g c =
    let store = g.S.TripleStore in
    let a = c.args in
    let s = a.store.now in
    let now = c.loop-candidate.store in
    let f = store.held s in
    let h = store.held now in
    let k = store.held c.apply_to.new.store in
    let i = c.loop-candidate.invariant in
    let p = c.first_pattern-pattern.result in
    let t = c.in-Some.premise in
    let next = c.after-candidate in
    let e = c.in_ok-apply_to.ensures in
    let here = subst (λ (x : Option Triple). Current h p x) c.in-Some.is i.current in
    let grown = grown_on i.grown e.enters.0 in
    record {
      side = e.side ∙ i.side;
      capacity = e.capacity ∙ i.capacity;
      grown = grown;
      current = next_current k (past t p) next.result next.ensures;
      walked =
          walk_steps (λ v. PartnersFrom a.row v f h) (λ v. PartnersFrom a.row v f k) f k p t t next.result
          grown.keeps next.ensures
          (subst (λ (x : Option Triple). Walked (λ v. PartnersFrom a.row v f h) f p x) c.in-Some.is i.walked)
          (λ v d u j q. e.enters.0.keeps (conclusion_of a.row v u) (d u j q))
          (λ v j fit low high.
          let same : code_of v ≡ code_of t = omega arith in
          subst (λ (x : Triple). PartnersFrom a.row x f k)
          (sym (code_only v t (lawful-inside (store.side_of s) (store.capacity_of s) f (store.lawful s) v j) (lawful-inside (store.side_of now) (store.capacity_of now) h (store.lawful now) t here.0) same))
          (λ u l q. e.enters.1 u (i.grown.keeps u l) q));
    }

pub returns-clause-applies : goal.returns-clause-applies
returns-clause-applies g c =
    let store = g.S.TripleStore in
    let a = c.args in
    let f = store.held a.store.now in
    let h = store.held c.loop-candidate.store in
    let i = c.loop-candidate.invariant in
    let p = c.first_pattern-pattern.result in
    let walked = subst (λ (x : Option Triple). Walked (λ v. PartnersFrom a.row v f h) f p x) c.in_default.is i.walked in
    (i.grown, row_from a.row f h (λ t j fit. walked t j (subst (λ (x : Pattern). Fits x t) (sym c.first_pattern-pattern.ensures) fit) tt))
