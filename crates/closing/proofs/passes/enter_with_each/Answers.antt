use Rattle.std.proofs.Common.{◌≡◌, true, Option, ◌∙◌, subst, ◌<◌, ap, sym}
use Rattle.triples.specs.declared.triple.Triple.{Triple}
use Rattle.triples.proofs.Lawfulness.{lawful-inside}
use Rattle.std.specs.Prelude.{MatchOption}
use Rattle.triples.specs.declared.question.Pattern.{Pattern}
use Rattle.triples.specs.Questions.{Next, Fits}
use Rattle.walks.specs.Steps.{past}
use Rattle.closing.specs.Steps.{conclusion_of, last_alike, Partner}
use Rattle.closing.specs.Passes.{RowClosed, PartnersFrom}
use Rattle.closing.proofs.Growing.{grown_on, spilt_on, broken}
use Rattle.closing.proofs.Conclusions.{alike_concludes, last_later}
use Rattle.closing.proofs.Walking.{Current, Walked, left, left_falls, next_current, walk_steps}
use Rattle.closing.proofs.passes.enter_with_each.Given as given
use Rattle.closing.proofs.passes.enter_with_each.Goals as goal

pub returns-in_err-enter-clause-enters : goal.returns-in_err-enter-clause-enters
returns-in_err-enter-clause-enters g c =
    let store = g.S.TripleStore in
    let a = c.args in
    let f = store.held a.store.now in
    let h = store.held c.enter.new.store in
    broken (RowClosed a.row) (PartnersFrom a.row a.premise f h) (store.capacity_of c.enter.new.store) f h c.from_residual.result c.from_residual.ensures.0
    (grown_on c.loop-candidate.invariant.grown c.in_err-enter.ensures.enters.0)
    (spilt_on c.loop-candidate.invariant.grown c.in_err-enter.ensures.enters.1)

next_past : (g : given.Over) (c : goal.After-after-candidate g) → Next (g.S.TripleStore.held c.enter.new.store) (past (last_alike c.args.row c.in-Some.second) c.args.pattern) c.after-candidate.result
next_past g c = subst (λ (w : Triple). Next (g.S.TripleStore.held c.enter.new.store) (past w c.args.pattern) c.after-candidate.result) c.last_alike.ensures c.after-candidate.ensures

partner : (g : given.Over) (c : goal.After-after-candidate g) (v : Triple) → Fits c.args.pattern v → Partner c.args.row c.args.premise v
partner g c v fit = subst (λ (o : Option Pattern). MatchOption o (v ≡ c.args.premise) (λ p. Fits p v)) (sym c.requires.asks) fit

pub loop-candidate-preserved : goal.loop-candidate-preserved
loop-candidate-preserved g c =
    let store = g.S.TripleStore in
    let a = c.args in
    let s = a.store.now in
    let now = c.loop-candidate.store in
    let f = store.held s in
    let h = store.held now in
    let k = store.held c.enter.new.store in
    let i = c.loop-candidate.invariant in
    let u = c.in-Some.second in
    let next = c.after-candidate in
    let e = c.in_ok-enter.ensures in
    let here = subst (λ (x : Option Triple). Current h a.pattern x) c.in-Some.is i.current in
    let grown = grown_on i.grown e.enters.0 in
    record {
      side = e.side ∙ i.side;
      capacity = e.capacity ∙ i.capacity;
      grown = grown;
      current = next_current k (past (last_alike a.row u) a.pattern) next.result (next_past g c);
      walked =
          walk_steps (λ v. h (conclusion_of a.row a.premise v) ≡ true) (λ v. k (conclusion_of a.row a.premise v) ≡ true) f k a.pattern u (last_alike a.row u) next.result
          grown.keeps (next_past g c)
          (subst (λ (x : Option Triple). Walked (λ v. h (conclusion_of a.row a.premise v) ≡ true) f a.pattern x) c.in-Some.is i.walked)
          (λ v d. e.enters.0.keeps (conclusion_of a.row a.premise v) d)
          (λ v j fit low high.
          ap k
          (alike_concludes a.row a.premise u v (lawful-inside (store.side_of now) (store.capacity_of now) h (store.lawful now) u here.0) (lawful-inside (store.side_of s) (store.capacity_of s) f (store.lawful s) v j)
          (partner g c u here.1) (partner g c v fit) low high)
          ∙ e.enters.1);
    }

pub loop-candidate-smaller : goal.loop-candidate-smaller
loop-candidate-smaller g c =
    let store = g.S.TripleStore in
    let a = c.args in
    let now = c.loop-candidate.store in
    let h = store.held now in
    let u = c.in-Some.second in
    let here = subst (λ (x : Option Triple). Current h a.pattern x) c.in-Some.is c.loop-candidate.invariant.current in
    let i = lawful-inside (store.side_of now) (store.capacity_of now) h (store.lawful now) u here.0 in
    subst (λ (x : Option Triple). left c.after-candidate.result < left x) (sym c.in-Some.is)
    (left_falls (store.held c.enter.new.store) a.pattern u (last_alike a.row u) c.after-candidate.result i (last_later a.row u i) (next_past g c))
