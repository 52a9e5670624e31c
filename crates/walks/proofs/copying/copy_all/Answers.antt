-- A step passes the triple, and the add puts it in.
use Rattle.std.proofs.Common.{is_ok, sym, ap, ◌∙◌, subst}
use Rattle.triples.specs.declared.question.Question.{Question}
use Rattle.triples.specs.declared.question.Pattern.{Pattern}
use Rattle.triples.specs.Sets.{Graph, union, adding}
use Rattle.triples.specs.Questions.{Least, free}
use Rattle.triples.proofs.Additions.{adds_ok}
use Rattle.walks.specs.Copies.{below}
use Rattle.walks.proofs.Walking.{steps_one, union_more}
use Rattle.walks.proofs.Matching.{walk_all}
use Rattle.walks.proofs.copying.copy_all.Goals as goal

pub loop-triple-preserved : goal.loop-triple-preserved
loop-triple-preserved g c =
    let from = g.S.TripleStore in
    let to = g.R.TripleStore in
    let s = c.args.from.now in
    let f = from.held s in
    let t = c.in-Some.triple in
    let i = c.loop-triple.invariant in
    let k = c.loop-triple.triple-iterator.question.lowest in
    let w = walk_all (from.side_of s) (from.capacity_of s) f (from.lawful s) in
    let step = c.in-Some.ensures.steps in
    let next : Least f (record { lowest = k; pattern = free }) t =
    subst (λ (p : Pattern). Least f (record { lowest = k; pattern = p }) t) i.pattern
    (subst (λ (h : Graph). Least h c.loop-triple.triple-iterator.question t) (ap from.held i.over) step.1.0) in
    let puts = adds_ok _ _ (to.held c.loop-triple.to) t (to.held c.add.new.self) c.add.result (sym c.map_err.ensures.variant ∙ ap is_ok c.in_ok-map_err.was) c.add.ensures.adds in record {
      over = ap (λ (r : _). r.now) step.0 ∙ i.over;
      pattern = ap (λ (q : Question). q.pattern) step.1.1 ∙ i.pattern;
      side = c.add.ensures.side ∙ i.side;
      capacity = c.add.ensures.capacity ∙ i.capacity;
      copied =
          puts
          ∙ ap (λ (e : Graph). adding e t) i.copied
          ∙ union_more (below k f) (to.held c.args.to.now) t
          ∙ ap (λ (e : Graph). union e (to.held c.args.to.now)) (sym (steps_one w k t next))
          ∙ ap (λ (q : Question). union (below q.lowest f) (to.held c.args.to.now)) (sym step.1.1);
    }
