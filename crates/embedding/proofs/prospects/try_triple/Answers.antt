use Rattle.std.proofs.Common.{sym, ap, drop, length, subst, ℕ, ◌-◌, ◌∙◌}
use Rattle.embedding.specs.Bound.{Bound}
use Rattle.embedding.specs.Searching.{Hopeful}
use Rattle.embedding.proofs.Unifying.{clashes, unified, cut_back, makes}
use Rattle.embedding.proofs.prospects.try_triple.Goals as goal

pub returns-then-not-unify : goal.returns-then-not-unify
returns-then-not-unify g c =
    (c.if-not-unify.ensures.1, λ m a rows e. clashes c.args.row c.args.triple c.args.bindings.now c.if-not-unify.ensures.0 m a e)

pub returns : goal.returns
returns g c =
    let bs : Bound = c.args.bindings.now in
    let cs : Bound = c.unify.new.bindings in
    let u = unified c.args.row c.args.triple bs cs (c.if-not-unify.ensures) in (
      c.truncate.ensures ∙ ap (λ (n : ℕ). drop (length cs - n) cs) c.len-mark.ensures ∙ cut_back bs cs u.meets.grown,
      λ m a rows e. c.if-is_still_hopeful.ensures m (u.meets.agrees m a (makes c.args.row c.args.triple m e)) rows,
    )

pub is_still_hopeful-requires-clause-hopeful : goal.is_still_hopeful-requires-clause-hopeful
is_still_hopeful-requires-clause-hopeful g c =
    let bs : Bound = c.args.bindings.now in
    let cs : Bound = c.unify.new.bindings in
    let u = unified c.args.row c.args.triple bs cs (c.if-not-unify.ensures) in
    subst (Hopeful (g.S.TripleStore.held c.args.store.now) c.args.goal.now) (sym (ap (λ (n : ℕ). drop (length cs - n) cs) c.len-mark.ensures ∙ cut_back bs cs u.meets.grown)) c.requires.hopeful
