use Rattle.std.proofs.Common.{ℕ, List, ◌-◌, length, drop, ap, ◌∙◌}
use Rattle.stacks.specs.Piles.{pile}
use Rattle.embedding.specs.Bound.{bound}
use Rattle.embedding.proofs.Bound.{sound_cut, bound-cut}
use Rattle.embedding.proofs.bindings.Bindings.truncate.Goals as goal

pub invariant_of-self : goal.invariant_of-self
invariant_of-self c =
    let b = c.self.inside in
    let ks : List ℕ = pile b.blanks.len b.blanks.slots.now in
    rw (c.truncate.ensures.kept, c.truncate.ensures.slots) (sound_cut b.blanks.slots.now (length ks - c.args.n) ks c.self.invariant)

pub returns : goal.returns
returns c =
    let b = c.self.inside in
    ap (bound b.terms) c.truncate.ensures.kept
    ∙ bound-cut b.terms c.args.n (pile b.blanks.len b.blanks.slots.now)
    ∙ ap (λ (bs : List (ℕ × ℕ)). drop (length bs - c.args.n) bs) c.self.view_is
