use Rattle.std.proofs.Common.{List, ℕ, ◌≤◌, length, sym, subst}
use Rattle.embedding.specs.Bound.{IsSound}
use Rattle.embedding.proofs.Bound.{sound_none}
use Rattle.embedding.proofs.bindings.Bindings.new.Goals as goal

pub invariant_of-result : goal.invariant_of-result
invariant_of-result c =
    subst (λ (ks : List ℕ). IsSound c.new.result.slots.now ks) (sym c.new.ensures.empty)
    (sound_none c.new.result.slots.now (subst (λ (xs : List ℕ). 8 ≤ length xs) (sym c.new.ensures.slots) c.requires))
