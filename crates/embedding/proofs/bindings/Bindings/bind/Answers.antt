use Rattle.std.proofs.Common.{ℕ, List, ◌∷◌, ◌≡◌, None, set, ap, ◌∙◌, arith}
use Rattle.stacks.specs.Piles.{pile}
use Rattle.embedding.specs.Bound.{lookup, bound}
use Rattle.embedding.proofs.Bound.{room-for, sound-more, bound-more}
use Rattle.embedding.proofs.bindings.Bindings.bind.Goals as goal

pub unreachable-requires : goal.unreachable-requires
unreachable-requires c =
    let b = c.self.inside in
    let ks : List ℕ = pile b.blanks.len b.blanks.slots.now in
    let none : lookup (bound b.terms ks) c.args.blank ≡ None = ap (λ (bs : List (ℕ × ℕ)). lookup bs c.args.blank) c.self.view_is ∙ c.requires.1 in
    let full = c.in-Err.ensures in
    omega (arith, room-for b.blanks.slots.now b.terms ks c.args.blank c.self.invariant c.requires.0 none, full.pushes.0)

pub invariant_of-self : goal.invariant_of-self
invariant_of-self c =
    let b = c.self.inside in
    let ks : List ℕ = pile b.blanks.len b.blanks.slots.now in
    let none : lookup (bound b.terms ks) c.args.blank ≡ None = ap (λ (bs : List (ℕ × ℕ)). lookup bs c.args.blank) c.self.view_is ∙ c.requires.1 in
    let s = sound-more b.blanks.slots.now b.terms ks c.args.blank c.self.invariant c.requires.0 none in
    let more = c.in-Ok.ensures.pushes.1 in
    rw more (record { room = omega (arith, s.room, c.in-Ok.ensures.room); small = s.small; distinct = s.distinct })

pub returns : goal.returns
returns c =
    let b = c.self.inside in
    let ks : List ℕ = pile b.blanks.len b.blanks.slots.now in
    let none : lookup (bound b.terms ks) c.args.blank ≡ None = ap (λ (bs : List (ℕ × ℕ)). lookup bs c.args.blank) c.self.view_is ∙ c.requires.1 in
    let more = c.in-Ok.ensures.pushes.1 in
    let at : set b.terms c.from.result c.args.term ≡ set b.terms c.args.blank c.args.term = ap (λ (i : ℕ). set b.terms i c.args.term) c.from.ensures in
    let is : ◌≡◌ {A = List (ℕ × ℕ)} (bound (set b.terms c.from.result c.args.term) (pile c.push.new.self.len c.push.new.self.slots.now)) ((c.args.blank, c.args.term) ∷ c.args.self.now) =
    ap (λ (terms : List ℕ). bound terms (pile c.push.new.self.len c.push.new.self.slots.now)) at
    ∙ ap (bound (set b.terms c.args.blank c.args.term)) more
    ∙ bound-more b.blanks.slots.now b.terms ks c.args.blank c.self.invariant c.requires.0 none c.args.term c.self.told
    ∙ ap (λ (bs : List (ℕ × ℕ)). (c.args.blank, c.args.term) ∷ bs) c.self.view_is in
    is
