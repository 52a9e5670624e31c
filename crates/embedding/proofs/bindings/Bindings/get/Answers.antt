use Rattle.std.proofs.Common.{◌≡◌, ℕ, List, Bool, cond, Some, None, get_or, true, take, reverse, arith, sym, ap, ◌∙◌}
use Rattle.embedding.specs.Bound.{lookup}
use Rattle.embedding.proofs.Bound.{on, on-reverse, looked, low_if_on}
use Rattle.embedding.proofs.bindings.Bindings.get.Goals as goal

pub returns-then-contains : goal.returns-then-contains
returns-then-contains c =
    let b = c.self.inside in
    let is = looked b.terms b.blanks.slots.now c.as_slice.result.now b.blanks.len c.args.blank c.contains.result c.as_slice.ensures c.contains.ensures.value in
    ap (λ (k : ℕ). Some (get_or b.terms k 0)) c.from.ensures
    ∙ sym (ap (λ (r : Bool). cond r (Some (get_or b.terms c.args.blank 0)) None) c.if-contains.true)
    ∙ sym is ∙ ap (λ (bs : List (ℕ × ℕ)). lookup bs c.args.blank) c.self.view_is

pub returns-else-contains : goal.returns-else-contains
returns-else-contains c =
    let b = c.self.inside in
    let is = looked b.terms b.blanks.slots.now c.as_slice.result.now b.blanks.len c.args.blank c.contains.result c.as_slice.ensures c.contains.ensures.value in
    sym (ap (λ (r : Bool). cond r (Some (get_or b.terms c.args.blank 0)) None) c.if-contains.false)
    ∙ sym is ∙ ap (λ (bs : List (ℕ × ℕ)). lookup bs c.args.blank) c.self.view_is

pub bounds-self-inside-from : goal.bounds-self-inside-from
bounds-self-inside-from c =
    let b = c.self.inside in
    let xs : List ℕ = take b.blanks.len b.blanks.slots.now in
    let is : on xs c.args.blank ≡ true = ap (λ (l : List ℕ). on l c.args.blank) (sym c.as_slice.ensures) ∙ sym c.contains.ensures.value ∙ c.if-contains.true in
    omega (arith, c.from.ensures, low_if_on b.blanks.slots.now (reverse xs) c.args.blank c.self.invariant (on-reverse xs c.args.blank ∙ is))
