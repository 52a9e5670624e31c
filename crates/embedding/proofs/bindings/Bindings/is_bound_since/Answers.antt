use Rattle.std.proofs.Common.{◌≡◌, ◌-◌, ℕ, List, length, take, drop, reverse, sym, ap, ◌∙◌, arith}
use Rattle.std.proofs.lemmas.Bool.{OnFalse_from}
use Rattle.std.proofs.lemmas.List.{take_rest}
use Rattle.embedding.specs.Bound.{Bound, lookup, lowest, bound}
use Rattle.embedding.proofs.Bound.{looked_since}
use Rattle.embedding.proofs.bindings.Bindings.is_bound_since.Goals as goal

pub returns : goal.returns
returns c =
    let b = c.self.inside in
    let ys : List ℕ = take b.blanks.len b.blanks.slots.now in
    let rest : take (length c.as_slice.result.now - c.args.mark) (drop c.args.mark c.as_slice.result.now) ≡ drop c.args.mark ys =
    take_rest c.as_slice.result.now c.args.mark ∙ ap (drop c.args.mark) c.as_slice.ensures in
    let bs : Bound = bound b.terms (reverse ys) in
    let is : bs ≡ c.args.self.now = c.self.view_is in
    OnFalse_from c.contains.result _
    (λ h. sym (ap (λ (x : Bound). lookup x c.args.blank) is)
    ∙ looked_since b.terms b.blanks.slots.now _ b.blanks.len c.args.mark c.args.blank b.blanks.within (omega (arith, c.requires, ap length is)) rest (sym c.contains.ensures.value ∙ h)
    ∙ ap (λ (x : Bound). lookup (lowest c.args.mark x) c.args.blank) is)
