use Rattle.std.proofs.Common.{ℕ, ◌∙◌, ◌++◌, subst, sym, Result}
use Rattle.entailment.specs.Terms.{thirty}
use Rattle.closing.specs.declared.refusal.Refusal.{Refusal}
use Rattle.closing.specs.declared.refusal.Refusal.TheVariants.{Full}
use Rattle.closing.specs.Closes.{Served, Refuses, Closes, ForTermsOf}
use Rattle.closing.proofs.Ending.{full, served}
use Rattle.closing.proofs.closing.close_within.Goals as goal

pub returns-in-Err-clause-closes : goal.returns-in-Err-clause-closes
returns-in-Err-clause-closes g c more e =
    let store = g.S.TripleStore in
    let a = c.args in
    let s = a.store.now in
    let n = store.side_of s in
    let m = store.capacity_of s in
    let ks = a.more.now in
    let fills = c.in-Err.ensures.fills in
    subst (λ (answer : Result ℕ Refusal). Closes a.regime (thirty ++ more) a.kept.now n m (store.held c.refuse.new.store) answer) (sym c.refuse.ensures.refuses) (
      subst (λ (k : ℕ). ForTermsOf ks (λ ts. Refuses a.regime ts a.kept.now n k Full)) (c.fill.ensures.capacity ∙ c.clear.ensures.capacity)
          (full a.regime ks a.kept.now n (store.capacity_of c.fill.new.store) (store.held c.clear.new.self) (store.held c.fill.new.store) c.clear.ensures.cleared
          c.requires.few (store.lawful s).narrow c.requires.inside fills.0 fills.1)
          more e,
      c.refuse.ensures.cleared,
    )

pub returns-clause-closes : goal.returns-clause-closes
returns-clause-closes g c =
    let store = g.S.TripleStore in
    let a = c.args in
    let s = a.store.now in
    let n = store.side_of s in
    let ks = a.more.now in
    let fills = c.in_default.ensures.fills in
    subst (λ (m : ℕ). ForTermsOf ks (λ ts. Served a.regime ts a.kept.now n m (store.held c.fill.new.store) c.count.result)) (c.fill.ensures.capacity ∙ c.clear.ensures.capacity)
    (served a.regime ks a.kept.now n (store.capacity_of c.fill.new.store) (store.held c.clear.new.self) (store.held c.fill.new.store) c.clear.ensures.cleared
    c.requires.few (store.lawful s).narrow c.requires.inside (store.lawful c.fill.new.store).few fills.0 fills.1 c.count.result c.count.ensures)
