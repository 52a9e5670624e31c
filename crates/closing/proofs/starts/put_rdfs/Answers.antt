use Rattle.entailment.specs.Vocabulary.{#type, #Resource, #CMP, #domain, #range}
use Rattle.entailment.specs.Starts.{rdfs_fixed}
use Rattle.closing.specs.declared.starts.Which.TheVariants.{Names, Positions}
use Rattle.closing.specs.Passes.{HoldsAll}
use Rattle.closing.specs.Seeds.{HoldsEach, HoldsRdfs}
use Rattle.closing.proofs.Growing.{broken}
use Rattle.closing.proofs.Filling.{first_broken, last_part, filled_on, spilt_after, all_stay, each_stay}
use Rattle.closing.proofs.starts.put_rdfs.Goals as goal

pub returns-in_err-put_rdfs_fixed-clause-puts : goal.returns-in_err-put_rdfs_fixed-clause-puts
returns-in_err-put_rdfs_fixed-clause-puts g c =
    let store = g.S.TripleStore in
    let ks = c.args.more.now in
    let k = store.held c.put_rdfs_fixed.new.store in
    first_broken (HoldsAll rdfs_fixed) (HoldsRdfs ks) (HoldsRdfs ks k) (store.capacity_of c.put_rdfs_fixed.new.store) (store.held c.args.store.now) k c.from_residual.result c.from_residual.ensures.0
    (λ other d. d.0) c.in_err-put_rdfs_fixed.ensures.puts

pub returns-in_err-put_each-clause-puts : goal.returns-in_err-put_each-clause-puts
returns-in_err-put_each-clause-puts g c =
    let store = g.S.TripleStore in
    let ks = c.args.more.now in
    let k = store.held c.put_each.new.store in
    let a = c.in_ok-put_rdfs_fixed.ensures.puts in
    let b = c.in_err-put_each.ensures.puts in
    broken (HoldsRdfs ks) (HoldsRdfs ks k) (store.capacity_of c.put_each.new.store) (store.held c.args.store.now) k c.from_residual-in_err-put_each.result c.from_residual-in_err-put_each.ensures.0
    (filled_on (λ other d. d.0) (λ other d. d.1) a.0 b.0) (spilt_after (λ other d. d.0) (λ other d. d.1) a.0 b.1)

pub returns-in_err-put_each-2-clause-puts : goal.returns-in_err-put_each-2-clause-puts
returns-in_err-put_each-2-clause-puts g c =
    let store = g.S.TripleStore in
    let ks = c.args.more.now in
    let k = store.held c.put_each-2.new.store in
    let a = filled_on {C = HoldsRdfs ks} (λ other d. d.0) (λ other d. d.1) c.in_ok-put_rdfs_fixed.ensures.puts.0 c.in_ok-put_each.ensures.puts.0 in
    let b = c.in_err-put_each-2.ensures.puts in
    broken (HoldsRdfs ks) (HoldsRdfs ks k) (store.capacity_of c.put_each-2.new.store) (store.held c.args.store.now) k c.from_residual-in_err-put_each-2.result c.from_residual-in_err-put_each-2.ensures.0
    (filled_on (λ other d. d) (λ other d. d.2) a b.0) (spilt_after (λ other d. d) (λ other d. d.2) a b.1)

pub returns-in_err-put_each-3-clause-puts : goal.returns-in_err-put_each-3-clause-puts
returns-in_err-put_each-3-clause-puts g c =
    let store = g.S.TripleStore in
    let ks = c.args.more.now in
    let k = store.held c.put_each-3.new.store in
    let a = filled_on {C = HoldsRdfs ks} (λ other d. d.0) (λ other d. d.1) c.in_ok-put_rdfs_fixed.ensures.puts.0 c.in_ok-put_each.ensures.puts.0 in
    let b = filled_on {C = HoldsRdfs ks} (λ other d. d) (λ other d. d.2) a c.in_ok-put_each-2.ensures.puts.0 in
    let e = c.in_err-put_each-3.ensures.puts in
    broken (HoldsRdfs ks) (HoldsRdfs ks k) (store.capacity_of c.put_each-3.new.store) (store.held c.args.store.now) k c.from_residual-in_err-put_each-3.result c.from_residual-in_err-put_each-3.ensures.0
    (filled_on (λ other d. d) (λ other d. d.3) b e.0) (spilt_after (λ other d. d) (λ other d. d.3) b e.1)

pub returns-clause-puts : goal.returns-clause-puts
returns-clause-puts g c =
    let store = g.S.TripleStore in
    let ks = c.args.more.now in
    let p = c.in_ok-put_rdfs_fixed.ensures.puts in
    let q = c.in_ok-put_each.ensures.puts in
    let r = c.in_ok-put_each-2.ensures.puts in
    let s = c.in_ok-put_each-3.ensures.puts in
    let g₁ = store.held c.put_rdfs_fixed.new.store in
    let g₂ = store.held c.put_each.new.store in
    let g₃ = store.held c.put_each-2.new.store in
    let g₄ = store.held c.put_each-3.new.store in
    let h = store.held c.put_each-4.new.store in
    let a = filled_on {C = HoldsRdfs ks} (λ other d. d.0) (λ other d. d.1) p.0 q.0 in
    let b = filled_on {C = HoldsRdfs ks} (λ other d. d) (λ other d. d.2) a r.0 in
    let e = filled_on {C = HoldsRdfs ks} (λ other d. d) (λ other d. d.3) b s.0 in
    last_part (HoldsRdfs ks) (HoldsEach Positions #range #Resource ks) (HoldsRdfs ks) (store.capacity_of c.put_each-4.new.store) (store.held c.args.store.now) g₄ h
    (λ other d. d) (λ other d. d.4)
    (λ w last. (
      all_stay rdfs_fixed g₁ h (λ t i. w t (s.0.keeps t (r.0.keeps t (q.0.keeps t i)))) p.1,
      each_stay Names #type #Resource ks g₂ h (λ t i. w t (s.0.keeps t (r.0.keeps t i))) q.1,
      each_stay Positions #type #CMP ks g₃ h (λ t i. w t (s.0.keeps t i)) r.1,
      each_stay Positions #domain #Resource ks g₄ h w s.1,
      last,
    ))
    e c.put_each-4.result c.put_each-4.ensures.puts
