use Rattle.entailment.specs.Vocabulary.{#type, #Property}
use Rattle.entailment.specs.Starts.{rdf_fixed}
use Rattle.closing.specs.declared.starts.Which.TheVariants.{Positions}
use Rattle.closing.specs.Passes.{HoldsAll}
use Rattle.closing.specs.Seeds.{HoldsEach, HoldsRdf}
use Rattle.closing.proofs.Filling.{first_broken, last_part, all_stay}
use Rattle.closing.proofs.starts.put_rdf.Goals as goal

pub returns-in_err-put_rdf_fixed-clause-puts : goal.returns-in_err-put_rdf_fixed-clause-puts
returns-in_err-put_rdf_fixed-clause-puts g c =
    let store = g.S.TripleStore in
    let ks = c.args.more.now in
    let k = store.held c.put_rdf_fixed.new.store in
    first_broken (HoldsAll rdf_fixed) (HoldsRdf ks) (HoldsRdf ks k) (store.capacity_of c.put_rdf_fixed.new.store) (store.held c.args.store.now) k c.from_residual.result c.from_residual.ensures.0
    (λ other d. d.0) c.in_err-put_rdf_fixed.ensures.puts

pub returns-clause-puts : goal.returns-clause-puts
returns-clause-puts g c =
    let store = g.S.TripleStore in
    let ks = c.args.more.now in
    let j = store.held c.put_rdf_fixed.new.store in
    let k = store.held c.put_each.new.store in
    let e = c.in_ok-put_rdf_fixed.ensures.puts in
    last_part (HoldsAll rdf_fixed) (HoldsEach Positions #type #Property ks) (HoldsRdf ks) (store.capacity_of c.put_each.new.store) (store.held c.args.store.now) j k
    (λ other d. d.0) (λ other d. d.1) (λ w b. (all_stay rdf_fixed j k w e.1, b)) e.0 c.put_each.result c.put_each.ensures.puts
