use Rattle.std.proofs.Common.{subst, sym}
use Rattle.entailment.specs.declared.regime.Regime.{Regime}
use Rattle.entailment.specs.declared.regime.Regime.TheVariants.{Rdfs}
use Rattle.closing.specs.Passes.{Outcome}
use Rattle.closing.specs.Seeds.{HoldsRdf, HoldsRdfs, HoldsStart}
use Rattle.closing.proofs.Filling.{first_broken, last_part, rdf_stays}
use Rattle.closing.proofs.starts.put_start.Goals as goal

pub returns-in_err-put_rdf-in-Rdfs-clause-puts : goal.returns-in_err-put_rdf-in-Rdfs-clause-puts
returns-in_err-put_rdf-in-Rdfs-clause-puts g c =
    let store = g.S.TripleStore in
    let ks = c.args.more.now in
    let f = store.held c.args.store.now in
    let k = store.held c.put_rdf-in-Rdfs.new.store in
    let m = store.capacity_of c.put_rdf-in-Rdfs.new.store in
    let both = λ (x : Regime). Outcome (HoldsStart x ks) (HoldsStart x ks k) m f k c.from_residual.result in
    subst both (sym c.in-Rdfs.is)
    (first_broken (HoldsRdf ks) (HoldsStart Rdfs ks) (HoldsStart Rdfs ks k) m f k c.from_residual.result c.from_residual.ensures.0 (λ other d. d.0) c.in_err-put_rdf-in-Rdfs.ensures.puts)

pub returns-in-Rdf-clause-puts : goal.returns-in-Rdf-clause-puts
returns-in-Rdf-clause-puts g c =
    let store = g.S.TripleStore in
    let ks = c.args.more.now in
    let k = store.held c.put_rdf.new.store in
    subst (λ (x : Regime). Outcome (HoldsStart x ks) (HoldsStart x ks k) (store.capacity_of c.put_rdf.new.store) (store.held c.args.store.now) k c.put_rdf.result) (sym c.in-Rdf.is) c.put_rdf.ensures.puts

pub returns-in_ok-put_rdf-in-Rdfs-clause-puts : goal.returns-in_ok-put_rdf-in-Rdfs-clause-puts
returns-in_ok-put_rdf-in-Rdfs-clause-puts g c =
    let store = g.S.TripleStore in
    let ks = c.args.more.now in
    let f = store.held c.args.store.now in
    let j = store.held c.put_rdf-in-Rdfs.new.store in
    let k = store.held c.put_rdfs.new.store in
    let m = store.capacity_of c.put_rdfs.new.store in
    let e = c.in_ok-put_rdf-in-Rdfs.ensures.puts in
    subst (λ (x : Regime). Outcome (HoldsStart x ks) (HoldsStart x ks k) m f k c.put_rdfs.result) (sym c.in-Rdfs.is)
    (last_part (HoldsRdf ks) (HoldsRdfs ks) (HoldsStart Rdfs ks) m f j k (λ other d. d.0) (λ other d. d.1) (λ w b. (rdf_stays ks j k w e.1, b)) e.0 c.put_rdfs.result c.put_rdfs.ensures.puts)
