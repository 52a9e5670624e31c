-- A triple that has a derivation lies in every closed set.
use Rattle.std.proofs.Common.{T, List}
use Rattle.triples.specs.declared.triple.Triple.{Triple}
use Rattle.entailment.specs.declared.regime.Regime.{Regime}
use Rattle.entailment.specs.Terms.{Term}
use Rattle.entailment.specs.Rows.{premises, reading}
use Rattle.entailment.specs.Closure.{InClosure, Derives}
use Rattle.entailment.proofs.Basics.{all-premises}

pub derived-in_closure : {r : Regime} {ts : List Term} {kept : List Triple} {t : Triple} → Derives r ts kept t → InClosure r ts kept t
derived-in_closure (Derives.from_start h) set c = c.starts _ h
derived-in_closure (Derives.from_kept h) set c = c.keeps _ h
derived-in_closure (Derives.by_row row u σ h) set c =
    c.rows row u σ (all-premises (λ f. T (set (reading σ f))) (premises row) (λ f m. derived-in_closure (h f m) set c))
