-- Each row stands in the list of rows, at its place.
use Rattle.std.proofs.Common.{refl, lit<}
use Rattle.std.specs.List.{ContainsAt as Has}
use Rattle.entailment.specs.declared.regime.Row.{Row}
use Rattle.entailment.specs.declared.regime.Row.TheVariants.{RdfD2, Rdfs2, Rdfs3, Rdfs4a, Rdfs4b, Rdfs5, Rdfs6, Rdfs7, Rdfs8, Rdfs9, Rdfs10, Rdfs11, Rdfs12, Rdfs13}
use Rattle.entailment.specs.Rows.{rows}

pub each_row : (row : Row) → Has rows row
each_row RdfD2 = (0, lit< tt, λ d. refl)
each_row Rdfs2 = (1, lit< tt, λ d. refl)
each_row Rdfs3 = (2, lit< tt, λ d. refl)
each_row Rdfs4a = (3, lit< tt, λ d. refl)
each_row Rdfs4b = (4, lit< tt, λ d. refl)
each_row Rdfs5 = (5, lit< tt, λ d. refl)
each_row Rdfs6 = (6, lit< tt, λ d. refl)
each_row Rdfs7 = (7, lit< tt, λ d. refl)
each_row Rdfs8 = (8, lit< tt, λ d. refl)
each_row Rdfs9 = (9, lit< tt, λ d. refl)
each_row Rdfs10 = (10, lit< tt, λ d. refl)
each_row Rdfs11 = (11, lit< tt, λ d. refl)
each_row Rdfs12 = (12, lit< tt, λ d. refl)
each_row Rdfs13 = (13, lit< tt, λ d. refl)
