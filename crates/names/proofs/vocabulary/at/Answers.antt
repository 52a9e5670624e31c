use Rattle.std.proofs.Common.{ap, ◌∙◌}
use Rattle.std.proofs.lemmas.Option.{slice_get-get_or, slice_get-map}
use Rattle.std.specs.Option.{option_map}
use Rattle.names.specs.Terms.{term_spelled}
use Rattle.names.proofs.vocabulary.at.Goals as goal

pub returns : goal.returns
returns c =
    slice_get-map (λ s. term_spelled s.now) c.args.spellings.now c.args.number
    ∙ ap (option_map (λ s. term_spelled s.now)) (slice_get-get_or c.args.spellings.now c.args.number _ c.requires)
