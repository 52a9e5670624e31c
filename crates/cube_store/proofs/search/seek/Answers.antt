-- The first answer is that of the first subject that has one.
use Rattle.std.proofs.Common.{refl, rules}
use Rattle.cube_store.specs.Bits.{bits}
use Rattle.cube_store.specs.Searches.{FirstIn, OfSubject}
use Rattle.cube_store.proofs.Mapped.{mapped_first}
use Rattle.cube_store.proofs.Firsts.{cube_first}
use Rattle.cube_store.proofs.search.seek.Goals as goal

pub returns : goal.returns
returns c =
    let ws = c.args.words.now in
    let q = c.args.question in
    let run = c.find_map.ensures.runs in
    cube_first ws q _ _ _ c.find_map.result refl c.fitting.ensures
    (mapped_first run.0 _ _ (λ a r f k. search rules) (λ s o. FirstIn (OfSubject s) (bits ws) q o) (λ x r k. search rules) c.fitting.result c.find_map.result run.1 run.2)
