-- The first answer of a subject is that of its first row that has one.
use Rattle.std.proofs.Common.{arith, rules}
use Rattle.cube_store.specs.Bits.{bits}
use Rattle.cube_store.specs.Searches.{FirstIn, OfRow}
use Rattle.cube_store.proofs.Mapped.{mapped_first}
use Rattle.cube_store.proofs.Firsts.{subject_first}
use Rattle.cube_store.proofs.search.Search.in_subject.Goals as goal

pub returns : goal.returns
returns c =
    let ws = c.args.self.now.words.now in
    let q = c.args.self.now.question in
    let s = c.args.subject in
    let run = c.find_map.ensures.runs in
    subject_first ws q s _ _ _ c.find_map.result (omega arith) c.fitting.ensures
    (mapped_first run.0 _ _ (λ a r f k. search rules) (λ p o. FirstIn (OfRow s p) (bits ws) q o) (λ x r k. search rules) c.fitting.result c.find_map.result run.1 run.2)
