-- A triple inside the side has a bit, another has none.
use Rattle.std.proofs.Common.{sym, ap, ◌∙◌}
use Rattle.std.proofs.lemmas.Bool.{both_ways}
use Rattle.cube_store.specs.Bits.{bit_at}
use Rattle.cube_store.proofs.Marks.{bits_in, bits_out}
use Rattle.cube_store.proofs.layout.is_marked.Goals as goal

pub returns-then-inside : goal.returns-then-inside
returns-then-inside c =
    let t = c.args.triple in
    c.has_bit.ensures
    ∙ ap (λ w. bit_at w t.object) c.word_at.ensures
    ∙ sym (bits_in c.args.words.now t (c.inside.ensures.0 c.if-inside.true))

pub returns-else-inside : goal.returns-else-inside
returns-else-inside c = c.if-inside.false ∙ sym (bits_out c.args.words.now c.args.triple (λ i. both_ways c.inside.result c.if-inside.false (c.inside.ensures.1 i)))
