-- One bit more is one triple more.
use Rattle.std.proofs.Common.{◌≡◌, length, ap, ◌∙◌, arith, length-set}
use Rattle.triples.specs.Codes.{width}
use Rattle.triples.specs.Sets.{size, adding}
use Rattle.triples.proofs.Triples.{inside-more}
use Rattle.triples.proofs.Sizes.{size-adding}
use Rattle.cube_store.specs.Bits.{side, bits}
use Rattle.cube_store.proofs.Marks.{bits-marking}
use Rattle.cube_store.proofs.cube.Words.mark.Goals as goal

pub returns : goal.returns
returns c =
    let ws = c.args.self.now.words.now in
    let t = c.args.triple in
    let e : bits c.mark.new.words ≡ adding (bits ws) t = ap bits c.mark.ensures ∙ bits-marking ws t c.requires.inside c.requires.room in
    record {
      kept = ap length c.mark.ensures ∙ length-set ws _ _;
      marked = e;
      counted = ap size e ∙ size-adding (bits ws) t (inside-more side width t (omega arith) c.requires.inside) c.requires.unset;
    }
