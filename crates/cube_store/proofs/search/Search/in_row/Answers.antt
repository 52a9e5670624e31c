-- The first bit of the row's word is its first answer.
use Rattle.std.proofs.Common.{◌≡◌, ◌-◌, Option, sym, subst, arith}
use Rattle.triples.specs.declared.triple.Triple.{Triple}
use Rattle.triples.specs.Codes.{code_of}
use Rattle.cube_store.specs.Bits.{bits}
use Rattle.cube_store.specs.Searches.{FirstIn, OfRow}
use Rattle.cube_store.proofs.Firsts.{row_none, row_some}
use Rattle.cube_store.proofs.search.Search.in_row.Goals as goal

pub returns-in_err-object : goal.returns-in_err-object
returns-in_err-object c =
    let ws = c.args.self.now.words.now in
    let q = c.args.self.now.question in
    let s = c.args.start.subject in
    let p = c.args.start.predicate in
    let floor : c.saturating_sub-floor.result ≡ q.lowest - code_of (record { subject = s; predicate = p; object = 0 }) =
    omega (arith, c.saturating_sub-floor.ensures, c.code.ensures.is, c.requires.begins) in
    subst (λ (r : Option Triple). FirstIn (OfRow s p) (bits ws) q r) (sym c.from_residual.ensures)
    (row_none ws q s p _ _ _ _ c.word_at.ensures floor c.fitting-objects.ensures c.in_err-object.ensures)

pub returns : goal.returns
returns c =
    let q = c.args.self.now.question in
    let s = c.args.start.subject in
    let p = c.args.start.predicate in
    let floor : c.saturating_sub-floor.result ≡ q.lowest - code_of (record { subject = s; predicate = p; object = 0 }) =
    omega (arith, c.saturating_sub-floor.ensures, c.code.ensures.is, c.requires.begins) in
    row_some c.args.self.now.words.now q s p _ _ _ _ c.word_at.ensures floor c.fitting-objects.ensures
    c.in_ok-object.object c.requires.subject c.requires.predicate c.in_ok-object.ensures
