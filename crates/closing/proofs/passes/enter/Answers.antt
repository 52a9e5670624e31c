use Rattle.std.proofs.Common.{arith, sym, subst}
use Rattle.triples.specs.declared.triple.Triple.{Triple}
use Rattle.triples.specs.Codes.{Inside}
use Rattle.closing.specs.Steps.{conclusion_of}
use Rattle.closing.specs.Passes.{Outcome, Holds, RowClosed}
use Rattle.closing.proofs.Growing.{outcome_fewer}
use Rattle.closing.proofs.Conclusions.{conclusion-inside, concluded}
use Rattle.closing.proofs.passes.enter.Goals as goal

pub put-requires : goal.put-requires
put-requires g c =
    let store = g.S.TripleStore in
    let s = c.args.store.now in
    let law = store.lawful s in
    let a = c.args in
    subst (λ (x : Triple). Inside (store.side_of s) x) (sym c.conclude.ensures)
    (conclusion-inside (store.side_of s) (let wide = law.wide in omega arith) a.premise a.second (law.within a.premise c.requires.premise_held) (law.within a.second c.requires.second_held) a.row)

pub returns-clause-enters : goal.returns-clause-enters
returns-clause-enters g c =
    let store = g.S.TripleStore in
    let a = c.args in
    let f = store.held a.store.now in
    let h = store.held c.put.new.store in
    let m = store.capacity_of c.put.new.store in
    let end : Triple = conclusion_of a.row a.premise a.second in
    outcome_fewer (Holds end) (RowClosed a.row) (Holds end h) (Holds end h) m f h
    (λ other k w. concluded a.row a.premise a.second c.requires.fits c.requires.partner other k (w a.premise c.requires.premise_held) (w a.second c.requires.second_held))
    (λ d. d) c.put.result
    (subst (λ (x : Triple). Outcome (Holds x) (Holds x h) m f h c.put.result) c.conclude.ensures c.put.ensures.puts)
