use Rattle.std.proofs.Common.{rules, ◌≡◌, ℕ, ◌+◌, ◌≤◌, List, length, Ok, Err, Result, MatchResult, IsErrAnd, sym, subst}
use Rattle.std.proofs.lemmas.Result.{MatchResult-weaker}
use Rattle.grammar.specs.Productions.{full, part, line}
use Rattle.grammar.specs.Places.{Stops}
use Rattle.grammar.specs.Readings.{Reads}
use Rattle.grammar.specs.Scanner.{start, in_line, Halts}
use Rattle.grammar.proofs.Halting.{stops}
use Rattle.ntriples.specs.Answers.{number, line_reading, reading}
use Rattle.ntriples.specs.declared.fault.Fault.{Fault}
use Rattle.ntriples.specs.declared.token.Line.{Line}
use Rattle.ntriples.proofs.line.read.Goals as goal

-- what the line holds is its reading, once a fault's offset counts from the document's first byte
read-content : (base : ℕ) (bs : List ℕ) (r q : Result Line Fault)
    → MatchResult r (λ l. Reads base bs (line_reading l)) (λ f. (f.offset ≤ length bs) × Halts in_line start bs f.offset (number f.kind))
    → MatchResult r (λ l. q ≡ Ok l) (λ f. IsErrAnd q (λ g. (g.kind ≡ f.kind) × (g.offset ≡ base + f.offset))) → Reads base bs (reading q)
read-content base bs (Ok l) q h e = rw e h
read-content base bs (Err f) (Ok l) h e = absurd e
read-content base bs (Err f) (Err g) h e = (f.offset, e.1, subst (λ k. Stops (line full) (line part) bs f.offset (number k)) (sym e.0) (stops bs f.offset (number f.kind) h.1))

pub returns : goal.returns
returns c = read-content c.args.base c.args.line.now c.content.result c.map_err.result c.content.ensures (MatchResult-weaker c.content.result c.map_err.ensures.cases (λ l h. h) (λ f h. search rules))
