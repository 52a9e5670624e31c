-- How a survey and a refused line are told. Assumes nothing.
use Rattle.std.specs.Prelude.{ℕ, List, ◌++◌, codes, vec_len}
use Rattle.std.specs.Fmt.{decimal}
use Rattle.ntriples.specs.declared.fault.FaultKind.{FaultKind}
use Rattle.ntriples.specs.declared.fault.FaultKind.TheVariants.{HighByte, UnicodeEscape, Unexpected}
use Rattle.linter.specs.declared.verdict.Refusal.{Refusal}
use Rattle.linter.specs.declared.verdict.Refusal.TheVariants.{Fault, TooLong}
use Rattle.linter.specs.declared.finding.Finding.{Finding}
use Rattle.linter.specs.declared.tally.Survey.{Survey}
use Rattle.linter.specs.Answers.{refusal_number}

-- why a line cannot be read
abbrev pub fault_reason : FaultKind → List ℕ
fault_reason HighByte = codes "a byte above 127 stands here"
fault_reason UnicodeEscape = codes "the escapes \\u and \\U are not read"
fault_reason Unexpected = codes "the line cannot go on here"

-- why a line is refused
abbrev pub reason : Refusal → List ℕ
reason (Fault kind) = fault_reason kind
reason (TooLong t) = codes "the spelling of this term has more than 255 bytes"

-- the sentence on a refused line
abbrev pub sentence : Finding → List ℕ
sentence f =
    codes "line " ++ (decimal f.line
    ++ (codes ", offset " ++ (decimal f.refused.offset
    ++ (codes ": refused " ++ (decimal (refusal_number f.refused.refusal)
    ++ (codes ": " ++ reason f.refused.refusal))))))

-- the counts of a survey
abbrev pub summary : Survey → List ℕ
summary s =
    codes "lines: " ++ (decimal s.lines
    ++ (codes ", triples: " ++ (decimal s.triples
    ++ (codes ", comments: " ++ (decimal s.comments
    ++ (codes ", empty: " ++ (decimal s.empty
    ++ (codes ", cannot be read: " ++ decimal (vec_len s.findings)))))))))
