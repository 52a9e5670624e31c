use Rattle.std.proofs.Common.{length, sym, refl, ap, ◌∙◌, arith}
use Rattle.std.proofs.lemmas.Slice.Eq.{slice_eq-Decides}
use Rattle.std.proofs.lemmas.Bool.Decides.{Decides-eqb}
use Rattle.ntriples.specs.Answers.{kind_of, bytes_of}
use Rattle.spelling.specs.Answers.{Over}
use Rattle.spelling.proofs.Laws.{own_name, lawful_or_not, over_lawful}
use Rattle.spelling.proofs.canonical.is_lawful_as.Goals as goal

pub returns-then-not-has_name : goal.returns-then-not-has_name
returns-then-not-has_name c = λ h. (rw c.requires.same at c.if-not-has_name.ensures.no refl) h.name (own_name _ _ h)

pub returns-in-Ok : goal.returns-in-Ok
returns-in-Ok c =
    let (n, d) = c.if-not-has_name.ensures.yes refl in
    let w = c.in-Ok.ensures n d in
    let same = slice_eq-Decides Decides-eqb _ _ _ c.eq.ensures in
    let text = c.text.ensures.written ∙ w in
    lawful_or_not (kind_of c.args.token) c.args.bytes.now n c.eq.result (rw c.requires.same at d) (omega (arith, c.text.ensures.short, ap length text)) (λ e. sym text ∙ same.0 e) (λ q. same.1 (text ∙ q))

pub returns-in-Err : goal.returns-in-Err
returns-in-Err c =
    let (n, d) = c.if-not-has_name.ensures.yes refl in
    let over : Over (kind_of c.args.token) (bytes_of c.args.token) = (n, d, c.in-Err.ensures n d) in
    over_lawful _ _ (rw c.requires.same at over)
