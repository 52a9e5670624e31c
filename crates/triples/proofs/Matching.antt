-- The tests whether a triple fits a pattern and whether it answers a question.
use Rattle.std.proofs.Common.{ℕ, Bool, true, ◌&&◌, eqb, leb, Some, None, Decides, Option, refl}
use Rattle.std.proofs.lemmas.Bool.{leb-true, le-leb}
use Rattle.std.proofs.lemmas.Bool.Decides.{Decides-eqb, Decides-and, Decides-like}
use Rattle.triples.specs.declared.triple.Triple.{Triple}
use Rattle.triples.specs.declared.question.Pattern.{Pattern}
use Rattle.triples.specs.declared.question.Question.{Question}
use Rattle.triples.specs.Codes.{code_of}
use Rattle.triples.specs.Questions.{Fit, Fits, Asked}

abbrev agrees : Option ℕ → ℕ → Bool
agrees None x = true
agrees (Some y) x = eqb x y

abbrev pub matches : Pattern → Triple → Bool
matches p t = agrees p.subject t.subject && (agrees p.predicate t.predicate && agrees p.object t.object)

abbrev pub answers : Question → Triple → Bool
answers q t = leb q.lowest (code_of t) && matches q.pattern t

agrees_decides : (o : Option ℕ) (x : ℕ) → Decides (agrees o x) (Fit o x)
agrees_decides None x = ((λ e. tt), (λ e. refl))
agrees_decides (Some y) x = Decides-eqb x y

pub matches_decides : (p : Pattern) (t : Triple) → Decides (matches p t) (Fits p t)
matches_decides p t =
    let s = agrees_decides p.subject t.subject in
    let m = agrees_decides p.predicate t.predicate in
    let o = agrees_decides p.object t.object in
    Decides-like (matches p t) (λ h. (h.0, h.1.0, h.1.1)) (λ h. (h.0, (h.1, h.2)))
    (Decides-and _ _ s (Decides-and _ _ m o))

pub answers_decides : (q : Question) (t : Triple) → Decides (answers q t) (Asked q t)
answers_decides q t = Decides-and _ _ (leb-true q.lowest (code_of t), le-leb q.lowest (code_of t)) (matches_decides q.pattern t)
