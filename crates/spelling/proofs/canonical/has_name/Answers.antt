use Rattle.std.proofs.Common.{false, sym, refl, subst}
use Rattle.std.proofs.lemmas.Bool.{both_ways}
use Rattle.ntriples.specs.Answers.{kind_of, bytes_of}
use Rattle.spelling.specs.Names.{Name, Denotes}
use Rattle.spelling.proofs.Tokens.{denoted-iri, denoted-literal, token_iri, token_literal, no_label}
use Rattle.spelling.proofs.canonical.has_name.Goals as goal

pub returns-in-Iri : goal.returns-in-Iri
returns-in-Iri c = record {
  yes = λ e. subst (λ t. (n : Name) × Denotes (kind_of t) (bytes_of t) n) (sym c.in-Iri.is) (denoted-iri c.in-Iri.text.now (c.is_iri.ensures.yes e).spelled);
  no = λ e n d. c.is_iri.ensures.no e (record { spelled = token_iri c.in-Iri.text.now n (subst (λ t. Denotes (kind_of t) (bytes_of t) n) c.in-Iri.is d) });
}

pub returns-in-Label : goal.returns-in-Label
returns-in-Label c = record {
  yes = λ e. absurd (both_ways false refl e);
  no = λ e n d. no_label c.in-Label.field-0.now n (subst (λ t. Denotes (kind_of t) (bytes_of t) n) c.in-Label.is d);
}

pub returns-in-Literal : goal.returns-in-Literal
returns-in-Literal c = record {
  yes = λ e. subst (λ t. (n : Name) × Denotes (kind_of t) (bytes_of t) n) (sym c.in-Literal.is) (denoted-literal c.in-Literal.text.now (c.is_literal.ensures.yes e).spelled);
  no = λ e n d. c.is_literal.ensures.no e (record { spelled = token_literal c.in-Literal.text.now n (subst (λ t. Denotes (kind_of t) (bytes_of t) n) c.in-Literal.is d) });
}
