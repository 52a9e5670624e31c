-- The loop that writes a literal, turn by turn. Assumes nothing.
use Rattle.std.proofs.Common.{◌≡◌, ℕ, ◌+◌, ◌<◌, ◌≤◌, List, [], ◌∷◌, ◌++◌, length, Ok, Err, Result, MatchResult, sym, ap, ◌∙◌, append_assoc, arith, length-append}
use Rattle.grammar.specs.Readings.{a_literal}
use Rattle.spelling.specs.declared.canonical.TooLong.{TooLong}
use Rattle.spelling.specs.Names.{Name, Denotes, canonical, escaped_byte, escaped, longest}
use Rattle.spelling.specs.Writing.{Splits, WroteName, written as outcome}
use Rattle.spelling.proofs.Bodies.{Body}
use Rattle.spelling.proofs.Literals.{opened, canonical_is}
use Rattle.spelling.proofs.Pieces.{Next, body-step, body-end}

-- the rest is to be read, and so much of the spelling of n is written
pub record Halfway (rest written : List ℕ) (n : Name) : Type 0 where
  pub raw : List ℕ
  pub lexical : List ℕ
  pub tail : List ℕ
  pub split : rest ≡ raw ++ 34 ∷ tail
  pub body : Body raw lexical
  pub front : canonical n ≡ written ++ (escaped lexical ++ 34 ∷ tail)

pub first-quote : (q : ℕ) (text rest : List ℕ) (n : Name) → text ≡ q ∷ rest → Denotes a_literal text n → Halfway rest (34 ∷ []) n
first-quote q text rest n e d =
    let l = opened text n d in
    let s = l.split in
    record {
      raw = l.raw;
      lexical = l.lexical;
      tail = l.tail;
      split = cc;
      body = l.body;
      front = canonical_is l.lexical l.tail n l.after;
    }

module _ (rest written : List ℕ) (n : Name) (l : Halfway rest written n) where
  module _ (c : ℕ) (after : List ℕ) (s : Splits rest c after) (more : (w : List ℕ) → rest ≡ 34 ∷ w → ⊥) where
    step : Next after l.tail l.lexical c
    step = body-step rest l.tail after l.raw l.lexical c more l.split s l.body

    more-front : canonical n ≡ (written ++ escaped_byte c) ++ (escaped step.lexical ++ 34 ∷ l.tail)
    more-front = l.front ∙ ap (λ v. written ++ (escaped v ++ 34 ∷ l.tail)) step.first ∙ simp append_assoc

    pub too_long : (m : ℕ) → m < length written + length (escaped_byte c) → m < length (canonical n)
    too_long m q = omega (arith, simp length-append at (ap length more-front))

    pub turned : (now : List ℕ) → now ≡ written ++ escaped_byte c → Halfway after now n
    turned now w = record {
      raw = step.raw;
      lexical = step.lexical;
      tail = l.tail;
      split = step.split;
      body = step.body;
      front = more-front ∙ ap (λ b. b ++ (escaped step.lexical ++ 34 ∷ l.tail)) (sym w);
    }

  pub closing-quote : ((c : ℕ) (w : List ℕ) → Splits rest c w → rest ≡ 34 ∷ w) → canonical n ≡ written ++ rest
  closing-quote none =
      let (u, v) = body-end rest l.tail l.raw l.lexical none l.split l.body in
      l.front ∙ ap (λ w. written ++ (escaped w ++ 34 ∷ l.tail)) v ∙ ap (λ w. written ++ w) (ap (λ w. w ++ 34 ∷ l.tail) (sym u) ∙ sym l.split)

  pub all_written : ((c : ℕ) (w : List ℕ) → Splits rest c w → rest ≡ 34 ∷ w) → (now : List ℕ) (r : Result (Unit {0}) TooLong) → MatchResult r (λ _. length now ≤ longest) (λ _. longest < length written + length rest) → MatchResult r (λ _. now ≡ written ++ rest) (λ _. now ≡ written) → WroteName n (outcome r now)
  all_written none now (Ok u) f w = w ∙ sym (closing-quote none)
  all_written none now (Err e) f w = omega (arith, f, simp length-append at (ap length (closing-quote none)))
