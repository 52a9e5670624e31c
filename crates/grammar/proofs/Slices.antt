-- Pieces of a line, and what they spell. Assumes nothing.
use Rattle.std.proofs.Common.{◌≡◌, ℕ, zero, suc, ◌+◌, ◌-◌, ◌<◌, ◌≤◌, true, List, [], ◌∷◌, ◌++◌, length, get_or, drop, sym, ap, ◌∙◌, inl, append_assoc, append-nil, arith, take-add}
use Rattle.std.proofs.lemmas.Bool.Decides.{nat_tests}
use Rattle.std.proofs.lemmas.List.{drop-drop}
use Rattle.std.proofs.lemmas.List.Edits.{between_none, between_more}
use Rattle.std.proofs.lemmas.Slice.{between_to_end}
use Rattle.grammar.specs.Regular.{Range, to, inside, Expr, one, ◌then◌, ◌or◌, many, Star, stop, more, Spells}
use Rattle.grammar.specs.Productions.{byte}
use Rattle.grammar.specs.Scanner.{piece, RunTo}

pub piece-none : (bs : List ℕ) (a : ℕ) → piece bs a a ≡ []
piece-none bs a = between_none bs a

pub piece-one : (bs : List ℕ) (a : ℕ) → a < length bs → piece bs a (a + 1) ≡ get_or bs a 0 ∷ []
piece-one bs a h = cc (between_more bs a a 0 (omega arith) h, between_none bs a)

pub piece_join : (bs : List ℕ) (a b c : ℕ) → a ≤ b → b ≤ c → piece bs a c ≡ piece bs a b ++ piece bs b c
piece_join bs a b c h k =
    let x : c - a ≡ (b - a) + (c - b) = omega arith in
    let y : a + (b - a) ≡ b = omega arith in
    cc (take-add (b - a) (c - b) (drop a bs), drop-drop (b - a) a bs)

pub piece_whole : (bs : List ℕ) → piece bs 0 (length bs) ≡ bs
piece_whole bs = between_to_end bs 0 (length bs) (omega arith)

star_join : (L : List ℕ → Type 0) (u v : List ℕ) → Star L u → Star L v → Star L (u ++ v)
star_join L u v stop x = x
star_join L u v (more p t e y z) x = more p (t ++ v) (ap (λ l. l ++ v) e ∙ append_assoc p t v) y (star_join L t v z x)

star_wider : (L K : List ℕ → Type 0) (u : List ℕ) → ((s : List ℕ) → L s → K s) → Star L u → Star K u
star_wider L K u f stop = stop
star_wider L K u f (more s t e x y) = more s t e (f s x) (star_wider L K t f y)

-- the bytes of a run after its first
pub run_rest : (rs : List Range) (bs : List ℕ) (k e : ℕ) → RunTo rs bs k e → k < e → RunTo rs bs (k + 1) e
run_rest rs bs k e r l = record { forward = omega arith; within = r.within; all = λ j a b. r.all j (omega arith) b; past = r.past }

module _ (bs : List ℕ) where
  pub class_at : (rs : List Range) (k : ℕ) → k < length bs → inside rs (get_or bs k 0) ≡ true → Spells (one rs) (piece bs k (k + 1))
  class_at rs k h e = (get_or bs k 0, piece-one bs k h, e)

  pub byte_at : (b k : ℕ) → k < length bs → get_or bs k 0 ≡ b → Spells (byte b) (piece bs k (k + 1))
  byte_at b k h e = class_at (to b b ∷ []) k h (grind (arith, nat_tests))

  pub join : (A B : Expr) (a b c : ℕ) → a ≤ b → b ≤ c → Spells A (piece bs a b) → Spells B (piece bs b c) → Spells (A then B) (piece bs a c)
  join A B a b c h k x y = (piece bs a b, piece bs b c, piece_join bs a b c h k, x, y)

  -- a byte before a piece, and one after it
  pub byte_then : (b : ℕ) (B : Expr) (a e : ℕ) → a < length bs → get_or bs a 0 ≡ b → a + 1 ≤ e → Spells B (piece bs (a + 1) e) → Spells (byte b then B) (piece bs a e)
  byte_then b B a e l q h x = join (byte b) B a (a + 1) e (omega arith) h (byte_at b a l q) x

  pub then_byte : (A : Expr) (b a e : ℕ) → e < length bs → get_or bs e 0 ≡ b → a ≤ e → Spells A (piece bs a e) → Spells (A then byte b) (piece bs a (e + 1))
  then_byte A b a e l q h x = join A (byte b) a e (e + 1) h (omega arith) x (byte_at b e l q)

  pub one_more : (A : Expr) (a b c : ℕ) → a ≤ b → b ≤ c → Spells (many A) (piece bs a b) → Spells A (piece bs b c) → Spells (many A) (piece bs a c)
  one_more A a b c h k x y = rw (piece_join bs a b c h k) (star_join (Spells A) (piece bs a b) (piece bs b c) x (more (piece bs b c) [] (sym (append-nil (piece bs b c))) y stop))

  pub none_yet : (A : Expr) (a : ℕ) → Spells (many A) (piece bs a a)
  none_yet A a = rw (piece-none bs a) stop

  run_from : (rs : List Range) (n k e : ℕ) → e ≡ k + n → e ≤ length bs → ((j : ℕ) → k ≤ j → j < e → inside rs (get_or bs j 0) ≡ true) → Spells (many (one rs)) (piece bs k e)
  run_from rs zero k e q l i = let z : k ≡ e = omega arith in rw z (none_yet (one rs) e)
  run_from rs (suc n) k e q l i =
      more (piece bs k (k + 1)) (piece bs (k + 1) e) (piece_join bs k (k + 1) e (omega arith) (omega arith))
      (class_at rs k (omega arith) (i k (omega arith) (omega arith))) (run_from rs n (k + 1) e (omega arith) l (λ j a b. i j (omega arith) b))

  pub run_spells : (rs : List Range) (k e : ℕ) → RunTo rs bs k e → Spells (many (one rs)) (piece bs k e)
  run_spells rs k e r = run_from rs (e - k) k e (omega (arith, r.forward)) r.within r.all

  -- a run of a class as units of a wider kind
  pub run-units : (rs : List Range) (B : Expr) (a k e : ℕ) → a ≤ k → RunTo rs bs k e → Spells (many (one rs or B)) (piece bs a k) → Spells (many (one rs or B)) (piece bs a e)
  run-units rs B a k e h r x =
      rw (piece_join bs a k e h r.forward)
      (star_join (Spells (one rs or B)) (piece bs a k) (piece bs k e) x (star_wider (Spells (one rs)) (Spells (one rs or B)) (piece bs k e) (λ s y. inl y) (run_spells rs k e r)))

  -- at least one byte of a class
  pub run_some : (rs : List Range) (k e : ℕ) → RunTo rs bs k e → k < e → Spells (one rs then many (one rs)) (piece bs k e)
  run_some rs k e r l =
      join (one rs) (many (one rs)) k (k + 1) e (omega arith) (omega arith) (class_at rs k (omega (arith, r.within)) (r.all k (omega arith) l))
      (run_spells rs (k + 1) e (run_rest rs bs k e r l))
