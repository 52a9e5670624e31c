-- Expressions that are LL(1), whose strings are cut off in one way from what follows. Assumes nothing.
use Rattle.std.proofs.Common.{◌≡◌, ℕ, Bool, true, ◌&&◌, List, [], ◌∷◌, ◌++◌, sym, refl, ap, ◌∙◌, subst, inl, inr}
use Rattle.std.proofs.lemmas.List.{append_assoc}
use Rattle.std.proofs.lemmas.Bool.{and_parts}
use Rattle.grammar.specs.Regular.{Range, Expr, never, empty, one, ◌then◌, ◌or◌, many, Star, stop, more, Spells}
use Rattle.grammar.proofs.Spans.{First, In}
use Rattle.grammar.proofs.Classes.{apart, apart_out, in_left, first-left, first_right, neither}

-- the first bytes of a string of the expression that is followed by a byte of the class, or by the end
abbrev pub firsts : Expr → List Range → List Range
firsts never fs = []
firsts empty fs = fs
firsts (one rs) fs = rs
firsts (a then b) fs = firsts a (firsts b fs)
firsts (a or b) fs = firsts a fs ++ firsts b fs
firsts (many a) fs = firsts a [] ++ fs

-- at each choice the next byte decides
abbrev pub ll1 : Expr → List Range → Bool
ll1 never fs = true
ll1 empty fs = true
ll1 (one rs) fs = true
ll1 (a then b) fs = ll1 a (firsts b fs) && ll1 b fs
ll1 (a or b) fs = apart (firsts a fs) (firsts b fs) && (ll1 a fs && ll1 b fs)
ll1 (many a) fs = apart (firsts a []) fs && ll1 a (firsts a [] ++ fs)

-- any number of strings of L, whose first bytes are in rs, before a byte of fs
first-many : (L : List ℕ → Type 0) (rs fs : List Range) (u x : List ℕ) → ((c : ℕ) (s : List ℕ) → L (c ∷ s) → In rs c)
    → Star L u → First (In fs) x → First (In (rs ++ fs)) (u ++ x)
first-many L rs fs u x b stop f = first_right rs fs x f
first-many L rs fs u x b (more [] t e h k) f = rw e (first-many L rs fs t x b k f)
first-many L rs fs u x b (more (c ∷ s) t e h k) f = rw e (in_left rs fs c (b c s h))

-- firsts is sound
pub begin : (e : Expr) (fs : List Range) (u x : List ℕ) → Spells e u → First (In fs) x → First (In (firsts e fs)) (u ++ x)
begin never fs u x h f = absurd h
begin empty fs u x h f = rw h f
begin (one rs) fs u x (c, e, h) f = rw e h
begin (a then b) fs u x (s, t, e, h, k) f = rw (e, append_assoc) (begin a (firsts b fs) s (t ++ x) h (begin b fs t x k f))
begin (a or b) fs u x (inl h) f = first-left (firsts a fs) (firsts b fs) (u ++ x) (begin a fs u x h f)
begin (a or b) fs u x (inr h) f = first_right (firsts a fs) (firsts b fs) (u ++ x) (begin b fs u x h f)
begin (many a) fs u x h f = first-many (Spells a) (firsts a []) fs u x (λ c s k. begin a [] (c ∷ s) [] k tt) h f

-- a string of L is cut off in one way from what begins with a byte of the class
abbrev pub Cuts : (List ℕ → Type 0) → List Range → Type 0
Cuts L fs = (u v x y : List ℕ) → L u → L v → First (In fs) x → First (In fs) y → u ++ x ≡ v ++ y → (u ≡ v) × (x ≡ y)

regroup : (u v s t s' t' x y : List ℕ) → u ≡ s ++ t → v ≡ s' ++ t' → u ++ x ≡ v ++ y → s ++ (t ++ x) ≡ s' ++ (t' ++ y)
regroup u v s t s' t' x y p q e = cc (append_assoc s t x, append_assoc s' t' y)

nil_parts : (u x : List ℕ) → u ++ x ≡ [] → (u ≡ []) × (x ≡ [])
nil_parts [] x e = (refl, e)
nil_parts (c ∷ u) x e = absurd (cc)

-- the strings are empty if the classes that they begin with are apart
cuts-apart : (rs ss : List Range) (u v x y : List ℕ) → apart rs ss ≡ true → First (In rs) (u ++ x) → First (In ss) (v ++ y) → u ++ x ≡ v ++ y → (u ≡ v) × (x ≡ y)
cuts-apart rs ss u v x y h f g e =
    let n = neither rs ss (u ++ x) h f (rw e g) in
    let p = nil_parts u x n in
    let q = nil_parts v y (sym e ∙ n) in
    (cc (p.0, q.0), cc (p.1, q.1))

cuts_or : (a b : Expr) (fs : List Range) → apart (firsts a fs) (firsts b fs) ≡ true → Cuts (Spells a) fs → Cuts (Spells b) fs → Cuts (Spells (a or b)) fs
cuts_or a b fs out on-a on-b u v x y (inl h) (inl k) f g e = on-a u v x y h k f g e
cuts_or a b fs out on-a on-b u v x y (inl h) (inr k) f g e = cuts-apart (firsts a fs) (firsts b fs) u v x y out (begin a fs u x h f) (begin b fs v y k g) e
cuts_or a b fs out on-a on-b u v x y (inr h) (inl k) f g e =
    let c = cuts-apart (firsts a fs) (firsts b fs) v u y x out (begin a fs v y k g) (begin b fs u x h f) (sym e) in
    (sym c.0, sym c.1)
cuts_or a b fs out on-a on-b u v x y (inr h) (inr k) f g e = on-b u v x y h k f g e

module _ (a : Expr) (fs : List Range) (out : apart (firsts a []) fs ≡ true) (on : Cuts (Spells a) (firsts a [] ++ fs)) where
  -- a run before a byte that follows it is empty where that byte comes first
  none_left : (v x y : List ℕ) → Star (Spells a) v → First (In fs) x → x ≡ v ++ y → v ≡ []
  none_left v x y stop f e = refl
  none_left v x y (more [] t p h k) f e = p ∙ none_left t x y k f (e ∙ ap (λ l. l ++ y) p)
  none_left v x y (more (c ∷ s) t p h k) f e =
      absurd (apart_out (firsts a []) fs c out (begin a [] (c ∷ s) [] h tt) (subst (First (In fs)) (e ∙ ap (λ l. l ++ y) p) f))

  cuts-many : Cuts (Star (Spells a)) fs
  cuts-many u v x y stop k f g e = let n = none_left v x y k f e in (sym n, cc)
  cuts-many u v x y (more s t p h k) stop f g e =
      let n = none_left u y x (more s t p h k) g (sym e) in (n, cc)
  cuts-many u v x y (more s t p h k) (more s' t' q h' k') f g e =
      let c = on s s' (t ++ x) (t' ++ y) h h' (begin (many a) fs t x k f) (begin (many a) fs t' y k' g) (regroup u v s t s' t' x y p q e) in
      let d = cuts-many t t' x y k k' f g c.1 in
      (cc (c.0, d.0), d.1)

-- an expression that is LL(1) before a class is cut off in one way
pub cuts : (e : Expr) (fs : List Range) → ll1 e fs ≡ true → Cuts (Spells e) fs
cuts never fs l u v x y h k f g e = absurd h
cuts empty fs l u v x y h k f g e = (cc, cc)
cuts (one rs) fs l u v x y (c, p, h) (d, q, k) f g e = (cc, cc)
cuts (a then b) fs l u v x y (s, t, p, h, k) (s', t', q, h', k') f g e =
    let m = and_parts (ll1 a (firsts b fs)) (ll1 b fs) l in
    let c = cuts a (firsts b fs) m.0 s s' (t ++ x) (t' ++ y) h h' (begin b fs t x k f) (begin b fs t' y k' g) (regroup u v s t s' t' x y p q e) in
    let d = cuts b fs m.1 t t' x y k k' f g c.1 in
    (cc (c.0, d.0), d.1)
cuts (a or b) fs l u v x y h k f g e =
    let m = and_parts (apart (firsts a fs) (firsts b fs)) (ll1 a fs && ll1 b fs) l in
    let n = and_parts (ll1 a fs) (ll1 b fs) m.1 in
    cuts_or a b fs m.0 (cuts a fs n.0) (cuts b fs n.1) u v x y h k f g e
cuts (many a) fs l u v x y h k f g e =
    let m = and_parts (apart (firsts a []) fs) (ll1 a (firsts a [] ++ fs)) l in
    cuts-many a fs m.0 (cuts a (firsts a [] ++ fs) m.1) u v x y h k f g e
