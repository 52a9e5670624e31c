-- A string is cut in one way into pieces that a list of expressions spells. Assumes nothing.
use Rattle.std.proofs.Common.{◌≡◌, ℕ, true, false, List, [], ◌∷◌, ◌++◌, sym, refl, ◌∙◌, inl, inr}
use Rattle.std.specs.List.{concat, AllZip}
use Rattle.std.proofs.lemmas.List.{append-nil}
use Rattle.std.proofs.lemmas.Bool.{and_parts}
use Rattle.grammar.specs.Regular.{Expr, empty, ◌then◌, ◌or◌, Spells}
use Rattle.grammar.proofs.Spans.{First, In}
use Rattle.grammar.proofs.Classes.{apart, neither}
use Rattle.grammar.proofs.Derivatives.{nullable, nullable_in}
use Rattle.grammar.proofs.LL1.{firsts, ll1, begin, cuts}

abbrev pub thens : List Expr → Expr
thens [] = empty
thens (e ∷ es) = e then thens es

pub pieces_spell : (es : List Expr) (us : List (List ℕ)) → AllZip Spells es us → Spells (thens es) (concat us)
pieces_spell [] [] p = refl
pieces_spell [] (u ∷ us) p = absurd p
pieces_spell (e ∷ es) [] p = absurd p
pieces_spell (e ∷ es) (u ∷ us) p = (u, concat us, refl, p.0, pieces_spell es us p.1)

-- what an expression spells begins with one of its first bytes
pub begins_in : (e : Expr) (u : List ℕ) → Spells e u → First (In (firsts e [])) u
begins_in e u h = rw append-nil at (begin e [] u [] h tt)

-- two parts of a string
pub one_split : (a b : Expr) (s t s' t' : List ℕ) → ll1 a (firsts b []) ≡ true
    → Spells a s → Spells b t → Spells a s' → Spells b t' → s ++ t ≡ s' ++ t' → (s ≡ s') × (t ≡ t')
one_split a b s t s' t' l h k h' k' e = cuts a (firsts b []) l s s' t t' h h' (begins_in b t k) (begins_in b t' k') e

pub same_pieces : (es : List Expr) (us vs : List (List ℕ)) → ll1 (thens es) [] ≡ true → AllZip Spells es us → AllZip Spells es vs → concat us ≡ concat vs → us ≡ vs
same_pieces [] [] [] l p q e = refl
same_pieces [] [] (v ∷ vs) l p q e = absurd q
same_pieces [] (u ∷ us) vs l p q e = absurd p
same_pieces (a ∷ es) [] vs l p q e = absurd p
same_pieces (a ∷ es) (u ∷ us) [] l p q e = absurd q
same_pieces (a ∷ es) (u ∷ us) (v ∷ vs) l p q e =
    let m = and_parts (ll1 a (firsts (thens es) [])) (ll1 (thens es) []) l in
    let c = one_split a (thens es) u (concat us) v (concat vs) m.0 p.0 (pieces_spell es us p.1) q.0 (pieces_spell es vs q.1) e in
    let d = same_pieces es us vs m.1 p.1 q.1 c.1 in
    cc c.0

-- no string is spelled by two expressions that begin apart, if one of them does not spell the empty string
pub not_both : (a b : Expr) (u : List ℕ) → apart (firsts a []) (firsts b []) ≡ true → nullable a ≡ false → Spells a u → Spells b u → ⊥
not_both a b u h n x y =
    let e = neither (firsts a []) (firsts b []) u h (begins_in a u x) (begins_in b u y) in
    cc (nullable_in a (rw e at x))

-- nor after a string of a third
pub not_both-after : (w a b : Expr) (u : List ℕ) → ll1 w (firsts (a or b) []) ≡ true
    → apart (firsts a []) (firsts b []) ≡ true → nullable a ≡ false → Spells (w then a) u → Spells (w then b) u → ⊥
not_both-after w a b u l h n (s, t, e, x, y) (s', t', e', x', y') =
    let c = one_split w (a or b) s t s' t' l x (inl y) x' (inr y') (sym e ∙ e') in
    not_both a b t h n y (rw c.1 y')
