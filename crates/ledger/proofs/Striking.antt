-- A strike gives back what stood at open.
use Rattle.std.proofs.Common.{◌≡◌, ℕ, ◌+◌, ◌-◌, ◌≤◌, List, [], ◌∷◌, ◌++◌, length, refl, sym, ap, subst, ◌∙◌, false, arith, Some, None, Option}
use Rattle.std.proofs.Math.Seq.{take-length}
use Rattle.std.proofs.lemmas.Bool.{cond_both, true≢false}
use Rattle.triples.specs.declared.triple.Triple.{Triple}
use Rattle.entailment.specs.Terms.{Term, thirty}
use Rattle.ledger.specs.declared.mark.Mark.{Mark}
use Rattle.ledger.specs.Ledger.{Ledger, cut_to}
use Rattle.ledger.specs.Steps.{Sheet, Outcome, refuses, is_refused, under, open_step, bytes_step, blank_step, enter_step, strike_step}
use Rattle.ledger.specs.Loads.{Line, document_step, load_step}
use Rattle.ledger.specs.Calls.{Call, opens, names, blanks, enters, loads, keeps, strikes, closes, Answer, Reply, Gives, Run, none, more}
use Rattle.ledger.specs.Laws.{is_keep, Without, StrikeRestores}
use Rattle.ledger.proofs.Extending.{Extends, front, longer, counted, bytes_adds, named_under, blank_adds, enter_adds}
use Rattle.ledger.proofs.Appending.{document_adds}

-- what stood at open is no more than what stands
abbrev Within : Option Mark → ℕ → ℕ → Type 0
Within None n k = Unit {0}
Within (Some m) n k = (m.terms ≤ 30 + n) × (m.triples ≤ k)

abbrev Sound : Ledger → Type 0
Sound l = Within l.mark (length l.more) (length l.triples)

-- a strike would give back the same
record Restores (l l' : Ledger) : Type 0 where
  struck : cut_to l'.mark l' ≡ cut_to l.mark l
  sound : Sound l'

same : (l : Ledger) → Sound l → Restores l l
same l h = record { struck = refl; sound = h }

with_sheet : (m : Mark) (xs : List Term) (ts : List Triple) (l' : Ledger)
    → Extends (record { more = xs; triples = ts; mark = Some m }) l' → Within (Some m) (length xs) (length ts)
    → Restores (record { more = xs; triples = ts; mark = Some m }) l'
with_sheet m xs ts l' e h =
    record {
      struck = rw (e.mark, front (m.terms - 30) xs l'.more (omega (arith, h.0)) e.grows.more, front m.triples ts l'.triples h.1 e.grows.triples) refl;
      sound = rw e.mark (omega (arith, h.0, longer xs l'.more e.grows.more), omega (arith, h.1, longer ts l'.triples e.grows.triples));
    }

-- a call under a sheet that only adds
under_restores : {A : Type 0} (number : ℕ) (s : Sheet) (f : Ledger → Outcome A) → ((l : Ledger) → Extends l (f l).after) → (l : Ledger) → Sound l → Restores l (under number s f l).after
under_restores {A} number s f adds l h = go l.mark l.more l.triples h
  where
    go : (o : Option Mark) (xs : List Term) (ts : List Triple) → Sound (record { more = xs; triples = ts; mark = o })
        → Restores (record { more = xs; triples = ts; mark = o }) (under number s f (record { more = xs; triples = ts; mark = o })).after
    go None xs ts k = same _ k
    go (Some m) xs ts k =
        let l₁ : Ledger = record { more = xs; triples = ts; mark = Some m } in
        cond_both (is_refused number s l₁) (refuses _ l₁) (f l₁) (λ x. Restores l₁ x.after) (λ _. same l₁ k) (λ _. with_sheet m xs ts (f l₁).after (adds l₁) k)

load_restores : (side number : ℕ) (s : Sheet) (room : ℕ) (lines : List Line) (l : Ledger) → Sound l → Restores l (load_step side number s room lines l).after
load_restores side number s room lines l h = go l.mark l.more l.triples h
  where
    go : (o : Option Mark) (xs : List Term) (ts : List Triple) → Sound (record { more = xs; triples = ts; mark = o })
        → Restores (record { more = xs; triples = ts; mark = o }) (load_step side number s room lines (record { more = xs; triples = ts; mark = o })).after
    go None xs ts k = same _ k
    go (Some m) xs ts k =
        let l₁ : Ledger = record { more = xs; triples = ts; mark = Some m } in
        cond_both (is_refused number s l₁) _ (document_step side room lines l₁) (λ x. Restores l₁ x.after) (λ _. same l₁ k)
        (λ _. with_sheet m xs ts _ (document_adds side room lines l₁) k)

strike_restores_one : (number : ℕ) (s : Sheet) (l : Ledger) → Sound l → Restores l (under number s strike_step l).after
strike_restores_one number s l h = go l.mark l.more l.triples h
  where
    go : (o : Option Mark) (xs : List Term) (ts : List Triple) → Sound (record { more = xs; triples = ts; mark = o })
        → Restores (record { more = xs; triples = ts; mark = o }) (under number s strike_step (record { more = xs; triples = ts; mark = o })).after
    go None xs ts k = same _ k
    go (Some m) xs ts k =
        let l₁ : Ledger = record { more = xs; triples = ts; mark = Some m } in
        cond_both (is_refused number s l₁) (refuses _ l₁) (strike_step l₁) (λ x. Restores l₁ x.after) (λ _. same l₁ k)
        (λ _. record { struck = refl; sound = tt })

open_restores : (number : ℕ) (l : Ledger) → Sound l → Restores l (open_step number l).after
open_restores number l h = go l.mark l.more l.triples h
  where
    go : (o : Option Mark) (xs : List Term) (ts : List Triple) → Sound (record { more = xs; triples = ts; mark = o })
        → Restores (record { more = xs; triples = ts; mark = o }) (open_step number (record { more = xs; triples = ts; mark = o })).after
    go None xs ts k =
        let all : length (thirty ++ xs) - 30 ≡ length xs = omega (arith, counted xs) in
        record { struck = rw (all, take-length xs, take-length ts) refl; sound = (omega (arith, counted xs), omega arith) }
    go (Some m) xs ts k = same _ k

moved : (l l₁ l₂ : Ledger) → l₂ ≡ l₁ → Restores l l₁ → Restores l l₂
moved l l₁ l₂ e h = subst (Restores l) (sym e) h

call_restores : (side number : ℕ) (c : Call) (l : Ledger) (r : Reply) → Gives side number c l r → is_keep c ≡ false → Sound l → Restores l r.after
call_restores side number opens l r g e h = moved l _ _ (ap (λ x. x.after) g) (open_restores number l h)
call_restores side number (names s bs) l r (o, n, g) e h =
    let (lawful, gives) = named_under number s side bs l o n in
    moved l _ _ (ap (λ x. x.after) g ∙ ap (λ x. x.after) gives) (under_restores number s (bytes_step lawful side bs) (bytes_adds lawful side bs) l h)
call_restores side number (blanks s) l r g e h = moved l _ _ (ap (λ x. x.after) g) (under_restores number s (blank_step side) (blank_adds side) l h)
call_restores side number (enters s t) l r g e h = moved l _ _ (ap (λ x. x.after) g) (under_restores number s (enter_step t) (enter_adds t) l h)
call_restores side number (loads s text room) l r (o, n, g) e h =
    moved l _ _ (ap (λ x. x.after) g ∙ ap (λ x. x.after) n.step) (load_restores side number s room n.lines l h)
call_restores side number (keeps s) l r g e h = absurd (true≢false e)
call_restores side number (strikes s) l r g e h = moved l _ _ (ap (λ x. x.after) g) (strike_restores_one number s l h)
call_restores side number closes l r g e h = moved l _ _ g.0 (same l h)

run_restores : (side number : ℕ) (cs : List Call) (ans : List Answer) (l l' : Ledger) → Run side number cs ans l l' → Without is_keep cs → Sound l → Restores l l'
run_restores side number [] [] l l' none w h = same l h
run_restores side number [] (a ∷ ans) l l' run w h = elim run [ ]
run_restores side number (c ∷ cs) [] l l' run w h = elim run [ ]
run_restores side number (c ∷ cs) (a ∷ ans) l l' (more {l₁ = l₁} g run) (w, ws) h =
    let one = call_restores side number c l _ g w h in
    let rest = run_restores side number cs ans l₁ l' run ws one.sound in
    record { struck = rest.struck ∙ one.struck; sound = rest.sound }

pub strike_restores : StrikeRestores
strike_restores side number cs ans l l' run w e =
    let sound : Sound l = subst (λ o. Within o (length l.more) (length l.triples)) (sym e) tt in
    let all = run_restores side number cs ans l l' run w sound in
    all.struck ∙ ap (λ o. cut_to o l) e
