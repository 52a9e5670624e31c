-- A line gets one verdict, and so do lines. Assumes nothing.
use Rattle.std.proofs.Common.{◌≡◌, List, sym, refl, ◌∙◌}
use Rattle.grammar.specs.Readings.{Term, Reading, a_triple, a_comment, nothing, a_fault}
use Rattle.grammar.specs.Documents.{Row}
use Rattle.linter.specs.Verdicts.{Verdict, Judged, JudgedTriple, short, long_subject, long_predicate, long_object, Verdicts, none, more}

one-triple : (s p o : Term) (v w : Verdict) → JudgedTriple s p o v → JudgedTriple s p o w → v ≡ w
one-triple s p o v w (short a b c) (short x y z) = refl
one-triple s p o v w (short a b c) (long_subject x) = absurd (a x)
one-triple s p o v w (short a b c) (long_predicate x y) = absurd (b y)
one-triple s p o v w (short a b c) (long_object x y z) = absurd (c z)
one-triple s p o v w (long_subject a) (short x y z) = absurd (x a)
one-triple s p o v w (long_subject a) (long_subject x) = refl
one-triple s p o v w (long_subject a) (long_predicate x y) = absurd (x a)
one-triple s p o v w (long_subject a) (long_object x y z) = absurd (x a)
one-triple s p o v w (long_predicate a b) (short x y z) = absurd (y b)
one-triple s p o v w (long_predicate a b) (long_subject x) = absurd (a x)
one-triple s p o v w (long_predicate a b) (long_predicate x y) = refl
one-triple s p o v w (long_predicate a b) (long_object x y z) = absurd (y b)
one-triple s p o v w (long_object a b c) (short x y z) = absurd (z c)
one-triple s p o v w (long_object a b c) (long_subject x) = absurd (a x)
one-triple s p o v w (long_object a b c) (long_predicate x y) = absurd (b y)
one-triple s p o v w (long_object a b c) (long_object x y z) = refl

pub one-verdict : (r : Reading) (v w : Verdict) → Judged r v → Judged r w → v ≡ w
one-verdict (a_triple at s p o) v w h k = one-triple s p o v w h k
one-verdict a_comment v w h k = h ∙ sym k
one-verdict nothing v w h k = h ∙ sym k
one-verdict (a_fault n i) v w h k = h ∙ sym k

pub one_verdicts : (rows : List Row) (vs ws : List Verdict) → Verdicts rows vs → Verdicts rows ws → vs ≡ ws
one_verdicts rows vs ws none none = refl
one_verdicts rows vs ws (more {row = row} {rows = rest} {v = v} {vs = us} j h) (more {v = w} {vs = xs} k g) =
    let p = one-verdict row.reading v w j k in
    let q = one_verdicts rest us xs h g in
    cc
