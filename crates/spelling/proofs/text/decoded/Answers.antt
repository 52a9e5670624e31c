use Rattle.std.proofs.Common.{inl, inr}
use Rattle.spelling.specs.Names.{tab, backspace, newline, return, feed, quote, apostrophe, backslash}
use Rattle.spelling.proofs.text.decoded.Goals as goal

pub returns-in-t : goal.returns-in-t
returns-in-t c = rw (← c.from.ensures, c.in-t.is) tab

pub returns-in-b : goal.returns-in-b
returns-in-b c = rw (← c.from.ensures, c.in-b.is) backspace

pub returns-in-n : goal.returns-in-n
returns-in-n c = rw (← c.from.ensures, c.in-n.is) newline

pub returns-in-r : goal.returns-in-r
returns-in-r c = rw (← c.from.ensures, c.in-r.is) return

pub returns-in-f : goal.returns-in-f
returns-in-f c = rw (← c.from.ensures, c.in-f.is) feed

pub returns-in-34 : goal.returns-in-34
returns-in-34 c = rw (← c.from.ensures) (elim c.in-34.is [ inl e ↦ rw e quote | inr (inl e) ↦ rw e apostrophe | inr (inr e) ↦ rw e backslash ])
