-- The productions of terms put together from the pieces of a line. Assumes nothing.
use Rattle.std.proofs.Common.{◌≡◌, ℕ, ◌+◌, ◌<◌, ◌≤◌, true, List, length, get_or, inl, inr, arith}
use Rattle.grammar.specs.Regular.{inside, one, ◌then◌, ◌or◌, many, Spells, Is}
use Rattle.grammar.specs.Productions.{part, byte, letter, alnum, label_char, iri_char, string_char, escape_letter, UCHAR, ECHAR, IRIREF, BLANK_NODE_LABEL, STRING_LITERAL_QUOTE, subtag, LANGTAG, suffix, datatype, literal, comment, comment_char}
use Rattle.grammar.specs.Scanner.{piece, RunTo}
use Rattle.grammar.proofs.Slices.{byte_then, then_byte, class_at, join, none_yet, one_more, run_spells, run-units, run_rest, run_some}

-- the bytes and escapes of a string so far
abbrev pub units : Rattle.grammar.specs.Regular.Expr
units = many (one string_char or ECHAR or UCHAR part)

module _ (bs : List ℕ) (a : ℕ) (l : a < length bs) where
  pub build_iri : (e : ℕ) → get_or bs a 0 ≡ 60 → RunTo iri_char bs (a + 1) e → e < length bs → get_or bs e 0 ≡ 62 → Is (IRIREF part) (piece bs a (e + 1))
  build_iri e q r m z = record {
    spelled = byte_then bs 60 (many (one iri_char or UCHAR part) then byte 62) a (e + 1) l q (omega (arith, r.forward))
        (then_byte bs (many (one iri_char or UCHAR part)) 62 (a + 1) e m z r.forward
        (run-units bs iri_char (UCHAR part) (a + 1) (a + 1) e (omega arith) r (none_yet bs (one iri_char or UCHAR part) (a + 1))));
  }

  pub build_label : (e : ℕ) → get_or bs a 0 ≡ 95 → a + 1 < length bs → get_or bs (a + 1) 0 ≡ 58 → RunTo label_char bs (a + 1 + 1) e → a + 1 + 1 < e → Is BLANK_NODE_LABEL (piece bs a e)
  build_label e q m z r k = record {
    spelled = byte_then bs 95 (byte 58 then one label_char then many (one label_char)) a e l q (omega arith)
        (byte_then bs 58 (one label_char then many (one label_char)) (a + 1) e m z (omega arith) (run_some bs label_char (a + 1 + 1) e r k));
  }

  pub build_escape : get_or bs a 0 ≡ 92 → a + 1 < length bs → inside escape_letter (get_or bs (a + 1) 0) ≡ true → Is ECHAR (piece bs a (a + 1 + 1))
  build_escape q m i = record { spelled = byte_then bs 92 (one escape_letter) a (a + 1 + 1) l q (omega arith) (class_at bs escape_letter (a + 1) m i) }

  pub build_string : (e : ℕ) → get_or bs a 0 ≡ 34 → a + 1 ≤ e → Spells units (piece bs (a + 1) e) → e < length bs → get_or bs e 0 ≡ 34 → Is (STRING_LITERAL_QUOTE part) (piece bs a (e + 1))
  build_string e q k u m z = record { spelled = byte_then bs 34 (units then byte 34) a (e + 1) l q (omega arith) (then_byte bs units 34 (a + 1) e m z k u) }

  pub build_subtag : (e : ℕ) → get_or bs a 0 ≡ 45 → RunTo alnum bs (a + 1) e → a + 1 < e → Is subtag (piece bs a e)
  build_subtag e q r k = record { spelled = byte_then bs 45 (one alnum then many (one alnum)) a e l q (omega arith) (run_some bs alnum (a + 1) e r k) }

  pub build_tag : (m e : ℕ) → get_or bs a 0 ≡ 64 → RunTo letter bs (a + 1) m → a + 1 < m → m ≤ e → Spells (many subtag) (piece bs m e) → Is LANGTAG (piece bs a e)
  build_tag m e q r k n u = record {
    spelled = byte_then bs 64 (one letter then many (one letter) then many subtag) a e l q (omega arith)
        (join bs (one letter) (many (one letter) then many subtag) (a + 1) (a + 1 + 1) e (omega arith) (omega arith) (class_at bs letter (a + 1) (omega (arith, r.within)) (r.all (a + 1) (omega arith) k))
        (join bs (many (one letter)) (many subtag) (a + 1 + 1) m e (omega arith) n (run_spells bs letter (a + 1 + 1) m (run_rest letter bs (a + 1) m r k)) u));
  }

  pub build_datatype : (e : ℕ) → get_or bs a 0 ≡ 94 → a + 1 < length bs → get_or bs (a + 1) 0 ≡ 94 → a + 1 + 1 ≤ e → Is (IRIREF part) (piece bs (a + 1 + 1) e) → Is (datatype part) (piece bs a e)
  build_datatype e q m z k i = record { spelled = byte_then bs 94 (byte 94 then IRIREF part) a e l q (omega arith) (byte_then bs 94 (IRIREF part) (a + 1) e m z k i.spelled) }

  pub build_comment : (e : ℕ) → get_or bs a 0 ≡ 35 → RunTo comment_char bs (a + 1) e → Is comment (piece bs a e)
  build_comment e q r = record { spelled = byte_then bs 35 (many (one comment_char)) a e l q r.forward (run_spells bs comment_char (a + 1) e r) }

module _ (bs : List ℕ) (a : ℕ) where
  pub tag-suffix : (e : ℕ) → Is LANGTAG (piece bs a e) → Is (suffix part) (piece bs a e)
  tag-suffix e h = record { spelled = inr (inl h.spelled) }

  pub datatype-suffix : (e : ℕ) → Is (datatype part) (piece bs a e) → Is (suffix part) (piece bs a e)
  datatype-suffix e h = record { spelled = inr (inr h.spelled) }

  pub build_literal : (m e : ℕ) → a ≤ m → m ≤ e → Is (STRING_LITERAL_QUOTE part) (piece bs a m) → Is (suffix part) (piece bs m e) → Is (literal part) (piece bs a e)
  build_literal m e h k x y = record { spelled = join bs (STRING_LITERAL_QUOTE part) (suffix part) a m e h k x.spelled y.spelled }

  -- one escape, or a run of plain bytes, more
  pub more-escape : (k e : ℕ) → a ≤ k → k ≤ e → Spells units (piece bs a k) → Is ECHAR (piece bs k e) → Spells units (piece bs a e)
  more-escape k e h m u x = one_more bs (one string_char or ECHAR or UCHAR part) a k e h m u (inr (inl x.spelled))

  pub more-plain : (k e : ℕ) → a ≤ k → RunTo string_char bs k e → Spells units (piece bs a k) → Spells units (piece bs a e)
  more-plain k e h r u = run-units bs string_char (ECHAR or UCHAR part) a k e h r u

  pub more-subtag : (k e : ℕ) → a ≤ k → k ≤ e → Spells (many subtag) (piece bs a k) → Is subtag (piece bs k e) → Spells (many subtag) (piece bs a e)
  more-subtag k e h m u x = one_more bs subtag a k e h m u x.spelled
