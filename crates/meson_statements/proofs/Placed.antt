-- What is inserted at a place is whole lines of the code's statements, and UTF-8 if the code is.
use Rattle.std.proofs.Common.{◌≡◌, ℕ, ◌+◌, ◌-◌, ◌<◌, ◌≤◌, true, List, [], ◌∷◌, length, drop, get_or, Option, refl, sym, ap, ◌∙◌, subst, take, inl, arith, length-drop}
use Rattle.std.proofs.lemmas.Bool.{cond_both}
use Rattle.std.proofs.lemmas.List.{get_or-drop, get_or-reverse, length-reverse}
use Rattle.std.proofs.lemmas.List.Sums.{list_all-from_AllPass, prefix_len-le-length, prefix_len_passes}
use Rattle.std.proofs.lemmas.Str.{IsUtf8-append}
use Rattle.std.specs.List.{prefix_len}
use Rattle.std.specs.Prelude.{reverse}
use Rattle.std.specs.Str.{IsUtf8}
use Rattle.meson_lex.specs.Bytes.{is_blank}
use Rattle.meson_lex.specs.Items.{Lexeme, joined, AreItems, IsItemList}
use Rattle.meson_lex.specs.Kinds.{IsLineEnd, OfKind}
use Rattle.meson_lex.specs.declared.kinds.Kind.{Kind}
use Rattle.meson_lex.specs.declared.kinds.Kind.TheVariants.{LineEnd}
use Rattle.meson_layout.specs.Looks.{is_line_end}
use Rattle.meson_layout.specs.Statements.{line_end_of}
use Rattle.meson_layout.proofs.Ends.{line-kind}
use Rattle.meson_syntax.specs.Reads.{Spells}
use Rattle.meson_syntax.specs.Tree.{Plain}
use Rattle.meson_edit.specs.ExchangedLines.{IsLinesText, file_statements}
use Rattle.meson_statements.specs.declared.places.Side.{Side}
use Rattle.meson_statements.specs.declared.places.Side.TheVariants as side
use Rattle.meson_statements.specs.Gaps.{last_blanks}
use Rattle.meson_statements.specs.Indented.{indented, is_indent}
use Rattle.meson_statements.specs.Places.{end_of, gap_at, side_indent, text_at}
use Rattle.meson_statements.proofs.BlankLines.{empty-after, empty-before, empty-utf8}
use Rattle.meson_statements.proofs.Lines.{indented-lines}
use Rattle.meson_statements.proofs.Utf8.{all-utf8}

-- ---- the indent

last-blank : (text : List ℕ) (n k d : ℕ) → n ≡ prefix_len is_blank (reverse text) → n ≤ length text → k < length (drop (length text - n) text)
    → is_blank (get_or (drop (length text - n) text) k d) ≡ true
last-blank text n k d is few inside =
    let size = length-drop (length text - n) text in
    let there : get_or (drop (length text - n) text) k d ≡ get_or text (length text - n + k) d = get_or-drop (length text - n) text k d in
    let at : length text - 1 - (n - 1 - k) ≡ length text - n + k = omega arith in
    let back : get_or (reverse text) (n - 1 - k) d ≡ get_or text (length text - n + k) d =
    get_or-reverse text (n - 1 - k) d (omega arith) ∙ ap (λ i. get_or text i d) at in
    ap is_blank (there ∙ sym back) ∙ prefix_len_passes is_blank (reverse text) (n - 1 - k) d (omega arith)

pub blanks-indent : (text : List ℕ) → is_indent (last_blanks text) ≡ true
blanks-indent text =
    let n = prefix_len is_blank (reverse text) in
    let size = length-reverse text in
    let most = prefix_len-le-length is_blank (reverse text) in
    list_all-from_AllPass is_blank (last_blanks text) (λ k d inside. last-blank text n k d refl (omega arith) inside)

side-indent : (source : List ℕ) (at_ : Side) → is_indent (side_indent source at_) ≡ true
side-indent source (side.Above s) = blanks-indent (take s.from source)
side-indent source (side.Below s) = blanks-indent (take s.from source)
side-indent source (side.End last) = refl

-- ---- the line end

of-line : (k : Kind) (text : List ℕ) → k ≡ LineEnd → OfKind k text → IsLineEnd text
of-line k text is of = subst (λ k. OfKind k text) is of

pub end-is : (xs : List Lexeme) (rest : List ℕ) → AreItems xs rest → IsLineEnd (end_of xs)
end-is [] rest each = inl refl
end-is (x ∷ xs) rest each =
    cond_both (is_line_end x.kind) x (line_end_of xs) (λ y. IsLineEnd y.text)
    (λ h. of-line x.kind x.text (line-kind x.kind h) each.0.0)
    (λ h. end-is xs rest each.1)

-- ---- what is inserted

module _ (source : List ℕ) (xs : List Lexeme) (list : IsItemList source xs) (code : List ℕ) (ys : List Lexeme) (are : IsItemList code ys) (blank : Option ℕ) where
  is_end : IsLineEnd (end_of xs)
  is_end = end-is xs [] list.each

  abbrev lines-at : Side → List ℕ
  lines-at at_ = joined (indented (side_indent source at_) (end_of xs) true ys)

  pub placed-lines : (t : Plain) → Spells code t → (at_ : Side) → IsLinesText (text_at source xs blank code ys at_) (file_statements t)
  placed-lines t s at_ = by-place at_ (indented-lines code t s ys are (side_indent source at_) (end_of xs) (side-indent source at_) is_end)
    where
      by-place : (at_ : Side) → IsLinesText (lines-at at_) (file_statements t) → IsLinesText (text_at source xs blank code ys at_) (file_statements t)
      by-place (side.Above p) l = empty-after (end_of xs) is_end _ (file_statements t) l (gap_at source xs blank code (side.Above p))
      by-place (side.Below p) l = empty-before (end_of xs) is_end _ (file_statements t) l (gap_at source xs blank code (side.Below p))
      by-place (side.End p) l = empty-before (end_of xs) is_end _ (file_statements t) l (gap_at source xs blank code (side.End p))

  pub placed-utf8 : IsUtf8 code → (at_ : Side) → IsUtf8 (text_at source xs blank code ys at_)
  placed-utf8 u at_ = by-place at_ (all-utf8 (side_indent source at_) (end_of xs) (side-indent source at_) is_end ys are.each (subst IsUtf8 (sym are.joins) u) true)
    where
      by-place : (at_ : Side) → IsUtf8 (lines-at at_) → IsUtf8 (text_at source xs blank code ys at_)
      by-place (side.Above p) l = IsUtf8-append (lines-at (side.Above p)) _ l (empty-utf8 (end_of xs) is_end (gap_at source xs blank code (side.Above p)))
      by-place (side.Below p) l = IsUtf8-append _ (lines-at (side.Below p)) (empty-utf8 (end_of xs) is_end (gap_at source xs blank code (side.Below p))) l
      by-place (side.End p) l = IsUtf8-append _ (lines-at (side.End p)) (empty-utf8 (end_of xs) is_end (gap_at source xs blank code (side.End p))) l
