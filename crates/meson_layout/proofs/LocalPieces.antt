-- The splices of a list's pieces in a file are those in the list's own text, but for what stands before it.
use Rattle.std.proofs.Common.{◌≡◌, ℕ, zero, suc, ◌+◌, ◌-◌, ◌<◌, ◌≤◌, Bool, true, false, List, [], ◌∷◌, ◌++◌, Option, Some, None, length, take, drop, refl, sym, ap, ◌∙◌, subst, arith, append_assoc}
use Rattle.std.proofs.lemmas.List.{length-append, length-drop, length-reverse, take-append-le, drop-append-le}
use Rattle.std.specs.Prelude.{if◌then◌else◌, IfSome, map, reverse}
use Rattle.meson_lex.specs.Items.{Lexeme, joined}
use Rattle.meson_lex.proofs.Seams.{joined-append}
use Rattle.meson_layout.specs.declared.removal.Growth.{Growth}
use Rattle.meson_layout.specs.Insertion as insertion
use Rattle.meson_layout.specs.Looks as look
use Rattle.meson_layout.specs.Local.{farther}
use Rattle.meson_layout.specs.Pieces.{Piece, Keep, Change, splices, comma, space}
use Rattle.meson_layout.specs.Removal as removal
use Rattle.meson_layout.proofs.Bars.{Bars, near-bar, behind-bar, note-bar, comma-bar, closes-either, gap-bar, blank-bar, begins-comma-bar, near-few, behind-few, note-few, comma-few, gap-few, one-le, begins-some, reverse-around}
use Rattle.meson_layout.proofs.Ends.{back-parts, back-joins}

-- ---- splices behind so many bytes more

pub farther-splices : (file : List ℕ) (n at : ℕ) (ps : List Piece) → splices file (n + at) ps ≡ map (farther n) (splices file at ps)
farther-splices file n at [] = refl
farther-splices file n at (Keep xs ∷ ps) =
    let same : n + at + length (joined xs) ≡ n + (at + length (joined xs)) = omega arith in
    ap (λ m. splices file m ps) same ∙ farther-splices file n (at + length (joined xs)) ps
farther-splices file n at (Change was now ∷ ps) =
    let same : n + at + length (joined now) ≡ n + (at + length (joined now)) = omega arith in
    ap (λ ss. record { file = file; at = n + at; was = joined was; now = joined now } ∷ ss) (ap (λ m. splices file m ps) same ∙ farther-splices file n (at + length (joined now)) ps)

-- ---- how far a range grows

grown-few : (a b : Option ℕ) (p q : ℕ) → IfSome a (λ n. n < p) → IfSome b (λ n. n ≤ q) → ((removal.grown_by a b).before ≤ p) × ((removal.grown_by a b).behind ≤ q)
grown-few (Some n) (Some m) p q h g = (omega (arith, h), g)
grown-few (Some n) None p q h g = (omega arith, omega arith)
grown-few None b p q h g = (omega arith, omega arith)

module _ (o c : Lexeme) (bar : Bars o.kind) (end : Bars c.kind) where
  line-before-is : (front left : List Lexeme) → look.line_before (front ++ o ∷ left) ≡ look.line_near (reverse left)
  line-before-is front left = ap look.line_near (reverse-around front o left) ∙ near-bar o bar (reverse left) (reverse front)

  grown-left : (front left xs : List Lexeme) → removal.grown (front ++ o ∷ left) xs ≡ removal.grown_by (look.line_near (reverse left)) (look.line_behind xs)
  grown-left front left xs = ap (λ a. removal.grown_by a (look.line_behind xs)) (line-before-is front left)

  grown-right : (xs right rest : List Lexeme) → removal.grown xs (right ++ c ∷ rest) ≡ removal.grown_by (look.line_before xs) (look.line_behind right)
  grown-right xs right rest = ap (removal.grown_by (look.line_before xs)) (behind-bar c end right rest)

  grown-both : (front left right rest : List Lexeme) → removal.grown (front ++ o ∷ left) (right ++ c ∷ rest) ≡ removal.grown_by (look.line_near (reverse left)) (look.line_behind right)
  grown-both front left right rest = grown-left front left (right ++ c ∷ rest) ∙ ap (removal.grown_by (look.line_near (reverse left))) (behind-bar c end right rest)

  near-few-left : (left : List Lexeme) → IfSome (look.line_near (reverse left)) (λ n. n < length left)
  near-few-left left = subst (λ m. IfSome (look.line_near (reverse left)) (λ n. n < m)) (length-reverse left) (near-few (reverse left))

  -- the last few of the list's items
  last-within : (front left : List Lexeme) (n : ℕ) → n ≤ length left → (look.but_last n (front ++ o ∷ left) ≡ front ++ o ∷ look.but_last n left) × (look.last_few n (front ++ o ∷ left) ≡ look.last_few n left)
  last-within front left n le =
      let size : length (look.last_few n left) ≡ n = let few = length-drop (length left - n) left in omega arith in
      back-parts (front ++ o ∷ left) (front ++ o ∷ look.but_last n left) (look.last_few n left) n (sym (append_assoc front (o ∷ look.but_last n left) (look.last_few n left) ∙ ap (λ xs. front ++ o ∷ xs) (back-joins left n))) size

  -- the items that are no tokens, before the element
  abbrev gap : List Lexeme → ℕ
  gap left = look.gap_len (reverse left)

  gap-few-left : (left : List Lexeme) → gap left ≤ length left
  gap-few-left left = subst (λ n. gap left ≤ n) (length-reverse left) (gap-few (reverse left))

  abbrev before_gap : List Lexeme → List Lexeme
  before_gap left = look.but_last (gap left) left

  abbrev in_gap : List Lexeme → List Lexeme
  in_gap left = look.last_few (gap left) left

  -- a comma stands before the gap, or none does
  abbrev by_comma : Bool → List Lexeme → List Lexeme → List Lexeme → List Lexeme → List Lexeme → List Piece
  by_comma b front left mid own right =
      if b
      then removal.comma_before (look.but_last 1 (front ++ o ∷ left)) (look.last_few 1 (front ++ o ∷ left)) mid own right
      else removal.one_range (front ++ o ∷ (left ++ mid)) own right

  no-comma-is : (front left own right : List Lexeme)
      → removal.no_comma_behind (look.gap_len (reverse (front ++ o ∷ left))) (front ++ o ∷ left) own right ≡ by_comma (look.first_is look.is_comma (reverse (before_gap left))) front (before_gap left) (in_gap left) own right
  no-comma-is front left own right =
      let w = last-within front left (gap left) (gap-few-left left) in
      let whole = front ++ o ∷ left in
      let test = look.first_is look.is_comma in
      ap (λ n. removal.no_comma_behind n whole own right) (ap look.gap_len (reverse-around front o left) ∙ gap-bar o bar (reverse left) (reverse front))
      ∙ ap (λ xs. if test (reverse xs) then removal.comma_before (look.but_last 1 xs) (look.last_few 1 xs) (look.last_few (gap left) whole) own right else removal.one_range whole own right) w.0
      ∙ ap (λ xs. if test (reverse (front ++ o ∷ before_gap left)) then removal.comma_before (look.but_last 1 (front ++ o ∷ before_gap left)) (look.last_few 1 (front ++ o ∷ before_gap left)) xs own right else removal.one_range whole own right) w.1
      ∙ ap (λ b. if b then removal.comma_before (look.but_last 1 (front ++ o ∷ before_gap left)) (look.last_few 1 (front ++ o ∷ before_gap left)) (in_gap left) own right else removal.one_range whole own right)
      (ap test (reverse-around front o (before_gap left)) ∙ begins-comma-bar o bar (reverse (before_gap left)) (reverse front))
      ∙ sym (ap (λ xs. if test (reverse (before_gap left)) then removal.comma_before (look.but_last 1 (front ++ o ∷ before_gap left)) (look.last_few 1 (front ++ o ∷ before_gap left)) (in_gap left) own right else removal.one_range (front ++ o ∷ xs) own right) (back-joins left (gap left)))

  -- a comma stands behind the gap, or none does
  abbrev by_comma_behind : Bool → ℕ → List Lexeme → List Lexeme → List Lexeme → List Lexeme → List Piece
  by_comma_behind b n left own right rest =
      if b
      then removal.comma_behind left own (take n right) (drop n right ++ c ∷ rest)
      else removal.no_comma_behind (look.gap_len (reverse left)) left own (right ++ c ∷ rest)

  removed-is : (left own right rest : List Lexeme) → removal.removed left own (right ++ c ∷ rest) ≡ by_comma_behind (look.first_is look.is_comma (drop (look.gap_len right) right)) (look.gap_len right) left own right rest
  unfolding removal.removed
  removed-is left own right rest =
      let n = look.gap_len right in
      let whole = right ++ c ∷ rest in
      let test = look.first_is look.is_comma in
      let other = removal.no_comma_behind (look.gap_len (reverse left)) left own whole in
      ap (λ m. if test (drop m whole) then removal.comma_behind left own (take m whole) (drop m whole) else other) (gap-bar c end right rest)
      ∙ ap (λ xs. if test xs then removal.comma_behind left own (take n whole) xs else other) (drop-append-le n right (c ∷ rest) (gap-few right))
      ∙ ap (λ xs. if test (drop n right ++ c ∷ rest) then removal.comma_behind left own xs (drop n right ++ c ∷ rest) else other) (take-append-le n right (c ∷ rest) (gap-few right))
      ∙ ap (λ b. if b then removal.comma_behind left own (take n right) (drop n right ++ c ∷ rest) else other) (begins-comma-bar c end (drop n right) rest)

  module _ (file : List ℕ) (front rest : List Lexeme) where
    abbrev far : ℕ
    far = length (joined front)

    -- the pieces in the file, and in the list's own text
    abbrev Same : List Piece → List Piece → Type 0
    Same wide own = splices file 0 wide ≡ splices file far own

    begin : (xs : List Lexeme) (ps : List Piece) → Same (Keep (front ++ xs) ∷ ps) (Keep xs ∷ ps)
    begin xs ps =
        let size = ap length (joined-append front xs) ∙ length-append (joined front) (joined xs) in
        let same : 0 + length (joined (front ++ xs)) ≡ far + length (joined xs) = omega arith in
        ap (λ n. splices file n ps) same

    taken : (n : ℕ) (right : List Lexeme) → n ≤ length right → (xs : List Lexeme) → take n (right ++ c ∷ xs) ≡ take n right
    taken n right le xs = take-append-le n right (c ∷ xs) le

    last-wide : (xs : List Lexeme) (n : ℕ) → n ≤ length xs → (look.but_last n (front ++ xs) ≡ front ++ look.but_last n xs) × (look.last_few n (front ++ xs) ≡ look.last_few n xs)
    last-wide xs n le =
        let size : length (look.last_few n xs) ≡ n = let few = length-drop (length xs - n) xs in omega arith in
        back-parts (front ++ xs) (front ++ look.but_last n xs) (look.last_few n xs) n (sym (append_assoc front (look.but_last n xs) (look.last_few n xs) ∙ ap (λ l. front ++ l) (back-joins xs n))) size

    -- ---- one place

    pub replaced-same : (left own right new : List Lexeme) → Same (Keep (front ++ left) ∷ Change own new ∷ Keep (right ++ c ∷ rest) ∷ []) (Keep left ∷ Change own new ∷ Keep (right ++ c ∷ []) ∷ [])
    replaced-same left own right new = begin left (Change own new ∷ Keep [] ∷ [])

    behind-same : (left own right new : List Lexeme) → Same (Keep (front ++ left) ∷ Keep own ∷ Change [] new ∷ Keep (right ++ c ∷ rest) ∷ []) (Keep left ∷ Keep own ∷ Change [] new ∷ Keep (right ++ c ∷ []) ∷ [])
    behind-same left own right new = begin left (Keep own ∷ Change [] new ∷ Keep [] ∷ [])

    -- ---- an insertion

    comma-same : (n : ℕ) (left own right line new : List Lexeme) → n ≤ length right → Same (insertion.with_comma n (front ++ left) own (right ++ c ∷ rest) line new) (insertion.with_comma n left own (right ++ c ∷ []) line new)
    comma-same n left own right line new le =
        ap (λ xs. splices file 0 (Keep (front ++ left) ∷ Keep own ∷ Keep xs ∷ Change [] (line ++ (new ++ comma ∷ [])) ∷ Keep [] ∷ [])) (taken n right le rest)
        ∙ begin left (Keep own ∷ Keep (take n right) ∷ Change [] (line ++ (new ++ comma ∷ [])) ∷ Keep [] ∷ [])
        ∙ sym (ap (λ xs. splices file far (Keep left ∷ Keep own ∷ Keep xs ∷ Change [] (line ++ (new ++ comma ∷ [])) ∷ Keep [] ∷ [])) (taken n right le []))

    no-comma-same : (n : ℕ) (left own right line new : List Lexeme) → n ≤ length right
        → Same (insertion.without_comma n (front ++ left) own (right ++ c ∷ rest) line new) (insertion.without_comma n left own (right ++ c ∷ []) line new)
    no-comma-same zero left own right line new le = behind-same left own right (comma ∷ (line ++ new))
    no-comma-same (suc n) left own right line new le =
        ap (λ xs. splices file 0 (Keep (front ++ left) ∷ Keep own ∷ Change [] (comma ∷ []) ∷ Keep xs ∷ Change [] (line ++ new) ∷ Keep [] ∷ [])) (taken (suc n) right le rest)
        ∙ begin left (Keep own ∷ Change [] (comma ∷ []) ∷ Keep (take (suc n) right) ∷ Change [] (line ++ new) ∷ Keep [] ∷ [])
        ∙ sym (ap (λ xs. splices file far (Keep left ∷ Keep own ∷ Change [] (comma ∷ []) ∷ Keep xs ∷ Change [] (line ++ new) ∷ Keep [] ∷ [])) (taken (suc n) right le []))

    bracket-same : (b : Bool) (left own right line new : List Lexeme)
        → Same (if b then insertion.before_bracket (front ++ left) own (right ++ c ∷ rest) line new else insertion.plain_insertion (front ++ left) own (right ++ c ∷ rest) new)
        (if b then insertion.before_bracket left own (right ++ c ∷ []) line new else insertion.plain_insertion left own (right ++ c ∷ []) new)
    bracket-same true left own right line new = behind-same left own right (comma ∷ (line ++ new))
    bracket-same false left own right line new = behind-same left own right (comma ∷ space ∷ new)

    at-note : (n : Option ℕ) (left own right line new : List Lexeme) → IfSome n (λ i. i ≤ length right)
        → Same (insertion.no_comma_on_line n (front ++ left) own (right ++ c ∷ rest) line new) (insertion.no_comma_on_line n left own (right ++ c ∷ []) line new)
    at-note (Some n) left own right line new le = no-comma-same n left own right line new le
    at-note None left own right line new le =
        ap (λ b. splices file 0 (if b then insertion.before_bracket (front ++ left) own (right ++ c ∷ rest) line new else insertion.plain_insertion (front ++ left) own (right ++ c ∷ rest) new)) (closes-either c end right rest)
        ∙ bracket-same (look.closing_follows (right ++ c ∷ [])) left own right line new

    at-comma : (n : Option ℕ) (left own right line new : List Lexeme) → IfSome n (λ i. i ≤ length right)
        → Same (insertion.stacked n (front ++ left) own (right ++ c ∷ rest) line new) (insertion.stacked n left own (right ++ c ∷ []) line new)
    at-comma (Some n) left own right line new le = comma-same n left own right line new le
    at-comma None left own right line new le =
        ap (λ n. splices file 0 (insertion.no_comma_on_line n (front ++ left) own (right ++ c ∷ rest) line new)) (note-bar c end right rest)
        ∙ at-note (look.note_len right) left own right line new (note-few right)
        ∙ sym (ap (λ n. splices file far (insertion.no_comma_on_line n left own (right ++ c ∷ []) line new)) (note-bar c end right []))

    at-line : (n : Option ℕ) (left own right new : List Lexeme) → IfSome n (λ i. i < length left)
        → Same (insertion.inserted_by n (front ++ left) own (right ++ c ∷ rest) new) (insertion.inserted_by n left own (right ++ c ∷ []) new)
    at-line (Some n) left own right new le =
        ap (λ m. splices file 0 (insertion.stacked m (front ++ left) own (right ++ c ∷ rest) (look.last_few (suc n) (front ++ left)) new)) (comma-bar c end right rest)
        ∙ ap (λ line. splices file 0 (insertion.stacked (look.comma_note_len right) (front ++ left) own (right ++ c ∷ rest) line new)) (last-wide left (suc n) (omega (arith, le))).1
        ∙ at-comma (look.comma_note_len right) left own right (look.last_few (suc n) left) new (comma-few right)
        ∙ sym (ap (λ m. splices file far (insertion.stacked m left own (right ++ c ∷ []) (look.last_few (suc n) left) new)) (comma-bar c end right []))
    at-line None left own right new le = behind-same left own right (comma ∷ space ∷ new)

    -- how many items of the list are there up to its bracket
    fewer-left : (n : Option ℕ) (left : List Lexeme) → IfSome n (λ i. i < length left) → IfSome n (λ i. i < length (o ∷ left))
    fewer-left None left h = tt
    fewer-left (Some n) left h = omega (arith, h)

    pub inserted-same : (left own right new : List Lexeme) → Same (insertion.inserted (front ++ o ∷ left) own (right ++ c ∷ rest) new) (insertion.inserted (o ∷ left) own (right ++ c ∷ []) new)
    unfolding insertion.inserted
    inserted-same left own right new =
        ap (λ n. splices file 0 (insertion.inserted_by n (front ++ o ∷ left) own (right ++ c ∷ rest) new)) (line-before-is front left)
        ∙ at-line (look.line_near (reverse left)) (o ∷ left) own right new (fewer-left (look.line_near (reverse left)) left (near-few-left left))
        ∙ sym (ap (λ n. splices file far (insertion.inserted_by n (o ∷ left) own (right ++ c ∷ []) new)) (line-before-is [] left))

    -- ---- a removal

    one-gone : (g : Growth) (left range right : List Lexeme) → g.before ≤ length left → g.behind ≤ length right
        → Same (removal.one_gone g (front ++ left) range (right ++ c ∷ rest)) (removal.one_gone g left range (right ++ c ∷ []))
    one-gone g left range right few some =
        let w = last-wide left g.before few in
        ap (λ xs. splices file 0 (Keep xs ∷ Change (look.last_few g.before (front ++ left) ++ (range ++ take g.behind (right ++ c ∷ rest))) [] ∷ Keep [] ∷ [])) w.0
        ∙ ap (λ xs. splices file 0 (Keep (front ++ look.but_last g.before left) ∷ Change (xs ++ (range ++ take g.behind (right ++ c ∷ rest))) [] ∷ Keep [] ∷ [])) w.1
        ∙ ap (λ xs. splices file 0 (Keep (front ++ look.but_last g.before left) ∷ Change (look.last_few g.before left ++ (range ++ xs)) [] ∷ Keep [] ∷ [])) (taken g.behind right some rest ∙ sym (taken g.behind right some []))
        ∙ begin (look.but_last g.before left) (Change (look.last_few g.before left ++ (range ++ take g.behind (right ++ c ∷ []))) [] ∷ Keep [] ∷ [])

    pub one-range : (left range right : List Lexeme) → Same (removal.one_range (front ++ o ∷ left) range (right ++ c ∷ rest)) (removal.one_range (o ∷ left) range (right ++ c ∷ []))
    one-range left range right =
        let g = removal.grown_by (look.line_near (reverse left)) (look.line_behind right) in
        let few = grown-few (look.line_near (reverse left)) (look.line_behind right) (length (o ∷ left)) (length right) (fewer-left (look.line_near (reverse left)) left (near-few-left left)) (behind-few right) in
        ap (λ h. splices file 0 (removal.one_gone h (front ++ o ∷ left) range (right ++ c ∷ rest))) (grown-both front left right rest)
        ∙ one-gone g (o ∷ left) range right few.0 few.1
        ∙ sym (ap (λ h. splices file far (removal.one_gone h (o ∷ left) range (right ++ c ∷ []))) (grown-both [] left right []))

    two-gone : (g h : Growth) (left range mid other right : List Lexeme) → g.before ≤ length left → h.behind ≤ length right
        → Same (removal.two_gone g h (front ++ left) range mid other (right ++ c ∷ rest)) (removal.two_gone g h left range mid other (right ++ c ∷ []))
    two-gone g h left range mid other right few some =
        let w = last-wide left g.before few in
        let between = look.but_last h.before mid in
        let gap = take g.behind between in
        let stays = drop g.behind between in
        let last = look.last_few h.before mid in
        ap (λ xs. splices file 0 (Keep xs ∷ Change (look.last_few g.before (front ++ left) ++ (range ++ gap)) [] ∷ Keep stays ∷ Change (last ++ (other ++ take h.behind (right ++ c ∷ rest))) [] ∷ Keep [] ∷ [])) w.0
        ∙ ap (λ xs. splices file 0 (Keep (front ++ look.but_last g.before left) ∷ Change (xs ++ (range ++ gap)) [] ∷ Keep stays ∷ Change (last ++ (other ++ take h.behind (right ++ c ∷ rest))) [] ∷ Keep [] ∷ [])) w.1
        ∙ ap (λ xs. splices file 0 (Keep (front ++ look.but_last g.before left) ∷ Change (look.last_few g.before left ++ (range ++ gap)) [] ∷ Keep stays ∷ Change (last ++ (other ++ xs)) [] ∷ Keep [] ∷ []))
        (taken h.behind right some rest ∙ sym (taken h.behind right some []))
        ∙ begin (look.but_last g.before left) (Change (look.last_few g.before left ++ (range ++ gap)) [] ∷ Keep stays ∷ Change (last ++ (other ++ take h.behind (right ++ c ∷ []))) [] ∷ Keep [] ∷ [])

    pub two-ranges : (left range mid other right : List Lexeme) → Same (removal.two_ranges (front ++ o ∷ left) range mid other (right ++ c ∷ rest)) (removal.two_ranges (o ∷ left) range mid other (right ++ c ∷ []))
    two-ranges left range mid other right =
        let h = removal.grown_by (look.line_before mid) (look.line_behind right) in
        let between = look.but_last h.before mid in
        let g = removal.grown_by (look.line_near (reverse left)) (look.line_behind between) in
        let few = grown-few (look.line_near (reverse left)) (look.line_behind between) (length (o ∷ left)) (length between) (fewer-left (look.line_near (reverse left)) left (near-few-left left)) (behind-few between) in
        let some = grown-few (look.line_before mid) (look.line_behind right) (length (reverse mid)) (length right) (near-few (reverse mid)) (behind-few right) in
        ap (λ x. splices file 0 (removal.two_ranges_by x (front ++ o ∷ left) range mid other (right ++ c ∷ rest))) (grown-right mid right rest)
        ∙ ap (λ x. splices file 0 (removal.two_gone x h (front ++ o ∷ left) range mid other (right ++ c ∷ rest))) (grown-left front left between)
        ∙ two-gone g h (o ∷ left) range mid other right few.0 some.1
        ∙ sym (ap (λ x. splices file far (removal.two_ranges_by x (o ∷ left) range mid other (right ++ c ∷ []))) (grown-right mid right [])
        ∙ ap (λ x. splices file far (removal.two_gone x h (o ∷ left) range mid other (right ++ c ∷ []))) (grown-left [] left between))

    -- ---- the comma that goes along

    one-or-two : (b : Bool) (left range mid other right whole : List Lexeme)
        → Same (if b then removal.one_range (front ++ o ∷ left) whole (right ++ c ∷ rest) else removal.two_ranges (front ++ o ∷ left) range mid other (right ++ c ∷ rest))
        (if b then removal.one_range (o ∷ left) whole (right ++ c ∷ []) else removal.two_ranges (o ∷ left) range mid other (right ++ c ∷ []))
    one-or-two true left range mid other right whole = one-range left whole right
    one-or-two false left range mid other right whole = two-ranges left range mid other right

    comma-len : (after xs : List Lexeme) → 1 ≤ length after → removal.comma_len (after ++ c ∷ xs) ≡ removal.comma_len after
    comma-len after xs some = ap (λ n. 1 + n) (ap (look.one_if look.is_blank_kind) (drop-append-le 1 after (c ∷ xs) some) ∙ blank-bar c end (drop 1 after) xs)

    comma-few-behind : (after : List Lexeme) → 1 ≤ length after → removal.comma_len after ≤ length after
    comma-few-behind after some = let few = one-le look.is_blank_kind (drop 1 after) in let size = length-drop 1 after in omega arith

    comma-behind-by : (n : ℕ) (left own mid after : List Lexeme) → n ≤ length after
        → Same (removal.comma_behind_by n (front ++ o ∷ left) own mid (after ++ c ∷ rest)) (removal.comma_behind_by n (o ∷ left) own mid (after ++ c ∷ []))
    comma-behind-by n left own mid after le =
        let b = look.at_most_blank mid in
        let l = front ++ o ∷ left in
        ap (λ xs. splices file 0 (if b then removal.one_range l (own ++ (mid ++ xs)) (drop n (after ++ c ∷ rest)) else removal.two_ranges l own mid xs (drop n (after ++ c ∷ rest)))) (taken n after le rest)
        ∙ ap (λ xs. splices file 0 (if b then removal.one_range l (own ++ (mid ++ take n after)) xs else removal.two_ranges l own mid (take n after) xs)) (drop-append-le n after (c ∷ rest) le)
        ∙ one-or-two b left own mid (take n after) (drop n after) (own ++ (mid ++ take n after))
        ∙ sym (ap (λ xs. splices file far (if b then removal.one_range (o ∷ left) (own ++ (mid ++ xs)) (drop n (after ++ c ∷ [])) else removal.two_ranges (o ∷ left) own mid xs (drop n (after ++ c ∷ [])))) (taken n after le [])
        ∙ ap (λ xs. splices file far (if b then removal.one_range (o ∷ left) (own ++ (mid ++ take n after)) xs else removal.two_ranges (o ∷ left) own mid (take n after) xs)) (drop-append-le n after (c ∷ []) le))

    comma-behind : (left own mid after : List Lexeme) → 1 ≤ length after → Same (removal.comma_behind (front ++ o ∷ left) own mid (after ++ c ∷ rest)) (removal.comma_behind (o ∷ left) own mid (after ++ c ∷ []))
    comma-behind left own mid after some =
        ap (λ n. splices file 0 (removal.comma_behind_by n (front ++ o ∷ left) own mid (after ++ c ∷ rest))) (comma-len after rest some)
        ∙ comma-behind-by (removal.comma_len after) left own mid after (comma-few-behind after some)
        ∙ sym (ap (λ n. splices file far (removal.comma_behind_by n (o ∷ left) own mid (after ++ c ∷ []))) (comma-len after [] some))

    no-comma-by : (b : Bool) (left mid own right : List Lexeme) → look.first_is look.is_comma (reverse left) ≡ b → Same (by_comma b front left mid own (right ++ c ∷ rest)) (by_comma b [] left mid own (right ++ c ∷ []))
    no-comma-by false left mid own right is = one-range (left ++ mid) own right
    no-comma-by true left mid own right is =
        let some : 1 ≤ length left = let n = begins-some look.is_comma 0 (reverse left) is in let size = length-reverse left in omega arith in
        let w = last-within front left 1 some in
        let v = last-within [] left 1 some in
        let range = look.last_few 1 left in
        ap (λ xs. splices file 0 (removal.comma_before xs (look.last_few 1 (front ++ o ∷ left)) mid own (right ++ c ∷ rest))) w.0
        ∙ ap (λ xs. splices file 0 (removal.comma_before (front ++ o ∷ look.but_last 1 left) xs mid own (right ++ c ∷ rest))) w.1
        ∙ one-or-two (look.all_white mid) (look.but_last 1 left) range mid own right (range ++ (mid ++ own))
        ∙ sym (ap (λ xs. splices file far (removal.comma_before xs (look.last_few 1 (o ∷ left)) mid own (right ++ c ∷ []))) v.0
        ∙ ap (λ xs. splices file far (removal.comma_before (o ∷ look.but_last 1 left) xs mid own (right ++ c ∷ []))) v.1)

    no-comma-behind : (left own right : List Lexeme)
        → Same (removal.no_comma_behind (look.gap_len (reverse (front ++ o ∷ left))) (front ++ o ∷ left) own (right ++ c ∷ rest)) (removal.no_comma_behind (look.gap_len (reverse (o ∷ left))) (o ∷ left) own (right ++ c ∷ []))
    no-comma-behind left own right =
        ap (splices file 0) (no-comma-is front left own (right ++ c ∷ rest))
        ∙ no-comma-by (look.first_is look.is_comma (reverse (before_gap left))) (before_gap left) (in_gap left) own right refl
        ∙ sym (ap (splices file far) (no-comma-is [] left own (right ++ c ∷ [])))

    removed-by : (b : Bool) (left own right : List Lexeme) → look.first_is look.is_comma (drop (look.gap_len right) right) ≡ b
        → Same (by_comma_behind b (look.gap_len right) (front ++ o ∷ left) own right rest) (by_comma_behind b (look.gap_len right) (o ∷ left) own right [])
    removed-by true left own right is =
        let n = look.gap_len right in
        let some : 1 ≤ length (drop n right) = let k = begins-some look.is_comma n right is in let size = length-drop n right in omega arith in
        comma-behind left own (take n right) (drop n right) some
    removed-by false left own right is = no-comma-behind left own right

    pub removed-same : (left own right : List Lexeme) → Same (removal.removed (front ++ o ∷ left) own (right ++ c ∷ rest)) (removal.removed (o ∷ left) own (right ++ c ∷ []))
    removed-same left own right =
        ap (splices file 0) (removed-is (front ++ o ∷ left) own right rest)
        ∙ removed-by (look.first_is look.is_comma (drop (look.gap_len right) right)) left own right refl
        ∙ sym (ap (splices file far) (removed-is (o ∷ left) own right []))
