-- The law of lines that are inserted.
use Rattle.std.proofs.Common.{◌≡◌, ℕ, ◌+◌, ◌-◌, ◌≤◌, ◌&&◌, true, false, cond, ◌⊎◌, List, [], ◌∷◌, ◌++◌, length, take, drop, Ok, refl, sym, ap, ◌∙◌, subst, inl, inr, append_assoc, length-take, arith}
use Rattle.std.proofs.Math.Seq.{take-append_seam}
use Rattle.std.proofs.lemmas.Bool.{false≢true, cond-true, cond-false, cond_both, and_from, and_parts}
use Rattle.std.proofs.lemmas.List.{append-nil, length-append, length-reverse, take-append-drop, reverse-append, reverse-reverse}
use Rattle.std.proofs.lemmas.List.Folds.{length-prefix_len, list_all-append}
use Rattle.std.proofs.lemmas.List.Sums.{prefix_len-le-length}
use Rattle.std.specs.Prelude.{not, reverse}
use Rattle.meson_lex.specs.Items.{Lexeme, joined}
use Rattle.meson_lex.specs.Kinds.{IsLineEnd, OfKind}
use Rattle.meson_layout.specs.declared.primitive.LineSpot.{LineSpot}
use Rattle.meson_layout.specs.declared.primitive.LineSpot.TheVariants as spot
use Rattle.meson_layout.specs.Looks.{at_most_blank, but_last, last_few, first_is, is_blank_kind, is_comment, is_line_end, one_if}
use Rattle.meson_layout.specs.Pieces.{as_one}
use Rattle.meson_layout.specs.Statements.{at_line_start, line_end_of}
use Rattle.meson_layout.specs.LineSpots.{in_line_len, comment_line_len, rest_of_line_len, comment_lines_len, above_len, below_len, lines_after}
use Rattle.meson_layout.specs.Layout.{Parts, spot_len}
use Rattle.meson_layout.specs.FileLaws.{is_in_line, ends_line, items_of_lines, IsCommentLine, IsAbove, IsBelow, IsFrontOf, LinesLaw}
use Rattle.meson_layout.proofs.AppendLaws.{line-of}
use Rattle.meson_layout.proofs.Ends.{AllGap, back-joins, gap-spoken, line-kind}
use Rattle.meson_layout.proofs.LineSpots.{back-ends, in-line-passes, in-line-stops, lines-gap, notes}
use Rattle.meson_layout.proofs.Near.{AllGood, items-good}
use Rattle.meson_layout.proofs.Parts.{parts-are}
use Rattle.meson_layout.proofs.Patched.{patched-pieces}
use Rattle.meson_layout.proofs.Splits.{begun}
use Rattle.meson_layout.proofs.Texts.{joined_three}

-- ---- above a statement

in-line-reverse : (xs : List Lexeme) → is_in_line xs ≡ true → is_in_line (reverse xs) ≡ true
in-line-reverse [] h = refl
in-line-reverse (x ∷ xs) h =
    let test = λ (y : Lexeme). not (is_line_end y.kind) in
    let both = and_parts (not (is_line_end x.kind)) (is_in_line xs) h in
    ap is_in_line (reverse-append (x ∷ []) xs) ∙ list_all-append test (reverse xs) (x ∷ []) ∙ and_from _ _ (in-line-reverse xs both.1) (and_from _ _ both.0 refl)

-- what is known backwards is known of the items
forth : (P : List Lexeme → Type 0) (xs ys : List Lexeme) → reverse xs ≡ ys → P (reverse ys) → P xs
forth P xs ys e h = subst P (sym (sym (reverse-reverse xs) ∙ ap reverse e)) h

-- a comment line at the end is seen there
line-seen : (more blank : List Lexeme) (note end : Lexeme) → at_line_start (reverse more) ≡ true → at_most_blank blank ≡ true → is_comment note.kind ≡ true → is_line_end end.kind ≡ true
    → comment_line_len (end ∷ note ∷ (reverse blank ++ reverse more)) ≡ 0 → ⊥
line-seen more [] note end starts one is_note ends none = at-start (reverse more) starts none
  where
    both : (is_line_end end.kind && is_comment note.kind) ≡ true
    both = and_from _ _ ends is_note

    at-start : (xs : List Lexeme) → at_line_start xs ≡ true → comment_line_len (end ∷ note ∷ xs) ≡ 0 → ⊥
    at-start [] h z = let two : comment_line_len (end ∷ note ∷ []) ≡ 2 = cond-true _ 2 0 both in omega arith
    at-start (x ∷ xs) h z =
        let plain : is_blank_kind x.kind ≡ false = ap is_blank_kind (line-kind x.kind h) in
        let none_blank : one_if is_blank_kind (x ∷ xs) ≡ 0 = cond-false _ 1 0 plain in
        let count = λ (n : ℕ). cond (is_line_end end.kind && is_comment note.kind) (cond (at_line_start (drop n (x ∷ xs))) (n + 2) 0) 0 in
        let two : comment_line_len (end ∷ note ∷ x ∷ xs) ≡ 2 = ap count none_blank ∙ cond-true _ _ _ both ∙ cond-true _ _ _ h in
        omega arith
line-seen more (b ∷ []) note end starts one is_note ends none =
    let both : (is_line_end end.kind && is_comment note.kind) ≡ true = and_from _ _ ends is_note in
    let blanks : one_if is_blank_kind (b ∷ reverse more) ≡ 1 = cond-true _ 1 0 one in
    let count = λ (n : ℕ). cond (is_line_end end.kind && is_comment note.kind) (cond (at_line_start (drop n (b ∷ reverse more))) (n + 2) 0) 0 in
    let three : comment_line_len (end ∷ note ∷ b ∷ reverse more) ≡ 3 = ap count blanks ∙ cond-true _ _ _ both ∙ cond-true _ _ _ starts in
    omega arith
line-seen more (b ∷ c ∷ blank) note end starts one is_note ends none = absurd cc

line-backwards : (more line : List Lexeme) (l : IsCommentLine line) → reverse (more ++ line) ≡ l.end ∷ l.note ∷ (reverse l.blank ++ reverse more)
line-backwards more line l =
    ap (λ xs. reverse (more ++ xs)) l.parts
    ∙ reverse-append more (l.blank ++ (l.note ∷ l.end ∷ []))
    ∙ ap (λ xs. xs ++ reverse more) (reverse-append l.blank (l.note ∷ l.end ∷ []))

module _ (left : List Lexeme) where
  abbrev head : ℕ
  head = in_line_len (reverse left)

  abbrev before : List Lexeme
  before = but_last head left

  abbrev lines : ℕ
  lines = comment_lines_len (reverse before)

  abbrev above-front : List Lexeme
  above-front = but_last lines before

  head-few : head ≤ length left
  head-few =
      let few = prefix_len-le-length (λ (x : Lexeme). not (is_line_end x.kind)) (reverse left) in
      let size = length-reverse left in
      omega arith

  before-ends : at_line_start (reverse before) ≡ true
  before-ends = ap at_line_start (back-ends head left head-few).0 ∙ in-line-stops (reverse left)

  lines-few : lines ≤ length before
  lines-few =
      let few = (notes (reverse before) before-ends).few in
      let size = length-reverse before in
      omega arith

  is-above : IsAbove above-front left
  is-above =
      let noted = notes (reverse before) before-ends in
      let back = back-ends lines before lines-few in
      let row = last_few head left in
      let counted = take head (reverse left) in
      let written = last_few lines before in
      let joins : written ≡ items_of_lines noted.lines = sym (reverse-reverse written) ∙ ap reverse back.1 ∙ noted.joins in
      record {
        notes = written;
        head = row;
        parts = sym (sym (append_assoc above-front written row) ∙ ap (λ xs. xs ++ row) (back-joins before lines) ∙ back-joins left head);
        lines = noted.lines;
        are_lines = noted.are_lines;
        notes_are = joins;
        says_nothing = gap-spoken written (subst AllGap (sym joins) (lines-gap noted.lines noted.are_lines));
        front_ends = ap at_line_start back.0 ∙ noted.start;
        no_more = λ more line e starts l.
            line-seen more l.blank l.note l.end starts l.is_blank l.is_note l.is_end (ap comment_line_len (sym (ap reverse e ∙ line-backwards more line l) ∙ back.0) ∙ noted.over);
        notes_end = ap ends_line (back-joins before lines) ∙ before-ends;
        in_line = forth (λ xs. is_in_line xs ≡ true) row counted (back-ends head left head-few).1 (in-line-reverse counted (in-line-passes (reverse left)));
      }

  above-size : length above-front ≡ above_len left
  above-size =
      let few = lines-few in
      let size = length-take (length before - lines) before in
      omega arith

-- ---- below a statement

-- the rest of a line, of this number of items
record IsRow (right : List Lexeme) (n : ℕ) : Type 0 where
  pub row : List Lexeme
  pub end : List Lexeme
  pub back : List Lexeme
  pub parts : right ≡ row ++ (end ++ back)
  pub size : length (row ++ end) ≡ n
  pub in_line : is_in_line row ≡ true
  pub is_end : ((x : Lexeme) × (is_line_end x.kind ≡ true) × (end ≡ x ∷ [])) ⊎ ((end ≡ []) × (back ≡ []))

nothing-left : (xs : List Lexeme) → at_line_start xs ≡ true → first_is is_line_end xs ≡ false → xs ≡ []
nothing-left [] h other = refl
nothing-left (x ∷ xs) h other = absurd cc

row-of : (right : List Lexeme) → IsRow right (rest_of_line_len right)
row-of right =
    let n = in_line_len right in
    let row = take n right in
    let size : length row ≡ n = length-prefix_len (λ (x : Lexeme). not (is_line_end x.kind)) right in
    let whole : row ++ drop n right ≡ right = take-append-drop n right in
    cond_both (first_is is_line_end (drop n right)) _ _ (IsRow right)
    (λ h.
    let b = begun is_line_end (drop n right) h in
    let more = length-append row (b.first ∷ []) in
    record {
      row = row;
      end = b.first ∷ [];
      back = b.more;
      parts = sym whole ∙ ap (λ xs. row ++ xs) b.is;
      size = omega arith;
      in_line = in-line-passes right;
      is_end = inl (b.first, b.passes, refl);
    })
    (λ other. record {
      row = row;
      end = [];
      back = [];
      parts = sym whole ∙ ap (λ xs. row ++ xs) (nothing-left (drop n right) (in-line-stops right) other);
      size = ap length (append-nil row) ∙ size;
      in_line = in-line-passes right;
      is_end = inr (refl, refl);
    })

below-by : (items left own right : List Lexeme) → items ≡ left ++ (own ++ right) → IsBelow left own right (take (below_len left own right) items)
below-by items left own right e =
    let r = row-of right in
    let front = left ++ (own ++ (r.row ++ r.end)) in
    let whole : items ≡ front ++ r.back = e ∙ ap (λ xs. left ++ (own ++ xs)) r.parts ∙ regroup left own r.row r.end r.back in
    let outer = length-append left (own ++ (r.row ++ r.end)) in
    let inner = length-append own (r.row ++ r.end) in
    let rest = r.size in
    let size : below_len left own right ≡ length front = omega arith in
    record {
      row = r.row;
      end = r.end;
      back = r.back;
      parts = r.parts;
      is_front = ap (λ n. take n items) size ∙ ap (take (length front)) whole ∙ take-append_seam front r.back;
      in_line = r.in_line;
      is_end = r.is_end;
    }
  where
    regroup : (a b c d t : List Lexeme) → a ++ (b ++ (c ++ (d ++ t))) ≡ (a ++ (b ++ (c ++ d))) ++ t
    regroup a b c d t = simp append_assoc

-- ---- the place

above-by : (items left own right : List Lexeme) → items ≡ left ++ (own ++ right) → IsAbove (take (above_len left) items) left
above-by items left own right e =
    let a = is-above left in
    let front = above-front left in
    let whole : items ≡ front ++ ((a.notes ++ a.head) ++ (own ++ right)) = e ∙ ap (λ xs. xs ++ (own ++ right)) a.parts ∙ append_assoc front (a.notes ++ a.head) (own ++ right) in
    subst (λ xs. IsAbove xs left) (sym (ap (λ n. take n items) (sym (above-size left)) ∙ ap (take (length front)) whole ∙ take-append_seam front ((a.notes ++ a.head) ++ (own ++ right)))) a

front-of : (items : List Lexeme) → AllGood items → (place : LineSpot) → IsFrontOf items place (take (spot_len place items) items)
front-of items good (spot.Above s) = λ left own right e from to.
    subst (λ (p : Parts). IsAbove (take (above_len p.left) items) left) (sym (parts-are items left own right s e from to good)) (above-by items left own right e)
front-of items good (spot.Below s) = λ left own right e from to.
    subst (λ (p : Parts). IsBelow left own right (take (below_len p.left p.own p.right) items)) (sym (parts-are items left own right s e from to good)) (below-by items left own right e)
front-of items good spot.End = ap (take (length items)) (sym (append-nil items)) ∙ take-append_seam items []

-- ---- the lines, with a line end before them or not

record IsBroken (items front : List Lexeme) (new : List ℕ) (now : List Lexeme) : Type 0 where
  pub break : List ℕ
  pub is_break : IsLineEnd break ⊎ ((break ≡ []) × (ends_line front ≡ true))
  pub only_then : ends_line front ≡ true → break ≡ []
  pub says : joined now ≡ break ++ new

broken : (items front : List Lexeme) (new : List ℕ) → AllGood items → IsBroken items front new (cond (at_line_start (reverse front)) (as_one new) (line_end_of items ∷ as_one new))
broken items front new good =
    let line = line_end_of items in
    let is = line-of items good in
    cond_both (at_line_start (reverse front)) _ _ (IsBroken items front new)
    (λ ends. record { break = []; is_break = inr (refl, ends); only_then = λ h. refl; says = append-nil new })
    (λ other. record { break = line.text; is_break = inl (subst (λ κ. OfKind κ line.text) (line-kind line.kind is.is) is.good.0); only_then = λ h. absurd (false≢true (sym other ∙ h)); says = ap (λ t. line.text ++ t) (append-nil new) })

pub lines-law : LinesLaw
unfolding lines_after
lines-law file source items list place ready new =
    let n = spot_len place items in
    let front = take n items in
    let back = drop n items in
    let good = items-good items [] list.each in
    let now = cond (at_line_start (reverse front)) (as_one new) (line_end_of items ∷ as_one new) in
    let b = broken items front new good in
    let whole : front ++ back ≡ items = take-append-drop n items in
    let old : front ++ (back ++ []) ≡ items = ap (λ xs. front ++ xs) (append-nil back) ∙ whole in
    let text : joined (front ++ (now ++ (back ++ []))) ≡ joined front ++ (b.break ++ (new ++ joined back)) =
    ap (λ xs. joined (front ++ (now ++ xs))) (append-nil back) ∙ joined_three front now back ∙ ap (λ t. joined front ++ (t ++ joined back)) b.says ∙ ap (λ t. joined front ++ t) (append_assoc b.break new (joined back)) in
    record {
      front = front;
      back = back;
      parts = sym whole;
      is_front = front-of items good place;
      break = b.break;
      is_break = b.is_break;
      only_then = b.only_then;
      patches = patched-pieces file source (lines_after n items (as_one new)) (ap joined old ∙ list.joins) ∙ ap Ok text;
    }
