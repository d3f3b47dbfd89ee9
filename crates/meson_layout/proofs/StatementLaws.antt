-- The laws of statements removed and appended.
use Rattle.std.proofs.Common.{◌≡◌, ℕ, zero, suc, ◌+◌, ◌≤◌, ◌==◌, Bool, true, false, ◌&&◌, ◌⊎◌, List, [], ◌∷◌, ◌++◌, Ok, length, take, drop, refl, sym, ap, ap₂, ◌∙◌, subst, inl, inr, append_assoc, arith}
use Rattle.std.proofs.lemmas.Bool.{cond_both, and_parts}
use Rattle.std.proofs.lemmas.List.{append-nil, length-reverse, reverse-reverse, take-append-drop}
use Rattle.std.proofs.Math.Seq.{take-add}
use Rattle.std.specs.Prelude.{reverse}
use Rattle.meson_lex.specs.declared.kinds.Kind.{Kind}
use Rattle.meson_lex.specs.declared.kinds.Kind.TheVariants as k
use Rattle.meson_lex.specs.declared.kinds.Span.{Span}
use Rattle.meson_layout.specs.declared.primitive.BlankLines.{BlankLines}
use Rattle.meson_layout.specs.declared.primitive.BlankLines.TheVariants as blank_lines
use Rattle.meson_layout.specs.declared.removal.Growth.{Growth}
use Rattle.meson_lex.specs.Items.{Lexeme, joined, IsItemList}
use Rattle.meson_lex.specs.Significant.{Word, Role, Gap, Ends, Opens, Closes, Other, role, kept, State, start, fresh_after, step, step_by, emit, emit_by, after, emitted, closing, new_line, significant}
use Rattle.meson_lex.proofs.Seams.{joined-append}
use Rattle.meson_layout.specs.Looks as look
use Rattle.meson_lex.specs.Words.{IsTight}
use Rattle.meson_layout.specs.Pieces.{Piece, splices, line_feed}
use Rattle.meson_layout.specs.inside.Pieces.{old_items, new_items}
use Rattle.meson_layout.specs.BlankLines.{blank_growth}
use Rattle.meson_layout.specs.Layout.{Parts}
use Rattle.meson_layout.specs.LineSpots.{in_line_len, rest_of_line_len}
use Rattle.meson_layout.specs.StatementRemoval.{statement_gone, statement_removed}
use Rattle.meson_layout.specs.Statements.{at_line_start}
use Rattle.meson_layout.specs.FileLaws.{line_start, behind_token, StatementIn, EditedFile, IsCut, IsItsLineEnd, StatementCut, StatementRemovalLaw}
use Rattle.meson_layout.proofs.Near.{Follow, AllGood, IsLoose, last, items-good, items-follow, follow-join, follow-front, follow-rest, good-join, good-front, good-rest}
use Rattle.meson_layout.proofs.Seams.{near-loose, loose, no-comment, speaks-no-line, reloose}
use Rattle.meson_layout.proofs.Merge.{merge, merge-joined, merge-run, merge-items}
use Rattle.meson_layout.proofs.Patched.{patched-pieces}
use Rattle.meson_layout.proofs.Parts.{parts-are}
use Rattle.meson_layout.proofs.Ends.{back-parts, back-joins, last-one}
use Rattle.meson_layout.proofs.Trims.{all-white, bare-rest, growth-ends, more-last}
use Rattle.meson_layout.proofs.Splits.{AllOf, begun, one-all, white-join, blank-white, line-white}

-- ---- states

pub after-append : (s : State) (xs ys : List Lexeme) → after s (xs ++ ys) ≡ after (after s xs) ys
after-append s [] ys = refl
after-append s (x ∷ xs) ys = after-append (step s x) xs ys

pub emitted-append : (s : State) (xs ys : List Lexeme) → emitted s (xs ++ ys) ≡ emitted s xs ++ emitted (after s xs) ys
emitted-append s [] ys = refl
emitted-append s (x ∷ xs) ys = ap (λ ws. emit s x ++ ws) (emitted-append (step s x) xs ys) ∙ sym (append_assoc (emit s x) (emitted (step s x) xs) (emitted (after (step s x) xs) ys))

-- the tokens of the rest of a text
abbrev pub to_end : State → List Lexeme → List Word
to_end s xs = emitted s xs ++ closing (after s xs).fresh

pub to-end-append : (s : State) (xs ys : List Lexeme) → to_end s (xs ++ ys) ≡ emitted s xs ++ to_end (after s xs) ys
to-end-append s xs ys =
    ap₂ (λ u (v : State). u ++ closing v.fresh) (emitted-append s xs ys) (after-append s xs ys) ∙ append_assoc (emitted s xs) (emitted (after s xs) ys) (closing (after (after s xs) ys).fresh)

-- blanks change nothing
blank-kind-run : (κ : Kind) (text : List ℕ) (s : State) → look.is_blank_kind κ ≡ true → (emit s (record { kind = κ; text = text }) ≡ []) × (step s (record { kind = κ; text = text }) ≡ s)
blank-kind-run k.Blank text s h = (refl, refl)
blank-kind-run _ text s h = absurd cc

blank-run : (s : State) (xs : List Lexeme) → AllOf look.is_blank_kind xs → (emitted s xs ≡ []) × (after s xs ≡ s)
blank-run s [] h = (refl, refl)
blank-run s (x ∷ xs) h =
    let one = blank-kind-run x.kind x.text s h.0 in
    let more = blank-run s xs h.1 in
    (ap₂ (λ u (v : State). u ++ emitted v xs) one.0 one.1 ∙ more.0, ap (λ (v : State). after v xs) one.1 ∙ more.1)

-- white space at a line's start says nothing
white-kind-run : (κ : Kind) (text : List ℕ) → look.is_white κ ≡ true → (emit line_start (record { kind = κ; text = text }) ≡ []) × (step line_start (record { kind = κ; text = text }) ≡ line_start)
white-kind-run k.Blank text h = (refl, refl)
white-kind-run k.LineEnd text h = (refl, refl)
white-kind-run _ text h = absurd cc

white-run : (xs : List Lexeme) → AllOf look.is_white xs → (emitted line_start xs ≡ []) × (after line_start xs ≡ line_start)
white-run [] h = (refl, refl)
white-run (x ∷ xs) h =
    let one = white-kind-run x.kind x.text h.0 in
    let more = white-run xs h.1 in
    (ap₂ (λ u (v : State). u ++ emitted v xs) one.0 one.1 ∙ more.0, ap (λ (v : State). after v xs) one.1 ∙ more.1)

-- and keeps the depth
white-kind-depth : (κ : Kind) (s : State) → look.is_white κ ≡ true → (step_by (role κ) s).depth ≡ s.depth
white-kind-depth k.Blank s h = refl
white-kind-depth k.LineEnd s h = refl
white-kind-depth _ s h = absurd cc

white-depth : (s : State) (xs : List Lexeme) → AllOf look.is_white xs → (after s xs).depth ≡ s.depth
white-depth s [] h = refl
white-depth s (x ∷ xs) h = white-depth (step s x) xs h.1 ∙ white-kind-depth x.kind s h.0

-- outside brackets, a line's end is the next one's start
line-step : (κ : Kind) (s : State) → look.is_line_end κ ≡ true → (step_by (role κ) s).depth ≡ 0 → step_by (role κ) s ≡ line_start
line-step k.LineEnd s h deep = fresh-at s.depth s.fresh deep
  where
    fresh-at : (d : ℕ) (f : Bool) → d ≡ 0 → record { depth = d; fresh = fresh_after d f } ≡ line_start
    fresh-at zero f e = refl
    fresh-at (suc d) f e = absurd (omega arith)
line-step _ s h deep = absurd cc

-- what ends with a line end backwards ends with it
ended-by : (P : List Lexeme → Type 0) (front : List Lexeme) → at_line_start (reverse front) ≡ true → P [] → ((a : List Lexeme) (x : Lexeme) → look.is_line_end x.kind ≡ true → P (a ++ x ∷ [])) → P front
ended-by P front ends none some = by (reverse front) refl ends
  where
    by : (rev : List Lexeme) → reverse front ≡ rev → at_line_start rev ≡ true → P front
    by [] e h = subst P (sym (sym (reverse-reverse front) ∙ ap reverse e)) none
    by (x ∷ xs) e h = subst P (sym (last-one front x xs e)) (some (reverse xs) x h)

state-at-line : (front : List Lexeme) → (after start front).depth ≡ 0 → at_line_start (reverse front) ≡ true → after start front ≡ line_start
state-at-line front deep ends =
    ended-by (λ xs. (after start xs).depth ≡ 0 → after start xs ≡ line_start) front ends (λ d. refl)
    (λ a x is d. after-append start a (x ∷ []) ∙ line-step x.kind (after start a) is (sym (ap (λ (v : State). v.depth) (after-append start a (x ∷ []))) ∙ d))
    deep

calm-line : (front : List Lexeme) → at_line_start (reverse front) ≡ true → look.is_comment (last line_feed front).kind ≡ false
calm-line front ends =
    ended-by (λ xs. look.is_comment (last line_feed xs).kind ≡ false) front ends refl (λ a x is. ap (λ (y : Lexeme). look.is_comment y.kind) (last-of-line a x line_feed) ∙ line-no-comment x.kind is)
  where
    last-of-line : (a : List Lexeme) (x d : Lexeme) → last d (a ++ x ∷ []) ≡ x
    last-of-line [] x d = refl
    last-of-line (y ∷ a) x d = last-of-line a x y

    line-no-comment : (κ : Kind) → look.is_line_end κ ≡ true → look.is_comment κ ≡ false
    line-no-comment k.LineEnd h = refl
    line-no-comment _ h = absurd cc

-- Behind a statement comes a line end; without the statement that line end says nothing.
drop-by : (r : Role) (w : Word) (xs : List Lexeme) (ts : List Word) → (to_end behind_token xs ≡ new_line ∷ ts → to_end line_start xs ≡ ts) → (r ≡ Opens → w ≡ new_line → ⊥) → (r ≡ Closes → w ≡ new_line → ⊥) → (r ≡ Other → w ≡ new_line → ⊥)
    → (emit_by r behind_token w ++ emitted (step_by r behind_token) xs) ++ closing (after (step_by r behind_token) xs).fresh ≡ new_line ∷ ts
    → (emit_by r line_start w ++ emitted (step_by r line_start) xs) ++ closing (after (step_by r line_start) xs).fresh ≡ ts
drop-by Gap w xs ts ih p q u h = ih h
drop-by Ends w xs ts ih p q u h = cc
drop-by Opens w xs ts ih p q u h = let no : w ≡ new_line = cc in absurd (p refl no)
drop-by Closes w xs ts ih p q u h = let no : w ≡ new_line = cc in absurd (q refl no)
drop-by Other w xs ts ih p q u h = let no : w ≡ new_line = cc in absurd (u refl no)

pub line-role : (κ : Kind) (text : List ℕ) (r : Role) → role κ ≡ r → (κ, kept κ text) ≡ new_line → r ≡ Ends
line-role κ text r h e = sym h ∙ ap (λ (a : Word). role a.0) e

pub drop-line : (xs : List Lexeme) (ts : List Word) → to_end behind_token xs ≡ new_line ∷ ts → to_end line_start xs ≡ ts
drop-line [] ts h = cc
drop-line (x ∷ xs) ts h =
    let w : Word = (x.kind, kept x.kind x.text) in
    drop-by (role x.kind) w xs ts (drop-line xs ts)
    (λ e n. let no : Opens ≡ Ends = line-role x.kind x.text Opens e n in absurd cc)
    (λ e n. let no : Closes ≡ Ends = line-role x.kind x.text Closes e n in absurd cc)
    (λ e n. let no : Other ≡ Ends = line-role x.kind x.text Other e n in absurd cc)
    h

-- ---- the last item at a line's start

fresh-kind : (κ : Kind) (s : State) → (step_by (role κ) s).fresh ≡ true → look.is_comment κ ≡ false → loose κ ≡ true
fresh-kind k.Blank s h c = refl
fresh-kind k.LineEnd s h c = refl
fresh-kind k.Comment s h c = absurd cc
fresh-kind k.Continuation s h c = refl
fresh-kind _ s h c = absurd cc

fresh-last : (s : State) (d : Lexeme) (xs : List Lexeme) → loose d.kind ≡ true → (after s xs).fresh ≡ true → look.is_comment (last d xs).kind ≡ false → loose (last d xs).kind ≡ true
fresh-last s d [] l h c = l
fresh-last s d (x ∷ []) l h c = fresh-kind x.kind s h c
fresh-last s d (x ∷ y ∷ ys) l h c = fresh-last (step s x) line_feed (y ∷ ys) refl h c

-- ---- from pieces to the text

pub file-edited : (file source : List ℕ) (items : List Lexeme) → IsItemList source items → (ps : List Piece) (text : List ℕ) (tokens : List Word) → old_items ps ≡ items → joined (new_items ps) ≡ text → Follow line_feed (new_items ps) → AllGood (new_items ps) → significant (new_items ps) ≡ tokens
    → EditedFile source (splices file 0 ps) text tokens
file-edited file source items list ps text tokens old new fits good says =
    let run = merge-run (new_items ps) start in
    record {
      patches = patched-pieces file source ps (ap joined old ∙ list.joins) ∙ ap Ok new;
      items = merge (new_items ps);
      are_items = record { joins = merge-joined (new_items ps) ∙ new; each = merge-items line_feed (new_items ps) fits good };
      says = ap₂ (λ u (v : State). u ++ closing v.fresh) run.0 run.1 ∙ says;
    }

-- the blank at the end
last-blank : (left : List Lexeme) → AllOf look.is_blank_kind (look.last_few (look.one_if look.is_blank_kind (reverse left)) left)
last-blank left = cond_both (look.first_is look.is_blank_kind (reverse left)) _ _ (λ n. AllOf look.is_blank_kind (look.last_few n left))
    (λ h. let b = begun look.is_blank_kind (reverse left) h in let p = back-parts left (reverse b.more) (b.first ∷ []) 1 (last-one left b.first b.more b.is) refl in subst (AllOf look.is_blank_kind) (sym p.1) (b.passes, tt))
    (λ h. let p = back-parts left left [] 0 (sym (append-nil left)) refl in subst (AllOf look.is_blank_kind) (sym p.1) tt)

at-most-last : (left : List Lexeme) → look.at_most_blank (look.last_few (look.one_if look.is_blank_kind (reverse left)) left) ≡ true
at-most-last left = cond_both (look.first_is look.is_blank_kind (reverse left)) _ _ (λ n. look.at_most_blank (look.last_few n left) ≡ true)
    (λ h. let b = begun look.is_blank_kind (reverse left) h in let p = back-parts left (reverse b.more) (b.first ∷ []) 1 (last-one left b.first b.more b.is) refl in ap look.at_most_blank p.1 ∙ b.passes)
    (λ h. let p = back-parts left left [] 0 (sym (append-nil left)) refl in ap look.at_most_blank p.1)

-- the blank at the beginning
at-most-first : (right : List Lexeme) → look.at_most_blank (take (look.one_if look.is_blank_kind right) right) ≡ true
at-most-first right = cond_both (look.first_is look.is_blank_kind right) _ _ (λ m. look.at_most_blank (take m right) ≡ true)
    (λ h. let b = begun look.is_blank_kind right h in ap (λ xs. look.at_most_blank (take 1 xs)) b.is ∙ b.passes)
    (λ h. refl)

module _ (file source : List ℕ) (items : List Lexeme) (list : IsItemList source items) (s : Span) (more : List Word) (p : StatementIn items s more) where
  good : AllGood (p.left ++ (p.own ++ p.right))
  good = subst AllGood p.parts (items-good items [] list.each)

  chain : Follow line_feed (p.left ++ (p.own ++ p.right))
  chain = subst (Follow line_feed) p.parts (items-follow line_feed items [] (λ y. tt) list.each)

  -- what is behind the statement, at a line's start
  behind-tokens : to_end line_start p.right ≡ more
  behind-tokens =
      let whole : after start items ≡ after behind_token p.right = ap (after start) (p.parts ∙ sym (append_assoc p.left p.own p.right)) ∙ after-append start (p.left ++ p.own) p.right ∙ ap (λ (v : State). after v p.right) p.ends in
      drop-line p.right more (ap₂ (λ (u v : State). emitted u p.right ++ closing v.fresh) (sym p.ends) (sym whole) ∙ p.is_right)

  gone-by : (blank : BlankLines) (n m : ℕ) → AllOf look.is_white (look.last_few n p.left) → after start (look.but_last n p.left) ≡ line_start → look.is_comment (last line_feed (look.but_last n p.left)).kind ≡ false
      → AllOf look.is_white (take m p.right) → IsCut blank (look.but_last n p.left) (look.last_few n p.left) (take m p.right) (drop m p.right)
      → StatementCut blank source p.left p.right (splices file 0 (statement_gone (record { before = n; behind = m }) p.left p.own p.right)) (emitted start p.left ++ more)
  gone-by blank n m blanks state calm white cut =
      let front = look.but_last n p.left in
      let gone = look.last_few n p.left in
      let lost = take m p.right in
      let rest = drop m p.right in
      let left_is : p.left ≡ front ++ gone = sym (back-joins p.left n) in
      let right_is : p.right ≡ lost ++ rest = sym (take-append-drop m p.right) in
      let run = white-run gone blanks in
      let words : emitted start p.left ≡ emitted start front =
      ap (emitted start) left_is ∙ emitted-append start front gone ∙ ap (λ (v : State). emitted start front ++ emitted v gone) state ∙ ap (λ ws. emitted start front ++ ws) run.0 ∙ append-nil (emitted start front) in
      let lost_run = white-run lost white in
      let rest_tokens : to_end line_start rest ≡ more =
      sym (ap (to_end line_start) right_is ∙ to-end-append line_start lost rest ∙ ap₂ (λ u (v : State). u ++ to_end v rest) lost_run.0 lost_run.1) ∙ behind-tokens in
      let split : Follow line_feed (front ++ (gone ++ (p.own ++ p.right))) = subst (Follow line_feed) (ap (λ xs. xs ++ (p.own ++ p.right)) left_is ∙ append_assoc front gone (p.own ++ p.right)) chain in
      let next : Follow (last line_feed front) (gone ++ (p.own ++ p.right)) = follow-rest line_feed front _ split in
      let good_left : AllGood (front ++ gone) = subst AllGood left_is (good-front p.left (p.own ++ p.right) good) in
      let own_right = good-rest p.left (p.own ++ p.right) good in
      let is_fresh : (after start front).fresh ≡ true = ap (λ (v : State). v.fresh) state in
      let ends : IsLoose (last line_feed front) = near-loose (last line_feed front) (fresh-last start line_feed front refl is_fresh calm) in
      let y = last (last (last line_feed front) gone) p.own in
      let behind : Follow y (lost ++ rest) = subst (Follow y) right_is (follow-rest (last (last line_feed front) gone) p.own p.right (follow-rest (last line_feed front) gone _ next)) in
      let good_right : AllGood (lost ++ rest) = subst AllGood right_is (good-rest p.own p.right own_right) in
      let new : front ++ (rest ++ []) ≡ front ++ rest = ap (λ xs. front ++ xs) (append-nil rest) in
      let fits : Follow line_feed (front ++ rest) = follow-join line_feed front rest (follow-front line_feed front _ split) (reloose (last y lost) (last line_feed front) rest ends (follow-rest y lost rest behind)) in
      record {
        front = front;
        gone = gone;
        lost = lost;
        rest = rest;
        left_is = left_is;
        right_is = right_is;
        is_cut = cut;
        edited = file-edited file source items list (statement_gone (record { before = n; behind = m }) p.left p.own p.right) (joined front ++ joined rest) (emitted start p.left ++ more)
            (regroup front gone p.own lost rest ∙ ap₂ (λ u v. u ++ (p.own ++ v)) (sym left_is) (sym right_is) ∙ sym p.parts)
            (ap joined new ∙ joined-append front rest)
            (subst (Follow line_feed) (sym new) fits)
            (subst AllGood (sym new) (good-join front rest (good-front front gone good_left) (good-rest lost rest good_right)))
            (ap significant new ∙ to-end-append start front rest ∙ ap (λ (v : State). emitted start front ++ to_end v rest) state ∙ ap₂ (λ u v. u ++ v) (sym words) rest_tokens);
      }
    where
      regroup : (a b r t d : List Lexeme) → a ++ ((b ++ (r ++ t)) ++ (d ++ [])) ≡ (a ++ b) ++ (r ++ (t ++ d))
      regroup a b r t d = simp (append_assoc, append-nil)

  -- the blank before it
  blank-no-line : (κ : Kind) → look.is_blank_kind κ ≡ true → look.is_line_end κ ≡ false
  blank-no-line k.Blank h = refl
  blank-no-line _ h = absurd cc

  first-calm : (x : Lexeme) (xs : List Lexeme) → (t : IsTight p.own) → Follow x (p.own ++ xs) → AllGood (p.own ++ xs) → look.is_comment x.kind ≡ false
  first-calm x xs t f g =
      let at : Follow x (t.first ∷ (t.more ++ xs)) = subst (λ l. Follow x (l ++ xs)) t.begins f in
      let of : AllGood (t.first ∷ (t.more ++ xs)) = subst (λ l. AllGood (l ++ xs)) t.begins g in
      no-comment x t.first at.0 (speaks-no-line t.first.kind t.first_speaks) of.0

  calm-by : (x : Lexeme) (gone : List Lexeme) → AllOf look.is_blank_kind gone → Follow x (gone ++ (p.own ++ p.right)) → AllGood (gone ++ (p.own ++ p.right)) → look.is_comment x.kind ≡ false
  calm-by x [] b f g = first-calm x p.right p.tight f g
  calm-by x (z ∷ gone) b f g = no-comment x z f.0 (blank-no-line z.kind b.0) g.0

  -- what is before the blank: at a line's start, and no comment
  abbrev n : ℕ
  n = look.one_if look.is_blank_kind (reverse p.left)

  abbrev m : ℕ
  m = look.one_if look.is_blank_kind p.right

  abbrev before : List Lexeme
  before = look.but_last n p.left

  abbrev behind : List Lexeme
  behind = drop m p.right

  before-state : after start before ≡ line_start
  before-state =
      let gone = look.last_few n p.left in
      let left_is : p.left ≡ before ++ gone = sym (back-joins p.left n) in
      let run = blank-run (after start before) gone (last-blank p.left) in
      sym run.1 ∙ sym (ap (after start) left_is ∙ after-append start before gone) ∙ p.begins

  before-calm : look.is_comment (last line_feed before).kind ≡ false
  before-calm =
      let gone = look.last_few n p.left in
      let left_is : p.left ≡ before ++ gone = sym (back-joins p.left n) in
      let split : Follow line_feed (before ++ (gone ++ (p.own ++ p.right))) = subst (Follow line_feed) (ap (λ xs. xs ++ (p.own ++ p.right)) left_is ∙ append_assoc before gone (p.own ++ p.right)) chain in
      let good_left : AllGood (before ++ gone) = subst AllGood left_is (good-front p.left (p.own ++ p.right) good) in
      calm-by (last line_feed before) gone (last-blank p.left) (follow-rest line_feed before _ split)
      (good-join gone (p.own ++ p.right) (good-rest before gone good_left) (good-rest p.left (p.own ++ p.right) good))

  -- a statement that is not alone on its lines: the blanks beside it go
  beside : (blank : BlankLines) → StatementCut blank source p.left p.right (splices file 0 (statement_gone (record { before = n; behind = m }) p.left p.own p.right)) (emitted start p.left ++ more)
  beside blank =
      let lost = blank-white (take m p.right) (one-all look.is_blank_kind p.right) in
      let gone = blank-white (look.last_few n p.left) (last-blank p.left) in
      gone-by blank n m gone before-state before-calm lost (cut-beside blank gone lost)
    where
      cut-beside : (blank : BlankLines) → AllOf look.is_white (look.last_few n p.left) → AllOf look.is_white (take m p.right) → IsCut blank before (look.last_few n p.left) (take m p.right) behind
      cut-beside blank_lines.Stay gone lost = record {
        blank = take m p.right;
        line = [];
        lost_is = sym (append-nil (take m p.right));
        gone_is = at-most-last p.left;
        blank_is = at-most-first p.right;
        line_is = inl refl;
      }
      cut-beside (blank_lines.Trim first last) gone lost = record {
        gone_is = all-white (look.last_few n p.left) gone;
        lost_is = all-white (take m p.right) lost;
        alone = inl (at-most-last p.left, at-most-first p.right);
      }

  -- One that is alone: its lines go, with blank lines.
  alone : (blank : BlankLines) → at_line_start (reverse before) ≡ true → (in_line_len behind == 0) ≡ true
      → (let end = rest_of_line_len behind in let more_items = blank_growth blank before (drop end behind) in
      StatementCut blank source p.left p.right (splices file 0 (statement_gone (record { before = n + more_items.before; behind = m + (end + more_items.behind) }) p.left p.own p.right)) (emitted start p.left ++ more))
  alone blank starts bare =
      let end = rest_of_line_len behind in
      let rest = drop end behind in
      let g = blank_growth blank before rest in
      let w = growth-ends blank before rest starts in
      let back = more-last p.left n g.before (last-few p.left) w.end.few in
      let front = look.but_last g.before before in
      let above = look.last_few g.before before in
      let gone : AllOf look.is_white (look.last_few (n + g.before) p.left) = subst (AllOf look.is_white) (sym back.1) (white-join above (look.last_few n p.left) w.end.white (blank-white (look.last_few n p.left) (last-blank p.left))) in
      let lost_is : take (m + (end + g.behind)) p.right ≡ take m p.right ++ (take end behind ++ take g.behind rest) =
      take-add m (end + g.behind) p.right ∙ ap (λ xs. take m p.right ++ xs) (take-add end g.behind behind) in
      let line = bare-rest behind bare in
      let lost : AllOf look.is_white (take (m + (end + g.behind)) p.right) =
      subst (AllOf look.is_white) (sym lost_is) (white-join (take m p.right) (take end behind ++ take g.behind rest) (blank-white (take m p.right) (one-all look.is_blank_kind p.right)) (white-join (take end behind) (take g.behind rest) (line-is-white (take end behind) line) w.white)) in
      let state : after start front ≡ line_start = state-before front above (sym (back-joins before g.before)) w.end.white w.end.ends in
      gone-by blank (n + g.before) (m + (end + g.behind)) gone (ap (after start) back.0 ∙ state) (ap (λ xs. look.is_comment (last line_feed xs).kind) back.0 ∙ calm-line front w.end.ends) lost
      (cut-alone blank (sym back.0) gone lost w.end.ends line)
    where
      last-few : (left : List Lexeme) → look.one_if look.is_blank_kind (reverse left) ≤ length left
      last-few left = one-few (reverse left) (length-reverse left)
        where
          one-few : (xs : List Lexeme) → length xs ≡ length left → look.one_if look.is_blank_kind xs ≤ length left
          one-few [] e = omega arith
          one-few (x ∷ xs) e = cond_both (look.is_blank_kind x.kind) _ _ (λ n. n ≤ length left) (λ yes. omega arith) (λ other. omega arith)

      line-is-white : (xs : List Lexeme) → (xs ≡ []) ⊎ ((x : Lexeme) × (look.is_line_end x.kind ≡ true) × (xs ≡ x ∷ [])) → AllOf look.is_white xs
      line-is-white xs (inl none) = subst (AllOf look.is_white) (sym none) tt
      line-is-white xs (inr (x, ends, is)) = subst (AllOf look.is_white) (sym is) (line-white (x ∷ []) (ends, tt))

      state-before : (front above : List Lexeme) → before ≡ front ++ above → AllOf look.is_white above → at_line_start (reverse front) ≡ true → after start front ≡ line_start
      state-before front above is white ends =
          let deep : (after start front).depth ≡ 0 =
          sym (white-depth (after start front) above white) ∙ ap (λ (v : State). v.depth) (sym (after-append start front above) ∙ sym (ap (after start) is) ∙ before-state) in
          state-at-line front deep ends

      cut-alone : (blank : BlankLines) → (let end = rest_of_line_len behind in let g = blank_growth blank before (drop end behind) in
          look.but_last g.before before ≡ look.but_last (n + g.before) p.left
          → AllOf look.is_white (look.last_few (n + g.before) p.left) → AllOf look.is_white (take (m + (end + g.behind)) p.right) → at_line_start (reverse (look.but_last g.before before)) ≡ true
          → (take end behind ≡ []) ⊎ ((x : Lexeme) × (look.is_line_end x.kind ≡ true) × (take end behind ≡ x ∷ []))
          → IsCut blank (look.but_last (n + g.before) p.left) (look.last_few (n + g.before) p.left) (take (m + (end + g.behind)) p.right) (drop (m + (end + g.behind)) p.right))
      cut-alone blank_lines.Stay front gone lost ends line =
          let end = rest_of_line_len behind in
          let none : n + 0 ≡ n = omega arith in
          let no_more : m + (end + 0) ≡ m + end = omega arith in
          record {
            blank = take m p.right;
            line = take end behind;
            lost_is = ap (λ k. take k p.right) no_more ∙ take-add m end p.right;
            gone_is = ap (λ k. look.at_most_blank (look.last_few k p.left)) none ∙ at-most-last p.left;
            blank_is = at-most-first p.right;
            line_is = line-cut (take end behind) (subst (λ xs. at_line_start (reverse xs) ≡ true) front ends) line;
          }
        where
          line-cut : (xs : List Lexeme) → at_line_start (reverse (look.but_last (n + 0) p.left)) ≡ true → (xs ≡ []) ⊎ ((x : Lexeme) × (look.is_line_end x.kind ≡ true) × (xs ≡ x ∷ [])) → IsItsLineEnd (look.but_last (n + 0) p.left) xs
          line-cut xs starts (inl none) = inl none
          line-cut xs starts (inr (x, is, one)) = inr (starts, x, is, one)
      cut-alone (blank_lines.Trim first last) front gone lost ends line =
          let end = rest_of_line_len behind in
          let g = blank_growth (blank_lines.Trim first last) before (drop end behind) in
          record {
            gone_is = all-white (look.last_few (n + g.before) p.left) gone;
            lost_is = all-white (take (m + (end + g.behind)) p.right) lost;
            alone = inr (subst (λ xs. at_line_start (reverse xs) ≡ true) front ends);
          }

  statement-gone : (blank : BlankLines) → StatementCut blank source p.left p.right (splices file 0 (statement_removed blank p.left p.own p.right)) (emitted start p.left ++ more)
  unfolding statement_removed
  statement-gone blank =
      let end = rest_of_line_len behind in
      let g = blank_growth blank before (drop end behind) in
      let whole : Growth = record { before = n + g.before; behind = m + (end + g.behind) } in
      let few : Growth = record { before = n; behind = m } in
      cond_both (at_line_start (reverse before) && (in_line_len behind == 0)) whole few (λ h. StatementCut blank source p.left p.right (splices file 0 (statement_gone h p.left p.own p.right)) (emitted start p.left ++ more))
      (λ h. let both = and_parts (at_line_start (reverse before)) (in_line_len behind == 0) h in alone blank both.0 both.1)
      (λ h. beside blank)

pub statement-removal-law : StatementRemovalLaw
statement-removal-law file source items list blank s more p =
    let at = parts-are items p.left p.own p.right s p.parts p.from p.to (items-good items [] list.each) in
    subst (λ ss. StatementCut blank source p.left p.right ss (emitted start p.left ++ more)) (sym (ap (λ (q : Parts). splices file 0 (statement_removed blank q.left q.own q.right)) at)) (statement-gone file source items list s more p blank)
