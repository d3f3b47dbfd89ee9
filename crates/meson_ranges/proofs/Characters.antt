-- No edit cuts a character.
use Rattle.std.proofs.Common.{◌≡◌, ℕ, suc, zero, ◌+◌, ◌-◌, ◌<◌, Bool, true, false, cond, List, [], ◌∷◌, ◌++◌, filter, get_or, length, map, take, drop, refl, ap, subst, sym, ◌∙◌, inl, inr, arith}
use Rattle.std.specs.List.{All, concat}
use Rattle.std.specs.Prelude.{bytes_eq}
use Rattle.std.specs.Str.{IsCharBoundary, IsUtf8}
use Rattle.std.proofs.Math.Seq.{drop-append_seam, get_or-append_seam, take-append_seam}
use Rattle.std.proofs.lemmas.List.{append_assoc, append-nil, length-append, take_all}
use Rattle.std.proofs.lemmas.List.Elements.{All-append, All-cons, All-head, All-nil, All-tail}
use Rattle.std.proofs.lemmas.Str.{IsCharBoundary-after_ascii, IsUtf8-append, IsUtf8-drop, IsUtf8-nil, IsUtf8-take}
use Rattle.meson_diff.specs.Alignment.{is_changed, is_new, is_old, new_lines, old_lines}
use Rattle.meson_diff.specs.Laws.{AreLines, ended, no_lines, unended}
use Rattle.meson_diff.specs.Lines.{lines}
use Rattle.meson_diff.specs.declared.entry.Entry.{Entry}
use Rattle.meson_diff.proofs.Cuts.{lines_are_the_text}
use Rattle.meson_ranges.specs.EditLaws.{EditsAreUtf8}
use Rattle.meson_ranges.specs.Edits.{AreEditsOf, AreTrimmed, new_part, no_edits, old_part, one_more, whole_edit, whole_edits, whole_edits_from}
use Rattle.meson_ranges.specs.Trimming.{IsTrimmed, TextEdit}

-- ---- the lines of a text

ended_line : (line rest : List ℕ) → IsUtf8 ((line ++ 10 ∷ []) ++ rest) → IsUtf8 (line ++ 10 ∷ []) × IsUtf8 rest
ended_line line rest u =
    let whole = (line ++ 10 ∷ []) ++ rest in
    let parts = append_assoc line (10 ∷ []) rest in
    let size = length-append line (10 ∷ []) in
    let within : length line < length whole = omega (arith, size, length-append (line ++ 10 ∷ []) rest) in
    let feed : get_or whole (length line) 0 ≡ 10 = ap (λ l. get_or l (length line) 0) parts ∙ get_or-append_seam line 10 rest 0 in
    let cut = IsCharBoundary-after_ascii whole (length line) u within (omega (arith, feed)) in
    let end : length line + 1 ≡ length (line ++ 10 ∷ []) = omega (arith, size) in (
      subst IsUtf8 (ap (λ k. take k whole) end ∙ take-append_seam (line ++ 10 ∷ []) rest) (IsUtf8-take whole (length line + 1) u cut),
      subst IsUtf8 (ap (λ k. drop k whole) end ∙ drop-append_seam (line ++ 10 ∷ []) rest) (IsUtf8-drop whole (length line + 1) u cut),
    )

each_line : (these : List (List ℕ)) → AreLines these → IsUtf8 (concat these) → All IsUtf8 these
each_line _ no_lines u = All-nil IsUtf8
each_line _ (unended b line none) u = All-cons IsUtf8 (b ∷ line) [] (subst IsUtf8 (append-nil (b ∷ line)) u) (All-nil IsUtf8)
each_line _ (ended line more none rest) u =
    let both = ended_line line (concat more) u in
    All-cons IsUtf8 (line ++ 10 ∷ []) more both.0 (each_line more rest both.1)

lines_of : (text : List ℕ) → IsUtf8 text → All IsUtf8 (lines text)
lines_of text u =
    let law = lines_are_the_text text in
    each_line (lines text) law.0 (subst IsUtf8 (sym law.1) u)

-- ---- the whole edits

-- the line of an entry, where it is one, and the other lines
next : (taken : Bool) (line : List ℕ) (e : Entry) (more : List Entry) → line ≡ e.line
    → All IsUtf8 (map (λ (x : Entry). x.line) (cond taken (e ∷ more) more)) → IsUtf8 (cond taken line []) × All IsUtf8 (map (λ (x : Entry). x.line) more)
next true line e more is all =
    (subst IsUtf8 (sym is) (All-head IsUtf8 e.line (map (λ (x : Entry). x.line) more) all), All-tail IsUtf8 e.line (map (λ (x : Entry). x.line) more) all)
next false line e more is all = (IsUtf8-nil, all)

abbrev BothUtf8 : TextEdit → Type 0
BothUtf8 e = IsUtf8 e.was × IsUtf8 e.now

whole_one : (at : ℕ) (was now : List ℕ) → IsUtf8 was → IsUtf8 now → All BothUtf8 (whole_edit at was now)
whole_one at was now u v =
    let whole : TextEdit = record { at = at; was = was; now = now } in
    elim (bytes_eq was now) as (λ b. All BothUtf8 (cond b [] (whole ∷ []))) [
      | true ↦ All-nil BothUtf8
      | false ↦ All-cons BothUtf8 whole [] (u, v) (All-nil BothUtf8)
    ]

wholes : (entries : List Entry) (at : ℕ) (was now : List ℕ) → IsUtf8 was → IsUtf8 now → All IsUtf8 (old_lines entries) → All IsUtf8 (new_lines entries)
    → All BothUtf8 (whole_edits_from at was now entries)
wholes [] at was now u v olds news = whole_one at was now u v
wholes (e ∷ entries) at was now u v olds news =
    let o = next (is_old e.mark) e.line e (filter (λ (x : Entry). is_old x.mark) entries) refl olds in
    let n = next (is_new e.mark) e.line e (filter (λ (x : Entry). is_new x.mark) entries) refl news in
    let end = at + length was + length e.line in
    let longer = wholes entries at (was ++ old_part e) (now ++ new_part e) (IsUtf8-append was (old_part e) u o.0) (IsUtf8-append now (new_part e) v n.0) o.1 n.1 in
    let after = wholes entries end [] [] IsUtf8-nil IsUtf8-nil o.1 n.1 in
    elim (is_changed e.mark) as (λ b. All BothUtf8 (cond b (whole_edits_from at (was ++ old_part e) (now ++ new_part e) entries) (whole_edit at was now ++ whole_edits_from end [] [] entries))) [
      | true ↦ longer
      | false ↦ All-append BothUtf8 (whole_edit at was now) (whole_edits_from end [] [] entries) (whole_one at was now u v) after
    ]

-- ---- trimmed

cut_front : (n : ℕ) (text : List ℕ) → IsUtf8 text → (0 < n → IsCharBoundary text n) → IsUtf8 (drop n text)
cut_front zero text u h = u
cut_front (suc n) text u h = IsUtf8-drop text (suc n) u (h (omega arith))

cut_back : (n : ℕ) (text : List ℕ) → IsUtf8 text → (0 < n → IsCharBoundary text (length text - n)) → IsUtf8 (take (length text - n) text)
cut_back zero text u h = subst IsUtf8 (sym (take_all (length text - 0) text (omega arith))) u
cut_back (suc n) text u h = IsUtf8-take text (length text - suc n) u (h (omega arith))

one_trimmed : (whole edit : TextEdit) → IsTrimmed whole edit → BothUtf8 whole → BothUtf8 edit
one_trimmed whole edit is both =
    let n = is.front in
    let b = is.back in
    let was = cut_front n whole.was both.0 (λ more. (is.longest_front.holds more).cut_was.whole) in
    let now = cut_front n whole.now both.1 (λ more. (is.longest_front.holds more).cut_now.whole) in (
      subst IsUtf8 (sym is.was) (cut_back b (drop n whole.was) was (λ more. (is.longest_back.holds more).cut_was.whole)),
      subst IsUtf8 (sym is.now) (cut_back b (drop n whole.now) now (λ more. (is.longest_back.holds more).cut_now.whole)),
    )

all_trimmed : (ws es : List TextEdit) → AreTrimmed ws es → All BothUtf8 ws → All BothUtf8 es
all_trimmed _ _ no_edits all = All-nil BothUtf8
all_trimmed _ _ (one_more w e ws es one rest) all =
    All-cons BothUtf8 e es (one_trimmed w e one (All-head BothUtf8 w ws all)) (all_trimmed ws es rest (All-tail BothUtf8 w ws all))

-- ---- the law

some_utf8 : (old new : List ℕ) (edits : List TextEdit) → AreEditsOf old new edits → IsUtf8 old → IsUtf8 new → All BothUtf8 edits
some_utf8 old new edits are u v =
    all_trimmed (whole_edits are.entries) edits are.trimmed (
    wholes are.entries 0 [] [] IsUtf8-nil IsUtf8-nil
    (subst (All IsUtf8) (sym are.aligned.of_old) (lines_of old u))
    (subst (All IsUtf8) (sym are.aligned.of_new) (lines_of new v))
    )

pub edits_are_utf8 : EditsAreUtf8
edits_are_utf8 old new edits (inl none) u v = subst (All BothUtf8) (sym none.1) (All-nil BothUtf8)
edits_are_utf8 old new edits (inr some) u v = some_utf8 old new edits some.1 u v
