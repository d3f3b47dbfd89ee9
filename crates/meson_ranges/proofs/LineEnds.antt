-- No edit begins or ends inside a line end.
use Rattle.std.proofs.Common.{◌≡◌, ℕ, suc, zero, ◌+◌, ◌-◌, ◌<◌, ◌≤◌, Bool, true, false, cond, List, [], ◌∷◌, ◌++◌, filter, get_or, length, map, drop, refl, ap, subst, sym, ◌∙◌, inl, inr, arith}
use Rattle.std.specs.List.{All, concat}
use Rattle.std.specs.Prelude.{bytes_eq}
use Rattle.std.proofs.lemmas.Bool.{cases_eq}
use Rattle.std.proofs.lemmas.List.{append_assoc, get_or-append-add, get_or-drop, get_or_append_left, get_or_past, length-append, length-drop, length-take-le}
use Rattle.std.proofs.lemmas.List.Elements.{All-append, All-cons, All-head, All-nil, All-tail}
use Rattle.meson_diff.specs.Alignment.{is_changed, is_old, old_lines}
use Rattle.meson_diff.specs.Laws.{AreLines, ended, no_lines, unended}
use Rattle.meson_diff.specs.declared.entry.Entry.{Entry}
use Rattle.meson_diff.proofs.Cuts.{lines_are_the_text}
use Rattle.meson_diff.proofs.Files.{texts_are_read_off}
use Rattle.meson_ranges.specs.EditLaws.{EditsKeepLineEnds}
use Rattle.meson_ranges.specs.Edits.{AreEditsOf, AreTrimmed, new_part, no_edits, old_part, one_more, whole_edit, whole_edits, whole_edits_from}
use Rattle.meson_ranges.specs.Trimming.{IsTrimmed, KeepsLineEnd, TextEdit}
use Rattle.meson_ranges.proofs.Making.{front_within}
use Rattle.meson_ranges.proofs.Runs.{kept_old}

-- ---- offsets at which lines begin

-- the offset is 0, the end of the text or one after a line feed
abbrev pub BeginsLine : List ℕ → ℕ → Type 0
BeginsLine text at = 0 < at → at < length text → get_or text (at - 1) 0 ≡ 10

keeps_at_start : (text : List ℕ) (at : ℕ) → BeginsLine text at → KeepsLineEnd text at
keeps_at_start text zero begins before here =
    let same : get_or text (0 - 1) 0 ≡ get_or text 0 0 = refl in
    omega (arith, before, here, same)
keeps_at_start text (suc at) begins before here = elim (cases_eq (length text - suc at) 0) as (λ _. ⊥) [
  | inl past ↦ let none = get_or_past text (suc at) 0 (omega arith) in omega (arith, none, here)
  | inr within ↦ let feed = begins (omega arith) (omega arith) in omega (arith, feed, before)
]

-- the line that is at an offset ends where a line begins
after_line : (front line : List ℕ) (more : List (List ℕ)) → AreLines (line ∷ more) → BeginsLine (front ++ (line ++ concat more)) (length front + length line)
after_line front _ _ (unended b line none) some within =
    let size = length-append front ((b ∷ line) ++ []) in
    let own = length-append (b ∷ line) [] in
    absurd (omega (arith, size, own, within))
after_line front _ _ (ended line more none rest) some within =
    let own = length-append line (10 ∷ []) in
    let last : length front + length (line ++ 10 ∷ []) - 1 ≡ length front + length line = omega (arith, own) in
    let whole = line ++ 10 ∷ [] in
    ap (λ i. get_or (front ++ (whole ++ concat more)) i 0) last
    ∙ get_or-append-add front (whole ++ concat more) (length line) 0
    ∙ get_or_append_left whole (concat more) 0 (length line) (omega (arith, own))
    ∙ ap (λ i. get_or whole i 0) (let same : length line ≡ length line + 0 = omega arith in same)
    ∙ get_or-append-add line (10 ∷ []) 0 0

other_lines : (line : List ℕ) (more : List (List ℕ)) → AreLines (line ∷ more) → AreLines more
other_lines _ _ (unended b line none) = no_lines
other_lines _ _ (ended line more none rest) = rest

-- ---- where whole edits are

pub record IsSpot (old : List ℕ) (e : TextEdit) : Type 0 where
  pub before : List ℕ
  pub after : List ℕ
  pub parts : old ≡ before ++ (e.was ++ after)
  pub at : e.at ≡ length before
  pub begins : BeginsLine old e.at
  pub ends : BeginsLine old (e.at + length e.was)

one_spot : (old : List ℕ) (at : ℕ) (was now front rest : List ℕ) → old ≡ front ++ (was ++ rest) → at ≡ length front
    → BeginsLine old at → BeginsLine old (at + length was) → All (IsSpot old) (whole_edit at was now)
one_spot old at was now front rest parts place begins ends =
    let whole : TextEdit = record { at = at; was = was; now = now } in
    let spot : IsSpot old whole = record { before = front; after = rest; parts = parts; at = place; begins = begins; ends = ends } in
    elim (bytes_eq was now) as (λ b. All (IsSpot old) (cond b [] (whole ∷ []))) [
      | true ↦ All-nil (IsSpot old)
      | false ↦ All-cons (IsSpot old) whole [] spot (All-nil (IsSpot old))
    ]

-- one more part of the old text, which is a line or nothing
pub record IsPart (old front part : List ℕ) (rest : List (List ℕ)) : Type 0 where
  pub all : old ≡ front ++ (part ++ concat rest)
  pub ends : BeginsLine old (length front + length part)
  pub lines : AreLines rest

part_of : (old front : List ℕ) (e : Entry) (entries : List Entry) → old ≡ front ++ concat (old_lines (e ∷ entries)) → BeginsLine old (length front)
    → AreLines (old_lines (e ∷ entries)) → IsPart old front (old_part e) (old_lines entries)
part_of old front e entries all begins these = step (is_old e.mark) all these
  where
    more : List (List ℕ)
    more = old_lines entries

    step : (taken : Bool) → old ≡ front ++ concat (map (λ (x : Entry). x.line) (cond taken (e ∷ filter (λ (x : Entry). is_old x.mark) entries) (filter (λ (x : Entry). is_old x.mark) entries)))
        → AreLines (map (λ (x : Entry). x.line) (cond taken (e ∷ filter (λ (x : Entry). is_old x.mark) entries) (filter (λ (x : Entry). is_old x.mark) entries)))
        → IsPart old front (cond taken e.line []) more
    step true a l = record {
      all = a;
      ends = subst (λ t. BeginsLine t (length front + length e.line)) (sym a) (after_line front e.line more l);
      lines = other_lines e.line more l;
    }
    step false a l = record { all = a; ends = subst (BeginsLine old) (let same : length front ≡ length front + 0 = omega arith in same) begins; lines = l }

spots : (old : List ℕ) (entries : List Entry) (at : ℕ) (was now front : List ℕ) → old ≡ front ++ (was ++ concat (old_lines entries)) → at ≡ length front
    → BeginsLine old at → BeginsLine old (at + length was) → AreLines (old_lines entries) → All (IsSpot old) (whole_edits_from at was now entries)
spots old [] at was now front all place begins ends these = one_spot old at was now front [] all place begins ends
spots old (e ∷ entries) at was now front all place begins ends these =
    let so_far = front ++ was in
    let size = length-append front was in
    let here : length so_far ≡ at + length was = omega (arith, size, place) in
    let p = part_of old so_far e entries (all ∙ sym (append_assoc front was (concat (old_lines (e ∷ entries))))) (subst (BeginsLine old) (sym here) ends) these in
    let part = old_part e in
    let sum = length-append was part in
    let longer_end : length so_far + length part ≡ at + length (was ++ part) = omega (arith, here, sum) in
    let longer = spots old entries at (was ++ part) (now ++ new_part e) front
    (p.all ∙ append_assoc front was (part ++ concat (old_lines entries)) ∙ ap (λ l. front ++ l) (sym (append_assoc was part (concat (old_lines entries)))))
    place begins (subst (BeginsLine old) longer_end p.ends) p.lines in
    let next_size = length-append so_far part in
    let next_end : length so_far + length part ≡ at + length was + length part = omega (arith, here) in
    let next_place : at + length was + length part ≡ length (so_far ++ part) = omega (arith, here, next_size) in
    let next_begins = subst (BeginsLine old) next_end p.ends in
    let next = spots old entries (at + length was + length part) [] [] (so_far ++ part) (p.all ∙ sym (append_assoc so_far part (concat (old_lines entries)))) next_place
    next_begins (subst (BeginsLine old) (let same : at + length was + length part ≡ at + length was + length part + 0 = omega arith in same) next_begins) p.lines in
    step (is_changed e.mark) refl longer next (one_spot old at was now front (concat (old_lines (e ∷ entries))) all place begins ends)
  where
    step : (changed : Bool) → is_changed e.mark ≡ changed → All (IsSpot old) (whole_edits_from at (was ++ old_part e) (now ++ new_part e) entries)
        → All (IsSpot old) (whole_edits_from (at + length was + length (old_part e)) [] [] entries) → All (IsSpot old) (whole_edit at was now)
        → All (IsSpot old) (cond changed (whole_edits_from at (was ++ old_part e) (now ++ new_part e) entries)
        (whole_edit at was now ++ whole_edits_from (at + length was + length e.line) [] [] entries))
    step true c longer next one = longer
    step false c longer next one =
        All-append (IsSpot old) (whole_edit at was now) (whole_edits_from (at + length was + length e.line) [] [] entries) one
        (subst (λ l. All (IsSpot old) (whole_edits_from (at + length was + length l) [] [] entries)) (kept_old e c) next)

-- ---- inside a whole edit

-- what holds inside a part of a text holds in the text
inside : (old before part after : List ℕ) (k : ℕ) → old ≡ before ++ (part ++ after) → 0 < k → k < length part → KeepsLineEnd part k
    → KeepsLineEnd old (length before + k)
inside old before part after k parts some within keeps first second =
    let prior : length before + k - 1 ≡ length before + (k - 1) = omega arith in
    let less : k - 1 < length part = omega arith in
    keeps
    (sym (get_or_append_left part after 0 (k - 1) less) ∙ sym (get_or-append-add before (part ++ after) (k - 1) 0)
    ∙ ap (λ i. get_or (before ++ (part ++ after)) i 0) (sym prior) ∙ ap (λ t. get_or t (length before + k - 1) 0) (sym parts) ∙ first)
    (sym (get_or_append_left part after 0 k within) ∙ sym (get_or-append-add before (part ++ after) k 0)
    ∙ ap (λ t. get_or t (length before + k) 0) (sym parts) ∙ second)

-- at an offset in a whole edit where it may be cut, or at its ends
at_cut : (old : List ℕ) (whole : TextEdit) (k : ℕ) → IsSpot old whole → k ≤ length whole.was → (0 < k → k < length whole.was → KeepsLineEnd whole.was k)
    → KeepsLineEnd old (whole.at + k)
at_cut old whole k spot within keeps = elim (cases_eq k 0) as (λ _. KeepsLineEnd old (whole.at + k)) [
  | inl none ↦
      let same : whole.at ≡ whole.at + k = omega (arith, none) in
      subst (KeepsLineEnd old) same (keeps_at_start old whole.at spot.begins)
  | inr some ↦ elim (cases_eq k (length whole.was)) as (λ _. KeepsLineEnd old (whole.at + k)) [
    | inl all ↦
        let same : whole.at + length whole.was ≡ whole.at + k = omega (arith, all) in
        subst (KeepsLineEnd old) same (keeps_at_start old (whole.at + length whole.was) spot.ends)
    | inr part ↦
        let positive : 0 < k = omega (arith, some) in
        let less : k < length whole.was = omega (arith, part, within) in
        let same : length spot.before + k ≡ whole.at + k = let place = spot.at in omega (arith, place) in
        subst (KeepsLineEnd old) same (inside old spot.before whole.was spot.after k spot.parts positive less (keeps positive less))
  ]
]

-- what holds after the front holds in the whole
behind_front : (text : List ℕ) (n k : ℕ) → 0 < k → KeepsLineEnd (drop n text) k → KeepsLineEnd text (n + k)
behind_front text n k some keeps first second =
    let prior : n + (k - 1) ≡ n + k - 1 = omega arith in
    keeps (get_or-drop n text (k - 1) 0 ∙ ap (λ i. get_or text i 0) prior ∙ first) (get_or-drop n text k 0 ∙ second)

one_trimmed : (old : List ℕ) (whole edit : TextEdit) → IsSpot old whole → IsTrimmed whole edit
    → KeepsLineEnd old edit.at × KeepsLineEnd old (edit.at + length edit.was)
one_trimmed old whole edit spot is =
    let n = is.front in
    let b = is.back in
    let was = drop n whole.was in
    let k = length was - b in
    let size = length-drop n whole.was in
    let within = front_within n whole.was (λ more. (is.longest_front.holds more).cut_was.whole.0) in
    let inner_size : length edit.was ≡ k = ap length is.was ∙ length-take-le k was (omega arith) in
    let first = at_cut old whole n spot within (λ some less. (is.longest_front.holds some).cut_was.line_end) in
    let at_end : (0 < n + k → n + k < length whole.was → KeepsLineEnd whole.was (n + k)) =
    λ some less. elim (cases_eq k 0) as (λ _. KeepsLineEnd whole.was (n + k)) [
      | inl none ↦
          let same : n ≡ n + k = omega (arith, none) in
          let front : 0 < n = omega (arith, none, some) in
          subst (KeepsLineEnd whole.was) same (is.longest_front.holds front).cut_was.line_end
      | inr more ↦
          let back : 0 < b = omega (arith, less, size) in
          behind_front whole.was n k (omega (arith, more)) (is.longest_back.holds back).cut_was.line_end
    ] in
    let last = at_cut old whole (n + k) spot (omega (arith, within, size)) at_end in
    let place = is.at in
    let end : whole.at + (n + k) ≡ edit.at + length edit.was = omega (arith, place, inner_size) in
    (subst (KeepsLineEnd old) (sym place) first, subst (KeepsLineEnd old) end last)

abbrev BothKeep : List ℕ → TextEdit → Type 0
BothKeep old e = KeepsLineEnd old e.at × KeepsLineEnd old (e.at + length e.was)

all_trimmed : (old : List ℕ) (ws es : List TextEdit) → AreTrimmed ws es → All (IsSpot old) ws → All (BothKeep old) es
all_trimmed old _ _ no_edits all = All-nil (BothKeep old)
all_trimmed old _ _ (one_more w e ws es one rest) all =
    All-cons (BothKeep old) e es (one_trimmed old w e (All-head (IsSpot old) w ws all) one) (all_trimmed old ws es rest (All-tail (IsSpot old) w ws all))

-- ---- the law

some_keep : (old new : List ℕ) (edits : List TextEdit) → AreEditsOf old new edits → All (BothKeep old) edits
some_keep old new edits are =
    let texts = texts_are_read_off old new are.entries are.aligned in
    let these = subst AreLines (sym are.aligned.of_old) (lines_are_the_text old).0 in
    let first : BeginsLine old 0 = λ some within. absurd (omega (arith, some)) in
    all_trimmed old (whole_edits are.entries) edits are.trimmed (spots old are.entries 0 [] [] [] (sym texts.0) refl first first these)

pub edits_keep_line_ends : EditsKeepLineEnds
edits_keep_line_ends old new edits (inl none) = subst (All (BothKeep old)) (sym none.1) (All-nil (BothKeep old))
edits_keep_line_ends old new edits (inr some) = some_keep old new edits some.1
