-- The edits of runs of changed lines, one after another.
use Rattle.std.proofs.Common.{◌≡◌, ℕ, ◌+◌, ◌-◌, ◌<◌, ◌≤◌, Bool, true, false, not, cond, List, [], ◌∷◌, ◌++◌, filter, get_or, length, map, take, drop, refl, ap, subst, subst₂, sym, ◌∙◌, add-zero, arith}
use Rattle.std.specs.List.{concat}
use Rattle.std.specs.Prelude.{bytes_eq}
use Rattle.std.proofs.Math.Seq.{drop-append_seam, take-add, take-append_seam}
use Rattle.std.proofs.lemmas.List.{append_assoc, append-nil, drop-drop, drop_more, length-append, length-drop, length-take-le}
use Rattle.meson_diff.specs.Alignment.{IsAlignment, is_changed, is_new, is_old, new_lines, old_lines}
use Rattle.meson_diff.specs.declared.entry.Entry.{Entry}
use Rattle.meson_diff.specs.declared.entry.Mark.{Mark}
use Rattle.meson_diff.specs.declared.entry.Mark.TheVariants.{Kept, Gone, Come}
use Rattle.meson_diff.proofs.Files.{texts_are_read_off}
use Rattle.meson_ranges.specs.Edits.{AddsEdits, AreTrimmed, new_part, no_edits, old_part, one_more, whole_edit, whole_edits, whole_edits_from}
use Rattle.meson_ranges.specs.Trimming.{IsTrimmed, TextEdit}

-- ---- one run

so_many : (at n : ℕ) (text : List ℕ) → take (at + n - at) (drop at text) ≡ take n (drop at text)
so_many at n text =
    let same : at + n - at ≡ n = omega arith in
    ap (λ k. take k (drop at text)) same

-- these bytes of both texts, as the code cuts them
abbrev pub cut : List ℕ → ℕ → ℕ → List ℕ
cut text at n = take (at + n - at) (drop at text)

pub some_difference : (b : Bool) → not b ≡ true → b ≡ false
some_difference true h = sym h
some_difference false h = refl

pub no_difference : (b : Bool) → not b ≡ false → b ≡ true
no_difference true h = refl
no_difference false h = sym h

pub one_added : (old new : List ℕ) (at removed from added : ℕ) (e : TextEdit) (before after : List TextEdit)
    → not (bytes_eq (cut old at removed) (cut new from added)) ≡ true
    → IsTrimmed (record { at = at; was = cut old at removed; now = cut new from added }) e → after ≡ before ++ e ∷ []
    → AddsEdits (whole_edit at (take removed (drop at old)) (take added (drop from new))) before after
one_added old new at removed from added e before after differ trimmed pushed =
    let was = cut old at removed in
    let now = cut new from added in
    let whole : TextEdit = record { at = at; was = was; now = now } in
    let one : AreTrimmed (whole_edit at was now) (e ∷ []) =
    subst (λ b. AreTrimmed (cond b [] (whole ∷ [])) (e ∷ [])) (sym (some_difference (bytes_eq was now) differ)) (one_more whole e [] [] trimmed no_edits) in
    record {
      more = e ∷ [];
      trimmed = subst₂ (λ w n. AreTrimmed (whole_edit at w n) (e ∷ [])) (so_many at removed old) (so_many from added new) one;
      added = pushed;
    }

pub none_added : (old new : List ℕ) (at removed from added : ℕ) (edits : List TextEdit)
    → not (bytes_eq (cut old at removed) (cut new from added)) ≡ false
    → AddsEdits (whole_edit at (take removed (drop at old)) (take added (drop from new))) edits edits
none_added old new at removed from added edits same =
    let was = cut old at removed in
    let now = cut new from added in
    let whole : TextEdit = record { at = at; was = was; now = now } in
    let none : AreTrimmed (whole_edit at was now) [] = subst (λ b. AreTrimmed (cond b [] (whole ∷ [])) []) (sym (no_difference (bytes_eq was now) same)) no_edits in
    record {
      more = [];
      trimmed = subst₂ (λ w n. AreTrimmed (whole_edit at w n) []) (so_many at removed old) (so_many from added new) none;
      added = sym (append-nil edits);
    }

-- ---- one text

-- the run has n bytes at that offset, and these are after it
pub record IsAfter (text : List ℕ) (at n : ℕ) (rest : List ℕ) : Type 0 where
  pub within : at + n ≤ length text
  pub left : drop (at + n) text ≡ rest

pub first_run : (text rest : List ℕ) → text ≡ rest → IsAfter text 0 0 rest
first_run text rest same = record { within = omega arith; left = same }

part_within : (text part rest : List ℕ) (k : ℕ) → k ≤ length text → drop k text ≡ part ++ rest → k + length part ≤ length text
part_within text part rest k within left = omega (arith, length-drop k text, ap length left, length-append part rest)

part_left : (text part rest : List ℕ) (k : ℕ) → drop k text ≡ part ++ rest → drop (k + length part) text ≡ rest
part_left text part rest k left = sym (drop-drop (length part) k text) ∙ ap (drop (length part)) left ∙ drop-append_seam part rest

-- the run with one more part
pub longer : (text part rest : List ℕ) (at n : ℕ) → IsAfter text at n (part ++ rest) → IsAfter text at (n + length part) rest
longer text part rest at n is =
    let sum : at + n + length part ≡ at + (n + length part) = omega arith in
    let within = part_within text part rest (at + n) is.within is.left in
    record {
      within = omega (arith, within);
      left = ap (λ k. drop k text) (sym sum) ∙ part_left text part rest (at + n) is.left;
    }

pub longer_bytes : (text part rest : List ℕ) (at n : ℕ) → IsAfter text at n (part ++ rest)
    → take (n + length part) (drop at text) ≡ take n (drop at text) ++ part
longer_bytes text part rest at n is =
    take-add n (length part) (drop at text)
    ∙ ap (λ l. take n (drop at text) ++ take (length part) l) (drop-drop n at text ∙ is.left)
    ∙ ap (λ l. take n (drop at text) ++ l) (take-append_seam part rest)

-- the run after one more part
pub next_run : (text part rest : List ℕ) (at n : ℕ) → IsAfter text at n (part ++ rest) → IsAfter text (at + n + length part) 0 rest
next_run text part rest at n is =
    let within = part_within text part rest (at + n) is.within is.left in
    record {
      within = omega (arith, within);
      left = ap (λ k. drop k text) (add-zero (at + n + length part)) ∙ part_left text part rest (at + n) is.left;
    }

-- ---- the bytes of the entries

pub old_bytes-cons : (e : Entry) (rest : List Entry) → concat (old_lines (e ∷ rest)) ≡ old_part e ++ concat (old_lines rest)
old_bytes-cons e rest = elim (is_old e.mark) as (λ b. concat (map (λ (x : Entry). x.line) (cond b (e ∷ filter (λ (x : Entry). is_old x.mark) rest) (filter (λ (x : Entry). is_old x.mark) rest)))
    ≡ cond b e.line [] ++ concat (old_lines rest)) [ true ↦ refl | false ↦ refl ]

pub new_bytes-cons : (e : Entry) (rest : List Entry) → concat (new_lines (e ∷ rest)) ≡ new_part e ++ concat (new_lines rest)
new_bytes-cons e rest = elim (is_new e.mark) as (λ b. concat (map (λ (x : Entry). x.line) (cond b (e ∷ filter (λ (x : Entry). is_new x.mark) rest) (filter (λ (x : Entry). is_new x.mark) rest)))
    ≡ cond b e.line [] ++ concat (new_lines rest)) [ true ↦ refl | false ↦ refl ]

-- a line that is not changed is one of both texts
pub kept_is_old : (m : Mark) → is_changed m ≡ false → is_old m ≡ true
kept_is_old Kept h = refl
kept_is_old Gone h = absurd (let no : ⊥ = cc in no)
kept_is_old Come h = absurd (let no : ⊥ = cc in no)

kept_is_new : (m : Mark) → is_changed m ≡ false → is_new m ≡ true
kept_is_new Kept h = refl
kept_is_new Gone h = absurd (let no : ⊥ = cc in no)
kept_is_new Come h = absurd (let no : ⊥ = cc in no)

pub kept_old : (e : Entry) → is_changed e.mark ≡ false → old_part e ≡ e.line
kept_old e kept = ap (λ b. cond b e.line []) (kept_is_old e.mark kept)

pub kept_new : (e : Entry) → is_changed e.mark ≡ false → new_part e ≡ e.line
kept_new e kept = ap (λ b. cond b e.line []) (kept_is_new e.mark kept)

-- ---- the entries one after another

-- The edits so far are those of the entries before `rest`, but for the run that these end with.
pub record IsUnderWay (old new : List ℕ) (entries rest : List Entry) (at from removed added : ℕ) (edits : List TextEdit) : Type 0 where
  pub in_old : IsAfter old at removed (concat (old_lines rest))
  pub in_new : IsAfter new from added (concat (new_lines rest))
  pub go_on : (more : List TextEdit) → AreTrimmed (whole_edits_from at (take removed (drop at old)) (take added (drop from new)) rest) more
      → AreTrimmed (whole_edits entries) (edits ++ more)

pub begun : (old new : List ℕ) (entries : List Entry) → IsAlignment old new entries → IsUnderWay old new entries entries 0 0 0 0 []
begun old new entries aligned =
    let texts = texts_are_read_off old new entries aligned in
    record {
      in_old = first_run old (concat (old_lines entries)) (sym texts.0);
      in_new = first_run new (concat (new_lines entries)) (sym texts.1);
      go_on = λ more trimmed. trimmed;
    }

-- the next entry
pub next_entry : (entries : List Entry) (i : ℕ) (e : Entry) → i < length entries → e ≡ get_or entries i e → drop i entries ≡ e ∷ drop (i + 1) entries
next_entry entries i e within is = drop_more entries i e within ∙ ap (λ x. x ∷ drop (i + 1) entries) (sym is)

pub old_fits : (old new : List ℕ) (entries rest : List Entry) (e : Entry) (at from removed added : ℕ) (edits : List TextEdit)
    → IsUnderWay old new entries (e ∷ rest) at from removed added edits → at + removed + length (old_part e) ≤ length old
old_fits old new entries rest e at from removed added edits is =
    part_within old (old_part e) (concat (old_lines rest)) (at + removed) is.in_old.within (is.in_old.left ∙ old_bytes-cons e rest)

pub new_fits : (old new : List ℕ) (entries rest : List Entry) (e : Entry) (at from removed added : ℕ) (edits : List TextEdit)
    → IsUnderWay old new entries (e ∷ rest) at from removed added edits → from + added + length (new_part e) ≤ length new
new_fits old new entries rest e at from removed added edits is =
    part_within new (new_part e) (concat (new_lines rest)) (from + added) is.in_new.within (is.in_new.left ∙ new_bytes-cons e rest)

pub one_changed : (old new : List ℕ) (entries rest : List Entry) (e : Entry) (at from removed added : ℕ) (edits : List TextEdit) → is_changed e.mark ≡ true
    → IsUnderWay old new entries (e ∷ rest) at from removed added edits
    → IsUnderWay old new entries rest at from (removed + length (old_part e)) (added + length (new_part e)) edits
one_changed old new entries rest e at from removed added edits changed is =
    let in_old = subst (IsAfter old at removed) (old_bytes-cons e rest) is.in_old in
    let in_new = subst (IsAfter new from added) (new_bytes-cons e rest) is.in_new in
    let was = take removed (drop at old) in
    let now = take added (drop from new) in
    record {
      in_old = longer old (old_part e) (concat (old_lines rest)) at removed in_old;
      in_new = longer new (new_part e) (concat (new_lines rest)) from added in_new;
      go_on = λ more trimmed. is.go_on more (
          subst (λ b. AreTrimmed (cond b (whole_edits_from at (was ++ old_part e) (now ++ new_part e) rest)
          (whole_edit at was now ++ whole_edits_from (at + length was + length e.line) [] [] rest)) more) (sym changed)
          (subst₂ (λ w n. AreTrimmed (whole_edits_from at w n rest) more)
          (longer_bytes old (old_part e) (concat (old_lines rest)) at removed in_old)
          (longer_bytes new (new_part e) (concat (new_lines rest)) from added in_new) trimmed));
    }

trimmed-append : (ws xs es fs : List TextEdit) → AreTrimmed ws es → AreTrimmed xs fs → AreTrimmed (ws ++ xs) (es ++ fs)
trimmed-append _ xs _ fs no_edits more = more
trimmed-append _ xs _ fs (one_more w e ws es one rest) more = one_more w e (ws ++ xs) (es ++ fs) one (trimmed-append ws xs es fs rest more)

pub one_kept : (old new : List ℕ) (entries rest : List Entry) (e : Entry) (at from removed added : ℕ) (before after : List TextEdit) → is_changed e.mark ≡ false
    → IsUnderWay old new entries (e ∷ rest) at from removed added before
    → AddsEdits (whole_edit at (take removed (drop at old)) (take added (drop from new))) before after
    → IsUnderWay old new entries rest (at + removed + length e.line) (from + added + length e.line) 0 0 after
one_kept old new entries rest e at from removed added before after kept is adds =
    let in_old = subst (IsAfter old at removed) (old_bytes-cons e rest ∙ ap (λ l. l ++ concat (old_lines rest)) (kept_old e kept)) is.in_old in
    let in_new = subst (IsAfter new from added) (new_bytes-cons e rest ∙ ap (λ l. l ++ concat (new_lines rest)) (kept_new e kept)) is.in_new in
    let was = take removed (drop at old) in
    let now = take added (drop from new) in
    let size : length was ≡ removed = length-take-le removed (drop at old) (omega (arith, length-drop at old, is.in_old.within)) in
    record {
      in_old = next_run old e.line (concat (old_lines rest)) at removed in_old;
      in_new = next_run new e.line (concat (new_lines rest)) from added in_new;
      go_on = λ more trimmed.
          subst (AreTrimmed (whole_edits entries)) (sym (append_assoc before adds.more more) ∙ ap (λ l. l ++ more) (sym adds.added))
          (is.go_on (adds.more ++ more)
          (subst (λ b. AreTrimmed (cond b (whole_edits_from at (was ++ old_part e) (now ++ new_part e) rest)
          (whole_edit at was now ++ whole_edits_from (at + length was + length e.line) [] [] rest)) (adds.more ++ more)) (sym kept)
          (trimmed-append (whole_edit at was now) (whole_edits_from (at + length was + length e.line) [] [] rest) adds.more more adds.trimmed
          (subst (λ n. AreTrimmed (whole_edits_from (at + n + length e.line) [] [] rest) more) (sym size) trimmed))));
    }

pub finished : (old new : List ℕ) (entries rest : List Entry) (at from removed added : ℕ) (before after : List TextEdit) → rest ≡ []
    → IsUnderWay old new entries rest at from removed added before
    → AddsEdits (whole_edit at (take removed (drop at old)) (take added (drop from new))) before after
    → AreTrimmed (whole_edits entries) after
finished old new entries rest at from removed added before after none is adds =
    let was = take removed (drop at old) in
    let now = take added (drop from new) in
    subst (AreTrimmed (whole_edits entries)) (sym adds.added)
    (is.go_on adds.more (subst (λ r. AreTrimmed (whole_edits_from at was now r) adds.more) (sym none) adds.trimmed))
