-- Entries that are changes.
use Rattle.std.proofs.Common.{ℕ, ◌+◌, ◌<◌, List, [], ◌∷◌, ◌++◌, length, ap, subst, sym, ◌∙◌, arith}
use Rattle.std.proofs.lemmas.List.{append_assoc, append-nil, get_or_append_left, length-append}
use Rattle.meson_diff.specs.Alignment.{KeepsNearest, NoneNearer, NoneOfBoth, marked, nearest, new_lines, none_left, old_lines}
use Rattle.meson_diff.specs.Changes.{AreChanges, change, last_change}
use Rattle.meson_diff.specs.declared.entry.Entry.{Entry}
use Rattle.meson_diff.specs.declared.entry.Mark.TheVariants.{Kept, Gone, Come}

-- no line of those before the nearest one of both is one of both
none_before : (gone come os ns : List (List ℕ)) → NoneNearer (gone ++ os) (come ++ ns) (length gone + length come) → NoneOfBoth gone come
none_before gone come os ns none i j near_old near_new meets =
    let in_old : i < length gone = meets.in_old in
    let in_new : j < length come = meets.in_new in
    none i j near_old near_new (omega (arith, in_old, in_new))
    (record {
      in_old = omega (arith, in_old, length-append gone os);
      in_new = omega (arith, in_new, length-append come ns);
      one_line = λ d. get_or_append_left gone os d i in_old ∙ meets.one_line d ∙ sym (get_or_append_left come ns d j in_new);
    })

pub are_changes : (es : List Entry) → KeepsNearest es → AreChanges es
are_changes _ (none_left gone come none) = last_change gone come none
are_changes _ (nearest gone come line behind none keeps) =
    change gone come line behind (none_before gone come (line ∷ old_lines behind) (line ∷ new_lines behind) none) (are_changes behind keeps)

-- ---- kept lines before and behind them

nothing_apart : NoneOfBoth [] []
nothing_apart i j near_old near_new meets = absurd (omega (arith, meets.in_old))

all_kept : (lines : List (List ℕ)) → AreChanges (marked Kept lines)
all_kept [] = last_change [] [] nothing_apart
all_kept (line ∷ lines) = change [] [] line (marked Kept lines) nothing_apart (all_kept lines)

pub kept_before : (lines : List (List ℕ)) (es : List Entry) → AreChanges es → AreChanges (marked Kept lines ++ es)
kept_before [] es changes = changes
kept_before (line ∷ lines) es changes = change [] [] line (marked Kept lines ++ es) nothing_apart (kept_before lines es changes)

pub kept_behind : (es : List Entry) (lines : List (List ℕ)) → AreChanges es → AreChanges (es ++ marked Kept lines)
kept_behind _ [] (last_change gone come none) =
    subst AreChanges (sym (append-nil (marked Gone gone ++ marked Come come))) (last_change gone come none)
kept_behind _ (line ∷ lines) (last_change gone come none) =
    subst AreChanges (sym (append_assoc (marked Gone gone) (marked Come come) (marked Kept (line ∷ lines))))
    (change gone come line (marked Kept lines) none (all_kept lines))
kept_behind _ lines (change gone come line behind none changes) =
    let goes = marked Gone gone in
    let comes = marked Come come in
    let last = marked Kept (line ∷ []) in
    let end = marked Kept lines in
    let parts = append_assoc goes (comes ++ (last ++ behind)) end ∙ ap (λ l. goes ++ l) (append_assoc comes (last ++ behind) end) in
    subst AreChanges (sym parts) (change gone come line (behind ++ end) none (kept_behind behind lines changes))
