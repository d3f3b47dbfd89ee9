use Rattle.std.proofs.Common.{◌+◌, ◌∙◌, ◌++◌, ap, drop, take}
use Rattle.std.specs.Prelude.{slice_range}
use Rattle.meson_diff.specs.Alignment.{marked, new_lines, old_lines}
use Rattle.meson_diff.specs.declared.entry.Mark.TheVariants.{Kept, Come}
use Rattle.meson_diff.proofs.Joins.{new_more, old_more}
use Rattle.meson_diff.proofs.Nearest.{nearest_more}
use Rattle.meson_diff.proofs.aligning.push_meeting.Goals as goal

pub returns-clause-of_old : goal.returns-clause-of_old
returns-clause-of_old c =
    let old = c.args.old.now in
    let new = c.args.new.now in
    let gone = c.args.at.now.gone in
    let come = c.args.at.now.come in
    ap (λ es. old_lines es ++ drop (gone + 1) old)
    (c.in_ok-push_all-3.ensures
    ∙ ap (λ es. es ++ marked Kept (slice_range old gone (gone + 1)))
    (c.in_ok-push_all-2.ensures ∙ ap (λ es. es ++ marked Come (take come new)) c.in_ok-push_all.ensures))
    ∙ old_more c.args.entries.now.items old new gone come c.requires

pub returns-clause-of_new : goal.returns-clause-of_new
returns-clause-of_new c =
    let old = c.args.old.now in
    let new = c.args.new.now in
    let gone = c.args.at.now.gone in
    let come = c.args.at.now.come in
    ap (λ es. new_lines es ++ drop (come + 1) new)
    (c.in_ok-push_all-3.ensures
    ∙ ap (λ es. es ++ marked Kept (slice_range old gone (gone + 1)))
    (c.in_ok-push_all-2.ensures ∙ ap (λ es. es ++ marked Come (take come new)) c.in_ok-push_all.ensures))
    ∙ new_more c.args.entries.now.items old new gone come c.requires

pub returns-clause-nearest : goal.returns-clause-nearest
returns-clause-nearest c =
    let old = c.args.old.now in
    let new = c.args.new.now in
    let gone = c.args.at.now.gone in
    let come = c.args.at.now.come in
    let parts = c.in_ok-push_all-3.ensures
    ∙ ap (λ es. es ++ marked Kept (slice_range old gone (gone + 1)))
    (c.in_ok-push_all-2.ensures ∙ ap (λ es. es ++ marked Come (take come new)) c.in_ok-push_all.ensures) in
    nearest_more c.args.entries.now.items c.push_all-3.new.entries.items old new gone come c.requires parts
