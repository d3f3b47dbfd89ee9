use Rattle.meson_targets.proofs.Words.{◌∙◌, sym, ap, project_in, note_views, taken_good, place_view, is_noted_outside, is_read_outside}
use Rattle.meson_targets.proofs.UsesFound.{when_noted, when_not_noted}
use Rattle.meson_targets.proofs.uses.is_used_outside.Goals as goal

pub is_noted_outside-requires : goal.is_noted_outside-requires
is_noted_outside-requires c =
    let n = c.args.noted.now in
    taken_good n.files.now n.trees.now c.requires.parsed _ (ap note_views c.as_slice.ensures.value ∙ c.in_ok-notes.ensures ∙ c.in_ok-taken.ensures)

pub returns-then-branch : goal.returns-then-branch
returns-then-branch c =
    let line = place_view c.args.line.now in
    let name = c.args.name.now in
    when_noted line name (project_in c.args.noted.now)
    (ap (is_noted_outside line name) (sym (ap note_views c.as_slice.ensures.value ∙ c.in_ok-notes.ensures ∙ c.in_ok-taken.ensures)) ∙ sym c.in_ok-is_noted_outside.ensures ∙ c.if-branch.true)

pub returns : goal.returns
returns c =
    let line = place_view c.args.line.now in
    let name = c.args.name.now in
    c.is_read_outside.ensures ∙ ap (is_read_outside line) (c.as_slice-2.ensures.value ∙ c.in_ok-places.ensures)
    ∙ when_not_noted line name (project_in c.args.noted.now)
    (ap (is_noted_outside line name) (sym (ap note_views c.as_slice.ensures.value ∙ c.in_ok-notes.ensures ∙ c.in_ok-taken.ensures)) ∙ sym c.in_ok-is_noted_outside.ensures ∙ c.if-branch.false)
