use Rattle.std.proofs.Common.{map, ap, ◌∙◌}
use Rattle.std.specs.Prelude.{count_by}
use Rattle.meson_calls.specs.ChosenNotes.{placed_call}
use Rattle.meson_following.specs.CodeFollowing.{followed_project, mark_view}
use Rattle.meson_sharing.specs.CodeTold.{told_view}
use Rattle.meson_sharing.specs.Told.{is_opaque}
use Rattle.meson_sharing.proofs.ToldTargets.{told_is}
use Rattle.meson_sharing.proofs.told.tell_of.Goals as goal

pub returns : goal.returns
returns c = λ function.
    let p = followed_project c.args.follower.now in
    let call = placed_call c.args.call.now function c.args.source.now c.args.arguments.now in
    let found = c.in_ok-marks in
    let are_marks = found.ensures.marks function in
    told_is p call c.as_slice.result.now c.as_slice-2.result.now
    (c.as_slice.ensures.value ∙ found.ensures.followed function)
    (c.as_slice-2.ensures.value ∙ c.in_ok-ways.ensures function)
    (told_view (record { items = c.in_ok-items.items; unknown = c.count_unknown-unknown.result })) (map mark_view found.field-0.marks.items) are_marks
    c.in_ok-items.ensures
    (c.count_unknown-unknown.ensures ∙ ap (λ ms. count_by is_opaque (map mark_view ms)) c.as_slice-3.ensures.value ∙ ap (count_by is_opaque) are_marks)
