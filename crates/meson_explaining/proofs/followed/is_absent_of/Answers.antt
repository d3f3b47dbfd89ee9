use Rattle.std.proofs.Common.{ap, sym, ◌∙◌}
use Rattle.meson_calls.specs.ChosenNotes.{Source, placed_call}
use Rattle.meson_followed.specs.FollowedEdits.{followed_removed}
use Rattle.meson_following.specs.CodeFollowing.{followed_project}
use Rattle.meson_steps.specs.declared.source_change.SharedLists.TheVariants.{Changed}
use Rattle.meson_explaining.proofs.FollowedReasons.{done_alone, not_memory, refused_alone}
use Rattle.meson_explaining.proofs.followed.is_absent_of.Goals as goal

pub returns-in-Ok : goal.returns-in-Ok
returns-in-Ok c = λ (function : Source).
    let p = followed_project c.args.follower.now in
    let call = placed_call c.args.call.now function c.args.source.now c.args.arguments.now in
    let meant = c.in-Ok.ensures.meant function in
    done_alone p call c.args.name.now meant.steps (ap (followed_removed p call Changed) (sym c.from_ref.ensures.value) ∙ meant.is)

pub returns : goal.returns
returns c = λ (function : Source).
    let p = followed_project c.args.follower.now in
    let call = placed_call c.args.call.now function c.args.source.now c.args.arguments.now in
    let why = c.in-Err.refusal in
    let refused = c.in-Err.ensures.refused function (not_memory why (sym c.is_memory.ensures ∙ c.if-is_memory.false)) in
    c.is_gone.ensures ∙ refused_alone p call c.args.name.now why (ap (followed_removed p call Changed) (sym c.from_ref.ensures.value) ∙ refused)
