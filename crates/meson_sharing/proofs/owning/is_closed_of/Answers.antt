use Rattle.std.proofs.Common.{◌≡◌, sym, ap, subst, ◌∙◌}
use Rattle.std.specs.Prelude.{IfOk}
use Rattle.meson_calls.specs.ChosenNotes.{placed_call}
use Rattle.meson_following.specs.CodeArguments.{call_followed}
use Rattle.meson_following.specs.CodeFollowing.{followed_project}
use Rattle.meson_following.proofs.MetArguments.{call_is}
use Rattle.meson_sharing.proofs.OwnMakers.{closed}
use Rattle.meson_sharing.proofs.owning.is_closed_of.Goals as goal

pub returns : goal.returns
returns c = λ function.
    let p = followed_project c.args.follower.now in
    let q = c.args.call.now in
    let source = c.args.source.now in
    let l = c.args.arguments.now in
    let met = c.in_ok-found.ensures ∙ ap (call_followed p q source) c.get.ensures ∙ sym (call_is p q function source l) in
    let is = closed p (placed_call q function source l) c.args.with_uses c.args.maker.now c.as_slice.result.now c.as_slice-2.result.now
    (c.as_slice.ensures.value ∙ ap (λ f. f.followed) met)
    (c.as_slice-2.ensures.value ∙ c.in_ok-ways.ensures function) in
    subst (λ b. IfOk c.is_closed_by.result (λ r. r ≡ b)) is c.is_closed_by.ensures
