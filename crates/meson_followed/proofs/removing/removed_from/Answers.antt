use Rattle.std.proofs.Common.{map, sym, ap, ◌∙◌}
use Rattle.std.specs.Prelude.{true}
use Rattle.std.proofs.lemmas.Result.{err_from_is_err_and}
use Rattle.meson_calls.specs.ChosenNotes.{placed_call}
use Rattle.meson_following.specs.CodeFollowing.{followed_project, mark_view}
use Rattle.meson_following.specs.Following.{follow_marks}
use Rattle.meson_sharing.specs.CodeOwning.{is_closed_by}
use Rattle.meson_sharing.proofs.OwnMakers.{closed}
use Rattle.meson_followed.specs.CodeRemovals.{pass_if_kept, removal_view}
use Rattle.meson_followed.specs.FollowedEdits.{removals_named, removed_steps}
use Rattle.meson_followed.proofs.RemovedSources.{all_go, may_not_go, not_found}
use Rattle.meson_followed.proofs.removing.removed_from.Goals as goal

pub returns-in_err-found-clause-refused : goal.returns-in_err-found-clause-refused
returns-in_err-found-clause-refused c =
    let error = err_from_is_err_and c.from_residual-in_err-found.result c.from_residual-in_err-found.ensures.1 in
    rw (error.1, error.2) (λ function other.
    let p = followed_project c.args.follower.now in
    let q = c.args.call.now in
    let it = placed_call q function c.args.source.now c.args.arguments.now in
    let names = c.args.names.now in
    let marks = ap (map mark_view) c.as_slice.ensures.value ∙ c.in_ok-met.ensures.marks function in
    not_found p it c.args.shared (follow_marks p it) names _
    (ap (λ ms. removals_named p q.file ms names) (sym marks) ∙ c.in_err-found.ensures.refused other))

pub returns-in_err-check_if_kept-clause-refused : goal.returns-in_err-check_if_kept-clause-refused
returns-in_err-check_if_kept-clause-refused c =
    let error = err_from_is_err_and c.from_residual-in_err-check_if_kept.result c.from_residual-in_err-check_if_kept.ensures.1 in
    rw (error.1, error.2) (λ function other.
    let p = followed_project c.args.follower.now in
    let q = c.args.call.now in
    let it = placed_call q function c.args.source.now c.args.arguments.now in
    let names = c.args.names.now in
    let marks = ap (map mark_view) c.as_slice.ensures.value ∙ c.in_ok-met.ensures.marks function in
    let followed = c.as_slice-2.ensures.value ∙ c.in_ok-met.ensures.followed function in
    let ways = c.as_slice-3.ensures.value ∙ c.in_ok-ways.ensures function in
    let test = is_closed_by p true c.as_slice-2.result.now c.as_slice-3.result.now in
    may_not_go p it test (λ m. closed p it true m _ _ followed ways) c.args.shared (follow_marks p it) names (map removal_view c.in_ok-found.found.items)
    (ap (λ ms. removals_named p q.file ms names) (sym marks) ∙ c.in_ok-found.ensures.found) _
    (ap (λ rs. pass_if_kept p test c.args.shared (map removal_view rs)) (sym c.as_slice-4.ensures.value) ∙ c.in_err-check_if_kept.ensures.refused other))

pub returns-clause-meant : goal.returns-clause-meant
returns-clause-meant c = λ function.
    let p = followed_project c.args.follower.now in
    let q = c.args.call.now in
    let it = placed_call q function c.args.source.now c.args.arguments.now in
    let names = c.args.names.now in
    let marks = ap (map mark_view) c.as_slice.ensures.value ∙ c.in_ok-met.ensures.marks function in
    let followed = c.as_slice-2.ensures.value ∙ c.in_ok-met.ensures.followed function in
    let ways = c.as_slice-3.ensures.value ∙ c.in_ok-ways.ensures function in
    let test = is_closed_by p true c.as_slice-2.result.now c.as_slice-3.result.now in
    let gone = map removal_view c.in_ok-found.found.items in
    record {
      steps = removed_steps gone;
      is = all_go p it test (λ m. closed p it true m _ _ followed ways) c.args.shared (follow_marks p it) names gone
          (ap (λ ms. removals_named p q.file ms names) (sym marks) ∙ c.in_ok-found.ensures.found)
          (ap (λ rs. pass_if_kept p test c.args.shared (map removal_view rs)) (sym c.as_slice-4.ensures.value) ∙ c.in_ok-check_if_kept.ensures.pass);
      bare = sym c.in_ok-steps.ensures;
    }
