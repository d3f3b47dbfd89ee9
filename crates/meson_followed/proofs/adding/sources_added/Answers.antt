use Rattle.std.proofs.Common.{◌≡◌, ◌<◌, ◌≤◌, length, map, sym, ap, subst, ◌∙◌}
use Rattle.std.specs.Prelude.{◌≢◌, Ok, Err, IfOk, Some}
use Rattle.std.specs.Str.{IsUtf8}
use Rattle.std.proofs.lemmas.Result.{IfErr-weaker, IfOk-weaker, err_from_is_err_and}
use Rattle.meson_calls.specs.declared.refusal.Refusal.TheVariants.{DuplicateKeyword, OutOfMemory}
use Rattle.meson_calls.specs.Calls.{value_with_name}
use Rattle.meson_calls.specs.ChosenNotes.{placed_call}
use Rattle.meson_calls.specs.NamedArguments.{kept_args}
use Rattle.meson_following.specs.CodeFollowing.{followed_project}
use Rattle.meson_sources.specs.SourceEdits.{inserted_in}
use Rattle.meson_sources.proofs.KeyTexts.{sources_text}
use Rattle.meson_steps.specs.ListSteps.{bare}
use Rattle.meson_steps.specs.Meanings.{AreMeant}
use Rattle.meson_steps.specs.Names.{checked_names}
use Rattle.meson_followed.specs.FollowedEdits.{followed_added}
use Rattle.meson_followed.proofs.AddedSources.{added, added_twice}
use Rattle.meson_followed.proofs.adding.sources_added.Goals as goal

pub at_most_once-requires : goal.at_most_once-requires
at_most_once-requires c = subst IsUtf8 (sym c.as_slice.ensures) sources_text

pub returns-in_err-at_most_once-clause-refused : goal.returns-in_err-at_most_once-clause-refused
returns-in_err-at_most_once-clause-refused c =
    let error = err_from_is_err_and c.from_residual-in_err-at_most_once.result c.from_residual-in_err-at_most_once.ensures.1 in
    rw (error.1, error.2) (λ function other.
    let p = followed_project c.args.follower.now in
    let source = c.args.source.now in
    let l = c.args.arguments.now in
    let names = c.args.names.now in
    let checked : checked_names names ≡ Ok tt = sym c.checked_names.ensures.checked ∙ c.in_ok-checked_names.was in
    let twice = c.in_err-at_most_once.ensures.twice other in
    let many = subst (λ k. 1 < length (kept_args source (value_with_name k) 0 l.items)) c.as_slice.ensures twice.1 in
    added_twice p c.args.call.now source l function c.args.shared names checked many ∙ ap (λ k. Err (DuplicateKeyword k)) (sym c.as_slice.ensures)
    ∙ ap Err (sym twice.0))

pub returns-clause-meant : goal.returns-clause-meant
returns-clause-meant c = λ function.
    let p = followed_project c.args.follower.now in
    let source = c.args.source.now in
    let l = c.args.arguments.now in
    let names = c.args.names.now in
    let it = placed_call c.args.call.now function source l in
    let checked : checked_names names ≡ Ok tt = sym c.checked_names.ensures.checked ∙ c.in_ok-checked_names.was in
    let few = subst (λ k. length (kept_args source (value_with_name k) 0 l.items) ≤ 1) c.as_slice.ensures c.in_ok-at_most_once.ensures.few in
    let a = c.in_ok-addition.addition in
    let new = map (λ x. x.now) a.new.items in
    let is = c.in_ok-addition.ensures function in
    let are = subst (λ ns. IfOk c.insertions.result (λ v. map Some v.items ≡ map bare (inserted_in p a.list (map (λ x. x.now) ns)))) c.as_slice-2.ensures.value
    c.insertions.ensures.done in
    let steps = inserted_in p a.list new in
    let meant = added p c.args.call.now source l function c.args.shared names checked few a.list new is.is_list is.are_new in
    IfOk-weaker c.insertions.result (λ v. map Some v.items ≡ map bare steps) (λ v. AreMeant (followed_added p it c.args.shared names) v.items)
    (λ v made. record { steps = steps; is = meant; bare = sym made }) are

pub returns-clause-refused : goal.returns-clause-refused
returns-clause-refused c = λ function.
    let meant = followed_added (followed_project c.args.follower.now) (placed_call c.args.call.now function c.args.source.now c.args.arguments.now)
    c.args.shared c.args.names.now in
    IfErr-weaker c.insertions.result (λ e. e ≡ OutOfMemory) (λ e. e ≢ OutOfMemory → meant ≡ Err e) (λ e is other. absurd (other is))
    c.insertions.ensures.refused

pub returns-clause-utf8 : goal.returns-clause-utf8
returns-clause-utf8 c = IfOk-weaker c.insertions.result _ _ (λ steps done. c.in_ok-checked_names.ensures.utf8) c.insertions.ensures.done
