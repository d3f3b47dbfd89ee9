use Rattle.std.proofs.Common.{◌≡◌, ◌<◌, ◌≤◌, [], ◌∷◌, length, sym, ap, subst, ◌∙◌}
use Rattle.std.specs.Prelude.{Ok, Err, IfOk}
use Rattle.std.specs.Str.{IsUtf8}
use Rattle.std.proofs.lemmas.Result.{err_from_is_err_and}
use Rattle.meson_calls.specs.declared.refusal.Refusal.TheVariants.{DuplicateKeyword}
use Rattle.meson_calls.specs.Calls.{value_with_name}
use Rattle.meson_calls.specs.NamedArguments.{kept_args}
use Rattle.meson_calls.specs.Refusals.{RefusedAs}
use Rattle.meson_following.specs.CodeFollowing.{followed_project}
use Rattle.meson_sources.proofs.KeyTexts.{sources_text}
use Rattle.meson_steps.specs.Meanings.{AreMeant}
use Rattle.meson_steps.specs.Names.{checked_names}
use Rattle.meson_followed.proofs.RenamedSources.{renamed, renamed_twice}
use Rattle.meson_followed.proofs.renaming.sources_renamed.Goals as goal

pub at_most_once-requires : goal.at_most_once-requires
at_most_once-requires c = subst IsUtf8 (sym c.as_slice.ensures) sources_text

pub returns-in_err-at_most_once-clause-refused : goal.returns-in_err-at_most_once-clause-refused
returns-in_err-at_most_once-clause-refused c =
    let error = err_from_is_err_and c.from_residual-in_err-at_most_once.result c.from_residual-in_err-at_most_once.ensures.1 in
    rw (error.1, error.2) (λ function other.
    let p = followed_project c.args.follower.now in
    let source = c.args.source.now in
    let l = c.args.arguments.now in
    let old = c.args.names.old.now in
    let new = c.args.names.new.now in
    let checked : checked_names (old ∷ new ∷ []) ≡ Ok tt = sym c.check_names.ensures ∙ c.in_ok-check_names.was in
    let twice = c.in_err-at_most_once.ensures.twice other in
    let many = subst (λ k. 1 < length (kept_args source (value_with_name k) 0 l.items)) c.as_slice.ensures twice.1 in
    renamed_twice p c.args.call.now source l function c.args.shared old new checked many ∙ ap (λ k. Err (DuplicateKeyword k)) (sym c.as_slice.ensures)
    ∙ ap Err (sym twice.0))

pub returns-clause-meant : goal.returns-clause-meant
returns-clause-meant c = λ function.
    let p = followed_project c.args.follower.now in
    let source = c.args.source.now in
    let l = c.args.arguments.now in
    let old = c.args.names.old.now in
    let new = c.args.names.new.now in
    let checked : checked_names (old ∷ new ∷ []) ≡ Ok tt = sym c.check_names.ensures ∙ c.in_ok-check_names.was in
    let few = subst (λ k. length (kept_args source (value_with_name k) 0 l.items) ≤ 1) c.as_slice.ensures c.in_ok-at_most_once.ensures.few in
    subst (λ meant. IfOk c.renamed_from.result (λ v. AreMeant meant v.items))
    (sym (renamed p c.args.call.now source l function c.args.shared old new checked few)) (c.renamed_from.ensures.meant function)

pub returns-clause-refused : goal.returns-clause-refused
returns-clause-refused c = λ function.
    let p = followed_project c.args.follower.now in
    let source = c.args.source.now in
    let l = c.args.arguments.now in
    let old = c.args.names.old.now in
    let new = c.args.names.new.now in
    let checked : checked_names (old ∷ new ∷ []) ≡ Ok tt = sym c.check_names.ensures ∙ c.in_ok-check_names.was in
    let few = subst (λ k. length (kept_args source (value_with_name k) 0 l.items) ≤ 1) c.as_slice.ensures c.in_ok-at_most_once.ensures.few in
    subst (λ meant. RefusedAs c.renamed_from.result meant)
    (sym (renamed p c.args.call.now source l function c.args.shared old new checked few)) (c.renamed_from.ensures.refused function)
