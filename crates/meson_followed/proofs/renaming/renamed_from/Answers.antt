use Rattle.std.proofs.Common.{[], ◌∷◌, map, sym, ap, subst, ◌∙◌}
use Rattle.std.specs.Prelude.{true, Err, IfOk, Ok}
use Rattle.std.specs.List.{All, list_any}
use Rattle.std.specs.Str.{IsUtf8}
use Rattle.std.proofs.lemmas.Result.{err_from_is_err_and}
use Rattle.meson_calls.specs.ChosenNotes.{placed_call}
use Rattle.meson_following.specs.CodeFollowing.{followed_project, mark_view}
use Rattle.meson_following.specs.Following.{follow_marks}
use Rattle.meson_sharing.specs.CodeOwning.{is_closed_by}
use Rattle.meson_sharing.proofs.OwnMakers.{closed}
use Rattle.meson_sources.proofs.commands.Renamed.{ok_meant, only_memory}
use Rattle.meson_followed.specs.CodeRemovals.{pass_if_kept, removal_view}
use Rattle.meson_followed.specs.CodeRenamings.{or_none, written_for}
use Rattle.meson_followed.specs.FollowedEdits.{removals_named}
use Rattle.meson_followed.specs.Renaming.{renamed_from, renamed_steps}
use Rattle.meson_followed.specs.Sources.{has_path, named_path, sources_of}
use Rattle.meson_followed.proofs.RenamedSources.{all_renamed, is_taken, may_not_be, none_found}
use Rattle.meson_followed.proofs.renaming.renamed_from.Goals as goal

pub returns-in_err-found-clause-refused : goal.returns-in_err-found-clause-refused
returns-in_err-found-clause-refused c =
    let error = err_from_is_err_and c.from_residual-in_err-found.result c.from_residual-in_err-found.ensures.1 in
    rw (error.1, error.2) (λ function other.
    let p = followed_project c.args.follower.now in
    let q = c.args.call.now in
    let it = placed_call q function c.args.source.now c.args.arguments.now in
    let marks = ap (map mark_view) c.as_slice-marks.ensures.value ∙ c.in_ok-met.ensures.marks function in
    none_found p it c.args.shared (follow_marks p it) c.args.names.old.now c.args.names.new.now _
    (ap (λ ms. removals_named p q.file ms (c.args.names.old.now ∷ [])) (sym marks)
    ∙ ap (λ names. removals_named p q.file (map mark_view c.as_slice-marks.result.now) names) (sym c.from_ref.ensures.value) ∙ c.in_err-found.ensures.refused other))

pub returns-in_err-check_if_kept-clause-refused : goal.returns-in_err-check_if_kept-clause-refused
returns-in_err-check_if_kept-clause-refused c =
    let error = err_from_is_err_and c.from_residual-in_err-check_if_kept.result c.from_residual-in_err-check_if_kept.ensures.1 in
    rw (error.1, error.2) (λ function other.
    let p = followed_project c.args.follower.now in
    let q = c.args.call.now in
    let it = placed_call q function c.args.source.now c.args.arguments.now in
    let marks = ap (map mark_view) c.as_slice-marks.ensures.value ∙ c.in_ok-met.ensures.marks function in
    let followed = c.as_slice.ensures.value ∙ c.in_ok-met.ensures.followed function in
    let ways = c.as_slice-2.ensures.value ∙ c.in_ok-ways.ensures function in
    let test = is_closed_by p true c.as_slice.result.now c.as_slice-2.result.now in
    let found = ap (λ ms. removals_named p q.file ms (c.args.names.old.now ∷ [])) (sym marks)
    ∙ ap (λ names. removals_named p q.file (map mark_view c.as_slice-marks.result.now) names) (sym c.from_ref.ensures.value) ∙ c.in_ok-found.ensures.found in
    may_not_be p it c.args.shared (follow_marks p it) c.args.names.old.now c.args.names.new.now test (λ m. closed p it true m _ _ followed ways)
    (map removal_view c.in_ok-found.found.items) found _
    (ap (λ rs. pass_if_kept p test c.args.shared (map removal_view rs)) (sym c.as_slice-3.ensures.value) ∙ c.in_err-check_if_kept.ensures.refused other))

pub returns-in_err-refuse_known-clause-refused : goal.returns-in_err-refuse_known-clause-refused
returns-in_err-refuse_known-clause-refused c =
    let error = err_from_is_err_and c.from_residual-in_err-refuse_known.result c.from_residual-in_err-refuse_known.ensures.1 in
    rw (error.1, error.2) (λ function other.
    let p = followed_project c.args.follower.now in
    let q = c.args.call.now in
    let it = placed_call q function c.args.source.now c.args.arguments.now in
    let marks = ap (map mark_view) c.as_slice-marks.ensures.value ∙ c.in_ok-met.ensures.marks function in
    let followed = c.as_slice.ensures.value ∙ c.in_ok-met.ensures.followed function in
    let ways = c.as_slice-2.ensures.value ∙ c.in_ok-ways.ensures function in
    let test = is_closed_by p true c.as_slice.result.now c.as_slice-2.result.now in
    let found = ap (λ ms. removals_named p q.file ms (c.args.names.old.now ∷ [])) (sym marks)
    ∙ ap (λ names. removals_named p q.file (map mark_view c.as_slice-marks.result.now) names) (sym c.from_ref.ensures.value) ∙ c.in_ok-found.ensures.found in
    let taken = c.in_err-refuse_known.ensures.taken other in
    is_taken p it c.args.shared (follow_marks p it) c.args.names.old.now c.args.names.new.now test (λ m. closed p it true m _ _ followed ways)
    (map removal_view c.in_ok-found.found.items) found
    (ap (λ rs. pass_if_kept p test c.args.shared (map removal_view rs)) (sym c.as_slice-3.ensures.value) ∙ c.in_ok-check_if_kept.ensures.pass)
    (ap (λ ms. list_any (has_path (named_path p q.file c.args.names.new.now)) (sources_of p q.file ms)) (sym marks) ∙ taken.1)
    ∙ ap Err (sym taken.0))

pub returns-clause-meant : goal.returns-clause-meant
returns-clause-meant c = λ function.
    let p = followed_project c.args.follower.now in
    let q = c.args.call.now in
    let it = placed_call q function c.args.source.now c.args.arguments.now in
    let old = c.args.names.old.now in
    let new = c.args.names.new.now in
    let marks = ap (map mark_view) c.as_slice-marks.ensures.value ∙ c.in_ok-met.ensures.marks function in
    let followed = c.as_slice.ensures.value ∙ c.in_ok-met.ensures.followed function in
    let ways = c.as_slice-2.ensures.value ∙ c.in_ok-ways.ensures function in
    let test = is_closed_by p true c.as_slice.result.now c.as_slice-2.result.now in
    let found = ap (λ ms. removals_named p q.file ms (old ∷ [])) (sym marks)
    ∙ ap (λ names. removals_named p q.file (map mark_view c.as_slice-marks.result.now) names) (sym c.from_ref.ensures.value) ∙ c.in_ok-found.ensures.found in
    let meant = all_renamed p it c.args.shared (follow_marks p it) old new test (λ m. closed p it true m _ _ followed ways)
    (map removal_view c.in_ok-found.found.items) found
    (ap (λ rs. pass_if_kept p test c.args.shared (map removal_view rs)) (sym c.as_slice-3.ensures.value) ∙ c.in_ok-check_if_kept.ensures.pass)
    (ap (λ ms. list_any (has_path (named_path p q.file new)) (sources_of p q.file ms)) (sym marks) ∙ c.in_ok-refuse_known.ensures.fresh) in
    ok_meant (λ v. v.items) (renamed_steps p q.file new (map removal_view c.as_slice-4.result.now)) _
    (meant ∙ ap (λ rs. Ok (renamed_steps p q.file new (map removal_view rs))) (sym c.as_slice-4.ensures.value)) c.renamed_steps.result c.renamed_steps.ensures.done

pub returns-clause-refused : goal.returns-clause-refused
returns-clause-refused c = λ function.
    let p = followed_project c.args.follower.now in
    let it = placed_call c.args.call.now function c.args.source.now c.args.arguments.now in
    only_memory (renamed_from p it c.args.shared (follow_marks p it) c.args.names.old.now c.args.names.new.now) c.renamed_steps.result c.renamed_steps.ensures.refused

pub returns-clause-utf8 : goal.returns-clause-utf8
returns-clause-utf8 c = λ function.
    let p = followed_project c.args.follower.now in
    let q = c.args.call.now in
    let new = c.args.names.new.now in
    let marks = ap (map mark_view) c.as_slice-marks.ensures.value ∙ c.in_ok-met.ensures.marks function in
    let found = ap (λ ms. removals_named p q.file ms (c.args.names.old.now ∷ [])) (sym marks)
    ∙ ap (λ names. removals_named p q.file (map mark_view c.as_slice-marks.result.now) names) (sym c.from_ref.ensures.value) ∙ c.in_ok-found.ensures.found in
    subst (λ rs. IfOk c.renamed_steps.result (λ v. All IsUtf8 (written_for p q.file new rs)))
    (ap (map removal_view) c.as_slice-4.ensures.value ∙ sym (ap or_none found)) c.renamed_steps.ensures.utf8
