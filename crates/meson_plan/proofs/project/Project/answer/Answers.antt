use Rattle.std.proofs.Common.{Ok, sym, ap, ◌∙◌, subst}
use Rattle.std.proofs.lemmas.Result.{err_from_is_err_and}
use Rattle.serde_json.specs.View.{view}
use Rattle.meson_plan.specs.Listing.{kwargs_listing, target_listing}
use Rattle.meson_plan.specs.Performing.{Performs}
use Rattle.meson_plan.proofs.Agreeing.{calls_listed, targets_listed, values_listed}
use Rattle.meson_plan.proofs.Answered.{call-refused, target-refused, target-told, value-refused}
use Rattle.meson_plan.proofs.SplicesDone.{performs-keep}
use Rattle.meson_plan.proofs.project.Project.answer.Goals as goal
use Rattle.meson_calls.specs.Searching.{name_at}

pub returns-in_err-listing-in-TargetInfo-clause-refused : goal.returns-in_err-listing-in-TargetInfo-clause-refused
returns-in_err-listing-in-TargetInfo-clause-refused c =
    let l = c.args.self.now in
    let p = err_from_is_err_and c.from_residual-in_err-listing-in-TargetInfo.result c.from_residual-in_err-listing-in-TargetInfo.ensures.1 in
    let same = ap (target_listing l c.in-TargetInfo.reading) (sym c.as_name.ensures) ∙ ap (λ k. target_listing k c.in-TargetInfo.reading (name_at c.as_name.result)) (sym c.keep.ensures) in
    rw (p.1, p.2) (λ other. rw c.in-TargetInfo.is (target-refused l _ _ _ (same ∙ c.in_err-listing-in-TargetInfo.ensures.refused other)))

pub returns-in_err-listing-in-KwargsInfo-clause-refused : goal.returns-in_err-listing-in-KwargsInfo-clause-refused
returns-in_err-listing-in-KwargsInfo-clause-refused c =
    let l = c.args.self.now in
    let p = err_from_is_err_and c.from_residual-in_err-listing-in-KwargsInfo.result c.from_residual-in_err-listing-in-KwargsInfo.ensures.1 in
    rw (p.1, p.2) (λ other. rw c.in-KwargsInfo.is (call-refused l _ _ _ (ap (kwargs_listing l _) (sym c.as_name-in-KwargsInfo.ensures) ∙ c.in_err-listing-in-KwargsInfo.ensures.refused other)))

pub returns-in_err-listing-in-ArgumentInfo-clause-refused : goal.returns-in_err-listing-in-ArgumentInfo-clause-refused
returns-in_err-listing-in-ArgumentInfo-clause-refused c =
    let l = c.args.self.now in
    let p = err_from_is_err_and c.from_residual-in_err-listing-in-ArgumentInfo.result c.from_residual-in_err-listing-in-ArgumentInfo.ensures.1 in
    rw (p.1, p.2) (λ other. rw c.in-ArgumentInfo.is (value-refused l _ _ (c.in_err-listing-in-ArgumentInfo.ensures.refused other)))

pub returns-in_ok-answer-in-TargetInfo-clause-done : goal.returns-in_ok-answer-in-TargetInfo-clause-done
returns-in_ok-answer-in-TargetInfo-clause-done c =
    let l = c.args.self.now in
    let done = c.in_ok-answer-in-TargetInfo.answer.done in
    let is = ap (target_listing l c.in-TargetInfo.reading) (sym c.as_name.ensures) ∙ ap (λ k. target_listing k c.in-TargetInfo.reading (name_at c.as_name.result)) (sym c.keep.ensures) ∙ c.in_ok-listing-in-TargetInfo.ensures.listed in
    subst (Performs l c.args.command.now done) (sym c.keep.ensures)
    (rw c.in-TargetInfo.is ((targets_listed l _ _).done (view c.in_ok-listing-in-TargetInfo.listing) done is c.reads.ensures c.in_ok-answer-in-TargetInfo.ensures.0))

pub returns-in_ok-answer-in-TargetInfo-clause-told : goal.returns-in_ok-answer-in-TargetInfo-clause-told
returns-in_ok-answer-in-TargetInfo-clause-told c =
    let l = c.args.self.now in
    let is = ap (target_listing l c.in-TargetInfo.reading) (sym c.as_name.ensures) ∙ ap (λ k. target_listing k c.in-TargetInfo.reading (name_at c.as_name.result)) (sym c.keep.ensures) ∙ c.in_ok-listing-in-TargetInfo.ensures.listed in
    rw c.in-TargetInfo.is (target-told l _ _ (view c.in_ok-listing-in-TargetInfo.listing) is ∙ ap Ok (sym c.in_ok-answer-in-TargetInfo.ensures.1))

pub returns-in_ok-answer-in-KwargsInfo-clause-done : goal.returns-in_ok-answer-in-KwargsInfo-clause-done
returns-in_ok-answer-in-KwargsInfo-clause-done c =
    let l = c.args.self.now in
    let is = ap (kwargs_listing l _) (sym c.as_name-in-KwargsInfo.ensures) ∙ c.in_ok-listing-in-KwargsInfo.ensures.listed in
    rw c.in-KwargsInfo.is ((calls_listed l _ _).done (view c.in_ok-listing-in-KwargsInfo.listing) c.in_ok-answer-in-KwargsInfo.answer.done is c.reads.ensures c.in_ok-answer-in-KwargsInfo.ensures.0)

pub returns-in_ok-answer-in-ArgumentInfo-clause-done : goal.returns-in_ok-answer-in-ArgumentInfo-clause-done
returns-in_ok-answer-in-ArgumentInfo-clause-done c =
    let l = c.args.self.now in
    rw c.in-ArgumentInfo.is
    ((values_listed l _).done (view c.in_ok-listing-in-ArgumentInfo.listing) c.in_ok-answer-in-ArgumentInfo.answer.done c.in_ok-listing-in-ArgumentInfo.ensures.listed c.reads.ensures
    c.in_ok-answer-in-ArgumentInfo.ensures.0)

pub returns-in_ok-answer-in-TargetInfo-clause-untouched : goal.returns-in_ok-answer-in-TargetInfo-clause-untouched
returns-in_ok-answer-in-TargetInfo-clause-untouched c = performs-keep _ _ _ _ (returns-in_ok-answer-in-TargetInfo-clause-done c)

pub returns-in_ok-answer-in-KwargsInfo-clause-untouched : goal.returns-in_ok-answer-in-KwargsInfo-clause-untouched
returns-in_ok-answer-in-KwargsInfo-clause-untouched c = performs-keep _ _ _ _ (returns-in_ok-answer-in-KwargsInfo-clause-done c)

pub returns-in_ok-answer-in-ArgumentInfo-clause-untouched : goal.returns-in_ok-answer-in-ArgumentInfo-clause-untouched
returns-in_ok-answer-in-ArgumentInfo-clause-untouched c = performs-keep _ _ _ _ (returns-in_ok-answer-in-ArgumentInfo-clause-done c)

pub returns-in_ok-done-in_default-clause-untouched : goal.returns-in_ok-done-in_default-clause-untouched
returns-in_ok-done-in_default-clause-untouched c = performs-keep _ _ _ _ c.in_ok-done-in_default.ensures.done
