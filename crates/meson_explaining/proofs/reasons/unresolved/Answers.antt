use Rattle.std.proofs.Common.{ap, ap₂, sym, ◌∙◌}
use Rattle.std.specs.Prelude.{codes}
use Rattle.std.proofs.lemmas.Result.{IfOk-weaker}
use Rattle.meson_explaining.specs.Removals.{not_known, removal_way, renaming_way, unresolved}
use Rattle.meson_explaining.specs.Sources.{extras_at, sources_at}
use Rattle.meson_explaining.proofs.reasons.unresolved.Goals as goal

pub returns-in_ok-items-in-SourcesRemove : goal.returns-in_ok-items-in-SourcesRemove
returns-in_ok-items-in-SourcesRemove c =
    let l = c.args.project.now in
    let target = c.in-SourcesRemove.target in
    let items = c.get.ensures ∙ c.in_ok-items-in-SourcesRemove.ensures ∙ ap (sources_at l) c.as_name.ensures in
    IfOk-weaker c.not_known.result _ _
    (λ e is. is
    ∙ ap (λ t. not_known l t (codes "sources") removal_way c.get.result.now c.get-in-SourcesRemove.result.now) c.as_name-in-SourcesRemove.ensures
    ∙ ap₂ (not_known l target (codes "sources") removal_way) items c.get-in-SourcesRemove.ensures
    ∙ sym (ap (unresolved l) c.in-SourcesRemove.is)) c.not_known.ensures

pub returns-in_ok-items-in-SourcesRename : goal.returns-in_ok-items-in-SourcesRename
returns-in_ok-items-in-SourcesRename c =
    let l = c.args.project.now in
    let target = c.in-SourcesRename.target in
    let items = c.get-in-SourcesRename.ensures ∙ c.in_ok-items-in-SourcesRename.ensures ∙ ap (sources_at l) c.as_name-in-SourcesRename.ensures in
    IfOk-weaker c.not_known-in-SourcesRename.result _ _
    (λ e is. is
    ∙ ap (λ t. not_known l t (codes "sources") renaming_way c.get-in-SourcesRename.result.now c.from_ref.result.now) c.as_name-in-SourcesRename-2.ensures
    ∙ ap₂ (not_known l target (codes "sources") renaming_way) items c.from_ref.ensures.value
    ∙ sym (ap (unresolved l) c.in-SourcesRename.is)) c.not_known-in-SourcesRename.ensures

pub returns-in_ok-items-in-ExtraRemove : goal.returns-in_ok-items-in-ExtraRemove
returns-in_ok-items-in-ExtraRemove c =
    let l = c.args.project.now in
    let target = c.in-ExtraRemove.target in
    let items = c.get-in-ExtraRemove.ensures ∙ c.in_ok-items-in-ExtraRemove.ensures ∙ ap (extras_at l) c.as_name-in-ExtraRemove.ensures in
    IfOk-weaker c.not_known-in-ExtraRemove.result _ _
    (λ e is. is
    ∙ ap (λ t. not_known l t (codes "extra_files") removal_way c.get-in-ExtraRemove.result.now c.get-in-ExtraRemove-2.result.now) c.as_name-in-ExtraRemove-2.ensures
    ∙ ap₂ (not_known l target (codes "extra_files") removal_way) items c.get-in-ExtraRemove-2.ensures
    ∙ sym (ap (unresolved l) c.in-ExtraRemove.is)) c.not_known-in-ExtraRemove.ensures
