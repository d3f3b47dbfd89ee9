use Rattle.std.proofs.Common.{ap, ap₂, sym, ◌∙◌}
use Rattle.std.proofs.lemmas.Result.{IfOk-weaker}
use Rattle.meson_explaining.specs.Explaining.{not_there, with_info}
use Rattle.meson_explaining.specs.Sources.{extras_at, source_notes, sources_at}
use Rattle.meson_explaining.proofs.explaining.not_there.Goals as goal

pub returns-in_ok-items-in-SourcesRemove : goal.returns-in_ok-items-in-SourcesRemove
returns-in_ok-items-in-SourcesRemove c =
    let l = c.args.project.now in
    let items = c.get.ensures ∙ c.in_ok-items-in-SourcesRemove.ensures ∙ ap (sources_at l) c.as_name.ensures in
    IfOk-weaker c.with_info.result _ _
    (λ e is. is ∙ ap₂ (λ xs names. with_info (source_notes xs names)) items c.get-in-SourcesRemove.ensures ∙ sym (ap (not_there l) c.in-SourcesRemove.is)) c.with_info.ensures

pub returns-in_ok-items-in-SourcesRename : goal.returns-in_ok-items-in-SourcesRename
returns-in_ok-items-in-SourcesRename c =
    let l = c.args.project.now in
    let items = c.get-in-SourcesRename.ensures ∙ c.in_ok-items-in-SourcesRename.ensures ∙ ap (sources_at l) c.as_name-in-SourcesRename.ensures in
    IfOk-weaker c.with_info-in-SourcesRename.result _ _
    (λ e is. is ∙ ap₂ (λ xs names. with_info (source_notes xs names)) items c.from_ref.ensures.value ∙ sym (ap (not_there l) c.in-SourcesRename.is)) c.with_info-in-SourcesRename.ensures

pub returns-in_ok-items-in-ExtraRemove : goal.returns-in_ok-items-in-ExtraRemove
returns-in_ok-items-in-ExtraRemove c =
    let l = c.args.project.now in
    let items = c.get-in-ExtraRemove.ensures ∙ c.in_ok-items-in-ExtraRemove.ensures ∙ ap (extras_at l) c.as_name-in-ExtraRemove.ensures in
    IfOk-weaker c.with_info-in-ExtraRemove.result _ _
    (λ e is. is ∙ ap₂ (λ xs names. with_info (source_notes xs names)) items c.get-in-ExtraRemove-2.ensures ∙ sym (ap (not_there l) c.in-ExtraRemove.is)) c.with_info-in-ExtraRemove.ensures
