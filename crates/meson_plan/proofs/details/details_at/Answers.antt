use Rattle.std.proofs.Common.{Some, refl, ap, ◌∙◌}
use Rattle.std.specs.Prelude.{option_and_then}
use Rattle.std.proofs.lemmas.Result.{err_from_is_err_and}
use Rattle.meson_syntax.specs.View.{list_view, name_at, text_at}
use Rattle.meson_variables.specs.CodeVariables.{project_of}
use Rattle.meson_details.specs.Details.{head_of}
use Rattle.meson_plan.specs.Details.{no_extra, no_sources}
use Rattle.meson_plan.proofs.DetailsThere.{extra_there}
use Rattle.meson_plan.proofs.details.details_at.Goals as goal

pub returns-in_err-sources-clause-refused : goal.returns-in_err-sources-clause-refused
returns-in_err-sources-clause-refused c =
    let error = err_from_is_err_and c.from_residual.result c.from_residual.ensures.1 in
    rw (error.1, error.2) (λ other. no_sources c.in_err-sources.field-0.0 (c.in_err-sources.ensures.refused other))

pub returns-in_err-extra_files-clause-refused : goal.returns-in_err-extra_files-clause-refused
returns-in_err-extra_files-clause-refused c =
    let called = c.call_at-called.result in
    let text = text_at called.source.now called.name in
    let list = list_view called.source.now called.arguments.now in
    let there = extra_there c.args.place called.span (name_at called.source.now called.name) list (project_of c.args.variables.now) c.call_at-called.ensures.at in
    let error = err_from_is_err_and c.from_residual-in_err-extra_files.result c.from_residual-in_err-extra_files.ensures.1 in
    rw (error.1, error.2) (λ other. no_extra c.in_ok-sources.sources c.in_err-extra_files.field-0.0 c.in_ok-sources.ensures.found (there ∙ ap Some (c.in_err-extra_files.ensures.refused text other)))

pub returns-clause-told : goal.returns-clause-told
returns-clause-told c =
    let called = c.call_at-called.result in
    let text = text_at called.source.now called.name in
    let list = list_view called.source.now called.arguments.now in
    let there = extra_there c.args.place called.span (name_at called.source.now called.name) list (project_of c.args.variables.now) c.call_at-called.ensures.at in
    record {
      is_place = refl;
      is_head = ap (option_and_then head_of) c.call_at-called.ensures.at ∙ c.in_ok-head.ensures;
      are_sources = c.in_ok-sources.ensures.found;
      are_extra = there ∙ ap Some (c.in_ok-extra_files.ensures.found text);
    }
