use Rattle.std.proofs.Common.{◌≡◌, Some, take, sym, ap, ap₂, ◌∙◌, subst₂}
use Rattle.std.specs.Prelude.{IsTrue}
use Rattle.std.specs.List.{filter_map}
use Rattle.meson_calls.specs.Loading.{named_trees, project, views}
use Rattle.meson_calls.specs.Project.{expression_at}
use Rattle.meson_calls.specs.declared.call.Role.TheVariants as role
use Rattle.meson_details.specs.Called.{called_view}
use Rattle.meson_details.specs.Details.{is_call}
use Rattle.meson_plan.proofs.PlacesFound.{call_found}
use Rattle.meson_syntax.specs.View.{args_view}
use Rattle.meson_variables.specs.CodeVariables.{project_of}
use Rattle.meson_explaining.specs.Unknown.{argument_unknown}
use Rattle.meson_explaining.proofs.UnknownArguments.{unknown_found}
use Rattle.meson_explaining.proofs.unknown.unknown_arguments.Goals as goal
use Rattle.meson_calls.specs.Searching.{name_at}

pub call_at-called-requires-clause-there : goal.call_at-called-requires-clause-there
call_at-called-requires-clause-there c =
    subst₂ (λ fs ts. IsTrue (is_call (named_trees fs (views fs ts)) c.in-Ok.place)) (sym c.files-in-Ok.ensures) (sym c.trees-in-Ok.ensures)
    (call_found c.args.project.now role.Target (name_at c.args.target) c.in-Ok.place c.in-Ok.ensures.found)

pub returns-in-Ok : goal.returns-in-Ok
returns-in-Ok c =
    let l = c.args.project.now in
    let key = c.args.key.now in
    let place = c.in-Ok.place in
    let called = c.call_at-called.result in
    let variables = c.in_ok-variables-in-Ok.variables in
    let source = called.source.now in
    let at = subst₂ (λ fs ts. expression_at (named_trees fs (views fs ts)) place ≡ Some (called_view called)) c.files-in-Ok.ensures c.trees-in-Ok.ensures c.call_at-called.ensures.at in
    let same : project_of variables ≡ project l =
    ap₂ (λ fs ts. named_trees fs (views fs ts)) (c.in_ok-variables-in-Ok.ensures.files ∙ c.files.ensures) (c.in_ok-variables-in-Ok.ensures.trees ∙ c.trees.ensures) in
    let notes = c.in_ok-notes-in-Ok.ensures
    ∙ ap₂ (λ p xs. filter_map (argument_unknown p place.file key) (args_view source xs)) same c.after_first-args.ensures in
    c.truncate.ensures.items ∙ ap (take 3) notes
    ∙ unknown_found l (name_at c.args.target) key place called c.get.result.now c.in-Ok.ensures.found at c.get.ensures
