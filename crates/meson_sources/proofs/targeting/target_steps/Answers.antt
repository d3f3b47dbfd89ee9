use Rattle.meson_calls.specs.declared.call.Role.TheVariants as role
use Rattle.meson_sources.specs.declared.targeting.TargetChange.TheVariants as change
use Rattle.meson_sources.proofs.targeting.target_steps.Goals as goal
use Rattle.meson_calls.specs.Searching.{name_at}
use Rattle.meson_calls.proofs.NotedCalls.{call_file, call_in, none_noted, noted_good}
use Rattle.meson_sources.proofs.Words.{Err, IfErr, IfOk, ap, subst, sym, ◌∙◌, ◌≡◌, ◌≢◌, err_from_is_err_and, then_ok, project_in, OutOfMemory, AreMeant}
use Rattle.meson_sources.proofs.Words.{change_steps, target_steps}
use Rattle.meson_sources.proofs.commands.Targets.{arguments_good, as_many_there, function, steps_are}

pub the_call-requires : goal.the_call-requires
the_call-requires c = noted_good c.args.noted.now c.requires

pub returns-in_err-call-clause-refused : goal.returns-in_err-call-clause-refused
returns-in_err-call-clause-refused c =
    let error = err_from_is_err_and c.from_residual.result c.from_residual.ensures.1 in
    rw (error.1, error.2) (λ other.
    let n = c.args.noted.now in
    let why = none_noted n role.Target (name_at c.args.target) c.requires c.in_err-call.field-0.0 (c.in_err-call.ensures.refused other) in
    ap (λ r. then_ok r (change_steps (project_in n) c.args.change c.args.names.now)) why)

pub list_of_call-arguments-requires : goal.list_of_call-arguments-requires
list_of_call-arguments-requires c = call_in c.args.noted.now role.Target (name_at c.args.target) c.requires c.in_ok-call.call c.in_ok-call.ensures.found

pub bytes-source-requires : goal.bytes-source-requires
bytes-source-requires c = call_file c.args.noted.now role.Target (name_at c.args.target) c.requires c.in_ok-call.call c.in_ok-call.ensures.found

pub near_noted-requires : goal.near_noted-requires
near_noted-requires c = (role.Target, c.args.target.id.now, c.requires)

pub sources_added-requires-clause-good : goal.sources_added-requires-clause-good
sources_added-requires-clause-good c = arguments_good c.args.noted.now (name_at c.args.target) c.requires c.in_ok-call.call c.in_ok-call.ensures.found c.list_of_call-arguments.result.now c.list_of_call-arguments.ensures c.bytes-source.result.now c.bytes-source.ensures

pub sources_removed-requires-clause-good : goal.sources_removed-requires-clause-good
sources_removed-requires-clause-good c = arguments_good c.args.noted.now (name_at c.args.target) c.requires c.in_ok-call.call c.in_ok-call.ensures.found c.list_of_call-arguments.result.now c.list_of_call-arguments.ensures c.bytes-source.result.now c.bytes-source.ensures

pub extra_added-requires-clause-good : goal.extra_added-requires-clause-good
extra_added-requires-clause-good c = arguments_good c.args.noted.now (name_at c.args.target) c.requires c.in_ok-call.call c.in_ok-call.ensures.found c.list_of_call-arguments.result.now c.list_of_call-arguments.ensures c.bytes-source.result.now c.bytes-source.ensures

pub extra_removed-requires-clause-good : goal.extra_removed-requires-clause-good
extra_removed-requires-clause-good c = arguments_good c.args.noted.now (name_at c.args.target) c.requires c.in_ok-call.call c.in_ok-call.ensures.found c.list_of_call-arguments.result.now c.list_of_call-arguments.ensures c.bytes-source.result.now c.bytes-source.ensures

pub extra_added-requires-clause-there : goal.extra_added-requires-clause-there
extra_added-requires-clause-there c = as_many_there c.args.noted.now (name_at c.args.target) c.requires c.in_ok-call.call c.in_ok-call.ensures.found c.list_of_call-arguments.result.now c.list_of_call-arguments.ensures c.in_ok-variables.variables c.in_ok-variables.ensures.files c.in_ok-variables.ensures.trees

pub returns-in-SourcesAdded-clause-meant : goal.returns-in-SourcesAdded-clause-meant
returns-in-SourcesAdded-clause-meant c =
    let n = c.args.noted.now in
    let id = name_at c.args.target in
    let names = c.args.names.now in
    let found = c.in_ok-call.ensures.found in
    let steps = steps_are n id c.requires c.in_ok-call.call found c.list_of_call-arguments.result.now c.list_of_call-arguments.ensures c.in_ok-variables.variables c.in_ok-variables.ensures.files c.in_ok-variables.ensures.trees change.SourcesAdded names c.bytes-source.result.now c.bytes-source.ensures
    ∙ ap (λ k. target_steps (project_in n) id k names) (sym c.in-SourcesAdded.is) in
    subst (λ m. IfOk c.sources_added.result (λ steps. AreMeant m steps.items)) steps (c.sources_added.ensures.meant (function n id c.requires c.in_ok-call.call found))

pub returns-in-SourcesAdded-clause-refused : goal.returns-in-SourcesAdded-clause-refused
returns-in-SourcesAdded-clause-refused c =
    let n = c.args.noted.now in
    let id = name_at c.args.target in
    let names = c.args.names.now in
    let found = c.in_ok-call.ensures.found in
    let steps = steps_are n id c.requires c.in_ok-call.call found c.list_of_call-arguments.result.now c.list_of_call-arguments.ensures c.in_ok-variables.variables c.in_ok-variables.ensures.files c.in_ok-variables.ensures.trees change.SourcesAdded names c.bytes-source.result.now c.bytes-source.ensures
    ∙ ap (λ k. target_steps (project_in n) id k names) (sym c.in-SourcesAdded.is) in
    subst (λ m. IfErr c.sources_added.result (λ x. x ≢ OutOfMemory → m ≡ Err x)) steps (c.sources_added.ensures.refused (function n id c.requires c.in_ok-call.call found))

pub returns-in-SourcesRemoved-clause-meant : goal.returns-in-SourcesRemoved-clause-meant
returns-in-SourcesRemoved-clause-meant c =
    let n = c.args.noted.now in
    let id = name_at c.args.target in
    let names = c.args.names.now in
    let found = c.in_ok-call.ensures.found in
    let steps = steps_are n id c.requires c.in_ok-call.call found c.list_of_call-arguments.result.now c.list_of_call-arguments.ensures c.in_ok-variables.variables c.in_ok-variables.ensures.files c.in_ok-variables.ensures.trees change.SourcesRemoved names c.bytes-source.result.now c.bytes-source.ensures
    ∙ ap (λ k. target_steps (project_in n) id k names) (sym c.in-SourcesRemoved.is) in
    subst (λ m. IfOk c.sources_removed.result (λ steps. AreMeant m steps.items)) steps (c.sources_removed.ensures.meant (function n id c.requires c.in_ok-call.call found))

pub returns-in-SourcesRemoved-clause-refused : goal.returns-in-SourcesRemoved-clause-refused
returns-in-SourcesRemoved-clause-refused c =
    let n = c.args.noted.now in
    let id = name_at c.args.target in
    let names = c.args.names.now in
    let found = c.in_ok-call.ensures.found in
    let steps = steps_are n id c.requires c.in_ok-call.call found c.list_of_call-arguments.result.now c.list_of_call-arguments.ensures c.in_ok-variables.variables c.in_ok-variables.ensures.files c.in_ok-variables.ensures.trees change.SourcesRemoved names c.bytes-source.result.now c.bytes-source.ensures
    ∙ ap (λ k. target_steps (project_in n) id k names) (sym c.in-SourcesRemoved.is) in
    subst (λ m. IfErr c.sources_removed.result (λ x. x ≢ OutOfMemory → m ≡ Err x)) steps (c.sources_removed.ensures.refused (function n id c.requires c.in_ok-call.call found))

pub returns-in-ExtraAdded-clause-meant : goal.returns-in-ExtraAdded-clause-meant
returns-in-ExtraAdded-clause-meant c =
    let n = c.args.noted.now in
    let id = name_at c.args.target in
    let names = c.args.names.now in
    let found = c.in_ok-call.ensures.found in
    let steps = steps_are n id c.requires c.in_ok-call.call found c.list_of_call-arguments.result.now c.list_of_call-arguments.ensures c.in_ok-variables.variables c.in_ok-variables.ensures.files c.in_ok-variables.ensures.trees change.ExtraAdded names c.bytes-source.result.now c.bytes-source.ensures
    ∙ ap (λ k. target_steps (project_in n) id k names) (sym c.in-ExtraAdded.is) in
    subst (λ m. IfOk c.extra_added.result (λ steps. AreMeant m steps.items)) steps (c.extra_added.ensures.meant (function n id c.requires c.in_ok-call.call found))

pub returns-in-ExtraAdded-clause-refused : goal.returns-in-ExtraAdded-clause-refused
returns-in-ExtraAdded-clause-refused c =
    let n = c.args.noted.now in
    let id = name_at c.args.target in
    let names = c.args.names.now in
    let found = c.in_ok-call.ensures.found in
    let steps = steps_are n id c.requires c.in_ok-call.call found c.list_of_call-arguments.result.now c.list_of_call-arguments.ensures c.in_ok-variables.variables c.in_ok-variables.ensures.files c.in_ok-variables.ensures.trees change.ExtraAdded names c.bytes-source.result.now c.bytes-source.ensures
    ∙ ap (λ k. target_steps (project_in n) id k names) (sym c.in-ExtraAdded.is) in
    subst (λ m. IfErr c.extra_added.result (λ x. x ≢ OutOfMemory → m ≡ Err x)) steps (c.extra_added.ensures.refused (function n id c.requires c.in_ok-call.call found))

pub returns-clause-meant : goal.returns-clause-meant
returns-clause-meant c =
    let n = c.args.noted.now in
    let id = name_at c.args.target in
    let names = c.args.names.now in
    let found = c.in_ok-call.ensures.found in
    let steps = steps_are n id c.requires c.in_ok-call.call found c.list_of_call-arguments.result.now c.list_of_call-arguments.ensures c.in_ok-variables.variables c.in_ok-variables.ensures.files c.in_ok-variables.ensures.trees change.ExtraRemoved names c.bytes-source.result.now c.bytes-source.ensures
    ∙ ap (λ k. target_steps (project_in n) id k names) (sym c.in-ExtraRemoved.is) in
    subst (λ m. IfOk c.extra_removed.result (λ steps. AreMeant m steps.items)) steps (c.extra_removed.ensures.meant (function n id c.requires c.in_ok-call.call found))

pub returns-clause-refused : goal.returns-clause-refused
returns-clause-refused c =
    let n = c.args.noted.now in
    let id = name_at c.args.target in
    let names = c.args.names.now in
    let found = c.in_ok-call.ensures.found in
    let steps = steps_are n id c.requires c.in_ok-call.call found c.list_of_call-arguments.result.now c.list_of_call-arguments.ensures c.in_ok-variables.variables c.in_ok-variables.ensures.files c.in_ok-variables.ensures.trees change.ExtraRemoved names c.bytes-source.result.now c.bytes-source.ensures
    ∙ ap (λ k. target_steps (project_in n) id k names) (sym c.in-ExtraRemoved.is) in
    subst (λ m. IfErr c.extra_removed.result (λ x. x ≢ OutOfMemory → m ≡ Err x)) steps (c.extra_removed.ensures.refused (function n id c.requires c.in_ok-call.call found))
