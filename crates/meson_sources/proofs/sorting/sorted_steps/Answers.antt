use Rattle.meson_calls.specs.declared.call.Role.TheVariants as role
use Rattle.meson_calls.specs.Searching.{name_at}
use Rattle.meson_calls.proofs.NotedCalls.{call_file, call_in, none_noted, noted_good}
use Rattle.meson_sources.specs.Sorting.{sources_sorted}
use Rattle.meson_sources.specs.Targeted.{sorted_steps}
use Rattle.meson_sources.proofs.sorting.sorted_steps.Goals as goal
use Rattle.meson_sources.proofs.Words.{Err, IfErr, IfOk, ap, subst, ◌∙◌, ◌≡◌, ◌≢◌, err_from_is_err_and, then_ok, project_in, OutOfMemory, AreMeant}
use Rattle.meson_sources.proofs.commands.Targets.{arguments_good, function, meant_of_code}

pub the_call-requires : goal.the_call-requires
the_call-requires c = noted_good c.args.noted.now c.requires

pub returns-in_err-call-clause-refused : goal.returns-in_err-call-clause-refused
returns-in_err-call-clause-refused c =
    let error = err_from_is_err_and c.from_residual.result c.from_residual.ensures.1 in
    rw (error.1, error.2) (λ other.
    let n = c.args.noted.now in
    let why = none_noted n role.Target (name_at c.args.target) c.requires c.in_err-call.field-0.0 (c.in_err-call.ensures.refused other) in
    ap (λ r. then_ok r (λ k. sources_sorted n.files.now (project_in n) k c.args.names.now)) why)

pub list_of_call-arguments-requires : goal.list_of_call-arguments-requires
list_of_call-arguments-requires c = call_in c.args.noted.now role.Target (name_at c.args.target) c.requires c.in_ok-call.call c.in_ok-call.ensures.found

pub bytes-source-requires : goal.bytes-source-requires
bytes-source-requires c = call_file c.args.noted.now role.Target (name_at c.args.target) c.requires c.in_ok-call.call c.in_ok-call.ensures.found

pub near_noted-requires : goal.near_noted-requires
near_noted-requires c = (role.Target, c.args.target.id.now, c.requires)

pub sources_sorted-requires-clause-good : goal.sources_sorted-requires-clause-good
sources_sorted-requires-clause-good c = arguments_good c.args.noted.now (name_at c.args.target) c.requires c.in_ok-call.call c.in_ok-call.ensures.found c.list_of_call-arguments.result.now c.list_of_call-arguments.ensures c.bytes-source.result.now c.bytes-source.ensures

pub returns-clause-meant : goal.returns-clause-meant
returns-clause-meant c =
    let n = c.args.noted.now in
    let id = name_at c.args.target in
    let names = c.args.names.now in
    let found = c.in_ok-call.ensures.found in
    let v = c.in_ok-variables.variables in
    let files = c.in_ok-variables.ensures.files in
    let same = meant_of_code n id c.requires c.in_ok-call.call found c.list_of_call-arguments.result.now c.list_of_call-arguments.ensures v files c.in_ok-variables.ensures.trees
    (λ p k. sources_sorted v.files.now p k names) c.bytes-source.result.now c.bytes-source.ensures
    ∙ ap (λ fs. sorted_steps fs (project_in n) id names) files in
    subst (λ m. IfOk c.sources_sorted.result (λ steps. AreMeant m steps.items)) same (c.sources_sorted.ensures.meant (function n id c.requires c.in_ok-call.call found))

pub returns-clause-refused : goal.returns-clause-refused
returns-clause-refused c =
    let n = c.args.noted.now in
    let id = name_at c.args.target in
    let names = c.args.names.now in
    let found = c.in_ok-call.ensures.found in
    let v = c.in_ok-variables.variables in
    let files = c.in_ok-variables.ensures.files in
    let same = meant_of_code n id c.requires c.in_ok-call.call found c.list_of_call-arguments.result.now c.list_of_call-arguments.ensures v files c.in_ok-variables.ensures.trees
    (λ p k. sources_sorted v.files.now p k names) c.bytes-source.result.now c.bytes-source.ensures
    ∙ ap (λ fs. sorted_steps fs (project_in n) id names) files in
    subst (λ m. IfErr c.sources_sorted.result (λ x. x ≢ OutOfMemory → m ≡ Err x)) same (c.sources_sorted.ensures.refused (function n id c.requires c.in_ok-call.call found))
