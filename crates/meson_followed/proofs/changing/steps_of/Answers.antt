use Rattle.std.proofs.Common.{◌≡◌, ap, ap₂, subst, sym, ◌∙◌}
use Rattle.std.specs.Prelude.{◌≢◌, All, Err, IfErr, IfOk, Ok, Result}
use Rattle.std.specs.Str.{IsUtf8}
use Rattle.std.proofs.lemmas.List.Elements.{All-nil}
use Rattle.std.proofs.lemmas.Result.{err_from_is_err_and}
use Rattle.meson_lex.specs.declared.kinds.Span.{Span}
use Rattle.meson_splice.specs.Patch.{then_ok}
use Rattle.meson_calls.specs.declared.call.Role.TheVariants as role
use Rattle.meson_calls.specs.declared.refusal.Refusal.TheVariants.{OutOfMemory}
use Rattle.meson_calls.specs.declared.refusal.Refusal.{Refusal}
use Rattle.meson_calls.specs.Calls.{Call}
use Rattle.meson_calls.specs.ChosenNotes.{call_with, placed_call}
use Rattle.meson_calls.specs.NotedProjects.{project_in}
use Rattle.meson_calls.specs.Project.{Placed, placed}
use Rattle.meson_calls.specs.Searching.{name_at}
use Rattle.meson_calls.proofs.NotedCalls.{call_file, call_in, none_noted, noted_good, one_at, one_is, the_one}
use Rattle.meson_steps.specs.declared.source_change.SourceChange.TheVariants.{Add, Remove, Rename}
use Rattle.meson_steps.specs.Meanings.{AreMeant}
use Rattle.meson_sources.proofs.commands.Renamed.{of_any}
use Rattle.meson_sources.proofs.commands.Targets.{arguments_good, function, meant_of_call}
use Rattle.meson_followed.specs.Changes.{sources_changed, target_changed}
use Rattle.meson_followed.specs.CodeRenamings.{names_written, written_names}
use Rattle.meson_followed.proofs.changing.steps_of.Goals as goal

same_ok : (x y : Placed (Call Span)) → ◌≡◌ {A = Result (Placed (Call Span)) Refusal} (Ok x) (Ok y) → x ≡ y
same_ok x y is = cc

pub the_call-requires : goal.the_call-requires
the_call-requires c = noted_good c.args.noted.now c.requires

pub returns-in_err-call-clause-refused : goal.returns-in_err-call-clause-refused
returns-in_err-call-clause-refused c =
    let error = err_from_is_err_and c.from_residual.result c.from_residual.ensures.1 in
    rw (error.1, error.2) (λ other.
    let n = c.args.noted.now in
    let why = none_noted n role.Target (name_at c.args.target) c.requires c.in_err-call.field-0.0 (c.in_err-call.ensures.refused other) in
    ap (λ r. then_ok r (sources_changed (project_in n) c.args.change.now c.args.shared)) why)

pub list_of_call-arguments-requires : goal.list_of_call-arguments-requires
list_of_call-arguments-requires c = call_in c.args.noted.now role.Target (name_at c.args.target) c.requires c.in_ok-call.call c.in_ok-call.ensures.found

pub bytes-source-requires : goal.bytes-source-requires
bytes-source-requires c = call_file c.args.noted.now role.Target (name_at c.args.target) c.requires c.in_ok-call.call c.in_ok-call.ensures.found

pub sources_added-requires-clause-project : goal.sources_added-requires-clause-project
sources_added-requires-clause-project c = c.requires.whole

pub sources_removed-requires-clause-project : goal.sources_removed-requires-clause-project
sources_removed-requires-clause-project c = c.requires.whole

pub sources_added-requires-clause-good : goal.sources_added-requires-clause-good
sources_added-requires-clause-good c =
    arguments_good c.args.noted.now (name_at c.args.target) c.requires c.in_ok-call.call c.in_ok-call.ensures.found c.list_of_call-arguments.result.now
    c.list_of_call-arguments.ensures c.bytes-source.result.now c.bytes-source.ensures

pub sources_removed-requires-clause-good : goal.sources_removed-requires-clause-good
sources_removed-requires-clause-good c =
    arguments_good c.args.noted.now (name_at c.args.target) c.requires c.in_ok-call.call c.in_ok-call.ensures.found c.list_of_call-arguments.result.now
    c.list_of_call-arguments.ensures c.bytes-source.result.now c.bytes-source.ensures

pub returns-in-Add-clause-meant : goal.returns-in-Add-clause-meant
returns-in-Add-clause-meant c =
    let n = c.args.noted.now in
    let id = name_at c.args.target in
    let found = c.in_ok-call.ensures.found in
    let steps = meant_of_call n id c.requires c.in_ok-call.call found c.list_of_call-arguments.result.now c.list_of_call-arguments.ensures
    (λ p. sources_changed p (Add c.get.result.now) c.args.shared) c.bytes-source.result.now c.bytes-source.ensures
    ∙ ap (λ k. target_changed (project_in n) id k c.args.shared) (ap Add c.get.ensures ∙ sym c.in-Add.is) in
    subst (λ m. IfOk c.sources_added.result (λ steps. AreMeant m steps.items)) steps (c.sources_added.ensures.meant (function n id c.requires c.in_ok-call.call found))

pub returns-in-Add-clause-refused : goal.returns-in-Add-clause-refused
returns-in-Add-clause-refused c =
    let n = c.args.noted.now in
    let id = name_at c.args.target in
    let found = c.in_ok-call.ensures.found in
    let steps = meant_of_call n id c.requires c.in_ok-call.call found c.list_of_call-arguments.result.now c.list_of_call-arguments.ensures
    (λ p. sources_changed p (Add c.get.result.now) c.args.shared) c.bytes-source.result.now c.bytes-source.ensures
    ∙ ap (λ k. target_changed (project_in n) id k c.args.shared) (ap Add c.get.ensures ∙ sym c.in-Add.is) in
    subst (λ m. IfErr c.sources_added.result (λ x. x ≢ OutOfMemory → m ≡ Err x)) steps
    (c.sources_added.ensures.refused (function n id c.requires c.in_ok-call.call found))

pub returns-in-Add-clause-utf8 : goal.returns-in-Add-clause-utf8
returns-in-Add-clause-utf8 c = λ call is.
    subst (λ k. IfOk c.sources_added.result (λ steps. All IsUtf8 (names_written (project_in c.args.noted.now) call k))) (ap Add c.get.ensures ∙ sym c.in-Add.is)
    c.sources_added.ensures.utf8

pub returns-in-Remove-clause-meant : goal.returns-in-Remove-clause-meant
returns-in-Remove-clause-meant c =
    let n = c.args.noted.now in
    let id = name_at c.args.target in
    let found = c.in_ok-call.ensures.found in
    let steps = meant_of_call n id c.requires c.in_ok-call.call found c.list_of_call-arguments.result.now c.list_of_call-arguments.ensures
    (λ p. sources_changed p (Remove c.get-in-Remove.result.now) c.args.shared) c.bytes-source.result.now c.bytes-source.ensures
    ∙ ap (λ k. target_changed (project_in n) id k c.args.shared) (ap Remove c.get-in-Remove.ensures ∙ sym c.in-Remove.is) in
    subst (λ m. IfOk c.sources_removed.result (λ steps. AreMeant m steps.items)) steps
    (c.sources_removed.ensures.meant (function n id c.requires c.in_ok-call.call found))

pub returns-in-Remove-clause-refused : goal.returns-in-Remove-clause-refused
returns-in-Remove-clause-refused c =
    let n = c.args.noted.now in
    let id = name_at c.args.target in
    let found = c.in_ok-call.ensures.found in
    let steps = meant_of_call n id c.requires c.in_ok-call.call found c.list_of_call-arguments.result.now c.list_of_call-arguments.ensures
    (λ p. sources_changed p (Remove c.get-in-Remove.result.now) c.args.shared) c.bytes-source.result.now c.bytes-source.ensures
    ∙ ap (λ k. target_changed (project_in n) id k c.args.shared) (ap Remove c.get-in-Remove.ensures ∙ sym c.in-Remove.is) in
    subst (λ m. IfErr c.sources_removed.result (λ x. x ≢ OutOfMemory → m ≡ Err x)) steps
    (c.sources_removed.ensures.refused (function n id c.requires c.in_ok-call.call found))

pub returns-in-Remove-clause-utf8 : goal.returns-in-Remove-clause-utf8
returns-in-Remove-clause-utf8 c = λ call is.
    subst (λ k. IfOk c.sources_removed.result (λ steps. All IsUtf8 (names_written (project_in c.args.noted.now) call k))) (sym c.in-Remove.is)
    (of_any c.sources_removed.result (All-nil IsUtf8))

pub sources_renamed-requires-clause-project : goal.sources_renamed-requires-clause-project
sources_renamed-requires-clause-project c = c.requires.whole

pub sources_renamed-requires-clause-good : goal.sources_renamed-requires-clause-good
sources_renamed-requires-clause-good c =
    arguments_good c.args.noted.now (name_at c.args.target) c.requires c.in_ok-call.call c.in_ok-call.ensures.found c.list_of_call-arguments.result.now
    c.list_of_call-arguments.ensures c.bytes-source.result.now c.bytes-source.ensures

pub returns-clause-meant : goal.returns-clause-meant
returns-clause-meant c =
    let n = c.args.noted.now in
    let id = name_at c.args.target in
    let found = c.in_ok-call.ensures.found in
    let steps = meant_of_call n id c.requires c.in_ok-call.call found c.list_of_call-arguments.result.now c.list_of_call-arguments.ensures
    (λ p. sources_changed p (Rename c.in-Rename.old c.in-Rename.new) c.args.shared) c.bytes-source.result.now c.bytes-source.ensures
    ∙ ap (λ k. target_changed (project_in n) id k c.args.shared) (sym c.in-Rename.is) in
    subst (λ m. IfOk c.sources_renamed.result (λ steps. AreMeant m steps.items)) steps
    (c.sources_renamed.ensures.meant (function n id c.requires c.in_ok-call.call found))

pub returns-clause-refused : goal.returns-clause-refused
returns-clause-refused c =
    let n = c.args.noted.now in
    let id = name_at c.args.target in
    let found = c.in_ok-call.ensures.found in
    let steps = meant_of_call n id c.requires c.in_ok-call.call found c.list_of_call-arguments.result.now c.list_of_call-arguments.ensures
    (λ p. sources_changed p (Rename c.in-Rename.old c.in-Rename.new) c.args.shared) c.bytes-source.result.now c.bytes-source.ensures
    ∙ ap (λ k. target_changed (project_in n) id k c.args.shared) (sym c.in-Rename.is) in
    subst (λ m. IfErr c.sources_renamed.result (λ x. x ≢ OutOfMemory → m ≡ Err x)) steps
    (c.sources_renamed.ensures.refused (function n id c.requires c.in_ok-call.call found))

pub returns-clause-utf8 : goal.returns-clause-utf8
returns-clause-utf8 c = λ call is.
    let n = c.args.noted.now in
    let id = name_at c.args.target in
    let place = c.in_ok-call.call in
    let found = c.in_ok-call.ensures.found in
    let a = c.list_of_call-arguments.result.now in
    let it = the_one n role.Target id c.requires place found in
    let there : placed_call place it.it.function c.bytes-source.result.now a ≡ call =
    ap (λ b. placed_call place it.it.function b a) c.bytes-source.ensures
    ∙ ap₂ (λ k m. placed k (call_with it.it.function m)) (sym (one_at n role.Target id c.requires place found))
    (c.list_of_call-arguments.ensures (call_in n role.Target id c.requires place found))
    ∙ same_ok it call (sym (one_is n role.Target id c.requires place found) ∙ is) in
    subst (λ k. IfOk c.sources_renamed.result (λ steps. All IsUtf8 (names_written (project_in n) call k))) (sym c.in-Rename.is)
    (subst (λ k. IfOk c.sources_renamed.result (λ steps. All IsUtf8 (written_names (project_in n) k c.in-Rename.old c.in-Rename.new))) there
    (c.sources_renamed.ensures.utf8 it.it.function))
