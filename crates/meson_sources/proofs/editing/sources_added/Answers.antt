use Rattle.meson_calls.specs.ChosenNotes.{placed_call}
use Rattle.meson_sources.specs.SourceEdits.{inserted_in, sources_added}
use Rattle.meson_sources.proofs.editing.sources_added.Goals as goal
use Rattle.meson_sources.proofs.Words.{IfOk, map, Some, subst, ◌≡◌, err_from_is_err_and, project_of, bare, home, new_names, source_marks}
use Rattle.meson_sources.proofs.commands.Meant.{put_meant}
use Rattle.meson_sources.proofs.commands.Renamed.{of_any, only_memory}

pub returns-in_err-addition-clause-refused : goal.returns-in_err-addition-clause-refused
returns-in_err-addition-clause-refused c =
    let error = err_from_is_err_and c.from_residual.result c.from_residual.ensures.1 in
    rw (error.1, error.2) (λ function other.
    let p = project_of c.args.variables.now in
    let it = placed_call c.args.call.now function c.args.source.now c.args.arguments.now in
    let marks = source_marks p it in
    c.in_err-addition.ensures.refused function (inserted_in p (home it.place marks) (new_names marks c.args.names.now)) other)

pub returns-clause-meant : goal.returns-clause-meant
returns-clause-meant c = λ function.
    let p = project_of c.args.variables.now in
    let it = placed_call c.args.call.now function c.args.source.now c.args.arguments.now in
    let a = c.in_ok-addition.addition in
    let new = map (λ x. x.now) a.new.items in
    let are = subst (λ ns. IfOk c.insertions.result (λ v. map Some v.items ≡ map bare (inserted_in p a.list (map (λ x. x.now) ns)))) c.as_slice.ensures.value c.insertions.ensures.done in
    put_meant (λ v. v.items) (inserted_in p) p it c.args.names.now a.list new (c.in_ok-addition.ensures.may function) c.insertions.result are

pub returns-clause-refused : goal.returns-clause-refused
returns-clause-refused c = λ function.
    only_memory (sources_added (project_of c.args.variables.now) (placed_call c.args.call.now function c.args.source.now c.args.arguments.now) c.args.names.now) c.insertions.result c.insertions.ensures.refused

pub returns-clause-utf8 : goal.returns-clause-utf8
returns-clause-utf8 c = of_any c.insertions.result c.in_ok-addition.ensures.utf8
