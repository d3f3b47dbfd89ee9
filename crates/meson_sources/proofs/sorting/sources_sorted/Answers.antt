use Rattle.meson_calls.specs.ChosenNotes.{placed_call}
use Rattle.meson_sources.specs.Sorting.{sorted_in, sources_sorted}
use Rattle.meson_sources.proofs.sorting.sources_sorted.Goals as goal
use Rattle.meson_sources.proofs.Words.{IfOk, map, Some, subst, ◌≡◌, err_from_is_err_and, project_of, bare, home, new_names, source_marks}
use Rattle.meson_sources.proofs.commands.Meant.{put_meant}
use Rattle.meson_sources.proofs.commands.Renamed.{of_any, only_memory}

pub returns-in_err-addition-clause-refused : goal.returns-in_err-addition-clause-refused
returns-in_err-addition-clause-refused c =
    let error = err_from_is_err_and c.from_residual.result c.from_residual.ensures.1 in
    rw (error.1, error.2) (λ function other.
    let v = c.args.variables.now in
    let p = project_of v in
    let it = placed_call c.args.call.now function c.args.source.now c.args.arguments.now in
    let marks = source_marks p it in
    c.in_err-addition.ensures.refused function (sorted_in v.files.now p it.place (home it.place marks) (new_names marks c.args.names.now)) other)

pub returns-clause-meant : goal.returns-clause-meant
returns-clause-meant c = λ function.
    let v = c.args.variables.now in
    let p = project_of v in
    let it = placed_call c.args.call.now function c.args.source.now c.args.arguments.now in
    let a = c.in_ok-addition.addition in
    let new = map (λ x. x.now) a.new.items in
    let are = subst (λ ns. IfOk c.sorted_insertions.result (λ s. map Some s.items ≡ map bare (sorted_in v.files.now p it.place a.list (map (λ x. x.now) ns)))) c.as_slice.ensures.value c.sorted_insertions.ensures.done in
    put_meant (λ s. s.items) (sorted_in v.files.now p it.place) p it c.args.names.now a.list new (c.in_ok-addition.ensures.may function) c.sorted_insertions.result are

pub returns-clause-refused : goal.returns-clause-refused
returns-clause-refused c = λ function.
    let v = c.args.variables.now in
    only_memory (sources_sorted v.files.now (project_of v) (placed_call c.args.call.now function c.args.source.now c.args.arguments.now) c.args.names.now) c.sorted_insertions.result
    c.sorted_insertions.ensures.refused

pub returns-clause-utf8 : goal.returns-clause-utf8
returns-clause-utf8 c = of_any c.sorted_insertions.result c.in_ok-addition.ensures.utf8
