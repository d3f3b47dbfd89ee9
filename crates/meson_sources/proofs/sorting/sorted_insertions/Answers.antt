use Rattle.meson_sources.specs.Sorting.{ordered_in}
use Rattle.meson_sources.proofs.sorting.sorted_insertions.Goals as goal
use Rattle.meson_sources.proofs.Words.{project_of}

pub returns-clause-done : goal.returns-clause-done
returns-clause-done c =
    let v = c.args.variables.now in
    c.put_names.ensures.steps (ordered_in v.files.now (project_of v) c.args.call.now c.args.list.now) c.in_ok-into.ensures.is
