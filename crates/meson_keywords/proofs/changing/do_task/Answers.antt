use Rattle.meson_keywords.proofs.Words.{◌++◌, ◌∙◌, arith, err_from_is_err_and}
use Rattle.meson_keywords.proofs.CallKnown.{within_files, within_trees}
use Rattle.meson_steps.proofs.StepTaken.{when_ok}
use Rattle.meson_keywords.proofs.TasksGo.{args_known, no_list, task_done, task_under_way}
use Rattle.meson_keywords.proofs.changing.do_task.Goals as goal

pub unreachable-requires : goal.unreachable-requires
unreachable-requires c =
    let w = c.args.work.now in
    let b = c.requires.1.between in
    let within = within_trees w.saved.items w.files w.trees.items b.reached.known c.args.call.now b.stands in
    omega (arith, within, c.len.ensures, c.if-file-len.true)

pub bytes-source-requires : goal.bytes-source-requires
bytes-source-requires c =
    let w = c.args.work.now in
    let b = c.requires.1.between in
    within_files w.saved.items w.files w.trees.items b.reached.known c.args.call.now b.stands

pub task_steps-requires : goal.task_steps-requires
task_steps-requires c =
    let old = c.requires.0 in
    let n = c.requires.1 in
    (args_known old c.args.call.now c.args.work.now n.before n.between c.bytes-source.result.now c.index.result.now c.bytes-source.ensures c.index.ensures c.in-Some.list.now c.get-args.result.now (c.in-Some.ensures) c.get-args.ensures).good

pub unreachable-requires-in-None : goal.unreachable-requires-in-None
unreachable-requires-in-None c =
    let old = c.requires.0 in
    let n = c.requires.1 in
    no_list old c.args.call.now c.args.work.now n.before n.between c.bytes-source.result.now c.index.result.now c.bytes-source.ensures c.index.ensures c.in-None.ensures

pub do_steps-requires : goal.do_steps-requires
do_steps-requires c =
    let old = c.requires.0 in
    let n = c.requires.1 in
    let args = args_known old c.args.call.now c.args.work.now n.before n.between c.bytes-source.result.now c.index.result.now c.bytes-source.ensures c.index.ensures c.in-Some.list.now c.get-args.result.now (c.in-Some.ensures) c.get-args.ensures in
    let m = c.in_ok-steps-in-Some.ensures.meant n.meant n.is in
    (old, n.before ++ m.steps, task_under_way old c.args.call.now c.args.work.now n.before n.between n.meant n.may m.steps (args.steps n.meant ∙ m.is) c.in_ok-steps-in-Some.steps.items m.bare)

pub returns-clause-done : goal.returns-clause-done
returns-clause-done c = λ old before t b is may.
    let call = c.args.call.now in
    let w = c.args.work.now in
    let args = args_known old call w before b c.bytes-source.result.now c.index.result.now c.bytes-source.ensures c.index.ensures c.in-Some.list.now c.get-args.result.now (c.in-Some.ensures) c.get-args.ensures in
    let m = c.in_ok-steps-in-Some.ensures.meant t is in
    let are = args.steps t ∙ m.is in
    when_ok c.do_steps.result (task_done old call w before b t may m.steps are c.do_steps.new.self)
    (c.do_steps.ensures.done old (before ++ m.steps) (task_under_way old call w before b t may m.steps are c.in_ok-steps-in-Some.steps.items m.bare))

pub returns-in_err-steps-in-Some-clause-refused : goal.returns-in_err-steps-in-Some-clause-refused
returns-in_err-steps-in-Some-clause-refused c = λ old before t b is may.
    let error = err_from_is_err_and c.from_residual.result c.from_residual.ensures.1 in
    rw (error.1, error.2) (λ other.
    let args = args_known old c.args.call.now c.args.work.now before b c.bytes-source.result.now c.index.result.now c.bytes-source.ensures c.index.ensures c.in-Some.list.now c.get-args.result.now (c.in-Some.ensures) c.get-args.ensures in
    args.steps t ∙ c.in_err-steps-in-Some.ensures.refused t is other)
