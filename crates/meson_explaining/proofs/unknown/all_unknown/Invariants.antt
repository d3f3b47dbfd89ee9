use Rattle.std.proofs.Common.{◌≡◌, ◌++◌, drop}
use Rattle.std.specs.List.{filter_map}
use Rattle.meson_syntax.specs.View.{args_view}
use Rattle.meson_variables.specs.CodeVariables.{project_of}
use Rattle.meson_explaining.specs.Unknown.{argument_unknown}
use Rattle.meson_explaining.proofs.unknown.all_unknown.Given as goal

abbrev pub invariant-loop-i : goal.invariant-loop-i
invariant-loop-i l =
    let note = argument_unknown (project_of l.variables) l.sought.file l.sought.key.now in
    l.notes.items ++ filter_map note (args_view l.sought.source.now (drop l.i l.args)) ≡ filter_map note (args_view l.sought.source.now l.args)
