use Rattle.std.proofs.Common.{◌≡◌, ◌++◌, drop}
use Rattle.std.specs.List.{filter_map}
use Rattle.meson_syntax.specs.View.{args_view}
use Rattle.meson_explaining.specs.Values.{argument_note}
use Rattle.meson_explaining.proofs.values.argument_notes.Given as goal

abbrev pub invariant-loop-i : goal.invariant-loop-i
invariant-loop-i l =
    let note = argument_note l.file l.source l.key in
    l.notes.items ++ filter_map note (args_view l.source (drop l.i l.args)) ≡ filter_map note (args_view l.source l.args)
