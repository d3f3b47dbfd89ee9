use Rattle.std.proofs.Common.{◌≡◌, ◌++◌, drop}
use Rattle.std.specs.List.{filter_map}
use Rattle.meson_syntax.specs.View.{args_view}
use Rattle.meson_details.specs.Details.{shown_argument}
use Rattle.meson_details.proofs.showing.shown_arguments.Given as goal

abbrev pub invariant-loop-i : goal.invariant-loop-i
invariant-loop-i l = l.pairs.items ++ filter_map (shown_argument l.source l.role) (args_view l.source (drop l.i l.args)) ≡ filter_map (shown_argument l.source l.role) (args_view l.source l.args)
