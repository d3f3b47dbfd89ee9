use Rattle.std.proofs.Common.{◌≡◌, ◌≤◌, ◌++◌, drop}
use Rattle.meson_syntax.specs.View.{args_view}
use Rattle.meson_details.specs.Values.{contents, contents_from}
use Rattle.meson_details.proofs.values.contents.Given as goal

abbrev pub invariant-loop-i : goal.invariant-loop-i
invariant-loop-i l = record {
  few : l.number ≤ l.i;
  seen : contents l.source (args_view l.source l.elements) ≡ l.all.items ++ contents_from l.source l.number (args_view l.source (drop l.i l.elements));
}
