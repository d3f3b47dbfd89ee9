use Rattle.std.proofs.Common.{◌≡◌, drop}
use Rattle.std.specs.List.{list_all}
use Rattle.meson_syntax.specs.View.{args_view}
use Rattle.meson_places.specs.Values.{is_text}
use Rattle.meson_places.proofs.changes.all_texts.Given as goal

abbrev pub invariant-loop-i : goal.invariant-loop-i
invariant-loop-i l = list_all is_text (args_view l.source (drop l.i l.elements)) ≡ list_all is_text (args_view l.source l.elements)
