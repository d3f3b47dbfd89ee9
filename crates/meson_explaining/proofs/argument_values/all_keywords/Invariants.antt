use Rattle.std.proofs.Common.{◌≡◌, ◌++◌, drop}
use Rattle.std.specs.Prelude.{option_map}
use Rattle.std.specs.List.{filter_map}
use Rattle.meson_splice.specs.Files.{bytes_at}
use Rattle.meson_syntax.specs.View.{args_view}
use Rattle.meson_explaining.specs.ArgumentValues.{keyword_note}
use Rattle.meson_explaining.proofs.argument_values.all_keywords.Given as goal

abbrev pub invariant-loop-i : goal.invariant-loop-i
invariant-loop-i l =
    let note = keyword_note l.files l.file (option_map (λ key. key.now) l.key) in
    let source = bytes_at l.file l.files in
    l.notes.items ++ filter_map note (args_view source (drop l.i l.args)) ≡ filter_map note (args_view source l.args)
