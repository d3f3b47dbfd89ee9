use denote.Shadow.{shadow}
use denote.Text.{Utf8}
use Rattle.std.proofs.Common.{◌≡◌, ◌++◌, length}
use Rattle.meson_json.specs.Arguments.{between_dots}
use Rattle.meson_json.proofs.argument.keys_in.Given as goal

abbrev pub invariant-loop-key : goal.invariant-loop-key
invariant-loop-key l = record {
  utf8 : shadow (Utf8 l.rest);
  so_far : l.keys.items ++ between_dots l.rest ≡ between_dots l.fn.word;
}

abbrev pub decreases-loop-key : goal.decreases-loop-key
decreases-loop-key l = length l.rest
