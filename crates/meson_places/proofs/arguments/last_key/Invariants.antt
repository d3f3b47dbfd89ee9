use denote.Shadow.{shadow}
use denote.Text.{Utf8}
use Rattle.std.proofs.Common.{◌≡◌, take}
use Rattle.std.specs.Prelude.{All}
use Rattle.std.specs.Str.{IsUtf8}
use Rattle.meson_places.specs.Arguments.{last_key}
use Rattle.meson_places.proofs.arguments.last_key.Given as goal

abbrev pub invariant-loop-i : goal.invariant-loop-i
invariant-loop-i l = record {
  utf8 : shadow (Utf8 l.last);
  last : l.last ≡ last_key (take l.i l.keys);
  texts : All IsUtf8 (take l.i l.keys);
}
