use Rattle.std.proofs.Common.{take}
use Rattle.std.specs.Prelude.{All}
use Rattle.meson_calls.specs.Folders.{IsFileName}
use Rattle.meson_json.proofs.TextsFacts.{AreApart}
use Rattle.meson_json.proofs.texts_file.are_texts.Given as goal

abbrev pub invariant-loop-i : goal.invariant-loop-i
invariant-loop-i l = record {
  named : All (λ t. IsFileName t.0) (take l.i l.texts);
  apart : AreApart l.i l.texts;
}
