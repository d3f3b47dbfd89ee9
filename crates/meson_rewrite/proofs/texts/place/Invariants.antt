use Rattle.std.proofs.Common.{◌≡◌, take}
use Rattle.meson_gathering.specs.Gathering.{named_folder}
use Rattle.meson_rewrite.specs.Texts.{placed}
use Rattle.meson_rewrite.proofs.texts.place.Given as goal

abbrev pub invariant-loop-text : goal.invariant-loop-text
invariant-loop-text l = l.files ≡ placed (named_folder l.dir) (take l.text-index l.texts)
