use Rattle.std.proofs.Common.{◌≡◌, map, take}
use Rattle.meson_explaining.specs.Notes.{plain_note}
use Rattle.meson_rewrite.proofs.remarks.plain_notes.Given as goal

abbrev pub invariant-loop-text : goal.invariant-loop-text
invariant-loop-text l = l.notes.items ≡ map plain_note (take l.text-index l.texts)
