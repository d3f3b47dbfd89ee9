use Rattle.std.specs.Str.{IsUtf8}
use Rattle.std.proofs.Common.{subst, sym}
use Rattle.std.proofs.lemmas.List.Elements.{All-get_or}
use Rattle.meson_ranges.specs.declared.ranges.RangedEdit.{RangedEdit}
use Rattle.meson_rewrite.proofs.objects.edits_array.Goals as goal

abbrev Both : RangedEdit → Type 0
Both r = IsUtf8 r.edit.was × IsUtf8 r.edit.now

pub edit_object-requires-clause-was : goal.edit_object-requires-clause-was
edit_object-requires-clause-was c = (subst Both (sym c.edit-item.is) (All-get_or Both c.args.edits.now c.loop-edit.edit-index c.edit-item.result c.loop-edit-test.true c.requires)).0

pub edit_object-requires-clause-now : goal.edit_object-requires-clause-now
edit_object-requires-clause-now c = (subst Both (sym c.edit-item.is) (All-get_or Both c.args.edits.now c.loop-edit.edit-index c.edit-item.result c.loop-edit-test.true c.requires)).1
