-- What every edit keeps.
use Rattle.meson_edit.proofs.Words.{refl, First, After, Remove, Replace, Wrap, RemoveStatement, Append, Assign, Lines, EditsKeep}
use Rattle.meson_edit.proofs.lists.Answers.{list-edit-keeps}
use Rattle.meson_edit.proofs.lists.Values.{wraps-value}
use Rattle.meson_edit.proofs.statements.Kept.{statement-removals-keep, appended-keep}
use Rattle.meson_edit.proofs.statements.Assigned.{assignments-keep}
use Rattle.meson_edit.proofs.statements.Lined.{lines-keep}

pub edits-keep : EditsKeep
edits-keep (First path new) limits bytes f s items are name writes t is = list-edit-keeps (First path new) limits bytes f s items are name writes t is path refl is
edits-keep (After path n new) limits bytes f s items are name writes t is = list-edit-keeps (After path n new) limits bytes f s items are name writes t is path refl is
edits-keep (Remove path n) limits bytes f s items are name writes t is = list-edit-keeps (Remove path n) limits bytes f s items are name writes t is path refl is
edits-keep (Replace path n new) limits bytes f s items are name writes t is = list-edit-keeps (Replace path n new) limits bytes f s items are name writes t is path refl is
edits-keep (Wrap path n) limits bytes f s items are name writes t is = λ primitive is_primitive text patches. (
  list-edit-keeps (Wrap path n) limits bytes f s items are name writes t is path refl is primitive is_primitive text patches,
  wraps-value path n limits bytes f s items are name t is primitive is_primitive text patches,
)
edits-keep (RemoveStatement blank path n) limits bytes f s items are name writes t is = statement-removals-keep blank path n limits bytes f s items are name t is
edits-keep (Append new) limits bytes f s items are name writes t is = appended-keep new limits bytes f s items are name writes
edits-keep (Assign path new) limits bytes f s items are name writes t is = assignments-keep path new limits bytes f s items are name writes t is
edits-keep (Lines place new) limits bytes f s items are name writes t is = lines-keep place new limits bytes f s items are name t is
