use Rattle.std.proofs.Output.{has_written_of_eq}
use Rattle.meson_rewrite.proofs.RefusalObjects.{parts_are_object}
use Rattle.meson_rewrite.proofs.refused.RefusedDisplay.fmt.Goals as goal

pub returns-clause-writes : goal.returns-clause-writes
returns-clause-writes g c = λ plain ok.
    has_written_of_eq _ _ _ _ _
    (parts_are_object c.args.self.now.0.now _ _ _ _ _ _ _ _ _ c.offset.ensures c.code_of.ensures c.command.ensures c.entry.ensures c.file.ensures c.help.ensures c.left.ensures c.name.ensures
    c.notes.ensures)
    (c.write.ensures.writes plain ok)
