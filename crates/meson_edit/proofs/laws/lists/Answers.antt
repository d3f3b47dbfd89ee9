use Rattle.meson_edit.proofs.lists.Answers.{firsts-spell, insertions-spell, removals-spell, replacements-spell, wraps-spell, list-edits-look, list-edits-write}
use Rattle.meson_edit.proofs.lists.ReadAlone.{written-lists-read}
use Rattle.meson_edit.proofs.laws.lists.Goals as goal

pub returns : goal.returns
returns c = record {
  firsts = firsts-spell;
  insertions = insertions-spell;
  removals = removals-spell;
  replacements = replacements-spell;
  wraps = wraps-spell;
  look = list-edits-look;
  write = list-edits-write;
  written_read = written-lists-read;
}
