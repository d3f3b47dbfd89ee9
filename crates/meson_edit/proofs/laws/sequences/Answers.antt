use Rattle.meson_edit.proofs.paths.PutThere.{lists-stay}
use Rattle.meson_edit.proofs.paths.DeepLists.{depths-grow}
use Rattle.meson_edit.proofs.paths.Shallow.{lists-are-shallow}
use Rattle.meson_edit.proofs.sequences.Deepened.{edits-deepen, edits-deepen-by-one, removals-stay-within, firsts-stay-within, insertions-stay-within}
use Rattle.meson_edit.proofs.sequences.Levelled.{removals-keep-levels, wraps-keep-levels, replacements-keep-levels, firsts-keep-levels, insertions-keep-levels}
use Rattle.meson_edit.proofs.sequences.Assigned.{assignments-deepen, assignments-keep-levels}
use Rattle.meson_edit.proofs.sequences.Lined.{line-edits-deepen, lines-keep-levels}
use Rattle.meson_edit.proofs.laws.sequences.Goals as goal

pub returns : goal.returns
returns c = record {
  stay = lists-stay;
  depths = depths-grow;
  shallow = lists-are-shallow;
  deepen = edits-deepen;
  removals_within = removals-stay-within;
  firsts_within = firsts-stay-within;
  insertions_within = insertions-stay-within;
  by_one = edits-deepen-by-one;
  assigned_deepen = assignments-deepen;
  lines_deepen = line-edits-deepen;
  removals_level = removals-keep-levels;
  wraps_level = wraps-keep-levels;
  replacements_level = replacements-keep-levels;
  assigned_level = assignments-keep-levels;
  lines_level = lines-keep-levels;
  firsts_level = firsts-keep-levels;
  insertions_level = insertions-keep-levels;
}
