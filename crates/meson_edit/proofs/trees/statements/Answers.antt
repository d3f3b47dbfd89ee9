use Rattle.meson_edit.proofs.exchange.Removed.{removals-level, statement-gone, removal-reads}
use Rattle.meson_edit.proofs.exchange.Appended.{file-last-level, statement-come, appended-reads}
use Rattle.meson_edit.proofs.trees.statements.Goals as goal

pub returns : goal.returns
returns c = record {
  statements_go = statement-gone;
  removals_read_again = removal-reads;
  removals_level = removals-level;
  statements_come = statement-come;
  appended_read_again = appended-reads;
  appending_levels = file-last-level;
}
