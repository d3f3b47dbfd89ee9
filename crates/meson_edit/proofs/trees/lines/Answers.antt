use Rattle.meson_edit.proofs.exchange.Appended.{file-last-words}
use Rattle.meson_edit.proofs.exchange.Standing.{line-stands, own-text, line-text, file-end, statement-end, cut-utf8, spelled-reads}
use Rattle.meson_edit.proofs.trees.lines.Goals as goal

pub returns : goal.returns
returns c = record {
  statements_stand = line-stands;
  statements_are_texts = own-text;
  lines_are_texts = line-text;
  files_end = file-end;
  statements_end = statement-end;
  appended_words = λ t x. file-last-words t x;
  cuts_are_utf8 = cut-utf8;
  spelled_reads = spelled-reads;
}
