use Rattle.meson_syntax.proofs.parsing.Unique.{one-tree, has-spans, one-spanned}
use Rattle.meson_syntax.proofs.parsing.OneSpanned.{one-spanned-within, one-spanned-list}
use Rattle.meson_syntax.proofs.laws.one_tree.Goals as goal

pub returns : goal.returns
returns c = record {
  one_tree = one-tree;
  has_spans = has-spans;
  one_spanned_tree = one-spanned;
  one_spanned_tree_within = one-spanned-within;
  one_spanned_list = one-spanned-list;
}
