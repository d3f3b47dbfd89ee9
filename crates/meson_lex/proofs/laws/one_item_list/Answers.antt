use Rattle.meson_lex.proofs.OneList.{one_list}
use Rattle.meson_lex.proofs.laws.one_item_list.Goals as goal

pub returns : goal.returns
returns c = one_list
