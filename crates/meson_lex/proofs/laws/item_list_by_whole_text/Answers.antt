use Rattle.meson_lex.proofs.WholeText.{by_whole_text}
use Rattle.meson_lex.proofs.laws.item_list_by_whole_text.Goals as goal

pub returns : goal.returns
returns c = by_whole_text
