use Rattle.meson_syntax.proofs.texts.Spelled.{spelled-texts, list-spelled-texts}
use Rattle.meson_syntax.proofs.texts.TokenSlices.{tokens-slices}
use Rattle.meson_syntax.proofs.texts.Spanned.{spanned-texts, list-spanned-texts}
use Rattle.meson_syntax.proofs.laws.texts.Goals as goal

pub returns : goal.returns
returns c = record {
  tokens_are_slices = tokens-slices;
  spelled_texts = spelled-texts;
  list_spelled_texts = list-spelled-texts;
  spanned_texts = spanned-texts;
  list_spanned_texts = list-spanned-texts;
}
