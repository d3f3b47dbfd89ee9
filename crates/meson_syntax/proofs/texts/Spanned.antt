-- What stands in a text has the texts that stand there.
use Rattle.std.proofs.Common.{length}
use Rattle.meson_lex.specs.Significant.{start}
use Rattle.meson_lex.specs.Located.{located, spots}
use Rattle.meson_syntax.specs.Reads.{max_depth}
use Rattle.meson_syntax.specs.ReadsList.{list_items}
use Rattle.meson_syntax.specs.Texts.{SpannedTexts, ListSpannedTexts}
use Rattle.meson_syntax.proofs.texts.Spelled.{spelled-texts, list-spelled-texts}
use Rattle.meson_syntax.proofs.texts.TokenSlices.{tokens-slices, whole-slices}

pub spanned-texts : SpannedTexts
spanned-texts limits bytes f s =
    let items = s.reads.spells.items in
    spelled-texts bytes f (length bytes) limits.depth (located items) (tokens-slices bytes items s.reads.spells.are_items) s.stands

pub list-spanned-texts : ListSpannedTexts
list-spanned-texts b bytes l s =
    let items = list_items s.reads.text in
    list-spelled-texts bytes l b max_depth (spots start 0 0 items) (whole-slices bytes items s.reads.text.are_items.joins) s.stands
