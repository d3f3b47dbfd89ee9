-- The law of a removed element.
use Rattle.std.proofs.Common.{◌≡◌, List, ◌++◌, sym, ap, ◌∙◌, subst}
use Rattle.meson_lex.specs.Items.{Lexeme}
use Rattle.meson_layout.specs.declared.primitive.Primitive.TheVariants.{Remove}
use Rattle.meson_layout.specs.Words.{remarks}
use Rattle.meson_layout.specs.Pieces.{splices}
use Rattle.meson_layout.specs.Removal.{removed}
use Rattle.meson_layout.specs.Layout.{Parts, layout_of}
use Rattle.meson_layout.specs.Edited.{Edited}
use Rattle.meson_layout.specs.Laws.{RemovalLaw}
use Rattle.meson_layout.proofs.Removed.{removed-shaped}
use Rattle.meson_layout.proofs.Made.{edited}
use Rattle.meson_layout.proofs.Sites.{before, behind, whole-is, at-parts, site}

pub removal-law : RemovalLaw
removal-law file source items list l s p ends follows words without =
    let left = before source items list l s p in
    let right = behind source items list l s p in
    let notes : List Lexeme = remarks p.left ++ remarks p.right in
    let shaped = removed-shaped l.front l.open_item l.close_item l.rest p.left p.own p.right (site source items list l s p) ends follows words without in
    let ss : layout_of file items (Remove s) ≡ splices file 0 (removed left p.own right) = ap (λ (q : Parts). splices file 0 (removed q.left q.own q.right)) (at-parts source items list l s p) in
    subst (λ xs. Edited source items l p.left p.right xs words notes) (sym ss)
    (edited file source items l list (removed left p.own right) p.left p.right shaped.inner words notes (shaped.old ∙ whole-is source items list l s p) shaped.new shaped.made)
