-- The laws of what is put into a list.
use Rattle.std.proofs.Common.{◌≡◌, ◌++◌, sym, ap, ◌∙◌, subst}
use Rattle.meson_layout.specs.declared.primitive.Primitive.TheVariants.{After}
use Rattle.meson_layout.specs.Words.{remarks}
use Rattle.meson_layout.specs.Pieces.{as_one, splices}
use Rattle.meson_layout.specs.Insertion.{inserted}
use Rattle.meson_layout.specs.Layout.{Parts, layout_of}
use Rattle.meson_layout.specs.Edited.{Edited}
use Rattle.meson_layout.specs.Laws.{InsertionLaw}
use Rattle.meson_layout.proofs.InsertedPieces.{inserted-shaped}
use Rattle.meson_layout.proofs.Inserted.{with_new, all_remarks}
use Rattle.meson_layout.proofs.SameTexts.{inserted-same}
use Rattle.meson_layout.proofs.Made.{edited}
use Rattle.meson_layout.proofs.Sites.{before, behind, whole-is, at-parts, site, all-remarks, fresh-of, as-one-same}

pub insertion-law : InsertionLaw
insertion-law file source items list l s p ends new fresh is =
    let left = before source items list l s p in
    let right = behind source items list l s p in
    let shaped = inserted-shaped l.front l.open_item l.close_item l.rest p.left p.own p.right fresh (site source items list l s p) ends (fresh-of new fresh is) in
    let whole = whole-is source items list l s p in
    let ss : layout_of file items (After s new) ≡ splices file 0 (inserted left p.own right fresh) =
    ap (λ (q : Parts). splices file 0 (inserted q.left q.own q.right (as_one new))) (at-parts source items list l s p)
    ∙ inserted-same left p.own right (as_one new) fresh (as-one-same new fresh is) file in
    let made = edited file source items l list (inserted left p.own right fresh) (p.left ++ p.own) p.right shaped.inner (with_new p.left p.own p.right fresh) (all_remarks p.left p.own p.right) (shaped.old ∙ whole) shaped.new shaped.made in
    subst (λ xs. Edited source items l (p.left ++ p.own) p.right xs (with_new p.left p.own p.right fresh) (remarks l.inner)) (sym ss)
    (subst (Edited source items l (p.left ++ p.own) p.right (splices file 0 (inserted left p.own right fresh)) (with_new p.left p.own p.right fresh)) (all-remarks source items list l s p) made)
