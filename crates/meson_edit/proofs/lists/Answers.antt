-- The laws of edits of lists.
use Rattle.meson_edit.proofs.Words.{◌≡◌, ℕ, List, Some, Ok, sym, subst, Lexeme, IsItemList, Span, patched_by, layout_of, Primitive, IsSpannedWithin, Plain}
use Rattle.meson_edit.proofs.Words.{File, erase, Limits, Edit, First, After, Remove, Replace, Wrap, RemoveStatement, Append, Assign, Lines, edited, edited_list, KeepsIn}
use Rattle.meson_edit.proofs.Words.{FirstsSpell, InsertionsSpell, RemovalsSpell, ReplacementsSpell, WrapsSpell, IsEditOf, ListEditsLook, ListEditsWrite}
use Rattle.meson_edit.proofs.Words.{primitive_of, Writes}
use Rattle.meson_edit.proofs.lists.Found.{found}
use Rattle.meson_edit.proofs.lists.LaidOut.{Lays, spelled, ready, written, kept}
use Rattle.meson_edit.proofs.lists.Elements.{first-lays, after-lays, remove-lays}
use Rattle.meson_edit.proofs.lists.Others.{stays-before, stays-behind}
use Rattle.meson_edit.proofs.lists.Values.{replace-lays, wrap-lays}

pub firsts-spell : FirstsSpell
firsts-spell path new = spelled (First path new) path (first-lays path new)

pub insertions-spell : InsertionsSpell
insertions-spell path n new = spelled (After path n new) path (after-lays path n new)

pub removals-spell : RemovalsSpell
removals-spell path n = spelled (Remove path n) path (remove-lays path n)

pub replacements-spell : ReplacementsSpell
replacements-spell path n new = spelled (Replace path n new) path (replace-lays path n new)

pub wraps-spell : WrapsSpell
wraps-spell path n = spelled (Wrap path n) path (wrap-lays path n)

-- every edit of a list can be laid out
list-lays : (e : Edit) (path : List ℕ) → IsEditOf path e → Lays e path
list-lays (First list new) path is = subst (Lays (First list new)) (sym is) (first-lays list new)
list-lays (After list n new) path is = subst (Lays (After list n new)) (sym is) (after-lays list n new)
list-lays (Remove list n) path is = subst (Lays (Remove list n)) (sym is) (remove-lays list n)
list-lays (Replace list n new) path is = subst (Lays (Replace list n new)) (sym is) (replace-lays list n new)
list-lays (Wrap list n) path is = subst (Lays (Wrap list n)) (sym is) (wrap-lays list n)
list-lays (RemoveStatement blank block n) path is = absurd is
list-lays (Assign assignment new) path is = absurd is
list-lays (Append new) path is = absurd is
list-lays (Lines place new) path is = absurd is

pub list-edits-write : ListEditsWrite
list-edits-write e limits bytes f s items are name writes t is path names = written e path (list-lays e path names) limits bytes f s items are name writes t is

pub list-edits-look : ListEditsLook
list-edits-look e limits bytes f s writes t is path names = ready e path (list-lays e path names) limits bytes f s writes t is

-- what an edit of a list keeps
pub list-edit-keeps : (e : Edit) (limits : Limits) (bytes : List ℕ) (f : File Span) → IsSpannedWithin limits bytes f → (items : List Lexeme) → IsItemList bytes items → (name : List ℕ)
    → Writes e → (t : Plain) → edited e (erase f) ≡ Some t → (path : List ℕ) → IsEditOf path e → edited_list e path (erase f) ≡ Some t → (primitive : Primitive) → primitive_of f e ≡ Some primitive
    → (text : List ℕ) → patched_by bytes (layout_of name items primitive) ≡ Ok text → KeepsIn bytes text f items e path
list-edit-keeps e limits bytes f s items are name writes t is path names there primitive is_primitive text patches =
    let o = found f e path t there in
    let k = kept e path (list-lays e path names) limits bytes f s items are name writes t is o.p o.is_p primitive is_primitive text patches in
    record { p = o.p; is_p = o.is_p; list = k; others = λ m x is_x. (stays-before bytes text items are e o.p k m x is_x, stays-behind bytes text items are e o.p k m x is_x) }
