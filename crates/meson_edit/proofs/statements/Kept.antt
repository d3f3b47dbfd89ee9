-- What an edit of a whole statement leaves as it is.
use Rattle.meson_edit.proofs.Words.{option_map, option_and_then, Some, Ok, ◌≡◌, ℕ, List, ◌++◌, length, sym, ap, ap₂, subst, ◌∙◌, append_assoc, Lexeme, joined}
use Rattle.meson_edit.proofs.Words.{IsItemList, Span, one_list, patched_by, layout_of, Primitive, append-law, statement-removal-law, statement_words}
use Rattle.meson_edit.proofs.Words.{IsSpannedWithin, Nowhere, Plain, Statement, File, erase, Limits, some-injective, statement_in, Written, RemoveStatement}
use Rattle.meson_edit.proofs.Words.{Append, edited, EditKeeps, LineStands, primitive_of, span_of_statement, Writes, statement_span}
use Rattle.meson_layout.specs.declared.primitive.BlankLines.{BlankLines}
use Rattle.meson_layout.specs.declared.primitive.Primitive.TheVariants as layout
use Rattle.meson_edit.proofs.exchange.Standing.{file-end, line-stands, statement-end}
use Rattle.meson_edit.proofs.statements.Erasing.{leaves}
use Rattle.meson_edit.proofs.statements.Removed.{line-place}

-- ---- a statement that goes

pub statement-removals-keep : (blank : BlankLines) (path : List ℕ) (n : ℕ) (limits : Limits) (bytes : List ℕ) (f : File Span) → IsSpannedWithin limits bytes f → (items : List Lexeme) → IsItemList bytes items → (name : List ℕ)
    → (t : Plain) → edited (RemoveStatement blank path n) (erase f) ≡ Some t → (primitive : Primitive) → primitive_of f (RemoveStatement blank path n) ≡ Some primitive
    → (text : List ℕ) → patched_by bytes (layout_of name items primitive) ≡ Ok text → EditKeeps bytes text f items (RemoveStatement blank path n)
statement-removals-keep blank path n limits bytes f s items are name t is primitive is_primitive text patches =
    let v = leaves f path n t is in
    let x = v.node in
    let sp = statement_span x in
    let same_items = one_list bytes s.reads.spells.items items s.reads.spells.are_items are in
    let l = subst (λ xs. LineStands xs sp _ _) same_items (line-stands limits bytes f s path v.place v.is_place n x v.is_node) in
    let g = statement-removal-law name bytes items are blank sp l.more (line-place items sp _ _ l) in
    let is_span : span_of_statement f path n ≡ Some sp =
    ap (λ o. option_map statement_span (option_and_then (λ b. statement_in b.inside n) o)) v.is_place
    ∙ ap (option_map statement_span) v.is_node in
    let laid : primitive ≡ layout.RemoveStatement sp blank = some-injective _ _ (sym is_primitive ∙ ap (option_map (λ q. layout.RemoveStatement q blank)) is_span) in
    let made : text ≡ joined g.front ++ joined g.rest =
    (let both = sym patches ∙ ap (λ q. patched_by bytes (layout_of name items q)) laid ∙ g.edited.patches in cc) in (
      sp,
      is_span,
      record {
        front = g.front;
        before = g.gone;
        own = l.own;
        behind = g.lost;
        back = g.rest;
        old = l.parts ∙ ap₂ (λ a b. a ++ (l.own ++ b)) g.left_is g.right_is ∙ append_assoc g.front g.gone (l.own ++ (g.lost ++ g.rest));
        new = made;
        from = l.from ∙ ap (λ a. length (joined a)) g.left_is;
        to = l.to ∙ ap (λ a. length (joined a)) (ap (λ a. a ++ l.own) g.left_is ∙ append_assoc g.front g.gone l.own);
        is_cut = g.is_cut;
      },
    )

-- ---- a statement that comes

pub appended-keep : (new : Written (Statement Nowhere)) (limits : Limits) (bytes : List ℕ) (f : File Span) → IsSpannedWithin limits bytes f → (items : List Lexeme) → IsItemList bytes items → (name : List ℕ)
    → Writes (Append new) → (primitive : Primitive) → primitive_of f (Append new) ≡ Some primitive
    → (text : List ℕ) → patched_by bytes (layout_of name items primitive) ≡ Ok text → EditKeeps bytes text f items (Append new)
appended-keep new limits bytes f s items are name writes primitive is_primitive text patches =
    let spells = s.reads.spells in
    let own = writes.text in
    let depth = file-end bytes (erase f) spells items are in
    let a = append-law name bytes items are depth new.bytes own.items (statement_words new.node)
    (record { are_items = own.are_items; tight = own.tight; says = own.is_words; ends = statement-end new.node new.bytes own }) in
    let laid : primitive ≡ layout.Append new.bytes = some-injective _ _ (sym is_primitive) in
    (a.0, (let both = sym patches ∙ ap (λ q. patched_by bytes (layout_of name items q)) laid ∙ a.1.patches in cc))
