-- Of a text in UTF-8 the splices of a layout make a text in UTF-8.
use Rattle.meson_edit.proofs.Words.{◌≡◌, ℕ, List, [], ◌∷◌, Ok, sym, subst, IsUtf8, append-nil, Lexeme, joined, AreItems, IsItemList, patched_by, AreTexts}
use Rattle.meson_edit.proofs.Words.{AreUtf8, WritesUtf8, layout_of, Primitive}
use Rattle.meson_layout.proofs.Coding as layout
use Rattle.meson_edit.proofs.exchange.Cuts.{utf8-cut}

-- a text in UTF-8 has items in UTF-8
all-coded : (items : List Lexeme) → AreItems items [] → IsUtf8 (joined items) → AreUtf8 items
all-coded [] a u = tt
all-coded (x ∷ xs) a u = let cut = utf8-cut (x ∷ []) xs a u in (subst IsUtf8 (append-nil x.text) cut.0, all-coded xs a.1 cut.1)

abbrev pub CodingLaw : Type 0
CodingLaw = (file source : List ℕ) (items : List Lexeme) → IsItemList source items → IsUtf8 source → (primitive : Primitive) → WritesUtf8 primitive
    → (text : List ℕ) → patched_by source (layout_of file items primitive) ≡ Ok text → IsUtf8 text

pub coding-law : CodingLaw
coding-law file source items are utf8 primitive u text patches =
    layout.coding-law file source items are (all-coded items are.each (subst IsUtf8 (sym are.joins) utf8)) primitive u text patches

pub texts-law : (file source : List ℕ) (items : List Lexeme) → IsItemList source items → IsUtf8 source → (primitive : Primitive) → WritesUtf8 primitive → AreTexts (layout_of file items primitive)
texts-law file source items are utf8 primitive u = layout.texts-law file items (all-coded items are.each (subst IsUtf8 (sym are.joins) utf8)) primitive u
