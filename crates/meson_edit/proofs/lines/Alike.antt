-- Lines that differ in blanks, comments, continuations and the bytes of line ends alone have the same words.
use Rattle.meson_edit.proofs.Words.{◌≡◌, ℕ, List, [], ◌∷◌, ◌++◌, refl, sym, ap, ◌∙◌, Lexeme, IsItemList, Word, Role, Gap, Ends, Opens, Closes, Other, role, State, start}
use Rattle.meson_edit.proofs.Words.{step_by, step, emit_by, emitted, word, Nowhere, Statement, EndsItsLine}
use Rattle.meson_edit.specs.ExchangedLines.{IsLinesText, outright, outright_by}

-- the words that are left of these at a state
abbrev told_of : State → List Word → List Word
told_of s [] = []
told_of s (w ∷ ws) = emit_by (role w.0) s w ++ told_of (step_by (role w.0) s) ws

told-by : (r : Role) (s : State) (w : Word) (ws : List Word) → role w.0 ≡ r → emit_by r s w ++ told_of (step_by r s) ws ≡ told_of s (outright_by r w ++ ws)
told-by Gap s w ws is = refl
told-by Ends s w ws is = ap (λ r. emit_by r s w ++ told_of (step_by r s) ws) (sym is)
told-by Opens s w ws is = ap (λ r. emit_by r s w ++ told_of (step_by r s) ws) (sym is)
told-by Closes s w ws is = ap (λ r. emit_by r s w ++ told_of (step_by r s) ws) (sym is)
told-by Other s w ws is = ap (λ r. emit_by r s w ++ told_of (step_by r s) ws) (sym is)

emitted-of : (s : State) (xs : List Lexeme) → emitted s xs ≡ told_of s (outright xs)
emitted-of s [] = refl
emitted-of s (x ∷ xs) =
    ap (λ ws. emit_by (role x.kind) s (word x) ++ ws) (emitted-of (step s x) xs) ∙ told-by (role x.kind) s (word x) (outright xs) refl

pub lines-alike : (text now : List ℕ) (new : List (Statement Nowhere)) (l : IsLinesText text new) (items : List Lexeme) → IsItemList now items
    → outright items ≡ outright l.items → EndsItsLine items → IsLinesText now new
lines-alike text now new l items are same ends = record {
  items = items;
  are_items = are;
  is_words = emitted-of start items ∙ ap (told_of start) same ∙ sym (emitted-of start l.items) ∙ l.is_words;
  ends = ends;
}
