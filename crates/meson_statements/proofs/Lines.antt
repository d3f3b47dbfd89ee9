-- Indented items are whole lines of the same statements.
use Rattle.std.proofs.Common.{◌≡◌, ℕ, Bool, true, List, [], ◌∷◌, ◌++◌, refl, sym, ap, ◌∙◌, inl, inr, append_assoc}
use Rattle.meson_lex.specs.declared.kinds.Kind.TheVariants as k
use Rattle.meson_lex.specs.Items.{Lexeme, joined, IsItemList}
use Rattle.meson_lex.specs.Kinds.{IsLineEnd}
use Rattle.meson_lex.proofs.OneList.{one_list}
use Rattle.meson_lex.proofs.Seams.{AreItems-append, joined-append}
use Rattle.meson_syntax.specs.Reads.{Spells}
use Rattle.meson_syntax.specs.Tree.{Plain}
use Rattle.meson_edit.specs.Blocks.{EndsItsLine}
use Rattle.meson_edit.specs.ExchangedLines.{IsLinesText, file_statements, outright}
use Rattle.meson_edit.proofs.exchange.Ends.{end-changed, line-stands}
use Rattle.meson_edit.proofs.lines.Alike.{lines-alike}
use Rattle.meson_edit.proofs.lines.Exchanged.{file-is-lines}
use Rattle.meson_statements.specs.Indented.{begins_after, goes_on, indented, is_indent, lexeme, one_indented}
use Rattle.meson_statements.proofs.Standing.{all-stand}
use Rattle.meson_statements.proofs.Words.{outright-same}

-- the items before the last line end
front-of : (indent end : List ℕ) (begins : Bool) (xs : List Lexeme) → (front : List Lexeme) × (indented indent end begins xs ≡ front ++ lexeme k.LineEnd end ∷ [])
front-of indent end begins [] = ([], refl)
front-of indent end begins (x ∷ xs) =
    let one = one_indented indent end begins (goes_on xs) x.kind x.text in
    let rest = front-of indent end (begins_after begins (goes_on xs) x.kind) xs in
    (one ++ rest.0, ap (λ l. one ++ l) rest.1 ∙ sym (append_assoc one rest.0 (lexeme k.LineEnd end ∷ [])))

ends-line : (indent end : List ℕ) (begins : Bool) (xs : List Lexeme) → EndsItsLine (indented indent end begins xs)
ends-line indent end begins xs = let f = front-of indent end begins xs in inr (f.0, lexeme k.LineEnd end, refl, f.1)

-- a text's items and a line end behind them
ended : (text : List ℕ) (items : List Lexeme) → IsItemList text items → IsItemList (text ++ 10 ∷ []) (items ++ lexeme k.LineEnd (10 ∷ []) ∷ [])
ended text items are = record {
  joins = joined-append items (lexeme k.LineEnd (10 ∷ []) ∷ []) ∙ ap (λ t. t ++ 10 ∷ []) are.joins;
  each =
      AreItems-append items (lexeme k.LineEnd (10 ∷ []) ∷ []) []
      (end-changed items [] (10 ∷ []) are.each (λ front x e h. line-stands x [] (10 ∷ []) [] (inl refl) h))
      ((inl refl, refl, tt), tt);
}

pub indented-lines : (text : List ℕ) (t : Plain) → Spells text t → (items : List Lexeme) → IsItemList text items
    → (indent end : List ℕ) → is_indent indent ≡ true → IsLineEnd end → IsLinesText (joined (indented indent end true items)) (file_statements t)
indented-lines text t s items are indent end blank is_end =
    let l = file-is-lines text t s items are (10 ∷ []) (inl (inl refl)) in
    let same = one_list (text ++ 10 ∷ []) (items ++ lexeme k.LineEnd (10 ∷ []) ∷ []) l.items (ended text items are) l.are_items in
    lines-alike (text ++ 10 ∷ []) (joined (indented indent end true items)) (file_statements t) l (indented indent end true items)
    (record { joins = refl; each = all-stand indent end blank is_end items are.each true })
    (outright-same indent end true items (10 ∷ []) ∙ ap outright same)
    (ends-line indent end true items)
