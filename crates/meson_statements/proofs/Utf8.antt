-- Indented items of a text that is UTF-8 are UTF-8.
use Rattle.std.proofs.Common.{◌≡◌, ℕ, ◌<◌, Bool, true, false, List, [], ◌∷◌, ◌++◌, sym, ap, ◌∙◌, subst, inl, inr, append_assoc, length, length-append, get_or, arith}
use Rattle.std.proofs.Common.{lit<}
use Rattle.std.proofs.lemmas.Bool.{and_parts}
use Rattle.std.proofs.lemmas.List.{append-nil}
use Rattle.std.proofs.lemmas.Str.{IsUtf8-append, IsUtf8-from_ascii, IsUtf8-nil, IsUtf8-take, IsCharBoundary-before_ascii}
use Rattle.std.proofs.lemmas.Str.Ascii.{IsAscii-nil, IsAscii-push}
use Rattle.std.proofs.Math.Seq.{take-append_seam, get_or-append_seam}
use Rattle.std.specs.List.{list_all}
use Rattle.std.specs.Str.{IsUtf8}
use Rattle.meson_lex.specs.declared.kinds.Kind.{Kind}
use Rattle.meson_lex.specs.declared.kinds.Kind.TheVariants.{Blank, Continuation, LineEnd}
use Rattle.meson_lex.specs.Bytes.{is_blank}
use Rattle.meson_lex.specs.Items.{Lexeme, joined, AreItems}
use Rattle.meson_lex.specs.Kinds.{OfKind, IsContinuation, IsLineEnd}
use Rattle.meson_lex.proofs.Seams.{joined-append}
use Rattle.meson_edit.proofs.exchange.Appended.{break-utf8}
use Rattle.meson_edit.proofs.exchange.Cuts.{utf8-cut}
use Rattle.meson_statements.specs.Indented.{before_end, begins_after, blanks_indented, goes_on, indent_if, indented, is_indent, lexeme, one_indented}
use Rattle.meson_statements.proofs.Continuing.{before-is, blank-low}

indent-utf8 : (bs : List ℕ) → is_indent bs ≡ true → IsUtf8 bs
indent-utf8 [] all = IsUtf8-nil
indent-utf8 (b ∷ bs) all =
    let parts = and_parts (is_blank b) (list_all is_blank bs) all in
    IsUtf8-append (b ∷ []) bs (IsUtf8-from_ascii (b ∷ []) (IsAscii-push [] b IsAscii-nil (blank-low b parts.0))) (indent-utf8 bs parts.1)

-- what is before an ASCII byte
front-utf8 : (front : List ℕ) (b : ℕ) (rest : List ℕ) → b < 128 → IsUtf8 (front ++ b ∷ rest) → IsUtf8 front
front-utf8 front b rest small u =
    let n = length-append front (b ∷ rest) in
    let seam : get_or (front ++ b ∷ rest) (length front) 0 ≡ b = get_or-append_seam front b rest 0 in
    let edge = IsCharBoundary-before_ascii (front ++ b ∷ rest) (length front) (omega arith) (omega arith) in
    subst IsUtf8 (take-append_seam front (b ∷ rest)) (IsUtf8-take (front ++ b ∷ rest) (length front) u edge)

end-cut : (front end : List ℕ) → IsLineEnd end → IsUtf8 (front ++ end) → IsUtf8 front
end-cut front end (inl e) u = front-utf8 front 10 [] (lit< tt) (subst (λ t. IsUtf8 (front ++ t)) e u)
end-cut front end (inr e) u = front-utf8 front 13 (10 ∷ []) (lit< tt) (subst (λ t. IsUtf8 (front ++ t)) e u)

before-utf8 : (text : List ℕ) → IsContinuation text → IsUtf8 text → IsUtf8 (before_end text)
before-utf8 text c u =
    subst IsUtf8 (sym (before-is text c))
    (end-cut (92 ∷ (c.blanks ++ c.note)) c.end c.is_end (subst IsUtf8 (sym c.joins ∙ ap (λ l. 92 ∷ l) (sym (append_assoc c.blanks c.note c.end))) u))

module _ (indent end : List ℕ) (blank : is_indent indent ≡ true) (is_end : IsLineEnd end) where
  end-utf8 : IsUtf8 end
  end-utf8 = break-utf8 [] end (inl is_end)

  indented-utf8 : (begins : Bool) (i : List ℕ) → is_indent i ≡ true → IsUtf8 (joined (indent_if begins i))
  indented-utf8 false i all = IsUtf8-nil
  indented-utf8 true [] all = IsUtf8-nil
  indented-utf8 true (b ∷ bs) all = subst IsUtf8 (sym (append-nil (b ∷ bs))) (indent-utf8 (b ∷ bs) all)

  blanks-utf8 : (begins more : Bool) (bytes : List ℕ) → IsUtf8 bytes → IsUtf8 (joined (blanks_indented indent begins more bytes))
  blanks-utf8 true true bytes u = subst IsUtf8 (sym (append-nil (indent ++ bytes))) (IsUtf8-append indent bytes (indent-utf8 indent blank) u)
  blanks-utf8 true false bytes u = IsUtf8-nil
  blanks-utf8 false more bytes u = subst IsUtf8 (sym (append-nil bytes)) u

  after-indent : (begins : Bool) (κ : Kind) (bytes : List ℕ) → IsUtf8 bytes → IsUtf8 (joined (indent_if begins indent ++ lexeme κ bytes ∷ []))
  after-indent begins κ bytes u =
      subst IsUtf8 (sym (joined-append (indent_if begins indent) (lexeme κ bytes ∷ [])))
      (IsUtf8-append (joined (indent_if begins indent)) (bytes ++ []) (indented-utf8 begins indent blank) (subst IsUtf8 (sym (append-nil bytes)) u))

  one-utf8 : (begins more : Bool) (κ : Kind) (bytes : List ℕ) → OfKind κ bytes → IsUtf8 bytes → IsUtf8 (joined (one_indented indent end begins more κ bytes))
  one-utf8 begins more Blank bytes of u = blanks-utf8 begins more bytes u
  one-utf8 begins more LineEnd bytes of u = subst IsUtf8 (sym (append-nil end)) end-utf8
  one-utf8 begins more Continuation bytes of u =
      after-indent begins Continuation (before_end bytes ++ end) (IsUtf8-append (before_end bytes) end (before-utf8 bytes of u) end-utf8)
  one-utf8 begins more κ bytes of u = after-indent begins κ bytes u

  pub all-utf8 : (xs : List Lexeme) → AreItems xs [] → IsUtf8 (joined xs) → (begins : Bool) → IsUtf8 (joined (indented indent end begins xs))
  all-utf8 [] h u begins = subst IsUtf8 (sym (append-nil end)) end-utf8
  all-utf8 (x ∷ xs) h u begins =
      let cut = utf8-cut (x ∷ []) xs h u in
      let one = one_indented indent end begins (goes_on xs) x.kind x.text in
      let rest = indented indent end (begins_after begins (goes_on xs) x.kind) xs in
      subst IsUtf8 (sym (joined-append one rest))
      (IsUtf8-append (joined one) (joined rest)
      (one-utf8 begins (goes_on xs) x.kind x.text h.0.0 (subst IsUtf8 (append-nil x.text) cut.0))
      (all-utf8 xs h.1 cut.1 (begins_after begins (goes_on xs) x.kind)))
