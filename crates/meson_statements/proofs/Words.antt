-- Indented items have the same words, tokens and comments.
use Rattle.std.proofs.Common.{◌≡◌, ℕ, Bool, true, false, List, [], ◌∷◌, ◌++◌, refl, ap, ◌∙◌, append_assoc}
use Rattle.meson_lex.specs.declared.kinds.Kind.{Kind}
use Rattle.meson_lex.specs.declared.kinds.Kind.TheVariants.{Blank, Continuation, LineEnd}
use Rattle.meson_lex.specs.Items.{Lexeme}
use Rattle.meson_lex.specs.Significant.{kept, role}
use Rattle.meson_edit.specs.ExchangedLines.{outright, outright_by}
use Rattle.meson_statements.specs.Indented.{begins_after, blanks_indented, goes_on, indent_if, indented, lexeme, one_indented, said, said_by}

module _ (indent end : List ℕ) where
  -- ---- words

  indent-outright : (begins : Bool) (i : List ℕ) (ys : List Lexeme) → outright (indent_if begins i ++ ys) ≡ outright ys
  indent-outright false i ys = refl
  indent-outright true [] ys = refl
  indent-outright true (b ∷ bs) ys = refl

  blanks-outright : (begins more : Bool) (bytes : List ℕ) (ys : List Lexeme) → outright (blanks_indented indent begins more bytes ++ ys) ≡ outright ys
  blanks-outright true true bytes ys = refl
  blanks-outright true false bytes ys = refl
  blanks-outright false more bytes ys = refl

  one-outright : (begins more : Bool) (κ : Kind) (bytes : List ℕ) (ys : List Lexeme)
      → outright (one_indented indent end begins more κ bytes ++ ys) ≡ outright_by (role κ) (κ, kept κ bytes) ++ outright ys
  one-outright begins more Blank bytes ys = blanks-outright begins more bytes ys
  one-outright begins more LineEnd bytes ys = refl
  one-outright begins more Continuation bytes ys = ap outright (append_assoc (indent_if begins indent) _ ys) ∙ indent-outright begins indent _
  one-outright begins more κ bytes ys = ap outright (append_assoc (indent_if begins indent) _ ys) ∙ indent-outright begins indent _

  pub outright-same : (begins : Bool) (xs : List Lexeme) (last : List ℕ) → outright (indented indent end begins xs) ≡ outright (xs ++ lexeme LineEnd last ∷ [])
  outright-same begins [] last = refl
  outright-same begins (x ∷ xs) last =
      one-outright begins (goes_on xs) x.kind x.text (indented indent end (begins_after begins (goes_on xs) x.kind) xs)
      ∙ ap (λ ws. outright_by (role x.kind) (x.kind, kept x.kind x.text) ++ ws) (outright-same (begins_after begins (goes_on xs) x.kind) xs last)

  -- ---- tokens and comments

  indent-said : (begins : Bool) (i : List ℕ) (ys : List Lexeme) → said (indent_if begins i ++ ys) ≡ said ys
  indent-said false i ys = refl
  indent-said true [] ys = refl
  indent-said true (b ∷ bs) ys = refl

  blanks-said : (begins more : Bool) (bytes : List ℕ) (ys : List Lexeme) → said (blanks_indented indent begins more bytes ++ ys) ≡ said ys
  blanks-said true true bytes ys = refl
  blanks-said true false bytes ys = refl
  blanks-said false more bytes ys = refl

  one-said : (begins more : Bool) (κ : Kind) (bytes : List ℕ) (ys : List Lexeme)
      → said (one_indented indent end begins more κ bytes ++ ys) ≡ said_by κ bytes ++ said ys
  one-said begins more Blank bytes ys = blanks-said begins more bytes ys
  one-said begins more LineEnd bytes ys = refl
  one-said begins more Continuation bytes ys = ap said (append_assoc (indent_if begins indent) _ ys) ∙ indent-said begins indent _
  one-said begins more κ bytes ys = ap said (append_assoc (indent_if begins indent) _ ys) ∙ indent-said begins indent _

  pub said-same : (begins : Bool) (xs : List Lexeme) → said (indented indent end begins xs) ≡ said xs
  said-same begins [] = refl
  said-same begins (x ∷ xs) =
      one-said begins (goes_on xs) x.kind x.text (indented indent end (begins_after begins (goes_on xs) x.kind) xs)
      ∙ ap (λ ys. said_by x.kind x.text ++ ys) (said-same (begins_after begins (goes_on xs) x.kind) xs)
