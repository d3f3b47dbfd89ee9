-- A key, a colon and a value are written where the value is, whether the key is an identifier or a literal.
use Rattle.std.proofs.Common.{ℕ, true, false, List, [], ◌∷◌, ◌++◌, IsUtf8}
use Rattle.std.specs.Prelude.{Bool}
use Rattle.meson_lex.specs.declared.kinds.Kind.TheVariants as k
use Rattle.meson_lex.specs.Items.{Lexeme}
use Rattle.meson_lex.specs.Kinds.{IsIdentifier}
use Rattle.meson_lex.specs.Significant.{Word}
use Rattle.meson_syntax.specs.Tree.{Nowhere, Expression}
use Rattle.meson_syntax.specs.Grammar.{argument_words, expression_words}
use Rattle.meson_edit.specs.Edits.{Written}
use Rattle.meson_edit.specs.Places.{IsWritten}
use Rattle.meson_steps.proofs.KeyedWritten.{IsKey, identifier_key, keyed_close, keyed_wide, literal_key}
use Rattle.meson_places.specs.Changes.{written_entry, written_keyword}
use Rattle.meson_places.specs.Colons.{colon_text}

keyed : {key : Lexeme} {word : Word} (is : IsKey key word) {bytes : List ℕ} {words : List Word} (w : IsWritten bytes words) (spaced : Bool) → IsWritten (key.text ++ (colon_text spaced ++ bytes)) (word ∷ (k.Colon, []) ∷ words)
keyed is w true = keyed_wide is w
keyed is w false = keyed_close is w

module _ (key : List ℕ) (utf8 : IsUtf8 key) (spaced : Bool) (w : Written (Expression Nowhere)) (writes : IsWritten w.bytes (expression_words w.node)) where
  pub keyword_written : IsIdentifier key → IsWritten (written_keyword key (colon_text spaced) w).bytes (argument_words (written_keyword key (colon_text spaced) w).node)
  keyword_written is = keyed (identifier_key key is utf8) writes spaced

  pub entry_written : IsWritten (written_entry key (colon_text spaced) w).bytes (argument_words (written_entry key (colon_text spaced) w).node)
  entry_written = keyed (literal_key key utf8) writes spaced
