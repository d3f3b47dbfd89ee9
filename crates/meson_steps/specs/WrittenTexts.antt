-- Texts and lists as they are written.
use Rattle.std.specs.Prelude.{ℕ, false, List, [], ◌∷◌, ◌++◌, map, codes}
use Rattle.meson_lex.specs.Literals.{literal}
use Rattle.meson_syntax.specs.declared.operator.StringKind.TheVariants as quotes
use Rattle.meson_syntax.specs.Tree.{Nowhere, Expression, string, array, listing, plain, arguments_of}
use Rattle.meson_edit.specs.Edits.{Written}

-- ---- what is written

abbrev pub string_of : List ℕ → Expression Nowhere
string_of text = string tt quotes.Plain (literal text)

abbrev pub array_of_values : List (Expression Nowhere) → Expression Nowhere
array_of_values values = array (listing tt false (arguments_of (map plain values)))

-- texts with a comma and a blank between them
abbrev pub comma_between : List (List ℕ) → List ℕ
comma_between [] = []
comma_between (x ∷ []) = x
comma_between (x ∷ y ∷ more) = x ++ (codes ", " ++ comma_between (y ∷ more))

abbrev pub written_text : List ℕ → Written (Expression Nowhere)
written_text text = record { bytes = literal text; node = string_of text }

abbrev pub written_texts : List (List ℕ) → Written (Expression Nowhere)
written_texts texts = record { bytes = 91 ∷ (comma_between (map literal texts) ++ 93 ∷ []); node = array_of_values (map string_of texts) }
