-- Which texts are identifiers: Meson manual, Syntax, the grammar's id_expression.
use Rattle.std.specs.Prelude.{ℕ, Bool, false, not, ◌&&◌, List, [], ◌∷◌, map}
use Rattle.std.specs.List.{list_all}
use Rattle.meson_lex.specs.Bytes.{is_word_start, is_word_byte}
use Rattle.meson_lex.specs.Kinds.{spelling, reserved}
use Rattle.meson_calls.specs.Roles.{one_of}

-- a letter or `_`, and then letters, digits and `_`
abbrev pub is_word : List ℕ → Bool
is_word [] = false
is_word (b ∷ bs) = is_word_start b && list_all is_word_byte bs

abbrev pub is_identifier : List ℕ → Bool
is_identifier text = is_word text && not (one_of (map spelling reserved) text)
