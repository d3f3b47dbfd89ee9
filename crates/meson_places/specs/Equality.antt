-- Which elements say a value that is given.
use Rattle.std.specs.Prelude.{ℕ, Bool, false, ◌||◌, List, [], ◌∷◌, ◌++◌, bytes_eq, if◌then◌else◌, slice_range, Result, Ok, Err}
use Rattle.std.specs.List.{list_any}
use Rattle.meson_lex.specs.declared.fault.LexFault.{LexFault}
use Rattle.meson_lex.specs.declared.kinds.Item.{Item}
use Rattle.meson_lex.specs.declared.kinds.Span.{Span}
use Rattle.meson_lex.specs.Scan.{scan}
use Rattle.meson_lex.specs.Significant.{role}
use Rattle.meson_lex.specs.Words.{speaks}
use Rattle.meson_syntax.specs.Tree.{Argument, plain, Expression}
use Rattle.meson_syntax.specs.View.{text_at}
use Rattle.meson_edit.specs.Standing.{expression_span}
use Rattle.meson_calls.specs.Calls.{is, literal_of}
use Rattle.meson_steps.specs.declared.given.Given.{Given}
use Rattle.meson_steps.specs.declared.given.Given.TheVariants as given
use Rattle.meson_places.specs.ValueLists.{ValueList}
use Rattle.meson_places.specs.Values.{given_bytes}

-- the text of a token, with a byte 0 after it; nothing for a blank, a comment, a continuation or a line end
abbrev pub token_of : List ℕ → Item → List ℕ
token_of text x = if speaks (role x.kind) then slice_range text x.span.from x.span.to ++ 0 ∷ [] else []

abbrev pub tokens_in : List ℕ → List (Result Item LexFault) → List ℕ
tokens_in text [] = []
tokens_in text (Ok x ∷ more) = token_of text x ++ tokens_in text more
tokens_in text (Err fault ∷ more) = tokens_in text more

-- The tokens of a text inside brackets. Texts with the same ones are the same code.
unfoldable pub tokens : List ℕ → List ℕ
tokens text = tokens_in text (scan 0 text)

abbrev pub same_code : List ℕ → List ℕ → Bool
same_code x y = bytes_eq (tokens x) (tokens y)

-- Whether an expression of a source says a value: a literal says its text, and any expression what has the same tokens.
abbrev pub says : (source : List ℕ) → Given → Expression Span → Bool
says source (given.Text text) e = is text (literal_of e)
says source (given.Switch b) e = same_code (given_bytes (given.Switch b)) (text_at source (expression_span e))
says source (given.Code code) e = same_code code (text_at source (expression_span e))

abbrev pub element_says : (source : List ℕ) → Given → Argument Span → Bool
element_says source g (plain e) = says source g e
element_says source g _ = false

abbrev pub list_says : (source : List ℕ) → Given → ValueList Span → Bool
list_says source g l = list_any (element_says source g) l.elements

-- whether an element of one of some lists says it
abbrev pub lists_say : (source : List ℕ) → List (ValueList Span) → Given → Bool
lists_say source ls g = list_any (list_says source g) ls

-- whether the same is written for two values
abbrev pub same_given : Given → Given → Bool
same_given g h = same_code (given_bytes g) (given_bytes h)

-- a value that is known, or is given before too
abbrev pub is_old : (known : Given → Bool) → (before : List Given) → Given → Bool
is_old known before g = known g || list_any (same_given g) before

-- The values that are not known, each once.
abbrev pub fresh : (known : Given → Bool) → (before gs : List Given) → List Given
fresh known before [] = []
fresh known before (g ∷ gs) = if is_old known before g then fresh known (before ++ g ∷ []) gs else g ∷ fresh known (before ++ g ∷ []) gs
