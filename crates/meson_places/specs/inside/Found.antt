-- The lists of a value as the code finds them, and what it knows to be said already.
use Rattle.std.specs.Prelude.{◌≡◌, ℕ, Bool, List, [], ◌∷◌, map, Some}
use Rattle.meson_lex.specs.declared.kinds.Span.{Span}
use Rattle.meson_syntax.specs.View.{args_view, expr_view}
use Rattle.meson_syntax.specs.Tree.{Expression, Nowhere, erase_expression}
use Rattle.meson_syntax.specs.Grammar.{expression_words}
use Rattle.meson_edit.specs.Edits.{Written}
use Rattle.meson_edit.specs.Places.{IsWritten}
use Rattle.meson_calls.specs.GoodLists.{GoodArgs}
use Rattle.meson_calls.specs.Strings.{AreGood}
use Rattle.meson_steps.specs.Code.{IsValue}
use Rattle.meson_steps.specs.declared.given.Given.{Given}
use Rattle.meson_places.specs.declared.known.Known.{Known}
use Rattle.meson_places.specs.declared.known.Known.TheVariants as known
use Rattle.meson_places.specs.declared.value_lists.FoundList.{FoundList}
use Rattle.meson_places.specs.Equality.{lists_say, says}
use Rattle.meson_places.specs.NewElements.{array_with, lone_token}
use Rattle.meson_places.specs.ValueLists.{ValueList}

abbrev pub found_list : List ℕ → FoundList → ValueList Span
found_list source l = record { place = l.place; elements = args_view source l.elements.now }

abbrev pub found_lists : List ℕ → List FoundList → List (ValueList Span)
found_lists source ls = map (found_list source) ls

-- the strings of their elements are strings of their kinds
abbrev pub AreGoodLists : List ℕ → List FoundList → Type 0
AreGoodLists source [] = Unit {0}
AreGoodLists source (l ∷ ls) = GoodArgs source l.elements.now × AreGoodLists source ls

abbrev pub is_known : List ℕ → Known → Given → Bool
is_known source (known.Lists ls) g = lists_say source (found_lists source ls.now) g
is_known source (known.Value e) g = says source g (expr_view source e.now)

abbrev pub IsGoodKnown : List ℕ → Known → Type 0
IsGoodKnown source (known.Lists ls) = AreGoodLists source ls.now
IsGoodKnown source (known.Value e) = AreGood (expression_words (expr_view source e.now))

-- what the token of a lone value is written for
abbrev pub LoneStands : Expression Span → Type 0
LoneStands e = (x : List ℕ) → lone_token e ≡ Some x → IsWritten x (expression_words (erase_expression e))

-- the array of a value and others is written for its tree
pub record IsArrayValue (old : Written (Expression Nowhere)) (ws : List (Written (Expression Nowhere))) : Type 0 where
  pub value : IsValue (array_with old ws).bytes
  pub is_node : value.node ≡ (array_with old ws).node
