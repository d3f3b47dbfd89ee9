-- Arguments of a call as the code has them: those that a test keeps, and the first of a name. What is refused if a name is there twice.
use Rattle.std.specs.Prelude.{◌≡◌, ◌+◌, ℕ, List, ◌∷◌, Some, [], codes, Result, Ok, Err, Option}
use Rattle.meson_lex.specs.declared.kinds.Span.{Span}
use Rattle.meson_syntax.specs.declared.tree.Arg.{Arg}
use Rattle.meson_syntax.specs.Paths.{nth}
use Rattle.meson_syntax.specs.Tree.{Expression, Argument, arguments_of}
use Rattle.meson_syntax.specs.View.{args_view, arg_view}
use Rattle.meson_calls.specs.Calls.{Numbered, value_with_name, numbered, kept_number}
use Rattle.meson_calls.specs.declared.refusal.Refusal.{Refusal}
use Rattle.meson_calls.specs.declared.refusal.Refusal.TheVariants.{DuplicateKeyword, HiddenKeywords}
use Rattle.std.specs.List.{filter_map}

-- those that a test keeps, of arguments of which the first has the number n
abbrev pub kept_args : {Y : Type 0} → List ℕ → (Argument Span → Option Y) → ℕ → List Arg → List (Numbered Y)
kept_args source choose n args = filter_map (kept_number choose) (numbered n (arguments_of (args_view source args)))

abbrev pub kept_arg : {Y : Type 0} → List ℕ → (Argument Span → Option Y) → ℕ → Arg → Option (Numbered Y)
kept_arg source choose n a = kept_number choose (record { number = n; value = arg_view source a })

-- The n-th argument is the first of those that have the name.
pub record IsFirstNamed (source key : List ℕ) (args : List Arg) (n : ℕ) : Type 0 where
  pub element : Argument Span
  pub is_element : nth (args_view source args) n ≡ Some element
  pub value : Expression Span
  pub is_value : value_with_name key element ≡ Some value
  pub more : List (Numbered (Expression Span))
  pub is_first : kept_args source (value_with_name key) 0 args ≡ record { number = n; value = value } ∷ more

abbrev pub sources_key : List ℕ
sources_key = codes "sources"

abbrev pub kwargs_key : List ℕ
kwargs_key = codes "kwargs"

abbrev pub rest : {X : Type 0} → List X → List X
rest [] = []
rest (x ∷ xs) = xs

-- the number after the first one's; `all`, the number of arguments, if the list is empty
abbrev pub number_behind : {X : Type 0} → ℕ → List (Numbered X) → ℕ
number_behind all [] = all
number_behind all (x ∷ xs) = x.number + 1

-- a call with a keyword twice is refused
abbrev pub once : {X Y : Type 0} → List ℕ → List X → Y → Result Y Refusal
once key [] y = Ok y
once key (x ∷ []) y = Ok y
once key (x ∷ z ∷ more) y = Err (DuplicateKeyword key)

-- an edit of keyword arguments requires that none are hidden in `kwargs:`
abbrev pub not_hidden : {X : Type 0} → List X → Result (Unit {0}) Refusal
not_hidden [] = Ok tt
not_hidden (x ∷ more) = Err HiddenKeywords
