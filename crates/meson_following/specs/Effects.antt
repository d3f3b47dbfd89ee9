-- What calls do to a variable. Meson manual, Reference manual: besides assignments and `foreach`, only `set_variable`, `unset_variable` and the files that
-- `subdir` enters set variables. `subdir_done` leaves the file, and `error` ends the evaluation.
use Rattle.std.specs.Prelude.{ℕ, nat_lt, Bool, true, false, ◌&&◌, ◌||◌, List, [], ◌∷◌, ◌++◌, length, position, codes, if◌then◌else◌, bytes_eq, Option, Some, None, option_and_then}
use Rattle.std.specs.List.{filter_map, list_any}
use Rattle.meson_syntax.specs.Tree.{Expression, identifier, boolean, integer, string, paren, array, dictionary, call, unary, row, postfix, conditional, Operands, no_operands, operand, Tail, method, index, Tails, no_tails, tail, Listing, listing, Argument, plain, named, pair, Arguments, no_arguments, argument}
use Rattle.meson_calls.specs.Project.{BuildFile, Placed, Project}
use Rattle.meson_calls.specs.Calls.{Call, calls_function, first_argument, keyword}
use Rattle.meson_calls.specs.Roles.{one_of}
use Rattle.meson_calls.specs.declared.call.Reading.TheVariants.{Followed}
use Rattle.meson_calls.specs.Entering.{meant_as}
use Rattle.meson_entering.specs.Entering.{files_meant}
use Rattle.meson_following.specs.declared.effects.Effect.{Effect}
use Rattle.meson_following.specs.declared.effects.Effect.TheVariants.{Nothing, Sets, MaySet, Unsets, Stops, Leaves, Enters, MayEnter}
use Rattle.meson_following.specs.declared.names.Fit.{Fit}
use Rattle.meson_following.specs.declared.names.Fit.TheVariants.{Not, Perhaps, Surely}
use Rattle.meson_following.specs.Names.{fit, fits, named_by}

-- ---- the calls in an expression, each before those within it

abbrev mutual
  pub calls_of : {S : Type 0} → Expression S → List (Call S)
  calls_of (identifier s x) = []
  calls_of (boolean s b) = []
  calls_of (integer s x) = []
  calls_of (string s q x) = []
  calls_of (paren s e) = calls_of e
  calls_of (array l) = calls_of_listing l
  calls_of (dictionary l) = calls_of_listing l
  calls_of (call s f l) = record { function = f.text; arguments = l } ∷ calls_of_listing l
  calls_of (unary s o e) = calls_of e
  calls_of (row s e os) = calls_of e ++ calls_of_operands os
  calls_of (postfix s e ts) = calls_of e ++ calls_of_tails ts
  calls_of (conditional s c y n) = calls_of c ++ (calls_of y ++ calls_of n)

  pub calls_of_operands : {S : Type 0} → Operands S → List (Call S)
  calls_of_operands no_operands = []
  calls_of_operands (operand o e more) = calls_of e ++ calls_of_operands more

  pub calls_of_tail : {S : Type 0} → Tail S → List (Call S)
  calls_of_tail (method s f l) = calls_of_listing l
  calls_of_tail (index s e) = calls_of e

  pub calls_of_tails : {S : Type 0} → Tails S → List (Call S)
  calls_of_tails no_tails = []
  calls_of_tails (tail t more) = calls_of_tail t ++ calls_of_tails more

  pub calls_of_listing : {S : Type 0} → Listing S → List (Call S)
  calls_of_listing (listing s trailing list) = calls_of_arguments list

  pub calls_of_argument : {S : Type 0} → Argument S → List (Call S)
  calls_of_argument (plain e) = calls_of e
  calls_of_argument (named s x e) = calls_of e
  calls_of_argument (pair s e f) = calls_of e ++ calls_of f

  pub calls_of_arguments : {S : Type 0} → Arguments S → List (Call S)
  calls_of_arguments no_arguments = []
  calls_of_arguments (argument a more) = calls_of_argument a ++ calls_of_arguments more

-- ---- what they may do where it is not known whether they are made

abbrev pub setting_functions : List (List ℕ)
setting_functions = codes "set_variable" ∷ codes "unset_variable" ∷ []

-- a `subdir` within an expression counts as one of an unknown folder
abbrev pub may_set : {S : Type 0} → List ℕ → Call S → Bool
may_set x c = calls_function (codes "subdir") c || (one_of setting_functions c.function && fits x (named_by c))

abbrev pub leaves_file : {S : Type 0} → Call S → Bool
leaves_file c = calls_function (codes "subdir_done") c

abbrev pub any_may_set : {S : Type 0} → List ℕ → List (Call S) → Bool
any_may_set x cs = list_any (may_set x) cs

abbrev pub any_leaves_file : {S : Type 0} → List (Call S) → Bool
any_leaves_file cs = list_any leaves_file cs

-- ---- what a call that is a statement does

abbrev pub by_fit : Effect → Fit → Effect
by_fit surely Not = Nothing
by_fit surely Perhaps = MaySet
by_fit surely Surely = surely

-- the number of the first file of a name
abbrev pub number_of : {S : Type 0} → Project S → List ℕ → Option ℕ
number_of p name = position (λ f. bytes_eq f.name name) p

-- it may have the keyword `if_found`
abbrev pub has_condition : {S : Type 0} → Call S → Bool
has_condition c = nat_lt 0 (length (keyword (codes "if_found") c))

abbrev pub entering : {S : Type 0} → Call S → Option ℕ → Effect
entering c None = MaySet
entering c (Some n) = Enters n (has_condition c)

-- whether an expression is a name
abbrev pub is_name : {S : Type 0} → Expression S → Bool
is_name (identifier s x) = true
is_name e = false

-- the numbers of the files of these names, as far as there are such files
abbrev pub numbers_of : {S : Type 0} → Project S → List (List ℕ) → List ℕ
numbers_of p names = filter_map (number_of p) names

-- of a `subdir` whose first argument is no name
abbrev pub entering_literal : {S : Type 0} → Project S → BuildFile S → Call S → Effect
entering_literal p f c = entering c (option_and_then (number_of p) (meant_as Followed f.name c))

-- of one whose first argument is a name: the files that are known of a loop around it, and others
abbrev pub entering_each : {S : Type 0} → Project S → BuildFile S → Placed (Call S) → Effect
entering_each p f c = MayEnter (numbers_of p (files_meant Followed f c.place.path.steps c.it))

abbrev pub entering_by : {S : Type 0} → Project S → BuildFile S → Placed (Call S) → Option (Expression S) → Effect
entering_by p f c None = entering_literal p f c.it
entering_by p f c (Some e) = if is_name e then entering_each p f c else entering_literal p f c.it

-- of a call at a place of this file
abbrev pub effect_of : {S : Type 0} → Project S → List ℕ → BuildFile S → Placed (Call S) → Effect
effect_of p x f c =
    if calls_function (codes "set_variable") c.it then by_fit Sets (fit x (named_by c.it))
    else (if calls_function (codes "unset_variable") c.it then by_fit Unsets (fit x (named_by c.it))
    else (if calls_function (codes "error") c.it then Stops
    else (if calls_function (codes "subdir_done") c.it then Leaves
    else (if calls_function (codes "subdir") c.it then entering_by p f c (first_argument c.it)
    else Nothing))))
