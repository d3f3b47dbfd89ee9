-- What an expression gives. Meson manual, Syntax, and Reference manual, "Functions".
use Rattle.std.specs.Prelude.{ℕ, Bool, true, false, List, [], ◌∷◌, ◌++◌, map, flat_map, if◌then◌else◌, bytes_eq, codes, Option, Some, None}
use Rattle.meson_lex.specs.Literals.{value}
use Rattle.meson_syntax.specs.declared.operator.Operator.{Operator}
use Rattle.meson_syntax.specs.declared.operator.Operator.TheVariants as operator
use Rattle.meson_syntax.specs.Operators.{string_kind}
use Rattle.meson_syntax.specs.Tree.{Expression, identifier, boolean, integer, string, paren, array, dictionary, call, unary, row, postfix, conditional, Operands, no_operands, operand, Tail, method, index, Tails, no_tails, tail, Listing, listing, plain, named, pair, Arguments, no_arguments, argument}
use Rattle.meson_calls.specs.declared.call.Role.TheVariants as role
use Rattle.meson_calls.specs.Calls.{Call, calls_function}
use Rattle.meson_calls.specs.NamedArguments.{kwargs_key, sources_key}
use Rattle.meson_calls.specs.Roles.{has_role, one_of}
use Rattle.meson_variables.specs.Expansion.{are_plus, is_files}
use Rattle.meson_following.specs.Names.{named_by}
use Rattle.meson_meaning.specs.States.{Choices, Going, Making, State, and_then, any_name, asks, chosen, on, out_of_file, stops, touched, with_making, with_named, with_use}
use Rattle.meson_meaning.specs.Values.{Atom, Given, Literal, Value, a_literal, a_named, a_value, an_entry, anything, atoms_of, element, elements_of, given, in_folder, other, several, text, values_of}

-- ---- parts

abbrev pub literal_at : {S : Type 0} → S → Option (List ℕ) → Option (Literal S)
literal_at s None = None
literal_at s (Some t) = Some (record { stands = s; text = t })

-- the literal that an expression is
abbrev pub literal_in : {S : Type 0} → Expression S → Option (Literal S)
literal_in (string s q x) = literal_at s (value (string_kind q) x)
literal_in _ = None

-- names that are always set. Meson manual, Reference manual, "Builtin objects".
abbrev pub builtin_objects : List (List ℕ)
builtin_objects = codes "meson" ∷ codes "build_machine" ∷ codes "host_machine" ∷ codes "target_machine" ∷ []

-- to read a variable that is not set is an error
abbrev pub read_as : {S : Type 0} → Bool → Option (Value S) → State S → Going S (Value S)
read_as builtin (Some v) st = on v st
read_as true None st = on anything st
read_as false None st = stops st

abbrev pub list_place : {S : Type 0} → Listing S → S
list_place (listing s trailing list) = s

-- something gets these, and gives a value that is not followed
abbrev pub used_in : {S : Type 0} → S → List (Value S) → State S → Going S (Value S)
used_in s vs st = on anything (with_use s vs st)

-- Meson manual, Syntax, "Logical operations": what is after `and` and `or` is not evaluated where what is before it says the answer.
abbrev pub is_logical : Operator → Bool
is_logical operator.And = true
is_logical operator.Or = true
is_logical _ = false

abbrev pub may_end : {S X : Type 0} → Choices → Operator → X → (State S → Going S X) → State S → Going S X
may_end ch o end more st = if is_logical o then asks ch (λ n. chosen n more (on end)) st else more st

-- A sum of two. Meson manual, Syntax, "Arrays": a list, and what is added to it. Texts give a text; a text and a list have no sum. Of a value of any type and a
-- text a question says whether the sum is a list.
abbrev pub sum : {S : Type 0} → Choices → Value S → Value S → State S → Going S (Value S)
sum ch (several xs) v st = on (several (xs ++ atoms_of v)) st
sum ch (text t) (several ys) st = stops st
sum ch (text t) (text u) st = on (text None) st
sum ch (text t) anything st = on (text None) st
sum ch anything (several ys) st = on (several (other ∷ ys)) st
sum ch anything (text t) st = asks ch (λ n. chosen n (on (several (other ∷ atoms_of (text t)))) (on (text None))) st
sum ch anything anything st = on anything st

-- ---- the call of a target. Meson manual, Reference manual, `executable`: its name, and then its sources. `sources:` adds further ones.

abbrev pub unnamed_atoms : {S : Type 0} → Given S → List (Atom S)
unnamed_atoms (a_literal l) = element l None ∷ []
unnamed_atoms (a_value v) = atoms_of v
unnamed_atoms (a_named x v) = []
unnamed_atoms (an_entry v w) = []

-- what is after the first one without a name
abbrev pub after_first : {S : Type 0} → List (Given S) → List (Given S)
after_first [] = []
after_first (a_literal l ∷ gs) = gs
after_first (a_value v ∷ gs) = gs
after_first (a_named x v ∷ gs) = after_first gs
after_first (an_entry v w ∷ gs) = after_first gs

-- by name; what `kwargs:` holds is not followed
abbrev pub keyword_atoms : {S : Type 0} → List ℕ → Value S → List (Atom S)
keyword_atoms x v = if bytes_eq x sources_key then atoms_of v else (if bytes_eq x kwargs_key then other ∷ [] else [])

abbrev pub named_atoms : {S : Type 0} → Given S → List (Atom S)
named_atoms (a_named x v) = keyword_atoms x v
named_atoms _ = []

abbrev pub sources_of : {S : Type 0} → List (Given S) → List (Atom S)
sources_of gs = flat_map unnamed_atoms (after_first gs) ++ flat_map named_atoms gs

-- the name, and what other keywords get
abbrev pub first_values : {S : Type 0} → List (Given S) → List (Value S)
first_values [] = []
first_values (a_literal l ∷ gs) = text (Some l) ∷ []
first_values (a_value v ∷ gs) = v ∷ []
first_values (a_named x v ∷ gs) = first_values gs
first_values (an_entry v w ∷ gs) = first_values gs

abbrev pub keyword_values : {S : Type 0} → Given S → List (Value S)
keyword_values (a_named x v) = if bytes_eq x sources_key then [] else v ∷ []
keyword_values _ = []

abbrev pub making : {S : Type 0} → ℕ → S → List (Given S) → Making S
making file s gs = record { call = s; file = file; sources = sources_of gs }

abbrev pub target_made : {S : Type 0} → ℕ → S → List (Given S) → State S → State S
target_made file s gs st = with_making (making file s gs) (with_use s (first_values gs ++ flat_map keyword_values gs) st)

-- ---- any call

-- a list of files; the call of a target; or another function
pub data Sort : Type 0 where
  of_files : Sort
  of_target : Sort
  of_another : Sort

abbrev pub sort_by : (files target : Bool) → Sort
sort_by true target = of_files
sort_by false true = of_target
sort_by false false = of_another

abbrev pub sort_of : {S : Type 0} → Call S → Sort
sort_of c = sort_by (is_files c.function c.arguments) (has_role role.Target c)

-- What another call does to variables. Meson manual, Reference manual: no other function sets a variable; methods act on objects, and a subproject has
-- variables of its own. A `subdir` that is no statement counts as one of an unknown folder.
abbrev pub with_effect : {S : Type 0} → Choices → Call S → State S → State S
with_effect ch c st =
    if calls_function (codes "set_variable") c then with_named ch (named_by c) (Some anything) st
    else (if calls_function (codes "unset_variable") c then with_named ch (named_by c) None st
    else (if calls_function (codes "subdir") c then touched ch any_name st
    else st))

abbrev pub another_called : {S : Type 0} → Choices → Call S → State S → Going S (Value S)
another_called ch c st =
    if calls_function (codes "error") c then stops st
    else (if calls_function (codes "subdir_done") c then out_of_file st
    else on anything (with_effect ch c st))

-- with these arguments, in the build file of a number
abbrev pub called : {S : Type 0} → Choices → ℕ → S → Call S → Sort → List (Given S) → State S → Going S (Value S)
called ch file s c of_files gs st = on (several (map (in_folder file) (flat_map elements_of gs))) st
called ch file s c of_target gs st = on anything (target_made file s gs st)
called ch file s c of_another gs st = another_called ch c (with_use s (flat_map values_of gs) st)

abbrev pub call_with : {S : Type 0} → List ℕ → Listing S → Call S
call_with f l = record { function = f; arguments = l }

-- ---- evaluation, in the build file of a number

module _ {S : Type 0} (ch : Choices) (file : ℕ) where
  abbrev mutual
    pub eval : Expression S → State S → Going S (Value S)
    eval (identifier s x) st = read_as (one_of builtin_objects x) (st.variables x) st
    eval (boolean s b) st = on anything st
    eval (integer s x) st = on anything st
    eval (string s q x) st = on (text (literal_at s (value (string_kind q) x))) st
    eval (paren s e) st = eval e st
    eval (array l) st = and_then (eval_listing l st) (λ gs now. on (several (flat_map elements_of gs)) now)
    eval (dictionary l) st = and_then (eval_listing l st) (λ gs now. used_in (list_place l) (flat_map values_of gs) now)
    eval (call s f l) st = and_then (eval_listing l st) (called ch file s (call_with f.text l) (sort_of (call_with f.text l)))
    eval (unary s o e) st = and_then (eval e st) (λ v now. used_in s (v ∷ []) now)
    eval (row s e os) st = and_then (eval e st) (λ v now. if are_plus os then eval_sum os v now else and_then (eval_operands os now) (λ vs. used_in s (v ∷ vs)))
    eval (postfix s e ts) st = and_then (eval e st) (λ v now. and_then (eval_tails ts now) (λ vs. used_in s (v ∷ vs)))
    -- Meson manual, Syntax, "Ternary operator": one of the two is evaluated
    eval (conditional s c y n) st = and_then (eval c st) (λ v now. asks ch (λ a. chosen a (eval y) (eval n)) (with_use s (v ∷ []) now))

    -- a value and further operands, from the left
    pub eval_sum : Operands S → Value S → State S → Going S (Value S)
    eval_sum no_operands v st = on v st
    eval_sum (operand o e more) v st = and_then (eval e st) (λ w now. and_then (sum ch v w now) (λ u after. eval_sum more u after))

    -- of another row
    pub eval_operands : Operands S → State S → Going S (List (Value S))
    eval_operands no_operands st = on [] st
    eval_operands (operand o e more) st =
        may_end ch o [] (λ now. and_then (eval e now) (λ v after. and_then (eval_operands more after) (λ vs. on (v ∷ vs)))) st

    pub eval_tail : Tail S → State S → Going S (List (Value S))
    eval_tail (method s x l) st = and_then (eval_listing l st) (λ gs. on (flat_map values_of gs))
    eval_tail (index s e) st = and_then (eval e st) (λ v. on (v ∷ []))

    pub eval_tails : Tails S → State S → Going S (List (Value S))
    eval_tails no_tails st = on [] st
    eval_tails (tail t more) st = and_then (eval_tail t st) (λ vs now. and_then (eval_tails more now) (λ ws. on (vs ++ ws)))

    pub eval_listing : Listing S → State S → Going S (List (Given S))
    eval_listing (listing s trailing list) st = eval_arguments list st

    pub eval_arguments : Arguments S → State S → Going S (List (Given S))
    eval_arguments no_arguments st = on [] st
    eval_arguments (argument (plain e) more) st =
        and_then (eval e st) (λ v now. and_then (eval_arguments more now) (λ gs. on (given (literal_in e) v ∷ gs)))
    eval_arguments (argument (named s x e) more) st =
        and_then (eval e st) (λ v now. and_then (eval_arguments more now) (λ gs. on (a_named x.text v ∷ gs)))
    eval_arguments (argument (pair s e f) more) st =
        and_then (eval e st) (λ v now. and_then (eval f now) (λ w after. and_then (eval_arguments more after) (λ gs. on (an_entry v w ∷ gs))))
