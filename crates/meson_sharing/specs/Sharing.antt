-- Which lists of sources are read for one target alone. Meson manual, Syntax, "Variables": an assignment copies the value, and a value never changes. So what
-- is in the value of an assignment is read wherever a variable may hold that value, or a value that is made of it.
-- As in `Following`, a maker is named by the place of its value.
use Rattle.std.specs.Prelude.{ℕ, zero, suc, ◌+◌, Bool, true, false, not, ◌&&◌, ◌||◌, List, [], ◌∷◌, ◌++◌, filter, flat_map, length, slice_get, codes, bytes_eq, if◌then◌else◌, Option, Some, None}
use Rattle.std.specs.List.{filter_map, list_all, list_any}
use Rattle.meson_syntax.specs.Tree.{Expression, identifier, paren, array, call, row, postfix, conditional, Operands, no_operands, operand, Tail, method, index, Tails, no_tails, tail, Listing, listing, Argument, plain, named, pair, Arguments, no_arguments, argument, Statement, assign}
use Rattle.meson_calls.specs.declared.call.CallRef.{CallRef}
use Rattle.meson_calls.specs.declared.call.Role.TheVariants as role
use Rattle.meson_calls.specs.Calls.{Call, Numbered, first_literal, keyword, positional}
use Rattle.meson_calls.specs.NamedArguments.{rest, sources_key}
use Rattle.meson_calls.specs.Parts.{Part, an_expression, a_statement, argument_child_count, parts, tail_child_count}
use Rattle.meson_calls.specs.Project.{Project, Placed, child, expression_at}
use Rattle.meson_calls.specs.Roles.{one_of, role_calls, target_functions}
use Rattle.meson_steps.specs.Names.{distinct}
use Rattle.meson_variables.specs.Expansion.{are_plus, is_files}
use Rattle.meson_following.specs.Flows.{is_in}
use Rattle.meson_following.specs.Following.{Mark, known, opaque, empty, follow_call, follow_marks, one_of_places}
use Rattle.meson_following.specs.Makers.{is_same_place}
use Rattle.meson_following.specs.Reads.{reads_of_variable}

-- ---- the ways of an expression: the places of the variables in it whose elements are elements of its value. Meson manual, Syntax, "Arrays": `+` adds elements
-- to a list. Reference manual, `files` and `build_target`: lists within lists are laid flat; `get_variable`: its value is that of the variable.

abbrev pub is_getter : List ℕ → Bool
is_getter f = bytes_eq f (codes "get_variable")

abbrev mutual
  pub ways : {S : Type 0} → CallRef → Expression S → List CallRef
  ways q (identifier s x) = q ∷ []
  ways q (array l) = ways_of_listing q l
  ways q (call s f l) = if is_getter f.text then q ∷ [] else (if is_files f.text l then ways_of_listing q l else [])
  ways q (paren s e) = ways (child q 0) e
  ways q (conditional s c y n) = ways (child q 1) y ++ ways (child q 2) n
  ways q (row s e os) = if are_plus os then ways (child q 0) e ++ ways_of_operands q 1 os else []
  ways q _ = []

  -- from the n-th operand on
  pub ways_of_operands : {S : Type 0} → CallRef → ℕ → Operands S → List CallRef
  ways_of_operands q n no_operands = []
  ways_of_operands q n (operand o e more) = ways (child q n) e ++ ways_of_operands q (n + 1) more

  pub ways_of_listing : {S : Type 0} → CallRef → Listing S → List CallRef
  ways_of_listing q (listing s trailing list) = ways_of_elements q 0 list

  -- from the n-th child on; an element has no name
  pub ways_of_elements : {S : Type 0} → CallRef → ℕ → Arguments S → List CallRef
  ways_of_elements q n no_arguments = []
  ways_of_elements q n (argument a more) = ways_of_element q n a ++ ways_of_elements q (n + 1) more

  pub ways_of_element : {S : Type 0} → CallRef → ℕ → Argument S → List CallRef
  ways_of_element q n (plain e) = ways (child q n) e
  ways_of_element q n (named s x e) = []
  ways_of_element q n (pair s e f) = []

-- of what is at a place, if there is an expression
abbrev pub ways_there : {S : Type 0} → CallRef → Option (Expression S) → List CallRef
ways_there q None = []
ways_there q (Some e) = ways q e

abbrev pub ways_at : {S : Type 0} → Project S → CallRef → List CallRef
ways_at p q = ways_there q (expression_at p q)

-- of arguments of what is at a place, whose first one is its n-th child
abbrev pub ways_of_values : {S : Type 0} → CallRef → ℕ → List (Numbered (Expression S)) → List CallRef
ways_of_values q n values = flat_map (λ v. ways (child q (n + v.number)) v.value) values

-- The ways of a call that makes a target. Meson manual, Reference manual, `build_target`: its sources are the arguments after its name, and `sources:`.
abbrev pub ways_of_target : {S : Type 0} → Placed (Call S) → List CallRef
ways_of_target c = ways_of_values c.place 0 (rest (positional c.it) ++ keyword sources_key c.it)

-- ---- uses: the ways of the arguments of all other calls, and of methods

-- of an argument that is the n-th child, with a name or without one
abbrev pub uses_of_argument : {S : Type 0} → CallRef → ℕ → Argument S → List CallRef
uses_of_argument q n (plain e) = ways (child q n) e
uses_of_argument q n (named s x e) = ways (child q n) e
uses_of_argument q n (pair s e f) = []

-- from the n-th child on
abbrev pub uses_of_arguments : {S : Type 0} → CallRef → ℕ → Arguments S → List CallRef
uses_of_arguments q n no_arguments = []
uses_of_arguments q n (argument a more) = uses_of_argument q n a ++ uses_of_arguments q (n + argument_child_count a) more

abbrev pub uses_of_listing : {S : Type 0} → CallRef → ℕ → Listing S → List CallRef
uses_of_listing q n (listing s trailing list) = uses_of_arguments q n list

-- Whether a function makes a target, or gives its arguments to others: to the targets that have the dependency, to a variable, or as its result.
abbrev pub passes_on : List ℕ → Bool
passes_on f = one_of target_functions f || one_of (codes "declare_dependency" ∷ codes "set_variable" ∷ codes "files" ∷ []) f

abbrev pub uses_of_tail : {S : Type 0} → CallRef → ℕ → Tail S → List CallRef
uses_of_tail q n (method s f l) = uses_of_listing q n l
uses_of_tail q n (index s e) = []

-- from the n-th child on
abbrev pub uses_of_tails : {S : Type 0} → CallRef → ℕ → Tails S → List CallRef
uses_of_tails q n no_tails = []
uses_of_tails q n (tail t more) = uses_of_tail q n t ++ uses_of_tails q (n + tail_child_count t) more

-- of the calls that an expression makes itself, not of those within it
abbrev pub uses_of_expression : {S : Type 0} → CallRef → Expression S → List CallRef
uses_of_expression q (call s f l) = if passes_on f.text then [] else uses_of_listing q 0 l
uses_of_expression q (postfix s e ts) = uses_of_tails q 1 ts
uses_of_expression q _ = []

abbrev pub uses_of_part : {S : Type 0} → Placed (Part S) → List CallRef
uses_of_part q = elim q.it [ an_expression e ↦ uses_of_expression q.place e | a_statement s ↦ [] ]

abbrev pub uses : {S : Type 0} → Project S → List CallRef
uses p = flat_map uses_of_part (parts p)

abbrev pub is_use : {S : Type 0} → Project S → CallRef → Bool
is_use p q = one_of_places (uses p) q

-- ---- where values may be read

-- the variable to which a statement assigns
abbrev pub assigned_name : {S : Type 0} → Statement S → Option (List ℕ)
assigned_name (assign s x a e) = Some x.text
assigned_name _ = None

-- the variable to which a part assigns the value at a place, which is its first child
abbrev pub name_of_part : {S : Type 0} → CallRef → Placed (Part S) → Option (List ℕ)
name_of_part m q = elim q.it [ an_expression e ↦ None | a_statement s ↦ if is_same_place (child q.place 0) m then assigned_name s else None ]

-- the first of the names that there are
abbrev pub first_name : {X : Type 0} → (X → Option (List ℕ)) → List X → Option (List ℕ)
first_name name xs = slice_get (filter_map name xs) 0

-- the variable to which the value of a maker is assigned
abbrev pub variable_of : {S : Type 0} → Project S → CallRef → Option (List ℕ)
variable_of p m = first_name (name_of_part m) (parts p)

-- the variables to which the values of these are assigned, each once
abbrev pub names_of : {S : Type 0} → Project S → List CallRef → List (List ℕ)
names_of p ms = distinct (filter_map (variable_of p) ms)

-- the places at which the value of one of these may be read
abbrev pub reads_of : {S : Type 0} → Project S → List CallRef → List CallRef
reads_of p ms = flat_map (reads_of_variable p ms) (names_of p ms)

-- ---- whether a list is read for one target alone

-- a place is a way of the value of one of these, or of the sources of the call
abbrev pub is_way_of_makers : {S : Type 0} → Project S → List CallRef → CallRef → Bool
is_way_of_makers p ms q = list_any (λ m. one_of_places (ways_at p m) q) ms

abbrev pub is_way : {S : Type 0} → Project S → Placed (Call S) → List CallRef → CallRef → Bool
is_way p c ms q = one_of_places (ways_of_target c) q || is_way_of_makers p ms q

-- Each read that may see one of these makers is a way of the call or of the value of one of them; or a use, if uses are allowed. An f-string, a
-- condition, an index and a loop are no ways.
abbrev pub is_closed : {S : Type 0} → Project S → Placed (Call S) → Bool → List CallRef → Bool
is_closed p c with_uses ms = list_all (λ q. is_way p c ms q || (with_uses && is_use p q)) (reads_of p ms)

-- whether a way of the value of a maker is at one of these places
abbrev pub takes_at : {S : Type 0} → Project S → List CallRef → CallRef → Bool
takes_at p seen v = list_any (one_of_places (ways_at p v)) seen

-- those of the makers `all` that are not among the makers `ms` and take the value of one of these, which may be read at the places `seen`
abbrev pub takers_of : {S : Type 0} → Project S → List CallRef → List CallRef → List CallRef → List CallRef
takers_of p all ms seen = filter (λ v. not (one_of_places ms v) && takes_at p seen v) all

-- with them
abbrev pub with_takers : {S : Type 0} → Project S → List CallRef → List CallRef → List CallRef → List CallRef
with_takers p all ms seen = ms ++ takers_of p all ms seen

-- with these, then with those that take the value of one of these, and so on, this many times
abbrev pub with_takers_of_takers : {S : Type 0} → Project S → List CallRef → ℕ → List CallRef → List CallRef
with_takers_of_takers p all zero ms = ms
with_takers_of_takers p all (suc times) ms = with_takers_of_takers p all times (with_takers p all ms (reads_of p ms))

-- A maker, and those that the call follows whose values are made of its value. Each time there is one more of them, or no more is found: so as many times as
-- there are makers are enough.
abbrev pub from_followed : {S : Type 0} → Project S → List CallRef → CallRef → List CallRef
from_followed p all m = with_takers_of_takers p all (length all) (m ∷ [])

abbrev pub from_maker : {S : Type 0} → Project S → Placed (Call S) → CallRef → List CallRef
from_maker p c m = from_followed p (follow_call p c).followed m

-- what is in the value of a maker is read for the call of a target alone
abbrev pub is_own : {S : Type 0} → Project S → Placed (Call S) → CallRef → Bool
is_own p c m = is_closed p c false (from_maker p c m)

-- or for the call and for uses
abbrev pub is_unshared : {S : Type 0} → Project S → Placed (Call S) → CallRef → Bool
is_unshared p c m = is_closed p c true (from_maker p c m)

-- ---- which other targets get what is in the value of a maker

abbrev pub is_item_in : {S : Type 0} → CallRef → Mark S → Bool
is_item_in m (known i) = is_in i.place m
is_item_in m opaque = false
is_item_in m (empty q w) = false

-- the name of the target of a call, if it is not the given one and gets an item that is in the value
abbrev pub sharer : {S : Type 0} → Project S → Placed (Call S) → CallRef → Placed (Call S) → Option (List ℕ)
sharer p c m other =
    if not (is_same_place other.place c.place) && list_any (is_item_in m) (follow_marks p other) then first_literal other.it else None

-- where no other target gets a list that is not the target's own, it is read for something that is not a target
abbrev pub names_or_none : List (List ℕ) → Option (List (List ℕ))
names_or_none [] = None
names_or_none (x ∷ xs) = Some (x ∷ xs)

-- The names of the other targets that get what is in the value of a maker, of those whose name is a literal. There are none where it is the target's own.
-- `None` where it is not, and there is no such target.
abbrev pub sharers : {S : Type 0} → Project S → Placed (Call S) → CallRef → Option (List (List ℕ))
sharers p c m = if is_own p c m then Some [] else names_or_none (filter_map (sharer p c m) (role_calls p role.Target))
