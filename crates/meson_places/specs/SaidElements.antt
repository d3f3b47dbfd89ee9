-- What is done to the elements of lists that say a value: they are removed, or their values become another one.
use Rattle.std.specs.Prelude.{ℕ, suc, Bool, not, List, [], ◌∷◌, ◌++◌, map, if◌then◌else◌, Option, Some, None}
use Rattle.std.specs.List.{filter, list_any}
use Rattle.meson_lex.specs.declared.kinds.Span.{Span}
use Rattle.meson_syntax.specs.Tree.{Argument, Expression, array, call, row, Operands, no_operands, operand, Listing, Nowhere, erase_argument, erase_expression, erase_listing, erase_name}
use Rattle.meson_edit.specs.Edits.{Edit, Remove, Replace, Written, elements, with_elements, with_value}
use Rattle.meson_calls.specs.declared.call.CallRef.{CallRef}
use Rattle.meson_steps.specs.Steps.{Step, step_in}
use Rattle.meson_steps.specs.declared.given.Given.{Given}
use Rattle.meson_places.specs.Equality.{element_says}
use Rattle.meson_places.specs.ValueLists.{ValueList, are_plus, is_files}

-- whether an element says one of some values
abbrev pub says_one : (source : List ℕ) → List Given → Argument Span → Bool
says_one source gs x = list_any (λ g. element_says source g x) gs

-- ---- the steps

-- An element is removed, or its value becomes another one.
abbrev pub element_edit : List ℕ → Option (Written (Expression Nowhere)) → ℕ → Edit
element_edit path None n = Remove path n
element_edit path (Some w) n = Replace path n w

-- The elements that pass a test, the last one first. The first element has the number n.
abbrev pub passing_edited : CallRef → Option (Written (Expression Nowhere)) → (Argument Span → Bool) → (n : ℕ) → List (Argument Span) → List Step
passing_edited c new test n [] = []
passing_edited c new test n (x ∷ xs) =
    passing_edited c new test (suc n) xs ++ (if test x then step_in c (element_edit c.path.steps new n) ∷ [] else [])

-- of each of some lists
abbrev pub lists_edited : Option (Written (Expression Nowhere)) → (Argument Span → Bool) → List (ValueList Span) → List Step
lists_edited new test [] = []
lists_edited new test (l ∷ ls) = passing_edited l.place new test 0 l.elements ++ lists_edited new test ls

-- ---- what is left

-- the elements without those that pass a test, in their order; or as many, of which those have another value
abbrev pub elements_left : Option (Expression Nowhere) → (Argument Span → Bool) → List (Argument Span) → List (Argument Nowhere)
elements_left None test xs = map erase_argument (filter (λ x. not (test x)) xs)
elements_left (Some e) test xs = map (λ x. if test x then with_value e (erase_argument x) else erase_argument x) xs

-- a list with other elements
abbrev pub list_with : (List (Argument Span) → List (Argument Nowhere)) → Listing Span → Listing Nowhere
list_with left l = with_elements (erase_listing l) (left (elements l))

-- an array or a call of `files` with other elements; any other expression as it is
abbrev pub own_left : (List (Argument Span) → List (Argument Nowhere)) → Expression Span → Expression Nowhere
own_left left (array l) = array (list_with left l)
own_left left (call s f l) = if is_files f.text (elements l) then call tt (erase_name f) (list_with left l) else erase_expression (call s f l)
own_left left e = erase_expression e

abbrev pub operands_left : (List (Argument Span) → List (Argument Nowhere)) → Operands Span → Operands Nowhere
operands_left left no_operands = no_operands
operands_left left (operand o e more) = operand o (own_left left e) (operands_left left more)

-- An expression whose lists have other elements, and all else of it is as it was.
abbrev pub value_left : (List (Argument Span) → List (Argument Nowhere)) → Expression Span → Expression Nowhere
value_left left (row s e more) = if are_plus more then row tt (own_left left e) (operands_left left more) else erase_expression (row s e more)
value_left left e = own_left left e
