-- The children of arguments, lists, tails and branches, without the words around them.
use Rattle.std.specs.Prelude.{List, [], ◌∷◌, ◌++◌}
use Rattle.meson_syntax.specs.Tree.{Expression, Tail, method, index, Listing, listing, Argument, plain, named, pair, Arguments, no_arguments, argument, Statement, Branches, no_branches, branch, Block}

-- a node of any sort
pub data Any (S : Type 0) : Type 0 where
  an_expression : Expression S → Any S
  a_statement : Statement S → Any S
  a_block : Block S → Any S

-- ---- children

abbrev pub argument_parts : {S : Type 0} → Argument S → List (Any S)
argument_parts (plain e) = an_expression e ∷ []
argument_parts (named s x e) = an_expression e ∷ []
argument_parts (pair s e f) = an_expression e ∷ an_expression f ∷ []

abbrev pub arguments_parts : {S : Type 0} → Arguments S → List (Any S)
arguments_parts no_arguments = []
arguments_parts (argument a more) = argument_parts a ++ arguments_parts more

abbrev pub listing_parts : {S : Type 0} → Listing S → List (Any S)
listing_parts (listing s trailing list) = arguments_parts list

abbrev pub tail_parts : {S : Type 0} → Tail S → List (Any S)
tail_parts (method s x l) = listing_parts l
tail_parts (index s e) = an_expression e ∷ []

abbrev pub branches_parts : {S : Type 0} → Branches S → List (Any S)
branches_parts no_branches = []
branches_parts (branch e b more) = an_expression e ∷ a_block b ∷ branches_parts more
