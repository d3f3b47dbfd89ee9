-- The list of a node and its elements, as trees have them.
use Rattle.meson_splice.specs.declared.file_set.File as splice
use Rattle.meson_syntax.specs.Paths as paths
use Rattle.meson_lex.specs.Located.{located}
use Rattle.meson_syntax.specs.Reads.{of_files}
use Rattle.meson_syntax.proofs.parsing.Levels.{file-level}
use Rattle.meson_steps.proofs.ListParts.{list_part}
use Rattle.meson_sources.proofs.Words.{option_and_then, option_map, [], ap, ap₂, Bool, drop, false, length, List, map, None, Option, refl, Some, subst, suc}
use Rattle.meson_sources.proofs.Words.{sym, take, true, zero, ℕ, ◌++◌, ◌∙◌, ◌∷◌, ◌≡◌, Span, a_block, a_statement, an_expression, Any, argument_parts}
use Rattle.meson_sources.proofs.Words.{arguments_parts, listing_parts, LevelArguments, LevelFile, LevelListing, holds_pairs, block_of, list_at, list_in, ListAt}
use Rattle.meson_sources.proofs.Words.{ListIn, nth, value_of, Argument, argument, argument_list, Arguments, arguments_of, array, call, dictionary, Expression}
use Rattle.meson_sources.proofs.Words.{Listing, listing, named, no_arguments, Nowhere, pair, Plain, plain, string, view, Bracket, StringKind, Parsed}
use Rattle.meson_sources.proofs.Words.{child_nodes, expression_any, node_at, expression-reached, list-reached, list-of-arguments, some-injective, Every}
use Rattle.meson_sources.proofs.Words.{and-then-some, list-fits, elements, with_elements, AreParsed, named_trees, views, BuildFile, child, expression_at}
use Rattle.meson_sources.proofs.Words.{nth_file, Project, CallRef, list_of, value_below}

-- ==== The list of a node, and its elements.

abbrev pub Node : Type 0
Node = Any Nowhere

-- the list of an array, a dictionary or a call, and its element of a number
abbrev pub list_any : {S : Type 0} → Any S → Option (Listing S)
list_any (an_expression e) = option_map (λ (l : ListIn _). l.list) (list_in e)
list_any (a_statement s) = None
list_any (a_block b) = None

abbrev pub element_any : {S : Type 0} → Any S → ℕ → Option (Argument S)
element_any x n = option_and_then (λ l. nth (elements l) n) (list_any x)

-- the element of a number in the list that a path names
abbrev pub element_at : Node → List ℕ → ℕ → Option (Argument Nowhere)
element_at x path n = option_and_then (λ y. element_any y n) (node_at x path)

-- ==== A list without one of its elements: where the others are then, and the parts of what has such a list.

-- ---- any lists

abbrev pub without : {A : Type 0} → ℕ → List A → List A
without n xs = take n xs ++ drop (suc n) xs

-- ---- elements that have one part each

-- a child that is a string
abbrev pub string_child : Any Nowhere → Option (Expression Nowhere)
string_child (an_expression (string s q x)) = Some (string s q x)
string_child _ = None

abbrev pub part : {S : Type 0} → Argument S → Any S
part (plain e) = an_expression e
part (named s x e) = an_expression e
part (pair s e f) = an_expression e

abbrev pub HasOnePart : {S : Type 0} → Argument S → Type 0
HasOnePart a = argument_parts a ≡ part a ∷ []

module _ (S : Type 0) (b : Bracket) (no_pairs : holds_pairs b ≡ false) where
  pub one_part_each : (list : Arguments S) (seen : Bool) → LevelArguments list b seen → Every HasOnePart (argument_list list)
  one_part_each no_arguments seen level = tt
  one_part_each (argument (plain e) more) seen level = (refl, one_part_each more false level.1)
  one_part_each (argument (named s x e) more) seen level = (refl, one_part_each more true level.1)
  one_part_each (argument (pair s e f) more) seen level = absurd cc

pub parts_of_each : {S : Type 0} (xs : List (Argument S)) → Every HasOnePart xs → arguments_parts (arguments_of xs) ≡ map part xs
parts_of_each [] every = refl
parts_of_each (x ∷ xs) every = ap₂ (λ ps qs. ps ++ qs) every.0 (parts_of_each xs every.1)

-- ==== The children of an array, a dictionary or a call are the parts of its elements.

parts_of_list : (m l : Listing Nowhere) → m ≡ l → listing_parts m ≡ arguments_parts (arguments_of (elements l))
parts_of_list (listing s trailing list) l same = sym (ap arguments_parts (list-of-arguments list)) ∙ ap (λ u. arguments_parts (arguments_of (elements u))) same

pub list_parts : (x : Any Nowhere) (l : Listing Nowhere) → list_any x ≡ Some l → child_nodes x ≡ arguments_parts (arguments_of (elements l))
list_parts (an_expression (array m)) l is = parts_of_list m l (some-injective _ _ is)
list_parts (an_expression (dictionary m)) l is = parts_of_list m l (some-injective _ _ is)
list_parts (an_expression (call s x m)) l is = parts_of_list m l (some-injective _ _ is)
list_parts (an_expression e) l is = absurd cc
list_parts (a_statement s) l is = absurd cc
list_parts (a_block b) l is = absurd cc

pub one_part : (l : Listing Nowhere) (b : Bracket) → holds_pairs b ≡ false → LevelListing l b → Every HasOnePart (elements l)
one_part (listing s trailing list) b none level = one_part_each Nowhere b none list false level.1

back_elements : (xs : List (Argument Nowhere)) → argument_list (arguments_of xs) ≡ xs
back_elements [] = refl
back_elements (x ∷ xs) = ap (λ ys. x ∷ ys) (back_elements xs)

pub with_them : (l : Listing Nowhere) (xs : List (Argument Nowhere)) → elements (with_elements l xs) ≡ xs
with_them (listing s trailing list) xs = back_elements xs

-- ==== An element stands in a tree where the nodes on the way to its list say so.

-- The element of this number in the list that the path names is this one.
pub record IsElementAt (t : Plain) (path : List ℕ) (n : ℕ) (it : Argument Nowhere) : Type 0 where
  pub place : ListAt Nowhere
  pub is_place : list_at t path ≡ Some place
  pub is_element : nth (elements place.list) n ≡ Some it

-- an element that is a string
pub record IsStringElement (it : Argument Nowhere) : Type 0 where
  pub kind : StringKind
  pub text : List ℕ
  pub is : it ≡ plain (string tt kind text)

abbrev pub root : Plain → Any Nowhere
root t = a_block (block_of t)

any_list : (o : Option (Any Nowhere)) → option_and_then (λ e. option_map (λ (l : ListIn Nowhere). l.list) (list_in e)) (option_and_then expression_any o) ≡ option_and_then list_any o
any_list None = refl
any_list (Some (an_expression e)) = refl
any_list (Some (a_statement s)) = refl
any_list (Some (a_block b)) = refl

pub lists_there : (t : Plain) (path : List ℕ) → option_map (λ (p : ListAt Nowhere). p.list) (list_at t path) ≡ option_and_then list_any (node_at (root t) path)
lists_there t path =
    list-reached Nowhere t path ∙ ap (option_and_then (λ e. option_map (λ (l : ListIn Nowhere). l.list) (list_in e))) (expression-reached Nowhere t path) ∙ any_list (node_at (root t) path)

in_turn : {A B C : Type 0} (f : A → Option B) (g : B → Option C) (o : Option A) → option_and_then g (option_and_then f o) ≡ option_and_then (λ x. option_and_then g (f x)) o
in_turn f g None = refl
in_turn f g (Some x) = refl

of_map : {A B C : Type 0} (f : A → B) (g : B → Option C) (o : Option A) → option_and_then g (option_map f o) ≡ option_and_then (λ x. g (f x)) o
of_map f g None = refl
of_map f g (Some x) = refl

elements_there : (t : Plain) (path : List ℕ) (n : ℕ) → option_and_then (λ (p : ListAt Nowhere). nth (elements p.list) n) (list_at t path) ≡ element_at (root t) path n
elements_there t path n =
    let at : Listing Nowhere → Option (Argument Nowhere) = λ l. nth (elements l) n in
    sym (of_map (λ (p : ListAt Nowhere). p.list) at (list_at t path)) ∙ ap (option_and_then at) (lists_there t path) ∙ in_turn list_any at (node_at (root t) path)

pub stands_at : (t : Plain) (path : List ℕ) (n : ℕ) (it : Argument Nowhere) → IsElementAt t path n it → element_at (root t) path n ≡ Some it
stands_at t path n it s = sym (elements_there t path n) ∙ ap (option_and_then (λ (p : ListAt Nowhere). nth (elements p.list) n)) s.is_place ∙ s.is_element

pub at_stands : (t : Plain) (path : List ℕ) (n : ℕ) (it : Argument Nowhere) → element_at (root t) path n ≡ Some it → IsElementAt t path n it
at_stands t path n it is =
    let o = and-then-some (λ (p : ListAt Nowhere). nth (elements p.list) n) (list_at t path) it (elements_there t path n ∙ is) in
    record { place = o.0; is_place = o.1; is_element = o.2 }

-- ---- all elements of a list

abbrev pub elements_any : Any Nowhere → Option (List (Argument Nowhere))
elements_any y = option_map elements (list_any y)

mapped : {A B C : Type 0} (f : A → B) (h : B → C) (o : Option A) → option_map (λ x. h (f x)) o ≡ option_map h (option_map f o)
mapped f h None = refl
mapped f h (Some x) = refl

chained : {A B C : Type 0} (f : A → Option B) (h : B → C) (o : Option A) → option_map h (option_and_then f o) ≡ option_and_then (λ x. option_map h (f x)) o
chained f h None = refl
chained f h (Some x) = refl

pub elements_at : (t : Plain) (path : List ℕ) → option_map (λ (l : ListAt Nowhere). elements l.list) (list_at t path) ≡ option_and_then elements_any (node_at (root t) path)
elements_at t path = mapped (λ (l : ListAt Nowhere). l.list) elements (list_at t path) ∙ ap (option_map elements) (lists_there t path) ∙ chained list_any elements (node_at (root t) path)

-- ==== The value of an element of an array or a call stands at the child of its number, where no list in round or square brackets has pairs.

-- each list of its files has what its brackets hold
abbrev pub AreLevel : Project Span → Type 0
AreLevel p = (n : ℕ) (f : BuildFile Span) → nth_file p n ≡ Some f → LevelFile f.tree

pub value_stands : (p : Project Span) → AreLevel p → (c : CallRef) (e : Expression Span) (l : ListIn Span) → expression_at p c ≡ Some e → list_in e ≡ Some l → holds_pairs l.bracket ≡ false
    → (j : ℕ) (a : Argument Span) (x : Expression Span) → nth (elements l.list) j ≡ Some a → value_of a ≡ Some x → expression_at p (child c j) ≡ Some x
value_stands p levels c e l is is_list none j a x is_element is_value =
    let o = and-then-some (λ (g : BuildFile Span). paths.expression_on_path g.tree c.path.steps) (nth_file p c.file) e is in
    let f = o.0.tree in
    let i = list_of Span f c.path.steps e l o.2 is_list in
    let first = (list-fits Span f c.path.steps i.place i.is_place).level (levels c.file o.0 o.1) in
    let level = subst (λ b. LevelListing l.list b) i.bracket (subst (λ m. LevelListing m i.place.bracket) i.list first) in
    ap (option_and_then (λ (g : BuildFile Span). paths.expression_on_path g.tree (c.path.steps ++ j ∷ []))) o.1
    ∙ value_below Span f c.path.steps e j x o.2 (list_part Span e l j a x is_list none level is_element is_value)

pub parsed_level : (files : List splice.File) (trees : List Parsed) → AreParsed files trees → AreLevel (named_trees files (views files trees))
parsed_level [] [] are n f is = absurd cc
parsed_level [] (t ∷ trees) are n f is = absurd are
parsed_level (g ∷ files) [] are n f is = absurd are
parsed_level (g ∷ files) (t ∷ trees) are zero f is = subst (λ (h : BuildFile Span). LevelFile h.tree) (some-injective _ _ is) (file-level (view g.bytes t) (length g.bytes) of_files.depth (located are.0.reads.spells.items) are.0.stands).0
parsed_level (g ∷ files) (t ∷ trees) are (suc n) f is = parsed_level files trees are.1 n f is
