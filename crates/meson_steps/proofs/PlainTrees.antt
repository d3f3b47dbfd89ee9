-- The trees of a project without spans: they may stand, and the lists in them are those with spans.
use Rattle.meson_steps.proofs.Words.{◌≡◌, ℕ, zero, suc, List, [], ◌∷◌, map, Some, refl, ap, ◌∙◌, arith, ◌≤◌, All, option_map, All-cons, All-nil, Span}
use Rattle.meson_steps.proofs.Words.{file_depth, ListAt, list_at, nth, value_of, max_depth, Nowhere, Plain, Expression, Listing, listing, Arguments}
use Rattle.meson_steps.proofs.Words.{no_arguments, argument, Argument, plain, named, pair, argument_list, erase, erase_expression, erase_argument}
use Rattle.meson_steps.proofs.Words.{erase_arguments, erase_listing, view, Parsed, map-some, elements, nth_map, Loaded, AreParsed, named_trees, project, views}
use Rattle.meson_steps.proofs.Words.{BuildFile, nth_file, CallRef, MayStandBetween, AreShallow, plain_trees}
use Rattle.meson_splice.specs.declared.file_set.File as files
use Rattle.meson_edit.specs.Holes.{ListFront, list_front, erase_list_front}
use Rattle.meson_syntax.specs.Tree.{File}
use Rattle.meson_edit.proofs.paths.Erased.{lists-erase}
use Rattle.meson_calls.specs.CallPlaces.{ListThere}

-- ---- trees

pub tree_there : (files : List files.File) (parsed : List Parsed) (i : ℕ) (f : BuildFile Span) → nth_file (named_trees files (views files parsed)) i ≡ Some f → nth (map erase (views files parsed)) i ≡ Some (erase f.tree)
tree_there [] parsed i f is = absurd cc
tree_there (g ∷ files) [] i f is = absurd cc
tree_there (g ∷ files) (t ∷ parsed) zero f is = ap (option_map (λ (h : BuildFile Span). erase h.tree)) is
tree_there (g ∷ files) (t ∷ parsed) (suc i) f is = tree_there files parsed i f is

-- they have their levels and are not too deep
pub trees_stand : (files : List files.File) (parsed : List Parsed) → AreParsed files parsed → All MayStandBetween (map erase (views files parsed))
trees_stand [] [] are = All-nil MayStandBetween
trees_stand [] (t ∷ parsed) are = absurd are
trees_stand (f ∷ files) [] are = absurd are
trees_stand (f ∷ files) (t ∷ parsed) are =
    let r = are.0.reads in
    let d = r.depth in
    All-cons MayStandBetween (erase (view f.bytes t)) (map erase (views files parsed)) (r.spells.level, omega (arith, d)) (trees_stand files parsed are.1)

abbrev pub IsShallow : Plain → Type 0
IsShallow t = file_depth t ≤ max_depth

pub parsed_shallow : (files : List files.File) (trees : List Parsed) → AreParsed files trees → AreShallow (map erase (views files trees))
parsed_shallow [] [] are = All-nil IsShallow
parsed_shallow [] (t ∷ trees) are = absurd are
parsed_shallow (f ∷ files) [] are = absurd are
parsed_shallow (f ∷ files) (t ∷ trees) are = All-cons IsShallow (erase (view f.bytes t)) (map erase (views files trees)) are.0.reads.depth (parsed_shallow files trees are.1)

pub tree_is : (old : Loaded) (c : CallRef) (there : ListThere (project old) c) → nth (plain_trees old) c.file ≡ Some (erase there.file.tree)
tree_is old c there = tree_there old.files old.parsed c.file there.file there.is_file

-- ---- elements

erased_list : (list : Arguments Span) → argument_list (erase_arguments list) ≡ map erase_argument (argument_list list)
erased_list no_arguments = refl
erased_list (argument a more) = ap (λ l. erase_argument a ∷ l) (erased_list more)

pub erased_elements : (l : Listing Span) → elements (erase_listing l) ≡ map erase_argument (elements l)
erased_elements (listing s trailing list) = erased_list list

pub element_erased : (l : Listing Span) (n : ℕ) (a : Argument Span) → nth (elements l) n ≡ Some a → nth (elements (erase_listing l)) n ≡ Some (erase_argument a)
element_erased l n a is = ap (λ xs. nth xs n) (erased_elements l) ∙ nth_map erase_argument (elements l) n ∙ ap (option_map erase_argument) is

pub empty_erased : (l : Listing Span) → elements l ≡ [] → elements (erase_listing l) ≡ []
empty_erased l is = erased_elements l ∙ ap (map erase_argument) is

pub value_erased : (a : Argument Span) (v : Expression Span) → value_of a ≡ Some v → value_of (erase_argument a) ≡ Some (erase_expression v)
value_erased (plain e) v is = ap (option_map erase_expression) is
value_erased (named s x e) v is = ap (option_map erase_expression) is
value_erased (pair s e f) v is = ap (option_map erase_expression) is

-- ---- places

-- the same list in the tree without spans
pub record PlainPlace (f : File Span) (path : List ℕ) (p : ListAt Span) : Type 0 where
  pub place : ListAt Nowhere
  pub is_place : list_at (erase f) path ≡ Some place
  pub list : place.list ≡ erase_listing p.list
  pub bracket : place.bracket ≡ p.bracket

pub plain_place : (f : File Span) (path : List ℕ) (p : ListAt Span) → list_at f path ≡ Some p → PlainPlace f path p
plain_place f path p is =
    let front = lists-erase f path ∙ ap (option_map (λ (q : ListAt Span). erase_list_front (list_front q))) is in
    let o = map-some list_front (list_at (erase f) path) (erase_list_front (list_front p)) front in
    record { place = o.0; is_place = o.1; list = ap (λ (u : ListFront Nowhere). u.list) o.2; bracket = ap (λ (u : ListFront Nowhere). u.bracket) o.2 }
