-- The list at a place of a project, as the code has it: its elements, and that their strings are good.
use Rattle.meson_splice.specs.declared.file_set.File as files
use Rattle.meson_syntax.specs.declared.tree.Arg.{Arg}
use Rattle.meson_syntax.specs.declared.tree.List as rust
use Rattle.meson_syntax.specs.declared.operator.Bracket.TheVariants as bracket
use Rattle.meson_syntax.specs.Tree as tree
use Rattle.meson_syntax.specs.Paths.{node_words}
use Rattle.meson_syntax.proofs.parsing.FileErased.{file-words-erased}
use Rattle.meson_edit.proofs.lists.CodeElements.{list_elements}
use Rattle.meson_calls.specs.GoodLists.{GoodArgs, GoodListing}
use Rattle.meson_calls.specs.Strings.{AreGood}
use Rattle.meson_calls.proofs.CallsAt.{spanned_at}
use Rattle.meson_calls.proofs.GoodTexts.{text_good}
use Rattle.meson_calls.proofs.Nested.{good_args, good_listing}
use Rattle.meson_calls.proofs.Standing.{nth_past, nth_there}
use Rattle.meson_sources.proofs.LoneTokens.{block_good, expression_good}
use Rattle.meson_steps.specs.OrderedLists.{IsOrderedList, ordered}
use Rattle.meson_steps.specs.declared.ordered_list.OrderedList.{OrderedList}
use Rattle.meson_sources.specs.Sorting.{first_sorted, ordered_in}
use Rattle.meson_sources.proofs.Words.{Err, IfOk, Ok, Result, option_and_then, option_map, [], ap, ap₂, get_or, length, List, None, Option, Some, subst, sym, ℕ, ◌<◌, ◌∙◌, ◌≡◌, ◌≤◌, bytes_at, Span}
use Rattle.meson_sources.proofs.Words.{args_view, list_view, view, Parsed, expression_words, block_of, list_at, list_in, ListAt, ListIn, of_block, expression_on_path, erase, Expression, array, call, dictionary}
use Rattle.meson_sources.proofs.Words.{Argument, Listing, some-injective, map-some, named_trees, views, AreParsed, BuildFile, Project, CallRef, list_node, elements_there, plain_len}
use Rattle.meson_sources.proofs.added.Counts.{elements_of, elements_on_path, elements_or_none}

-- ---- strings

node_good : (e : Expression Span) (l : ListIn Span) → list_in e ≡ Some l → AreGood (expression_words e) → GoodListing l.list
node_good (array l) i is good = subst (λ (j : ListIn Span). GoodListing j.list) (some-injective _ _ is) (good_listing l bracket.Square good)
node_good (dictionary l) i is good = subst (λ (j : ListIn Span). GoodListing j.list) (some-injective _ _ is) (good_listing l bracket.Curly good)
node_good (call s x l) i is good = subst (λ (j : ListIn Span). GoodListing j.list) (some-injective _ _ is) (good_listing l bracket.Round good.1)
node_good _ i is good = absurd (let no : ⊥ = cc in no)

list_good : (f : tree.File Span) (path : List ℕ) (q : ListAt Span) → list_at f path ≡ Some q → AreGood (node_words Span of_block (block_of f)) → GoodListing q.list
list_good f path q is whole =
    let at = list_node Span f path q is in
    subst GoodListing at.list (node_good at.node at.inner at.is_inner (expression_good f path at.node at.is_node whole))

-- ---- elements

module _ (files : List files.File) (trees : List Parsed) (c : CallRef) where
  abbrev p : Project Span
  p = named_trees files (views files trees)

  abbrev elements_for : Option (BuildFile Span) → List (Argument Span)
  elements_for f = elements_of (option_and_then list_in (option_and_then (λ (g : BuildFile Span). expression_on_path g.tree c.path.steps) f))

  pub none_past : length trees ≤ c.file → elements_there p c ≡ []
  none_past past = ap elements_for (nth_past files trees c.file past)

  module _ (d : Parsed) (many : length trees ≡ length files) (within : c.file < length trees) where
    abbrev f : tree.File Span
    f = view (bytes_at c.file files) (get_or trees c.file d)

    elements_by : (o : Option (Listing Span)) → o ≡ option_map (λ (q : ListAt Span). q.list) (list_at f c.path.steps) → elements_there p c ≡ elements_or_none o
    elements_by o is = ap elements_for (nth_there files trees c.file d many within) ∙ elements_on_path f c.path.steps ∙ ap elements_or_none (sym is)

    pub none_there : None ≡ option_map (λ (q : ListAt Span). q.list) (list_at f c.path.steps) → elements_there p c ≡ []
    none_there is = elements_by None is

    pub are_there : (l : rust.List) → Some (list_view (bytes_at c.file files) l) ≡ option_map (λ (q : ListAt Span). q.list) (list_at f c.path.steps) → elements_there p c ≡ args_view (bytes_at c.file files) (rust.out-List l).items
    are_there l is = elements_by (Some (list_view (bytes_at c.file files) l)) is ∙ list_elements (bytes_at c.file files) l

    pub are_good : (l : rust.List) → AreParsed files trees → Some (list_view (bytes_at c.file files) l) ≡ option_map (λ (q : ListAt Span). q.list) (list_at f c.path.steps) → GoodArgs (bytes_at c.file files) (rust.out-List l).items
    are_good l are is =
        let bytes = bytes_at c.file files in
        let q = map-some (λ (q : ListAt Span). q.list) (list_at f c.path.steps) (list_view bytes l) (sym is) in
        let spanned = spanned_at files trees c.file d within are in
        let whole = block_good f (subst AreGood (file-words-erased f) (text_good bytes (erase f) spanned.reads.spells)) in
        good_args bytes l (subst GoodListing q.2 (list_good f c.path.steps q.0 q.1 whole))

-- ---- the list as it gets sources

module _ (files : List files.File) (p : Project Span) (call list : CallRef) where
  module _ (code : OrderedList) (from end : ℕ) (is_from : from ≡ first_sorted call list) (is_end : end ≡ plain_len p list) where
    -- by its elements
    pub is_ordered : (xs : List (Argument Span)) → elements_there p list ≡ xs → IsOrderedList code (ordered (bytes_at list.file files) from end xs) → IsOrderedList code (ordered_in files p call list)
    is_ordered xs are is =
        let source = bytes_at list.file files in
        subst (IsOrderedList code) (ap₂ (λ n m. ordered source n m xs) is_from is_end ∙ ap (ordered source (first_sorted call list) (plain_len p list)) (sym are)) is

  -- by the code's elements, of a list that could be made
  pub all_ordered : {E : Type 0} (from end : ℕ) → from ≡ first_sorted call list → end ≡ plain_len p list → (source : List ℕ) (args : List Arg) → source ≡ bytes_at list.file files → (l : rust.List) → args ≡ (rust.out-List l).items
      → elements_there p list ≡ args_view (bytes_at list.file files) (rust.out-List l).items → (r : Result OrderedList E) → IfOk r (λ made. IsOrderedList made (ordered source from end (args_view source args)))
      → IfOk r (λ made. IsOrderedList made (ordered_in files p call list))
  all_ordered from end is_from is_end source args is_source l are there (Ok made) is =
      let bytes = bytes_at list.file files in
      let same = ap (λ b. ordered b from end (args_view b args)) is_source ∙ ap (λ xs. ordered bytes from end (args_view bytes xs)) are in
      is_ordered made from end is_from is_end (args_view bytes (rust.out-List l).items) there (subst (IsOrderedList made) same is)
  all_ordered from end is_from is_end source args is_source l are there (Err e) is = tt
