-- The elements without a name in a list, counted.
use Rattle.meson_splice.specs.declared.file_set.File as files
use Rattle.meson_syntax.specs.declared.tree.List as rust
use Rattle.meson_syntax.specs.Paths as paths
use Rattle.std.specs.Option.{option_map_or}
use Rattle.meson_syntax.specs.declared.tree.Arg.{Arg}
use Rattle.meson_syntax.specs.Tree.{File}
use Rattle.meson_edit.proofs.lists.CodeElements.{list_elements}
use Rattle.meson_calls.proofs.Standing.{nth_there, nth_past}
use Rattle.meson_sources.proofs.Words.{filter, if◌then◌else◌, is_some, option_and_then, option_map, [], ap, arith, Bool, drop, false, get_or, length, List}
use Rattle.meson_sources.proofs.Words.{None, Option, refl, Some, suc, sym, true, zero, ℕ, ◌+◌, ◌<◌, ◌∙◌, ◌∷◌, ◌≡◌, ◌≤◌, at_drop_all, at_drop_more, bytes_at}
use Rattle.meson_sources.proofs.Words.{Word, Span, LevelArguments, holds_pairs, block_of, expression_of, expression_on_path, Hole, list_at, list_in}
use Rattle.meson_sources.proofs.Words.{list_of_node, list_within, ListAt, ListIn, Node, nth, of_block, of_expression, of_statement, reach, Sort, Argument}
use Rattle.meson_sources.proofs.Words.{argument, argument_list, Arguments, arguments_of, Block, erase_arguments, erase_listing, Expression, is_named, Listing}
use Rattle.meson_sources.proofs.Words.{listing, named, no_arguments, Nowhere, pair, plain, arg_view, args_view, list_view, view, Bracket, Parsed, elements}
use Rattle.meson_sources.proofs.Words.{ListThere, value_without_name, named_trees, views, BuildFile, Project, CallRef, list_node, elements_there, is_plain}
use Rattle.meson_sources.proofs.Words.{plain_len}

-- ==== Elements without a name, counted; and the elements of the list at a place.

pub plain_is : {S : Type 0} (a : Argument S) → is_some (value_without_name a) ≡ is_plain a
plain_is (plain e) = refl
plain_is (named s x e) = refl
plain_is (pair s e f) = refl

module _ (source : List ℕ) where
  abbrev pub plains : List Arg → ℕ
  plains args = length (filter is_plain (args_view source args))

  here : (args : List Arg) (i : ℕ) (d : Arg) → i < length args
      → plains (drop i args) ≡ length (if is_plain (arg_view source (get_or args i d)) then arg_view source (get_or args i d) ∷ filter is_plain (args_view source (drop (i + 1) args)) else filter is_plain (args_view source (drop (i + 1) args)))
  here args i d within = at_drop_more plains args i d within

  pub one_plain : (args : List Arg) (i : ℕ) (d : Arg) → i < length args → is_some (value_without_name (arg_view source (get_or args i d))) ≡ true → plains (drop i args) ≡ suc (plains (drop (i + 1) args))
  one_plain args i d within is =
      let a = arg_view source (get_or args i d) in
      let rest = filter is_plain (args_view source (drop (i + 1) args)) in
      here args i d within ∙ ap (λ b. length (if b then a ∷ rest else rest)) (sym (plain_is a) ∙ is)

  pub not_plain : (args : List Arg) (i : ℕ) (d : Arg) → i < length args → is_some (value_without_name (arg_view source (get_or args i d))) ≡ false → plains (drop i args) ≡ plains (drop (i + 1) args)
  not_plain args i d within is =
      let a = arg_view source (get_or args i d) in
      let rest = filter is_plain (args_view source (drop (i + 1) args)) in
      here args i d within ∙ ap (λ b. length (if b then a ∷ rest else rest)) (sym (plain_is a) ∙ is)

  pub all_counted : (args : List Arg) (i : ℕ) → length args ≤ i → plains (drop i args) ≡ 0
  all_counted args i past = at_drop_all plains args i past

-- ---- the elements of the list at a place

abbrev pub elements_or_none : {S : Type 0} → Option (Listing S) → List (Argument S)
elements_or_none None = []
elements_or_none (Some l) = elements l

-- those of a list, if there is one
abbrev pub elements_of : {S : Type 0} → Option (ListIn S) → List (Argument S)
elements_of {S} o = option_map_or (λ (l : ListIn S). elements l.list) o []

by_list : {S : Type 0} (o : Option (ListIn S)) → elements_of o ≡ elements_or_none (option_map (λ l. l.list) o)
by_list None = refl
by_list (Some l) = refl

module _ {S : Type 0} (f : File S) where
  of_list_in : (before behind : List Word) (back : Expression S → Block S) (o : Option (ListIn S)) → option_map (λ p. p.list) (option_map (list_within f before behind back) o) ≡ option_map (λ l. l.list) o
  of_list_in before behind back None = refl
  of_list_in before behind back (Some l) = refl

  of_node : (sort : Sort) (x : Node sort S) (before behind : List Word) (back : Node sort S → Block S)
      → option_map (λ p. p.list) (list_of_node S sort x f before behind back) ≡ option_map (λ l. l.list) (option_and_then list_in (expression_of S sort x))
  of_node of_expression x before behind back = of_list_in before behind back (list_in x)
  of_node of_statement x before behind back = refl
  of_node of_block x before behind back = refl

  of_hole : (o : Option (Hole S (Block S))) → option_map (λ p. p.list) (option_and_then (λ h. list_of_node S h.sort h.inside f h.before h.behind h.back) o)
      ≡ option_map (λ l. l.list) (option_and_then list_in (option_and_then (λ h. expression_of S h.sort h.inside) o))
  of_hole None = refl
  of_hole (Some h) = of_node h.sort h.inside h.before h.behind h.back

  lists_alike : (path : List ℕ) → option_map (λ (p : ListAt S). p.list) (list_at f path) ≡ option_map (λ (l : ListIn S). l.list) (option_and_then list_in (expression_on_path f path))
  lists_alike path = of_hole (reach S of_block (block_of f) path)

  pub elements_on_path : (path : List ℕ) → elements_of (option_and_then list_in (expression_on_path f path)) ≡ elements_or_none (option_map (λ (p : ListAt S). p.list) (list_at f path))
  elements_on_path path = by_list (option_and_then list_in (expression_on_path f path)) ∙ ap elements_or_none (sym (lists_alike path))

module _ (files : List files.File) (trees : List Parsed) (c : CallRef) where
  abbrev p : Project Span
  p = named_trees files (views files trees)

  abbrev count_of : Option (BuildFile Span) → ℕ
  count_of f = length (filter is_plain (elements_of (option_and_then list_in (option_and_then (λ g. expression_on_path g.tree c.path.steps) f))))

  pub no_plains : length trees ≤ c.file → 0 ≡ plain_len p c
  no_plains past = sym (ap count_of (nth_past files trees c.file past))

  module _ (d : Parsed) (many : length trees ≡ length files) (within : c.file < length trees) where
    abbrev f : File Span
    f = view (bytes_at c.file files) (get_or trees c.file d)

    plains_of : (o : Option (Listing Span)) → o ≡ option_map (λ (q : ListAt Span). q.list) (list_at f c.path.steps) → length (filter is_plain (elements_or_none o)) ≡ plain_len p c
    plains_of o is =
        ap (λ l. length (filter is_plain (elements_or_none l))) is ∙ ap (λ es. length (filter is_plain es)) (sym (elements_on_path f c.path.steps))
        ∙ sym (ap count_of (nth_there files trees c.file d many within))

    pub plains_nowhere : None ≡ option_map (λ (q : ListAt Span). q.list) (list_at f c.path.steps) → 0 ≡ plain_len p c
    plains_nowhere is = plains_of None is

    pub plains_there : (l : rust.List) → Some (list_view (bytes_at c.file files) l) ≡ option_map (λ (q : ListAt Span). q.list) (list_at f c.path.steps)
        → length (filter is_plain (args_view (bytes_at c.file files) (rust.out-List l).items)) ≡ plain_len p c
    plains_there l is = ap (λ es. length (filter is_plain es)) (sym (list_elements (bytes_at c.file files) l)) ∙ plains_of (Some (list_view (bytes_at c.file files) l)) is

-- ==== The elements without a name in a list: how many there are, and that they stand first; and the elements at a place of a project.

-- ---- how many

unfoldable pub plain_count : {S : Type 0} → List (Argument S) → ℕ
plain_count xs = length (filter is_plain xs)

pub plain_count_is : {S : Type 0} (xs : List (Argument S)) → plain_count xs ≡ length (filter is_plain xs)
unfolding plain_count
plain_count_is xs = refl

counts_erased : (list : Arguments Span) → plain_count (argument_list (erase_arguments list)) ≡ plain_count (argument_list list)
unfolding plain_count
counts_erased no_arguments = refl
counts_erased (argument (plain e) more) = ap suc (counts_erased more)
counts_erased (argument (named s x e) more) = counts_erased more
counts_erased (argument (pair s e f) more) = counts_erased more

pub count_erased : (l : Listing Span) → plain_count (elements (erase_listing l)) ≡ plain_count (elements l)
count_erased (listing s trailing list) = counts_erased list

module _ {S : Type 0} where
  pub some_plain : (xs : List (Argument S)) (n : ℕ) (e : Expression S) → nth xs n ≡ Some (plain e) → 0 < plain_count xs
  unfolding plain_count
  some_plain [] n e is = absurd cc
  some_plain (plain x ∷ xs) n e is = omega arith
  some_plain (named s x v ∷ xs) zero e is = absurd cc
  some_plain (named s x v ∷ xs) (suc n) e is = some_plain xs n e is
  some_plain (pair s k v ∷ xs) zero e is = absurd cc
  some_plain (pair s k v ∷ xs) (suc n) e is = some_plain xs n e is

-- ---- they stand first

module _ (b : Bracket) (none : holds_pairs b ≡ false) where
  none_behind : (xs : List (Argument Nowhere)) → LevelArguments (arguments_of xs) b true → plain_count xs ≡ 0
  unfolding plain_count
  none_behind [] level = refl
  none_behind (plain e ∷ xs) level = let both : true ≡ false = level.0.1 in absurd cc
  none_behind (named s x e ∷ xs) level = none_behind xs level.1
  none_behind (pair s e f ∷ xs) level = let both : true ≡ false = sym level.0.0 ∙ none in absurd cc

  pub last_plain : (xs : List (Argument Nowhere)) (seen : Bool) (k : ℕ) → LevelArguments (arguments_of xs) b seen → plain_count xs ≡ suc k → (it : Argument Nowhere) × (nth xs k ≡ Some it) × (is_named it ≡ false)
  unfolding plain_count
  last_plain [] seen k level many = absurd (omega (arith, many))
  last_plain (plain e ∷ xs) seen zero level many = (plain e, refl, refl)
  last_plain (plain e ∷ xs) seen (suc k) level many = let fewer : plain_count xs ≡ suc k = omega (arith, many) in last_plain xs false k level.1 fewer
  last_plain (named s x e ∷ xs) seen k level many = let zero_left = none_behind xs level.1 in absurd (omega (arith, many, zero_left))
  last_plain (pair s e f ∷ xs) seen k level many = let both : true ≡ false = sym level.0.0 ∙ none in absurd cc

-- ---- at a place

-- what stands at a place are the elements of its list
pub elements_are : (p : Project Span) (c : CallRef) (there : ListThere p c) → elements_there p c ≡ elements there.list.list
elements_are p c there =
    let at = list_node Span there.file.tree c.path.steps there.list there.is_list in
    ap (λ o. elements_of (option_and_then list_in (option_and_then (λ (f : BuildFile Span). paths.expression_on_path f.tree c.path.steps) o))) there.is_file
    ∙ ap (λ o. elements_of (option_and_then list_in o)) at.is_node ∙ ap elements_of at.is_inner ∙ ap elements at.list
