-- Whether a list has room for an expression, by the tree of the code that has the expression's list in its place.
use Rattle.std.proofs.Common.{◌≡◌, ℕ, zero, suc, ◌<◌, ◌≤◌, true, List, [], ◌∷◌, length, get_or, Some, None, refl, sym, ap, ◌∙◌, arith}
use Rattle.std.specs.Prelude.{nat_le, Option, map, option_map, option_and_then}
use Rattle.std.proofs.lemmas.Bool.{le-leb}
use Rattle.meson_lex.specs.declared.kinds.Span.{Span}
use Rattle.meson_splice.specs.declared.file_set.File as files
use Rattle.meson_splice.specs.Files.{bytes_at}
use Rattle.meson_syntax.specs.declared.tree.Parsed.{Parsed}
use Rattle.meson_syntax.specs.Grammar.{expression_depth, file_depth, listing_depth}
use Rattle.meson_syntax.specs.Paths.{ListAt, list_at, nth}
use Rattle.meson_syntax.specs.Tree.{Expression, File, Listing, listing, Nowhere, Plain, erase, erase_listing}
use Rattle.meson_syntax.specs.View.{view}
use Rattle.meson_syntax.proofs.parsing.Erased.{listing-depth-erased}
use Rattle.meson_syntax.proofs.parsing.FileErased.{file-depth-erased}
use Rattle.meson_edit.specs.Holes.{list_front, erase_list_front}
use Rattle.meson_edit.specs.MappedPaths.{MapsList}
use Rattle.meson_edit.proofs.kept.Each.{in-both}
use Rattle.meson_edit.proofs.kept.EachNothing.{file-nothing, listing-nothing, lists-without, nothing}
use Rattle.meson_edit.proofs.paths.DeepLists.{depths-grow}
use Rattle.meson_edit.proofs.paths.Erased.{lists-erase}
use Rattle.meson_edit.proofs.paths.PutThere.{lists-stay}
use Rattle.meson_calls.specs.declared.call.CallRef.{CallRef}
use Rattle.meson_calls.specs.Loading.{views}
use Rattle.meson_calls.proofs.Standing.{nth_there}
use Rattle.meson_steps.specs.ResultLimits.{AreShallow}
use Rattle.meson_steps.proofs.PlainTrees.{plain_place, tree_there}
use Rattle.meson_steps.proofs.WithOne.{all_nth}
use Rattle.meson_places.specs.Room.{alone, has_room, list_in_trees}

-- ---- a file with lists of the same depth in one place

module _ (t : Plain) (path : List ℕ) (q : ListAt Nowhere) (is : list_at t path ≡ Some q) where
  no_deeper : (l m : Listing Nowhere) → listing_depth l ≤ listing_depth m → file_depth (q.back l) ≤ file_depth (q.back m)
  no_deeper l m below =
      let again = lists-stay t path q is m in
      let grown = depths-grow (q.back m) path again.there again.is_there l 0 (omega (arith, below, ap listing_depth again.list)) in
      omega (arith, grown, ap file_depth (again.back l))

  pub same_deep : (l m : Listing Nowhere) → listing_depth l ≡ listing_depth m → file_depth (q.back l) ≡ file_depth (q.back m)
  same_deep l m same = omega (arith, no_deeper l m (omega (arith, same)), no_deeper m l (omega (arith, same)))

-- ---- the tree with spans

module _ (f : File Span) (path : List ℕ) where
  pub none_erased : list_at f path ≡ None → list_at (erase f) path ≡ None
  none_erased is = go (list_at (erase f) path) (lists-erase f path ∙ ap (option_map (λ (p : ListAt Span). erase_list_front (list_front p))) is)
    where
      go : (o : Option (ListAt Nowhere)) → option_map list_front o ≡ None → o ≡ None
      go None h = refl
      go (Some q) h = absurd cc

  pub erased_deep : (p : ListAt Span) → list_at f path ≡ Some p → (q : ListAt Nowhere) → list_at (erase f) path ≡ Some q → (m : Listing Span) (l : Listing Nowhere) → listing_depth m ≡ listing_depth l
      → file_depth (p.back m) ≡ file_depth (q.back l)
  erased_deep p is-p q is-q m l same =
      let maps : MapsList (nothing {S = Span}) p q = in-both (list_at f path) (list_at (erase f) path) (lists-without f path) p q is-p is-q in
      let bare : erase (p.back m) ≡ q.back (erase_listing m) = sym (file-nothing (p.back m)) ∙ sym (maps.back m) ∙ ap q.back (listing-nothing m) in
      sym (file-depth-erased (p.back m)) ∙ ap file_depth bare ∙ same_deep (erase f) path q is-q (erase_listing m) l (listing-depth-erased m ∙ same)

-- ---- expressions in which nothing nests

alone_depth : (e : Expression Nowhere) → listing_depth (alone e) ≡ suc (expression_depth e)
alone_depth e = omega arith

some_depth : (l : Listing Nowhere) → 1 ≤ listing_depth l
some_depth (listing s trailing list) = omega arith

pub flat_room : (trees : List Plain) → AreShallow trees → (c : CallRef) (e : Expression Nowhere) → expression_depth e ≡ 0 → has_room e (list_in_trees trees c) ≡ true
flat_room trees shallow c e flat = go (nth trees c.file) refl
  where
    in_tree : (t : Plain) → file_depth t ≤ 64 → (o : Option (ListAt Nowhere)) → list_at t c.path.steps ≡ o → has_room e o ≡ true
    in_tree t low None is = refl
    in_tree t low (Some q) is =
        let grown = depths-grow t c.path.steps q is (alone e) 0 (omega (arith, alone_depth e, flat, some_depth q.list)) in
        le-leb (file_depth (q.back (alone e))) 64 (omega (arith, grown, low))

    go : (o : Option Plain) → nth trees c.file ≡ o → has_room e (option_and_then (λ t. list_at t c.path.steps) o) ≡ true
    go None is = refl
    go (Some t) is = in_tree t (all_nth (λ u. file_depth u ≤ 64) trees c.file t shallow is) (list_at t c.path.steps) refl

-- ---- the trees of a project

pub trees_past : (fs : List files.File) (parsed : List Parsed) (i : ℕ) → length parsed ≤ i → nth (map erase (views fs parsed)) i ≡ None
trees_past [] parsed i past = refl
trees_past (f ∷ fs) [] i past = refl
trees_past (f ∷ fs) (t ∷ parsed) zero past = absurd (omega (arith, past))
trees_past (f ∷ fs) (t ∷ parsed) (suc i) past = trees_past fs parsed i (omega (arith, past))

module _ (fs : List files.File) (parsed : List Parsed) (c : CallRef) where
  abbrev path : List ℕ
  path = c.path.steps

  abbrev bare_trees : List Plain
  bare_trees = map erase (views fs parsed)

  pub list_past : length parsed ≤ c.file → list_in_trees bare_trees c ≡ None
  list_past past = ap (option_and_then (λ t. list_at t path)) (trees_past fs parsed c.file past)

  module _ (d : Parsed) (many : length parsed ≡ length fs) (within : c.file < length parsed) where
    abbrev f : File Span
    f = view (bytes_at c.file fs) (get_or parsed c.file d)

    list_found : list_in_trees bare_trees c ≡ list_at (erase f) path
    list_found = ap (option_and_then (λ t. list_at t path)) (tree_there fs parsed c.file _ (nth_there fs parsed c.file d many within))

    pub no_list : None ≡ option_map (λ (p : ListAt Span). p.list) (list_at f path) → list_in_trees bare_trees c ≡ None
    no_list none = list_found ∙ none_erased f path (go (list_at f path) none)
      where
        go : (o : Option (ListAt Span)) → None ≡ option_map (λ (p : ListAt Span). p.list) o → o ≡ None
        go None h = refl
        go (Some p) h = absurd cc

    pub room_found : (p : ListAt Span) → list_at f path ≡ Some p → (m : Listing Span) (e : Expression Nowhere) → listing_depth m ≡ listing_depth (alone e)
        → nat_le (file_depth (p.back m)) 64 ≡ has_room e (list_in_trees bare_trees c)
    room_found p is m e same =
        let q = plain_place f path p is in
        ap (λ n. nat_le n 64) (erased_deep f path p is q.place q.is_place m (alone e) same) ∙ sym (ap (has_room e) (list_found ∙ q.is_place))
