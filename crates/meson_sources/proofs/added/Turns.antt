-- The list that gets strings, before and after it: an array, a call or a dictionary.
use Rattle.meson_syntax.specs.declared.operator.Bracket.TheVariants as bracket
use Rattle.meson_sources.proofs.Words.{filter, if◌then◌else◌, option_and_then, option_map, [], ap, Bool, false, List, refl, Some, subst, suc, sym, true, zero}
use Rattle.meson_sources.proofs.Words.{ℕ, ◌++◌, ◌∙◌, ◌∷◌, ◌≡◌, Span, a_block, an_expression, Any, arguments_parts, LevelArguments, holds_names, holds_pairs}
use Rattle.meson_sources.proofs.Words.{holds_values, block_of, list_at, list_in, ListAt, ListIn, nth, Argument, arguments_of, array, call, dictionary, erase}
use Rattle.meson_sources.proofs.Words.{Expression, Listing, listing, Name, named, Nowhere, pair, Plain, plain, Bracket, node_at, list-of-arguments}
use Rattle.meson_sources.proofs.Words.{some-injective, Every, and-then-some, list-fits, elements, lists-stay, IsProject, Loaded, project, BuildFile, nth_file}
use Rattle.meson_sources.proofs.Words.{CallRef, values_no_pairs, has_names, MayStandBetween, plain_trees, plain_place, tree_is, all_nth, ListGets, not_plain}
use Rattle.meson_sources.proofs.Words.{strings, is_plain}
use Rattle.meson_sources.proofs.SourcesAdded.{in_order}
use Rattle.meson_sources.proofs.added.Homes.{Home, all_stand, list_levels}
use Rattle.meson_sources.proofs.trees.Shapes.{Becomes, list_becomes}

-- ---- elements with and without a name

pub filter_every : {X : Type 0} (f : X → Bool) (xs : List X) → Every (λ x. f x ≡ true) (filter f xs)
filter_every f [] = tt
filter_every {X} f (x ∷ xs) = go (f x) refl (filter_every f xs)
  where
    go : (b : Bool) → f x ≡ b → Every (λ y. f y ≡ true) (filter f xs) → Every (λ y. f y ≡ true) (if b then x ∷ filter f xs else filter f xs)
    go true is all = (is, all)
    go false is all = all

pub all_not : (xs : List (Argument Nowhere)) → Every (λ a. not_plain a ≡ true) xs → Every (λ a. is_plain a ≡ false) xs
all_not [] all = tt
all_not (plain e ∷ xs) all = let none = all.0 in absurd cc
all_not (named s x e ∷ xs) all = (refl, all_not xs all.1)
all_not (pair s e f ∷ xs) all = (refl, all_not xs all.1)

pub none_by_level : (b : Bracket) → holds_names b ≡ false → holds_pairs b ≡ false → (front back : List (Argument Nowhere)) (nb : Bool) → LevelArguments (arguments_of (front ++ back)) b nb → Every (λ a. is_plain a ≡ false) back → back ≡ []
none_by_level b nn np [] [] nb level all = refl
none_by_level b nn np [] (plain e ∷ back) nb level all = let none = all.0 in absurd cc
none_by_level b nn np [] (named s x e ∷ back) nb level all = let both : true ≡ false = sym level.0.0 ∙ nn in absurd cc
none_by_level b nn np [] (pair s e f ∷ back) nb level all = let both : true ≡ false = sym level.0.0 ∙ np in absurd cc
none_by_level b nn np (plain e ∷ front) back nb level all = none_by_level b nn np front back false level.1 all
none_by_level b nn np (named s x e ∷ front) back nb level all = none_by_level b nn np front back true level.1 all
none_by_level b nn np (pair s e f ∷ front) back nb level all = none_by_level b nn np front back false level.1 all

pub none_by_files : (front back : List (Argument Nowhere)) (nb : Bool) → LevelArguments (arguments_of (front ++ back)) bracket.Round nb → has_names (arguments_of (front ++ back)) ≡ false → Every (λ a. is_plain a ≡ false) back → back ≡ []
none_by_files [] [] nb level is all = refl
none_by_files [] (plain e ∷ back) nb level is all = let none = all.0 in absurd cc
none_by_files [] (named s x e ∷ back) nb level is all = absurd cc
none_by_files [] (pair s e f ∷ back) nb level is all = let pairs = level.0.0 in absurd cc
none_by_files (plain e ∷ front) back nb level is all = none_by_files front back false level.1 is all
none_by_files (named s x e ∷ front) back nb level is all = absurd cc
none_by_files (pair s e f ∷ front) back nb level is all = none_by_files front back false level.1 is all

-- ---- children of the elements that stay

parts_first : (front more : List (Argument Nowhere)) (m : ℕ) (y : Any Nowhere) → nth (arguments_parts (arguments_of (front ++ []))) m ≡ Some y → nth (arguments_parts (arguments_of (front ++ more))) m ≡ Some y
parts_first [] more m y is = absurd cc
parts_first (plain e ∷ front) more zero y is = is
parts_first (plain e ∷ front) more (suc m) y is = parts_first front more m y is
parts_first (named s x e ∷ front) more zero y is = is
parts_first (named s x e ∷ front) more (suc m) y is = parts_first front more m y is
parts_first (pair s e f ∷ front) more zero y is = is
parts_first (pair s e f ∷ front) more (suc zero) y is = is
parts_first (pair s e f ∷ front) more (suc (suc m)) y is = parts_first front more m y is

pub below_first : (front more : List (Argument Nowhere)) (m : ℕ) (rest : List ℕ) (y : Any Nowhere) → option_and_then (λ z. node_at z rest) (nth (arguments_parts (arguments_of (front ++ []))) m) ≡ Some y
    → option_and_then (λ z. node_at z rest) (nth (arguments_parts (arguments_of (front ++ more))) m) ≡ Some y
below_first front more m rest y is =
    let o = and-then-some (λ z. node_at z rest) (nth (arguments_parts (arguments_of (front ++ []))) m) y is in
    ap (option_and_then (λ z. node_at z rest)) (parts_first front more m o.0 o.1) ∙ o.2

-- ---- the form of a list

pub listing_form : (l : Listing Nowhere) (zs : List (Argument Nowhere)) → elements l ≡ zs → (trailing : Bool) × (l ≡ listing tt trailing (arguments_of zs))
listing_form (listing r trailing list) zs is = (trailing, ap (listing tt trailing) (sym (list-of-arguments list) ∙ ap arguments_of is))

-- ---- the list

module _ (new_t : List (List ℕ)) (front back : List (Argument Nowhere)) where
  abbrev pub old_list : Bool → Listing Nowhere
  old_list t = listing tt t (arguments_of (front ++ back))

  abbrev pub new_list : Bool → Listing Nowhere
  new_list t = listing tt t (arguments_of (front ++ (strings new_t ++ back)))

  -- an expression with the list, and the one with the list that has got strings
  pub data Turn : Expression Nowhere → Expression Nowhere → Type 0 where
    an_array : (t t2 : Bool) → Turn (array (old_list t)) (array (new_list t2))
    a_call : (q : Nowhere) (x : Name Nowhere) (t t2 : Bool) → Turn (call q x (old_list t)) (call q x (new_list t2))
    a_dictionary : (l m : Listing Nowhere) → Turn (dictionary l) (dictionary m)

  turn_of : (node : Expression Nowhere) (inner : ListIn Nowhere) → list_in node ≡ Some inner → (l2 : Listing Nowhere) (t t2 : Bool) → inner.list ≡ old_list t → l2 ≡ new_list t2 → Turn node (inner.back l2)
  turn_of (array l) inner is l2 t t2 one two =
      let is_list : l ≡ old_list t = ap (λ (i : ListIn Nowhere). i.list) (some-injective _ _ is) ∙ one in
      let is_back : array (new_list t2) ≡ inner.back l2 = ap array (sym two) ∙ ap (λ (i : ListIn Nowhere). i.back l2) (some-injective _ _ is) in
      subst (Turn (array l)) is_back (subst (λ z. Turn (array z) (array (new_list t2))) (sym is_list) (an_array t t2))
  turn_of (call q x l) inner is l2 t t2 one two =
      let is_list : l ≡ old_list t = ap (λ (i : ListIn Nowhere). i.list) (some-injective _ _ is) ∙ one in
      let is_back : call q x (new_list t2) ≡ inner.back l2 = ap (call q x) (sym two) ∙ ap (λ (i : ListIn Nowhere). i.back l2) (some-injective _ _ is) in
      subst (Turn (call q x l)) is_back (subst (λ z. Turn (call q x z) (call q x (new_list t2))) (sym is_list) (a_call q x t t2))
  turn_of (dictionary l) inner is l2 t t2 one two = subst (Turn (dictionary l)) (ap (λ (i : ListIn Nowhere). i.back l2) (some-injective _ _ is)) (a_dictionary l l2)
  turn_of _ inner is l2 t t2 one two = absurd cc

pub record ListTurns (old new : Loaded) (h : CallRef) (new_t : List (List ℕ)) : Type 0 where
  pub tree : Plain
  pub now : Plain
  pub was : nth (plain_trees old) h.file ≡ Some tree
  pub is_now : nth (plain_trees new) h.file ≡ Some now
  pub others : (i : ℕ) → (h.file ≡ i → ⊥) → nth (plain_trees new) i ≡ nth (plain_trees old) i
  pub file : BuildFile Span
  pub is_file : nth_file (project old) h.file ≡ Some file
  pub front : List (Argument Nowhere)
  pub back : List (Argument Nowhere)
  pub all_plain : Every (λ a. is_plain a ≡ true) front
  pub none : Every (λ a. is_plain a ≡ false) back
  pub older : Expression Nowhere
  pub newer : Expression Nowhere
  pub turn : Turn new_t front back older newer
  pub becomes : Becomes (an_expression older) (an_expression newer) h.path.steps (a_block (block_of tree)) (a_block (block_of now))

pub list_turns : (old new : Loaded) → IsProject old → (h : CallRef) → Home (project old) h → (new_t : List (List ℕ)) → ListGets h new_t (plain_trees old) (plain_trees new) → ListTurns old new h new_t
list_turns old new is h hm new_t gets =
    let only = gets.only in
    let stand = all_stand old is.parsed h in
    let same_tree : erase hm.there.file.tree ≡ only.tree = some-injective _ _ (sym (tree_is old h hm.there) ∙ only.was) in
    let pp = plain_place hm.there.file.tree h.path.steps hm.there.list hm.there.is_list in
    let same_place : pp.place ≡ only.place = some-injective _ _ (sym pp.is_place ∙ ap (λ u. list_at u h.path.steps) same_tree ∙ only.is_place) in
    let values : holds_values only.place.bracket ≡ true = ap (λ (q : ListAt Nowhere). holds_values q.bracket) (sym same_place) ∙ ap holds_values pp.bracket ∙ hm.values in
    let low = (list-fits Nowhere only.tree h.path.steps only.place only.is_place).level (all_nth MayStandBetween (plain_trees old) h.file only.tree stand only.was).0 in
    let had : elements only.place.list ≡ gets.elements =
    some-injective _ _ (sym (ap (λ o. option_and_then (λ u. option_map (λ (l : ListAt Nowhere). elements l.list) (list_at u h.path.steps)) o) only.was ∙ ap (option_map (λ (l : ListAt Nowhere). elements l.list)) only.is_place) ∙ gets.had) in
    let order = in_order only.place.bracket (values_no_pairs only.place.bracket values) gets.elements false (subst (λ l. LevelArguments (arguments_of l) only.place.bracket false) had (list_levels only.place.list only.place.bracket low)) in
    let stay = lists-stay only.tree h.path.steps only.place only.is_place only.other in
    let has : elements only.other ≡ filter is_plain gets.elements ++ (strings new_t ++ filter not_plain gets.elements) =
    ap elements (sym stay.list)
    ∙ some-injective _ _ (sym (ap (λ o. option_and_then (λ u. option_map (λ (l : ListAt Nowhere). elements l.list) (list_at u h.path.steps)) o) only.now ∙ ap (option_map (λ (l : ListAt Nowhere). elements l.list)) stay.is_there) ∙ gets.has) in
    let before = listing_form only.place.list (filter is_plain gets.elements ++ filter not_plain gets.elements) (had ∙ order) in
    let after = listing_form only.other (filter is_plain gets.elements ++ (strings new_t ++ filter not_plain gets.elements)) has in
    let front = filter is_plain gets.elements in
    let back = filter not_plain gets.elements in
    let lb = list_becomes only.tree h.path.steps only.place only.is_place only.other in
    record {
      tree = only.tree;
      now = only.place.back only.other;
      was = only.was;
      is_now = only.now;
      others = only.others;
      file = hm.there.file;
      is_file = hm.there.is_file;
      front = front;
      back = back;
      all_plain = filter_every is_plain gets.elements;
      none = all_not back (filter_every not_plain gets.elements);
      older = lb.node;
      newer = lb.inner.back only.other;
      turn = turn_of new_t front back lb.node lb.inner lb.is_inner only.other before.0 after.0 (lb.same ∙ before.1) after.1;
      becomes = lb.becomes;
    }
