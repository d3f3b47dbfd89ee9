-- The list of the call, dictionary or array at a place of a project stands there, with room for an expression; and its elements.
use Rattle.std.proofs.Common.{◌≡◌, ℕ, zero, suc, ◌+◌, ◌≤◌, true, false, List, [], ◌∷◌, map, Some, refl, sym, ap, ◌∙◌, arith}
use Rattle.std.specs.Prelude.{Bool, nat_le, max, option_and_then}
use Rattle.std.proofs.lemmas.Bool.{leb-false, leb-true}
use Rattle.meson_lex.specs.declared.kinds.Span.{Span}
use Rattle.meson_syntax.specs.declared.operator.Bracket.{Bracket}
use Rattle.meson_syntax.specs.Grammar.{expression_depth, file_depth, listing_depth}
use Rattle.meson_syntax.specs.Paths.{ListAt, ListIn, list_at, list_in, nth, value_of}
use Rattle.meson_syntax.specs.Tree.{Argument, plain, named, pair, Expression, array, call, dictionary, Listing, Nowhere, Plain, erase, erase_argument, erase_listing}
use Rattle.meson_syntax.proofs.parsing.Steps.{some-injective}
use Rattle.meson_syntax.proofs.paths.Reaching.{and-then-some}
use Rattle.meson_edit.specs.Edits.{elements}
use Rattle.meson_edit.proofs.paths.DeepLists.{depths-grow}
use Rattle.meson_edit.proofs.paths.PutThere.{lists-stay}
use Rattle.meson_calls.specs.declared.call.CallRef.{CallRef}
use Rattle.meson_calls.specs.Loading.{IsProject, Loaded, project}
use Rattle.meson_calls.specs.Parts.{argument_child_count}
use Rattle.meson_calls.specs.Project.{Project, child, expression_at}
use Rattle.meson_calls.proofs.ExpressionsAt.{child_stands, list_here}
use Rattle.meson_steps.specs.ResultLimits.{plain_trees}
use Rattle.meson_steps.proofs.PlainTrees.{erased_elements, parsed_shallow, plain_place, tree_is}
use Rattle.meson_steps.proofs.WithOne.{all_nth}
use Rattle.meson_places.specs.Changes.{element_child}
use Rattle.meson_places.specs.Room.{alone, has_room, list_in_trees}
use Rattle.meson_places.specs.Slots.{Child, child_of, elements_in, nth_child}
use Rattle.meson_places.proofs.ListStands.{ListStands}
use Rattle.meson_places.proofs.SlotsThere.{value_is_part}

-- ---- a list of a project, without spans

-- what is at a place with a list: the list stands, with these elements
pub record StandsWith (c : CallRef) (b : Bracket) (e : Expression Nowhere) (trees : List Plain) (list : Listing Span) : Type 0 where
  pub limit : ℕ
  pub stands : ListStands c b limit trees
  pub room : suc (expression_depth e) + 1 ≤ limit
  pub are : elements stands.place.list ≡ map erase_argument (elements list)

abbrev room_limit : Listing Nowhere → Expression Nowhere → ℕ
room_limit l e = max (listing_depth l) (suc (expression_depth e)) + 1

module _ (t : Plain) (path : List ℕ) (q : ListAt Nowhere) (is : list_at t path ≡ Some q) (e : Expression Nowhere) (low : file_depth t ≤ 64) (put : file_depth (q.back (alone e)) ≤ 64) where
  by_old : (l : Listing Nowhere) → listing_depth l ≤ listing_depth q.list + 1 → file_depth (q.back l) ≤ 65
  by_old l below = omega (arith, depths-grow t path q is l 1 below, low)

  by_new : (l : Listing Nowhere) → listing_depth l ≤ listing_depth (alone e) + 1 → file_depth (q.back l) ≤ 65
  by_new l below =
      let again = lists-stay t path q is (alone e) in
      let grown = depths-grow (q.back (alone e)) path again.there again.is_there l 1 (omega (arith, below, ap listing_depth again.list)) in
      omega (arith, grown, put, ap file_depth (again.back l))

  alone_depth : listing_depth (alone e) ≡ suc (expression_depth e)
  alone_depth = omega arith

  file_room : (l : Listing Nowhere) → listing_depth l ≤ room_limit q.list e → file_depth (q.back l) ≤ 65
  file_room l within = go (nat_le (listing_depth l) (listing_depth q.list + 1)) refl
    where
      go : (b : Bool) → nat_le (listing_depth l) (listing_depth q.list + 1) ≡ b → file_depth (q.back l) ≤ 65
      go true h = by_old l (leb-true (listing_depth l) (listing_depth q.list + 1) h)
      go false h = by_new l (omega (arith, within, alone_depth, leb-false (listing_depth l) (listing_depth q.list + 1) h))

module _ (old : Loaded) (is : IsProject old) (c : CallRef) (x : Expression Span) (l : ListIn Span) (at_ : expression_at (project old) c ≡ Some x) (is_list : list_in x ≡ Some l) (e : Expression Nowhere)
    (room : has_room e (list_in_trees (plain_trees old) c) ≡ true) where
  pub stands_with : StandsWith c l.bracket e (plain_trees old) l.list
  stands_with =
      let h = list_here (project old) c x l at_ is_list in
      let t = h.there in
      let path = c.path.steps in
      let tree = erase t.file.tree in
      let there = tree_is old c t in
      let q = plain_place t.file.tree path t.list t.is_list in
      let low : file_depth tree ≤ 64 = all_nth (λ u. file_depth u ≤ 64) (plain_trees old) c.file tree (parsed_shallow old.files old.parsed is.parsed) there in
      let found : list_in_trees (plain_trees old) c ≡ Some q.place = ap (option_and_then (λ u. list_at u path)) there ∙ q.is_place in
      let put : file_depth (q.place.back (alone e)) ≤ 64 = leb-true (file_depth (q.place.back (alone e))) 64 (sym (ap (has_room e) found) ∙ room) in
      record {
        limit = room_limit q.place.list e;
        stands = record {
          tree = tree;
          is_tree = there;
          place = q.place;
          is_place = q.is_place;
          is_bracket = q.bracket ∙ h.same_bracket;
          fits = omega arith;
          file_fits = file_room tree path q.place q.is_place e low put;
        };
        room = omega arith;
        are = ap elements (q.list ∙ ap erase_listing h.same_list) ∙ erased_elements l.list;
      }

-- ---- elements

-- the n-th element of the list at a place, and its value, which is a child there
pub record ElementThere (p : Project Span) (c : CallRef) (n : ℕ) (v : Child Span) : Type 0 where
  pub expression : Expression Span
  pub is_at : expression_at p c ≡ Some expression
  pub list : ListIn Span
  pub is_list : list_in expression ≡ Some list
  pub element : Argument Span
  pub is_element : nth (elements list.list) n ≡ Some element
  pub is_value : value_of element ≡ Some v.value
  pub at_child : expression_at p (child c v.number) ≡ Some v.value

own_value : (before : ℕ) (a : Argument Span) (v : Child Span) → child_of before a ≡ v → value_of a ≡ Some v.value
own_value before (plain e) v is = ap (λ (w : Child Span). Some w.value) is
own_value before (named s x e) v is = ap (λ (w : Child Span). Some w.value) is
own_value before (pair s k e) v is = ap (λ (w : Child Span). Some w.value) is

element_of : (before : ℕ) (xs : List (Argument Span)) (n : ℕ) (v : Child Span) → nth_child before xs n ≡ Some v → (a : Argument Span) × (nth xs n ≡ Some a) × (value_of a ≡ Some v.value)
element_of before [] n v is = absurd (let no : ⊥ = cc in no)
element_of before (x ∷ xs) zero v is = (x, refl, own_value before x v (some-injective (child_of before x) v is))
element_of before (x ∷ xs) (suc n) v is = element_of (before + argument_child_count x) xs n v is

list_of : (e : Expression Span) (n : ℕ) (a : Argument Span) → nth (elements_in e) n ≡ Some a → (l : ListIn Span) × (list_in e ≡ Some l) × (elements l.list ≡ elements_in e)
list_of (call s f l) n a is = (_, refl, refl)
list_of (array l) n a is = (_, refl, refl)
list_of (dictionary l) n a is = (_, refl, refl)
list_of _ n a is = absurd (let no : ⊥ = cc in no)

pub element_there : (p : Project Span) (c : CallRef) (n : ℕ) (v : Child Span) → element_child p c n ≡ Some v → ElementThere p c n v
element_there p c n v is =
    let o = and-then-some (λ (e : Expression Span). nth_child 0 (elements_in e) n) (expression_at p c) v is in
    let i = element_of 0 (elements_in o.0) n v o.2 in
    let l = list_of o.0 n i.0 i.1 in
    record {
      expression = o.0;
      is_at = o.1;
      list = l.0;
      is_list = l.1;
      element = i.0;
      is_element = ap (λ xs. nth xs n) l.2 ∙ i.1;
      is_value = i.2;
      at_child = child_stands p c o.0 o.1 v.number v.value (value_is_part o.0 n v o.2);
    }
