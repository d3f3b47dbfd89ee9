-- One edit of an array or a dictionary that is the value of an argument of a call that stands: it may be done, and the call stands with it so edited.
use Rattle.meson_keywords.proofs.Words.{◌≡◌, ℕ, zero, suc, ◌+◌, ◌≤◌, List, [], ◌∷◌, ◌++◌, append_assoc, length, length-append, map, take, drop, Some, refl, sym}
use Rattle.meson_keywords.proofs.Words.{ap, ap₂, ◌∙◌, subst, subst₂, arith, false, All, max, option_and_then, option_map, slice_set, take_all, LevelArgument}
use Rattle.meson_keywords.proofs.Words.{LevelExpression, LevelFile, argument_depth, argument_words, arguments_depth, expression_words, expression_depth}
use Rattle.meson_keywords.proofs.Words.{listing_depth, holds_pairs, nth, value_of, Nowhere, Plain, Expression, array, Listing, listing, Argument, plain, named}
use Rattle.meson_keywords.proofs.Words.{pair, arguments_of, list-of-arguments, some-injective, Written, Edit, First, After, Remove, Replace, Wrap, elements}
use Rattle.meson_keywords.proofs.Words.{with_elements, with_value, element_added, element_removed, exchanged, edited, IsWritten, Writes, MayFollow}
use Rattle.meson_keywords.proofs.Words.{firsts-keep-levels, insertions-keep-levels, removals-keep-levels, replacements-keep-levels, child, CallRef}
use Rattle.meson_keywords.proofs.Words.{MayStandBetween, step_in, Step, Container, InnerPlace, array_container, exchanged_at, inner_place, edited_there}
use Rattle.meson_keywords.proofs.Words.{elements_with, first_there, CallStands, put_behind, all_behind, behind_all, AreElements, element_node, written_element}
use Rattle.meson_keywords.proofs.Words.{ElementKind}
use Rattle.std.proofs.Common.{append-nil}
use Rattle.meson_keywords.proofs.CallEdits.{CallStep, LeavesAs, call_step, last_there, more_leaves, no_elements, none_leaves, wrap_step, depth_append}
use Rattle.meson_keywords.proofs.CallEdits.{depth_drop, depth_nth, depth_of, depth_take, tree_level, value_depth, xs}
use Rattle.meson_keywords.proofs.WrittenElements.{element_flat, element_level, element_written}

array_depth : (l : Listing Nowhere) (ys : List (Argument Nowhere)) → listing_depth (with_elements l ys) ≡ depth_of ys + 1
array_depth (listing s trailing list) ys = omega arith

list_depth : (l : Listing Nowhere) → listing_depth l ≡ depth_of (elements l) + 1
list_depth (listing s trailing list) = omega (arith, ap arguments_depth (list-of-arguments list))

old_depth : (a : Argument Nowhere) (v : Expression Nowhere) → value_of a ≡ Some v → expression_depth v ≤ argument_depth a
old_depth (plain e) v is = let same = ap expression_depth (some-injective e v is) in omega (arith, same)
old_depth (named s x e) v is = let same = ap expression_depth (some-injective e v is) in omega (arith, same)
old_depth (pair s e f) v is = let same = ap expression_depth (some-injective f v is) in omega (arith, same)

module _ (k : Container) (c : CallRef) (trees : List Plain) (all : All MayStandBetween trees) (s : CallStands c trees) (n : ℕ) (a : Argument Nowhere) (l : Listing Nowhere) (there : nth (xs c trees all s) n ≡ Some a) (value : value_of a ≡ Some (k.make l)) where
  abbrev outer : List (Argument Nowhere)
  outer = xs c trees all s

  -- the elements of the call where the list has these
  abbrev pub arrayed : List (Argument Nowhere) → List (Argument Nowhere)
  arrayed ys = exchanged_at n a outer (k.make (with_elements l ys))

  abbrev path : List ℕ
  path = c.path.steps ++ n ∷ []

  abbrev p : InnerPlace k s.tree c.path.steps s.place n a l
  p = inner_place k s.tree c.path.steps s.place s.is_place (ap holds_pairs s.is_round) (tree_level c trees all s) n a l there value

  arrayed_depth : (ys : List (Argument Nowhere)) → depth_of ys ≤ depth_of (elements l) → depth_of (arrayed ys) ≤ max (depth_of outer) 1
  arrayed_depth ys small =
      let new = with_value (k.make (with_elements l ys)) a in
      omega (
        arith,
        depth_append (take n outer) (new ∷ drop (suc n) outer),
        depth_take n outer,
        depth_drop (suc n) outer,
        value_depth a (k.make (with_elements l ys)),
        k.depth (with_elements l ys),
        array_depth l ys,
        small,
        list_depth l,
        k.depth l,
        old_depth a (k.make l) value,
        depth_nth outer n a there,
      )

  array_step : (e : Edit) (ys : List (Argument Nowhere)) → Writes e → edited e s.tree ≡ Some (p.place.back (with_elements p.place.list ys)) → LevelFile (p.place.back (with_elements p.place.list ys))
      → depth_of ys ≤ depth_of (elements l) → CallStep c trees all s e (arrayed ys)
  array_step e ys writes is level small =
      let same : p.place.back (with_elements p.place.list ys) ≡ s.place.back (with_elements s.place.list (arrayed ys)) =
      p.back (with_elements p.place.list ys) ∙ ap (λ m. s.place.back (with_elements s.place.list (exchanged_at n a outer (k.make (with_elements m ys))))) p.list in
      call_step c trees all s e (arrayed ys) writes (is ∙ ap Some same) (subst LevelFile same level) (arrayed_depth ys small)

  here : (m : ℕ) (it : Argument Nowhere) → nth (elements l) m ≡ Some it → nth (elements p.place.list) m ≡ Some it
  here m it is = ap (λ x. nth (elements x) m) p.list ∙ is

  -- an element goes
  pub gone_step : (m : ℕ) (it : Argument Nowhere) → nth (elements l) m ≡ Some it → CallStep c trees all s (Remove path m) (arrayed (element_removed m (elements l) it))
  gone_step m it is =
      let ys = element_removed m (elements l) it in
      let made = edited_there s.tree path p.place p.is_place (Remove path m) ys (ap (λ x. option_map (element_removed m (elements x)) (nth (elements x) m)) p.list ∙ ap (option_map (element_removed m (elements l))) is) in
      array_step (Remove path m) ys tt made (removals-keep-levels path m s.tree (p.place.back (with_elements p.place.list ys)) (tree_level c trees all s) made)
      (omega (arith, depth_append (take m (elements l)) (drop (suc m) (elements l)), depth_take m (elements l), depth_drop (suc m) (elements l)))

  -- the value of an element becomes another one in which nothing nests
  pub swap_step : (m : ℕ) (it : Argument Nowhere) (old : Expression Nowhere) (bytes : List ℕ) (e : Expression Nowhere) → nth (elements l) m ≡ Some it → value_of it ≡ Some old → IsWritten bytes (expression_words e) → LevelExpression e
      → expression_depth e ≡ 0 → CallStep c trees all s (Replace path m (record { bytes = bytes; node = e })) (arrayed (take m (elements l) ++ with_value e it ∷ drop (suc m) (elements l)))
  swap_step m it old bytes e is is_value writes level flat =
      let ys = take m (elements l) ++ with_value e it ∷ drop (suc m) (elements l) in
      let new : Written (Expression Nowhere) = record { bytes = bytes; node = e } in
      let made = edited_there s.tree path p.place p.is_place (Replace path m new) ys
      (ap (λ x. option_and_then (exchanged m (λ v. e) (elements x)) (nth (elements x) m)) p.list ∙ ap (option_and_then (exchanged m (λ v. e) (elements l))) is
      ∙ ap (option_map (λ v. take m (elements l) ++ with_value e it ∷ drop (suc m) (elements l))) is_value) in
      array_step (Replace path m new) ys writes made (replacements-keep-levels path m new level s.tree (p.place.back (with_elements p.place.list ys)) (tree_level c trees all s) made)
      (omega (arith, depth_append (take m (elements l)) (with_value e it ∷ drop (suc m) (elements l)), depth_take m (elements l), depth_drop (suc m) (elements l), value_depth it e, depth_nth (elements l) m it is, flat))

  -- an element in which nothing nests goes behind all others
  module _ (new : Written (Argument Nowhere)) (writes : IsWritten new.bytes (argument_words new.node)) (flat : argument_depth new.node ≡ 0) (first : LevelArgument new.node k.bracket false)
      (follows : (it : Argument Nowhere) → MayFollow k.bracket it [] new.node) where
    abbrev more : List (Argument Nowhere)
    more = elements l ++ new.node ∷ []

    pub record PutStep (st : Step) : Type 0 where
      pub edit : Edit
      pub is : st ≡ step_in c edit
      pub step : CallStep c trees all s edit (arrayed more)

    more_depth : depth_of more ≤ depth_of (elements l)
    more_depth = omega (arith, depth_append (elements l) (new.node ∷ []), flat)

    first_put : length (elements l) ≡ 0 → CallStep c trees all s (First path new) (arrayed more)
    first_put empty =
        let nothing = no_elements c trees all s (elements l) empty in
        let made = edited_there s.tree path p.place p.is_place (First path new) more
        (first_there new.node (elements p.place.list) (ap elements p.list ∙ nothing) ∙ ap (λ ys. Some (ys ++ new.node ∷ [])) (sym nothing)) in
        let low = subst (λ b. LevelArgument new.node b false) (sym p.bracket) first in
        array_step (First path new) more writes made (firsts-keep-levels path new s.tree (p.place.back (with_elements p.place.list more)) p.place p.is_place low (tree_level c trees all s) made) more_depth

    after_put : (m : ℕ) → length (elements l) ≡ suc m → CallStep c trees all s (After path m new) (arrayed more)
    after_put m many =
        let last = last_there c trees all s (elements l) m many in
        let all_of : take (suc m) (elements l) ≡ elements l = take_all (suc m) (elements l) (omega (arith, many)) in
        let whole = ap₂ (λ front back. front ++ new.node ∷ back) all_of last.2 in
        let is = ap (λ x. option_map (element_added m new.node (elements x)) (nth (elements x) m)) p.list ∙ ap (option_map (element_added m new.node (elements l))) last.1 ∙ ap Some whole in
        let made = edited_there s.tree path p.place p.is_place (After path m new) more is in
        let nothing : [] ≡ drop (suc m) (elements p.place.list) = sym (ap (λ x. drop (suc m) (elements x)) p.list ∙ last.2) in
        let may = subst (λ b. MayFollow b last.0 (drop (suc m) (elements p.place.list)) new.node) (sym p.bracket) (subst (λ ys. MayFollow k.bracket last.0 ys new.node) nothing (follows last.0)) in
        array_step (After path m new) more writes made
        (insertions-keep-levels path m new s.tree (p.place.back (with_elements p.place.list more)) p.place p.is_place last.0 (here m last.0 last.1) may (tree_level c trees all s) made) more_depth

    pub put_step : PutStep (behind_all (child c n) (length (elements l)) new)
    put_step = go (length (elements l)) refl
      where
        go : (m : ℕ) → length (elements l) ≡ m → PutStep (behind_all (child c n) m new)
        go zero many = record { edit = First path new; is = refl; step = first_put many }
        go (suc m) many = record { edit = After path m new; is = refl; step = after_put m many }

-- ---- steps that leave the call, with these elements in the list that one of its arguments is

pub record HoldsAs (k : Container) (c : CallRef) (steps : List Step) (trees : List Plain) (n : ℕ) (a : Argument Nowhere) (outer : List (Argument Nowhere)) (ys : List (Argument Nowhere)) : Type 0 where
  pub list : Listing Nowhere
  pub leaves : LeavesAs c steps trees (exchanged_at n a outer (k.make list))
  pub are : elements list ≡ ys

nth_put : {A : Type 0} (ys : List A) (n : ℕ) (it b : A) → nth ys n ≡ Some it → nth (take n ys ++ b ∷ drop (suc n) ys) n ≡ Some b
nth_put [] n it b is = absurd cc
nth_put (y ∷ ys) zero it b is = refl
nth_put (y ∷ ys) (suc n) it b is = nth_put ys n it b is

pub value_put : (a : Argument Nowhere) (v w : Expression Nowhere) → value_of a ≡ Some v → value_of (with_value w a) ≡ Some w
value_put (plain e) v w is = refl
value_put (named s x e) v w is = refl
value_put (pair s e f) v w is = refl

same_value : (a : Argument Nowhere) (v : Expression Nowhere) → value_of a ≡ Some v → with_value v a ≡ a
same_value (plain e) v is = ap plain (sym (some-injective e v is))
same_value (named s x e) v is = ap (named s x) (sym (some-injective e v is))
same_value (pair s e f) v is = ap (pair s e) (sym (some-injective f v is))

put_same : (ys : List (Argument Nowhere)) (n : ℕ) (a : Argument Nowhere) (v : Expression Nowhere) → nth ys n ≡ Some a → value_of a ≡ Some v → exchanged_at n a ys v ≡ ys
put_same [] n a v there value = absurd cc
put_same (y ∷ ys) zero a v there value = ap (λ z. z ∷ ys) (same_value a v value ∙ sym (some-injective y a there))
put_same (y ∷ ys) (suc n) a v there value = ap (λ l. y ∷ l) (put_same ys n a v there value)

value_twice : (a : Argument Nowhere) (v w : Expression Nowhere) → with_value w (with_value v a) ≡ with_value w a
value_twice (plain e) v w = refl
value_twice (named s x e) v w = refl
value_twice (pair s e f) v w = refl

put_twice : (ys : List (Argument Nowhere)) (n : ℕ) (a : Argument Nowhere) (v w : Expression Nowhere) → nth ys n ≡ Some a → exchanged_at n (with_value v a) (exchanged_at n a ys v) w ≡ exchanged_at n a ys w
put_twice [] n a v w there = absurd cc
put_twice (y ∷ ys) zero a v w there = ap (λ z. z ∷ ys) (value_twice a v w)
put_twice (y ∷ ys) (suc n) a v w there = ap (λ l. y ∷ l) (put_twice ys n a v w there)

pub holds_same : (k : Container) (c : CallRef) (trees : List Plain) (all : All MayStandBetween trees) (s : CallStands c trees) (n : ℕ) (a : Argument Nowhere) (l : Listing Nowhere) → nth (xs c trees all s) n ≡ Some a
    → value_of a ≡ Some (k.make l) → HoldsAs k c [] trees n a (xs c trees all s) (elements l)
holds_same k c trees all s n a l there value =
    record { list = l; leaves = subst (LeavesAs c [] trees) (sym (put_same (xs c trees all s) n a (k.make l) there value)) (none_leaves c trees all s); are = refl }

-- a step that puts another value there, and steps on that
module _ (c : CallRef) (trees : List Plain) (all : All MayStandBetween trees) (s : CallStands c trees) (n : ℕ) (a : Argument Nowhere) (there : nth (xs c trees all s) n ≡ Some a) (e : Edit) (w : Expression Nowhere)
    (st : CallStep c trees all s e (exchanged_at n a (xs c trees all s) w)) where
  abbrev later : List Plain
  later = slice_set trees c.file st.now

  abbrev then_there : List (Argument Nowhere)
  then_there = xs c later st.all_stand st.stands

  pub still_there : nth then_there n ≡ Some (with_value w a)
  still_there = ap (λ ys. nth ys n) st.are ∙ nth_put (xs c trees all s) n a (with_value w a) there

  pub more_hold : (k : Container) (steps : List Step) (ys : List (Argument Nowhere)) → HoldsAs k c steps later n (with_value w a) then_there ys → HoldsAs k c (step_in c e ∷ steps) trees n a (xs c trees all s) ys
  more_hold k steps ys r =
      let same : exchanged_at n (with_value w a) then_there (k.make r.list) ≡ exchanged_at n a (xs c trees all s) (k.make r.list) =
      ap (λ l. exchanged_at n (with_value w a) l (k.make r.list)) st.are ∙ put_twice (xs c trees all s) n a w (k.make r.list) there in
      record {
        list = r.list;
        leaves = more_leaves c trees all s e _ st steps (exchanged_at n a (xs c trees all s) (k.make r.list)) (subst (LeavesAs c steps later) same r.leaves);
        are = r.are;
      }

-- ---- elements one behind the other

pub puts_hold : (c : CallRef) (k : ElementKind) (ts : List (List ℕ)) → AreElements k ts → (trees : List Plain) (all : All MayStandBetween trees) (s : CallStands c trees) (n : ℕ) (a : Argument Nowhere) (l : Listing Nowhere)
    → nth (xs c trees all s) n ≡ Some a → value_of a ≡ Some (array l)
    → HoldsAs array_container c (all_behind (child c n) (length (elements l)) (map (written_element k) ts)) trees n a (xs c trees all s) (elements l ++ put_behind k ts)
puts_hold c k [] are trees all s n a l there value =
    subst (HoldsAs array_container c [] trees n a (xs c trees all s)) (sym (append-nil (elements l))) (holds_same array_container c trees all s n a l there value)
puts_hold c k (t ∷ ts) are trees all s n a l there value =
    let e = element_node k t in
    let level = element_level k t in
    let put = put_step array_container c trees all s n a l there value (written_element k t) (element_written k t are.0) (element_flat k t) (refl, refl, level) (λ it. level) in
    let more = elements l ++ plain e ∷ [] in
    let now = with_elements l more in
    let st = put.step in
    let after = slice_set trees c.file st.now in
    let outer = xs c after st.all_stand st.stands in
    let b = with_value (array now) a in
    let rest = map (written_element k) ts in
    let later = puts_hold c k ts are.1 after st.all_stand st.stands n b now (still_there c trees all s n a there put.edit (array now) st) (value_put a (array l) (array now) value) in
    let long : length (elements now) ≡ suc (length (elements l)) = omega (arith, ap length (elements_with l more), length-append (elements l) (plain e ∷ [])) in
    let whole : elements now ++ put_behind k ts ≡ elements l ++ put_behind k (t ∷ ts) = ap (λ ys. ys ++ put_behind k ts) (elements_with l more) ∙ append_assoc (elements l) (plain e ∷ []) (put_behind k ts) in
    subst (λ x. HoldsAs array_container c (x ∷ all_behind (child c n) (suc (length (elements l))) rest) trees n a (xs c trees all s) (elements l ++ put_behind k (t ∷ ts))) (sym put.is)
    (more_hold c trees all s n a there put.edit (array now) st array_container (all_behind (child c n) (suc (length (elements l))) rest) (elements l ++ put_behind k (t ∷ ts))
    (subst₂ (λ m ys. HoldsAs array_container c (all_behind (child c n) m rest) after n b outer ys) long whole later))

-- a lone value is wrapped, and elements go behind it
pub wrap_holds : (c : CallRef) (k : ElementKind) (ts : List (List ℕ)) → AreElements k ts → (trees : List Plain) (all : All MayStandBetween trees) (s : CallStands c trees) (n : ℕ) (a : Argument Nowhere) (v : Expression Nowhere)
    → nth (xs c trees all s) n ≡ Some a → value_of a ≡ Some v → expression_depth v ≡ 0
    → HoldsAs array_container c (step_in c (Wrap c.path.steps n) ∷ all_behind (child c n) 1 (map (written_element k) ts)) trees n a (xs c trees all s) (plain v ∷ put_behind k ts)
wrap_holds c k ts are trees all s n a v there value flat =
    let st = wrap_step c trees all s n a v there value flat in
    let l = listing tt false (arguments_of (plain v ∷ [])) in
    more_hold c trees all s n a there (Wrap c.path.steps n) (array l) st array_container (all_behind (child c n) 1 (map (written_element k) ts)) (plain v ∷ put_behind k ts)
    (puts_hold c k ts are (slice_set trees c.file st.now) st.all_stand st.stands n (with_value (array l) a) l (still_there c trees all s n a there (Wrap c.path.steps n) (array l) st) (value_put a v (array l) value))
