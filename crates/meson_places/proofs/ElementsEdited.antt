-- The elements of a list that pass a test are removed, or get another value, one after another: each step may be done, and what is left.
use Rattle.std.proofs.Common.{◌≡◌, ℕ, zero, suc, ◌≤◌, true, false, List, [], ◌∷◌, ◌++◌, append_assoc, length, length-append, map, Option, Some, None, refl, sym, ap, ◌∙◌, subst, arith}
use Rattle.std.specs.Prelude.{Bool, All, not, slice_set, take, drop, option_and_then, option_map, if◌then◌else◌}
use Rattle.std.specs.List.{filter}
use Rattle.std.proofs.lemmas.List.Elements.{All-set}
use Rattle.meson_lex.specs.declared.kinds.Span.{Span}
use Rattle.meson_syntax.specs.Grammar.{LevelFile, argument_depth, expression_depth, file_depth, listing_depth}
use Rattle.meson_syntax.specs.Paths.{ListIn, list_in, nth}
use Rattle.meson_syntax.specs.Tree.{Argument, arguments_of, Expression, array, call, dictionary, Listing, listing, Nowhere, Plain, erase_argument}
use Rattle.meson_syntax.proofs.parsing.Steps.{some-injective}
use Rattle.meson_edit.specs.Edits.{Edit, Remove, Replace, Written, edited, edited_elements, element_removed, elements, exchanged, is_empty, with_elements, with_value}
use Rattle.meson_edit.specs.Places.{Writes}
use Rattle.meson_edit.proofs.sequences.Levelled.{removals-keep-levels, replacements-keep-levels}
use Rattle.meson_calls.specs.declared.call.CallRef.{CallRef}
use Rattle.meson_steps.specs.ListSteps.{AreDoable, MayStandBetween, wide_depth}
use Rattle.meson_steps.specs.Steps.{Step, all_stepped, step_in, stepped}
use Rattle.meson_steps.proofs.Insertable.{edited_there, elements_with}
use Rattle.meson_steps.proofs.StepsDoable.{step_doable}
use Rattle.meson_steps.proofs.WithOne.{all_nth, change_there, changed_there}
use Rattle.meson_places.specs.SaidElements.{element_edit, elements_left, passing_edited}
use Rattle.meson_places.proofs.Frames.{ListPut, Spot}
use Rattle.meson_places.proofs.AddedValues.{set_twice}
use Rattle.meson_places.proofs.ListStands.{depth_of, depth_append, value_depth, with_depth}
use Rattle.meson_places.proofs.NewElementsDoable.{Fits}
use Rattle.meson_places.proofs.SlotsDoable.{some_value}

-- ---- steps that are done

pub record Done (steps : List Step) (trees now : List Plain) : Type 0 where
  pub doable : (rest : List Step) → AreDoable rest now → AreDoable (steps ++ rest) trees
  pub made : all_stepped steps trees ≡ Some now
  pub all_stand : All MayStandBetween now

pub none_done : (trees : List Plain) → All MayStandBetween trees → Done [] trees trees
none_done trees all = record { doable = λ rest d. d; made = refl; all_stand = all }

stepped_on : (a b : List Step) (trees mid : List Plain) → all_stepped a trees ≡ Some mid → all_stepped (a ++ b) trees ≡ all_stepped b mid
stepped_on [] b trees mid is = ap (λ o. option_and_then (all_stepped b) o) is
stepped_on (s ∷ a) b trees mid is = go (stepped s trees) is (λ between. stepped_on a b between mid)
  where
    go : (o : Option (List Plain)) → option_and_then (all_stepped a) o ≡ Some mid → ((between : List Plain) → all_stepped a between ≡ Some mid → all_stepped (a ++ b) between ≡ all_stepped b mid)
        → option_and_then (all_stepped (a ++ b)) o ≡ all_stepped b mid
    go None h rest = absurd (let no : ⊥ = cc in no)
    go (Some between) h rest = rest between h

pub then_done : (a b : List Step) (trees mid now : List Plain) → Done a trees mid → Done b mid now → Done (a ++ b) trees now
then_done a b trees mid now p q = record {
  doable = λ rest d. subst (λ l. AreDoable l trees) (sym (append_assoc a b rest)) (p.doable (b ++ rest) (q.doable rest d));
  made = stepped_on a b trees mid p.made ∙ q.made;
  all_stand = q.all_stand;
}

pub set_same : {X : Type 0} (xs : List X) (i : ℕ) (x : X) → nth xs i ≡ Some x → slice_set xs i x ≡ xs
set_same [] i x is = absurd (let no : ⊥ = cc in no)
set_same (y ∷ ys) zero x is = ap (λ z. z ∷ ys) (sym (some-injective y x is))
set_same (y ∷ ys) (suc i) x is = ap (λ l. y ∷ l) (set_same ys i x is)

pub one_done : (c : CallRef) (e : Edit) (trees : List Plain) (t now : Plain) → nth trees c.file ≡ Some t → Writes e → edited e t ≡ Some now → MayStandBetween now → All MayStandBetween trees → Done (step_in c e ∷ []) trees (slice_set trees c.file now)
one_done c e trees t now is writes made stands all = record {
  doable = λ rest d. step_doable (step_in c e) rest trees t now is made writes all stands d;
  made = ap (option_and_then (all_stepped [])) (change_there (edited e) trees c.file t now is made);
  all_stand = All-set MayStandBetween trees c.file now stands all;
}

-- ---- lists with other elements

abbrev pub NewFits : ℕ → Option (Written (Expression Nowhere)) → Type 0
NewFits limit None = Unit {0}
NewFits limit (Some w) = Fits limit w

abbrev pub node_of : Option (Written (Expression Nowhere)) → Option (Expression Nowhere)
node_of new = option_map (λ w. w.node) new

with_again : (l : Listing Nowhere) (ys zs : List (Argument Nowhere)) → is_empty ys ≡ false → with_elements (with_elements l ys) zs ≡ with_elements l zs
with_again (listing s trailing list) ys zs some = ap (λ t. listing s (if is_empty zs then false else (if t then false else trailing)) (arguments_of zs)) some

-- the list of an expression that has another list
abbrev pub with_list : ListIn Nowhere → Listing Nowhere → ListIn Nowhere
with_list l m = record { list = m; bracket = l.bracket; ahead = l.ahead; back = l.back }

list_stays : (e : Expression Nowhere) (l : ListIn Nowhere) → list_in e ≡ Some l → (m : Listing Nowhere) → list_in (l.back m) ≡ Some (with_list l m)
list_stays (array l) o is m = subst (λ (u : ListIn Nowhere). list_in (u.back m) ≡ Some (with_list u m)) (some-injective _ _ is) refl
list_stays (dictionary l) o is m = subst (λ (u : ListIn Nowhere). list_in (u.back m) ≡ Some (with_list u m)) (some-injective _ _ is) refl
list_stays (call s x l) o is m = subst (λ (u : ListIn Nowhere). list_in (u.back m) ≡ Some (with_list u m)) (some-injective _ _ is) refl
list_stays _ o is m = absurd (let no : ⊥ = cc in no)

pub form_depth : (e : Expression Nowhere) (l : ListIn Nowhere) → list_in e ≡ Some l → (m : Listing Nowhere) → expression_depth (l.back m) ≡ listing_depth m
form_depth (array l) o is m = subst (λ (u : ListIn Nowhere). expression_depth (u.back m) ≡ listing_depth m) (some-injective _ _ is) refl
form_depth (dictionary l) o is m = subst (λ (u : ListIn Nowhere). expression_depth (u.back m) ≡ listing_depth m) (some-injective _ _ is) refl
form_depth (call s x l) o is m = subst (λ (u : ListIn Nowhere). expression_depth (u.back m) ≡ listing_depth m) (some-injective _ _ is) refl
form_depth _ o is m = absurd (let no : ⊥ = cc in no)

some_there : (front : List (Argument Nowhere)) (a : Argument Nowhere) (ys : List (Argument Nowhere)) → is_empty (front ++ a ∷ ys) ≡ false
some_there [] a ys = refl
some_there (x ∷ front) a ys = refl

nth_behind : (front : List (Argument Nowhere)) (a : Argument Nowhere) (ys : List (Argument Nowhere)) → nth (front ++ a ∷ ys) (length front) ≡ Some a
nth_behind [] a ys = refl
nth_behind (x ∷ front) a ys = nth_behind front a ys

take_front : (front ys : List (Argument Nowhere)) → take (length front) (front ++ ys) ≡ front
take_front [] ys = refl
take_front (x ∷ front) ys = ap (λ l. x ∷ l) (take_front front ys)

drop_front : (front : List (Argument Nowhere)) (a : Argument Nowhere) (ys : List (Argument Nowhere)) → drop (suc (length front)) (front ++ a ∷ ys) ≡ ys
drop_front [] a ys = refl
drop_front (x ∷ front) a ys = drop_front front a ys

-- ---- what is left, one element after another

module _ (test : Argument Span → Bool) where
  pub gone_here : (x : Argument Span) (xs : List (Argument Span)) → test x ≡ true → elements_left None test (x ∷ xs) ≡ elements_left None test xs
  gone_here x xs is = ap (λ b. map erase_argument (if not b then x ∷ filter (λ y. not (test y)) xs else filter (λ y. not (test y)) xs)) is

  pub kept_here : (new : Option (Expression Nowhere)) (x : Argument Span) (xs : List (Argument Span)) → test x ≡ false → elements_left new test (x ∷ xs) ≡ erase_argument x ∷ elements_left new test xs
  kept_here None x xs is = ap (λ b. map erase_argument (if not b then x ∷ filter (λ y. not (test y)) xs else filter (λ y. not (test y)) xs)) is
  kept_here (Some e) x xs is = ap (λ b. (if b then with_value e (erase_argument x) else erase_argument x) ∷ elements_left (Some e) test xs) is

  pub changed_here : (e : Expression Nowhere) (x : Argument Span) (xs : List (Argument Span)) → test x ≡ true → elements_left (Some e) test (x ∷ xs) ≡ with_value e (erase_argument x) ∷ elements_left (Some e) test xs
  changed_here e x xs is = ap (λ b. (if b then with_value e (erase_argument x) else erase_argument x) ∷ elements_left (Some e) test xs) is

  pub left_depth : (limit : ℕ) (new : Option (Written (Expression Nowhere))) → NewFits limit new → (xs : List (Argument Span)) → suc (depth_of (map erase_argument xs)) ≤ limit → suc (depth_of (elements_left (node_of new) test xs)) ≤ limit
  left_depth limit None fits [] small = small
  left_depth limit (Some w) fits [] small = small
  left_depth limit new fits (x ∷ xs) small = go (test x) refl (left_depth limit new fits xs (omega (arith, small)))
    where
      by : (n : Option (Written (Expression Nowhere))) → NewFits limit n → suc (depth_of (elements_left (node_of n) test xs)) ≤ limit → test x ≡ true → suc (depth_of (elements_left (node_of n) test (x ∷ xs))) ≤ limit
      by None f r is = subst (λ l. suc (depth_of l) ≤ limit) (sym (gone_here x xs is)) r
      by (Some w) f r is = subst (λ l. suc (depth_of l) ≤ limit) (sym (changed_here w.node x xs is)) (omega (arith, small, r, f.small, value_depth (erase_argument x) w.node))

      go : (b : Bool) → test x ≡ b → suc (depth_of (elements_left (node_of new) test xs)) ≤ limit → suc (depth_of (elements_left (node_of new) test (x ∷ xs))) ≤ limit
      go true is rest = by new fits rest is
      go false is rest = subst (λ l. suc (depth_of l) ≤ limit) (sym (kept_here (node_of new) x xs is)) (omega (arith, small, rest))

-- ---- the steps of one list

module _ (c : CallRef) (put : Expression Nowhere → Plain) (spot : Spot c.path.steps put) (limit : ℕ) (deep : (y : Expression Nowhere) → expression_depth y ≤ limit → file_depth (put y) ≤ wide_depth)
    (whole : Expression Nowhere) (l : ListIn Nowhere) (is_list : list_in whole ≡ Some l) where
  abbrev path : List ℕ
  path = c.path.steps

  -- the file with these elements in the list
  abbrev pub holding : List (Argument Nowhere) → Plain
  holding ys = put (l.back (with_elements l.list ys))

  shallow : (ys : List (Argument Nowhere)) → suc (depth_of ys) ≤ limit → file_depth (holding ys) ≤ wide_depth
  shallow ys small = deep (l.back (with_elements l.list ys)) (omega (arith, small, form_depth whole l is_list (with_elements l.list ys), with_depth l.list ys))

  put_list : (ys : List (Argument Nowhere)) → ListPut path put (l.back (with_elements l.list ys)) (with_list l (with_elements l.list ys))
  put_list ys = spot (l.back (with_elements l.list ys)) (with_list l (with_elements l.list ys)) (list_stays whole l is_list (with_elements l.list ys))

  -- the file in which an edit has made these elements of those
  made_there : (ys zs : List (Argument Nowhere)) → is_empty ys ≡ false → (put_list ys).place.back (with_elements (put_list ys).place.list zs) ≡ holding zs
  made_there ys zs some =
      let p = put_list ys in
      p.back (with_elements p.place.list zs) ∙ ap (λ m. put (l.back (with_elements m zs))) p.list ∙ ap (λ m. put (l.back m)) (with_again l.list ys zs some)

  are_there : (ys : List (Argument Nowhere)) → elements (put_list ys).place.list ≡ ys
  are_there ys = ap elements (put_list ys).list ∙ elements_with l.list ys

  module _ (front : List (Argument Nowhere)) (a : Argument Nowhere) (behind : List (Argument Nowhere)) (trees : List Plain) (is : nth trees c.file ≡ Some (holding (front ++ a ∷ behind))) (all : All MayStandBetween trees)
      (low : suc (depth_of front) ≤ limit) (back_low : suc (depth_of behind) ≤ limit) where
    abbrev ys : List (Argument Nowhere)
    ys = front ++ a ∷ behind

    abbrev at_n : ℕ
    at_n = length front

    level_now : LevelFile (holding ys)
    level_now = (all_nth MayStandBetween trees c.file (holding ys) all is).0

    removed_done : Done (step_in c (Remove path at_n) ∷ []) trees (slice_set trees c.file (holding (front ++ behind)))
    removed_done =
        let p = put_list ys in
        let zs = front ++ behind in
        let whole_list : element_removed at_n ys a ≡ zs = ap (λ u. u ++ drop (suc at_n) ys) (take_front front (a ∷ behind)) ∙ ap (λ u. front ++ u) (drop_front front a behind) in
        let made_of : edited_elements (Remove path at_n) ys ≡ Some zs = ap (option_map (element_removed at_n ys)) (nth_behind front a behind) ∙ ap Some whole_list in
        let made = edited_there (holding ys) path p.place p.is_place (Remove path at_n) zs (ap (edited_elements (Remove path at_n)) (are_there ys) ∙ made_of) ∙ ap Some (made_there ys zs (some_there front a behind)) in
        let level = removals-keep-levels path at_n (holding ys) (holding zs) level_now made in
        one_done c (Remove path at_n) trees (holding ys) (holding zs) is tt made (level, shallow zs (omega (arith, depth_append front behind, low, back_low))) all

    replaced_done : (w : Written (Expression Nowhere)) → Fits limit w → suc (argument_depth a) ≤ limit → Done (step_in c (Replace path at_n w) ∷ []) trees (slice_set trees c.file (holding (front ++ with_value w.node a ∷ behind)))
    replaced_done w fits small_a =
        let p = put_list ys in
        let zs = front ++ with_value w.node a ∷ behind in
        let v = some_value a in
        let whole_list : take at_n ys ++ with_value w.node a ∷ drop (suc at_n) ys ≡ zs =
        ap (λ u. u ++ with_value w.node a ∷ drop (suc at_n) ys) (take_front front (a ∷ behind)) ∙ ap (λ u. front ++ with_value w.node a ∷ u) (drop_front front a behind) in
        let made_of : edited_elements (Replace path at_n w) ys ≡ Some zs =
        ap (option_and_then (exchanged at_n (λ u. w.node) ys)) (nth_behind front a behind) ∙ ap (option_map (λ u. take at_n ys ++ with_value w.node a ∷ drop (suc at_n) ys)) v.1 ∙ ap Some whole_list in
        let made = edited_there (holding ys) path p.place p.is_place (Replace path at_n w) zs (ap (edited_elements (Replace path at_n w)) (are_there ys) ∙ made_of) ∙ ap Some (made_there ys zs (some_there front a behind)) in
        let level = replacements-keep-levels path at_n w fits.level (holding ys) (holding zs) level_now made in
        one_done c (Replace path at_n w) trees (holding ys) (holding zs) is fits.writes made
        (level, shallow zs (omega (arith, depth_append front (with_value w.node a ∷ behind), low, back_low, value_depth a w.node, small_a, fits.small))) all

  module _ (new : Option (Written (Expression Nowhere))) (fits : NewFits limit new) (test : Argument Span → Bool) where
    abbrev left : List (Argument Span) → List (Argument Nowhere)
    left xs = elements_left (node_of new) test xs

    abbrev own : CallRef → ℕ → Bool → List Step
    own at_ n b = if b then step_in at_ (element_edit at_.path.steps new n) ∷ [] else []

    pub each_done : (xs : List (Argument Span)) (front : List (Argument Nowhere)) (n : ℕ) → length front ≡ n → suc (depth_of front) ≤ limit → suc (depth_of (map erase_argument xs)) ≤ limit
        → (trees : List Plain) → nth trees c.file ≡ Some (holding (front ++ map erase_argument xs)) → All MayStandBetween trees
        → Done (passing_edited c new test n xs) trees (slice_set trees c.file (holding (front ++ left xs)))
    each_done [] front n many low small trees is all = subst (λ ts. Done [] trees ts) (sym (ap (λ ys. slice_set trees c.file (holding (front ++ ys))) nothing_left ∙ set_same trees c.file (holding (front ++ [])) is)) (none_done trees all)
      where
        nothing_left : left [] ≡ []
        nothing_left = by new
          where
            by : (m : Option (Written (Expression Nowhere))) → elements_left (node_of m) test [] ≡ []
            by None = refl
            by (Some w) = refl
    each_done (x ∷ xs) front n many low small trees is all =
        go (test x) refl (each_done xs (front ++ a ∷ []) (suc n) (omega (arith, length-append front (a ∷ []), many)) (omega (arith, depth_append front (a ∷ []), low, small)) (omega (arith, small)) trees
        (is ∙ ap (λ ys. Some (holding ys)) (sym (append_assoc front (a ∷ []) (map erase_argument xs)))) all)
      where
        a : Argument Nowhere
        a = erase_argument x

        rest : List Step
        rest = passing_edited c new test (suc n) xs

        mid : List Plain
        mid = slice_set trees c.file (holding ((front ++ a ∷ []) ++ left xs))

        mid_is : mid ≡ slice_set trees c.file (holding (front ++ a ∷ left xs))
        mid_is = ap (λ ys. slice_set trees c.file (holding ys)) (append_assoc front (a ∷ []) (left xs))

        there : nth mid c.file ≡ Some (holding (front ++ a ∷ left xs))
        there = changed_there trees c.file (holding (front ++ a ∷ map erase_argument xs)) (holding ((front ++ a ∷ []) ++ left xs)) is ∙ ap (λ ys. Some (holding ys)) (append_assoc front (a ∷ []) (left xs))

        rest_low : suc (depth_of (left xs)) ≤ limit
        rest_low = left_depth test limit new fits xs (omega (arith, small))

        last : (m : Option (Written (Expression Nowhere))) → m ≡ new → NewFits limit m → test x ≡ true → All MayStandBetween mid
            → Done (step_in c (element_edit path m n) ∷ []) mid (slice_set trees c.file (holding (front ++ elements_left (node_of m) test (x ∷ xs))))
        last None same f passes stands =
            let r = removed_done front a (left xs) mid there stands low rest_low in
            let zs = ap (λ o. elements_left (node_of o) test xs) same in
            let now = set_twice trees c.file (holding ((front ++ a ∷ []) ++ left xs)) (holding (front ++ left xs))
            ∙ ap (λ ys. slice_set trees c.file (holding (front ++ ys))) (sym (gone_here test x xs passes ∙ zs)) in
            subst (λ k. Done (step_in c (Remove path k) ∷ []) mid (slice_set trees c.file (holding (front ++ elements_left None test (x ∷ xs))))) many (subst (Done (step_in c (Remove path (length front)) ∷ []) mid) now r)
        last (Some w) same f passes stands =
            let one : suc (argument_depth a) ≤ limit = omega (arith, small) in
            let r = replaced_done front a (left xs) mid there stands low rest_low w f one in
            let zs = ap (λ o. elements_left (node_of o) test xs) same in
            let now = set_twice trees c.file (holding ((front ++ a ∷ []) ++ left xs)) (holding (front ++ with_value w.node a ∷ left xs))
            ∙ ap (λ ys. slice_set trees c.file (holding (front ++ ys))) (sym (changed_here test w.node x xs passes ∙ ap (λ us. with_value w.node a ∷ us) zs)) in
            subst (λ k. Done (step_in c (Replace path k w) ∷ []) mid (slice_set trees c.file (holding (front ++ elements_left (Some w.node) test (x ∷ xs))))) many (subst (Done (step_in c (Replace path (length front) w) ∷ []) mid) now r)

        go : (b : Bool) → test x ≡ b → Done rest trees mid → Done (passing_edited c new test n (x ∷ xs)) trees (slice_set trees c.file (holding (front ++ left (x ∷ xs))))
        go true passes d =
            subst (λ b. Done (rest ++ own c n b) trees (slice_set trees c.file (holding (front ++ left (x ∷ xs))))) (sym passes)
            (then_done rest (own c n true) trees mid _ d (last new refl fits passes d.all_stand))
        go false passes d =
            subst (λ b. Done (rest ++ own c n b) trees (slice_set trees c.file (holding (front ++ left (x ∷ xs))))) (sym passes)
            (then_done rest [] trees _ _ (subst (Done rest trees) (mid_is ∙ ap (λ ys. slice_set trees c.file (holding (front ++ ys))) (sym (kept_here test (node_of new) x xs passes))) d) (none_done _ (subst (All MayStandBetween) (mid_is ∙ ap (λ ys. slice_set trees c.file (holding (front ++ ys))) (sym (kept_here test (node_of new) x xs passes))) d.all_stand)))
