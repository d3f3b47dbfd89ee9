-- Texts that are put into a list, each in its place or at the end: what its elements become, and that each edit may be done.
use Rattle.std.specs.Prelude.{count_by, insert, is_some, ◌&&◌, if◌then◌else◌}
use Rattle.std.proofs.lemmas.List.Edits.{length-insert}
use Rattle.std.proofs.lemmas.List.Sums.{count_by-le-length}
use Rattle.meson_edit.specs.Edits.{Replace}
use Rattle.meson_steps.specs.Order.{IsInside, insertion_point, is_less, is_order, may_be_ordered, point_after, put_key}
use Rattle.meson_steps.specs.OrderedLists.{Added, Ordered, all_elements, all_put, comes_first, number_at, point_in, put_after, put_one, put_steps}
use Rattle.meson_steps.specs.declared.order.InsertionPoint.{InsertionPoint}
use Rattle.meson_steps.specs.declared.order.InsertionPoint.TheVariants as point
use Rattle.meson_steps.specs.declared.order.SortKey.{SortKey}
use Rattle.meson_sources.proofs.Words.{option_and_then, option_map, [], ap, ap₂, append-nil, append_assoc, arith, drop, false, length, length-append, length-map, List, map, map-append, None, Option, refl, Some, subst}
use Rattle.meson_sources.proofs.Words.{Bool, eqb-true, nat_eq, some-injective, string_of, suc, sym, take, true, zero, ℕ, ◌++◌, ◌+◌, ◌<◌, ◌∙◌, ◌∷◌, ◌≡◌, ◌≤◌, nth, Argument, Expression, Nowhere, plain, After, Edit, edited_elements}
use Rattle.meson_sources.proofs.Words.{edited_list, edited, element_added, exchanged, First, Written, Plain, CallRef, step_in}
use Rattle.meson_sources.specs.Effects.{GetsAmong, as_before, one_more}
use Rattle.meson_sources.proofs.sorted.Edits.{AreOfList, IsFlat, MayBeEdited, alone, all_edited, behind, element_of, instead, unedited}

-- ==== The edits.

module _ (path : List ℕ) where
  abbrev pub put_edit : ℕ → Written (Expression Nowhere) → Edit
  put_edit zero w = First path (element_of w)
  put_edit (suc n) w = After path n (element_of w)

  abbrev pub front_edits : Ordered → Option (Written (Expression Nowhere)) → Written (Expression Nowhere) → List Edit
  front_edits o None w = put_edit o.end w ∷ []
  front_edits o (Some first) w = Replace path o.from w ∷ put_edit (suc o.from) first ∷ []

  abbrev pub put_edits : Ordered → InsertionPoint → Written (Expression Nowhere) → List Edit
  put_edits o point.End w = put_edit o.end w ∷ []
  put_edits o (point.After n) w = put_edit (suc (o.from + n)) w ∷ []
  put_edits o point.Front w = front_edits o o.first w

  abbrev pub all_edits : Ordered → List Added → List Edit
  all_edits o [] = []
  all_edits o (a ∷ more) = put_edits o (point_in o a.key) a.written ++ all_edits (put_one o (point_in o a.key) a.key a.written) more

module _ (list : CallRef) where
  abbrev here : List ℕ
  here = list.path.steps

  after_is : (n : ℕ) (w : Written (Expression Nowhere)) → put_after list n w ≡ step_in list (put_edit here n w)
  after_is zero w = refl
  after_is (suc n) w = refl

  puts_are : (o : Ordered) (p : InsertionPoint) (w : Written (Expression Nowhere)) → put_steps list o p w ≡ map (step_in list) (put_edits here o p w)
  puts_are o point.End w = ap (λ s. s ∷ []) (after_is o.end w)
  puts_are o (point.After n) w = refl
  puts_are o point.Front w = by_first o.first
    where
      by_first : (first : Option (Written (Expression Nowhere))) → put_steps list (record o { first = first }) point.Front w ≡ map (step_in list) (front_edits here o first w)
      by_first None = ap (λ s. s ∷ []) (after_is o.end w)
      by_first (Some first) = refl

  pub edits_are : (o : Ordered) (added : List Added) → all_put list o added ≡ map (step_in list) (all_edits here o added)
  edits_are o [] = refl
  edits_are o (a ∷ more) =
      let p = point_in o a.key in
      let next = put_one o p a.key a.written in
      ap₂ (λ l m. l ++ m) (puts_are o p a.written) (edits_are next more) ∙ sym (map-append (step_in list) (put_edits here o p a.written) (all_edits here next more))

module _ (path : List ℕ) where
  one_of_list : (n : ℕ) (w : Written (Expression Nowhere)) (t : Plain) → edited (put_edit path n w) t ≡ edited_list (put_edit path n w) path t
  one_of_list zero w t = refl
  one_of_list (suc n) w t = refl

  both_of_list : (es fs : List Edit) → AreOfList path es → AreOfList path fs → AreOfList path (es ++ fs)
  both_of_list [] fs a b = b
  both_of_list (e ∷ es) fs a b = (a.0, both_of_list es fs a.1 b)

  puts_of_list : (o : Ordered) (p : InsertionPoint) (w : Written (Expression Nowhere)) → AreOfList path (put_edits path o p w)
  puts_of_list o point.End w = (one_of_list o.end w, tt)
  puts_of_list o (point.After n) w = (one_of_list (suc (o.from + n)) w, tt)
  puts_of_list o point.Front w = by_first o.first
    where
      by_first : (first : Option (Written (Expression Nowhere))) → AreOfList path (front_edits path o first w)
      by_first None = (one_of_list o.end w, tt)
      by_first (Some first) = ((λ t. refl), (one_of_list (suc o.from) first, tt))

  pub all_of_list : (o : Ordered) (added : List Added) → AreOfList path (all_edits path o added)
  all_of_list o [] = tt
  all_of_list o (a ∷ more) =
      let p = point_in o a.key in
      let next = put_one o p a.key a.written in
      both_of_list (put_edits path o p a.written) (all_edits path next more) (puts_of_list o p a.written) (all_of_list next more)

-- ==== The list.

abbrev pub plains : List (Expression Nowhere) → List (Argument Nowhere)
plains es = map plain es

-- The elements of the list are some that do not count, those that count, and then those with a name.
pub record Fits (o : Ordered) (xs : List (Argument Nowhere)) : Type 0 where
  pub before : List (Expression Nowhere)
  pub counted : List (Expression Nowhere)
  pub others : List (Argument Nowhere)
  pub are : xs ≡ plains before ++ (plains counted ++ others)
  pub from : o.from ≡ length before
  pub end : o.end ≡ length before + length counted
  pub many : length o.keys ≡ length counted
  pub first : (w : Written (Expression Nowhere)) → o.first ≡ Some w → (rest : List (Expression Nowhere)) × (counted ≡ w.node ∷ rest)
  pub none : o.end ≡ 0 → others ≡ []

-- an element is put after some without a name
behind_all : (e : Expression Nowhere) (es : List (Expression Nowhere)) (back : List (Argument Nowhere)) (a : Argument Nowhere)
    → (it : Expression Nowhere) × (nth (plains (e ∷ es) ++ back) (length es) ≡ Some (plain it)) × (element_added (length es) a (plains (e ∷ es) ++ back) (plain it) ≡ plains (e ∷ es) ++ a ∷ back)
behind_all e [] back a = (e, refl, refl)
behind_all e (x ∷ es) back a = let r = behind_all x es back a in (r.0, r.1, ap (λ l. plain e ∷ l) r.2)

-- one takes the place of the first after them
in_place_of : (es : List (Expression Nowhere)) (f : Expression Nowhere) (back : List (Argument Nowhere)) (a : Argument Nowhere)
    → (nth (plains es ++ plain f ∷ back) (length es) ≡ Some (plain f)) × (take (length es) (plains es ++ plain f ∷ back) ++ a ∷ drop (suc (length es)) (plains es ++ plain f ∷ back) ≡ plains es ++ a ∷ back)
in_place_of [] f back a = (refl, refl)
in_place_of (x ∷ es) f back a = let r = in_place_of es f back a in (r.0, ap (λ l. plain x ∷ l) r.1)

-- ==== One put.

point_inside : (free : Bool) (many bound : ℕ) → many ≤ bound → IsInside (point_after free many) bound
point_inside true zero bound few = tt
point_inside false zero bound few = tt
point_inside free (suc n) bound few = omega (arith, few)

pub inside : (free : Bool) (new : SortKey) (keys : List SortKey) → IsInside (insertion_point free new keys) (length keys)
inside free new keys = by_order (may_be_ordered new && is_order new keys)
  where
    by_order : (b : Bool) → IsInside (if b then point_after free (count_by (λ k. is_less k new) keys) else point.End) (length keys)
    by_order true = point_inside free (count_by (λ k. is_less k new) keys) (length keys) (count_by-le-length (λ k. is_less k new) keys)
    by_order false = tt

point_free : (free : Bool) (many : ℕ) → point_after free many ≡ point.Front → free ≡ true
point_free true many is = refl
point_free false zero is = absurd (let no : ⊥ = cc in no)
point_free false (suc n) is = absurd (let no : ⊥ = cc in no)

pub front_free : (free : Bool) (new : SortKey) (keys : List SortKey) → insertion_point free new keys ≡ point.Front → free ≡ true
front_free free new keys is = by_order (may_be_ordered new && is_order new keys) is
  where
    by_order : (b : Bool) → (if b then point_after free (count_by (λ k. is_less k new) keys) else point.End) ≡ point.Front → free ≡ true
    by_order true h = point_free free (count_by (λ k. is_less k new) keys) h
    by_order false h = absurd (let no : ⊥ = cc in no)

abbrev pub FirstIsFlat : Ordered → Type 0
FirstIsFlat o = (w : Written (Expression Nowhere)) → o.first ≡ Some w → IsFlat w

module _ (path : List ℕ) where
  abbrev put_there : (es : List (Expression Nowhere)) (back : List (Argument Nowhere)) (w : Written (Expression Nowhere)) → List (Argument Nowhere)
  put_there es back w = plains es ++ plain w.node ∷ back

  record PutBehind (n : ℕ) (es : List (Expression Nowhere)) (back : List (Argument Nowhere)) (w : Written (Expression Nowhere)) : Type 0 where
    made : edited_elements (put_edit path n w) (plains es ++ back) ≡ Some (put_there es back w)
    may : IsFlat w → (rest : List Edit) → MayBeEdited path rest (put_there es back w) → MayBeEdited path (put_edit path n w ∷ rest) (plains es ++ back)

  -- after some elements without a name; where there is none the list is empty
  put_behind : (n : ℕ) (es : List (Expression Nowhere)) (back : List (Argument Nowhere)) (w : Written (Expression Nowhere)) → n ≡ length es → (length es ≡ 0 → back ≡ []) → PutBehind n es back w
  put_behind zero [] back w is none =
      let empty = none refl in
      subst (λ l. PutBehind zero [] l w) (sym empty) (record { made = refl; may = λ flat rest more. alone w rest flat more })
  put_behind (suc n) [] back w is none = absurd (omega (arith, is))
  put_behind zero (e ∷ es) back w is none = absurd (omega (arith, is))
  put_behind (suc n) (e ∷ es) back w is none =
      let same : n ≡ length es = omega (arith, is) in
      let xs = plains (e ∷ es) ++ back in
      let b = behind_all e es back (plain w.node) in
      let there : nth xs n ≡ Some (plain b.0) = ap (nth xs) same ∙ b.1 in
      let put : element_added n (plain w.node) xs (plain b.0) ≡ put_there (e ∷ es) back w = ap (λ m. element_added m (plain w.node) xs (plain b.0)) same ∙ b.2 in
      record {
        made = ap (option_map (element_added n (plain w.node) xs)) there ∙ ap Some put;
        may = λ flat rest more. behind n w b.0 rest xs flat there (subst (MayBeEdited path rest) (sym put) more);
      }

  -- what a put makes of the list
  pub record OnePut (o : Ordered) (p : InsertionPoint) (k : SortKey) (w : Written (Expression Nowhere)) (xs : List (Argument Nowhere)) : Type 0 where
    pub front : List (Argument Nowhere)
    pub back : List (Argument Nowhere)
    pub had : xs ≡ front ++ back
    pub at : number_at o p ≡ length front
    pub made : (rest : List Edit) → all_edited (put_edits path o p w ++ rest) xs ≡ all_edited rest (front ++ plain w.node ∷ back)
    pub may : IsFlat w → FirstIsFlat o → (rest : List Edit) → MayBeEdited path rest (front ++ plain w.node ∷ back) → MayBeEdited path (put_edits path o p w ++ rest) xs
    pub fits : Fits (put_one o p k w) (front ++ plain w.node ∷ back)

  -- the elements before some of those that count, and the others
  parted : (before a b : List (Expression Nowhere)) (others : List (Argument Nowhere)) → plains before ++ (plains (a ++ b) ++ others) ≡ plains (before ++ a) ++ (plains b ++ others)
  parted before a b others =
      ap (λ l. plains before ++ (l ++ others)) (map-append plain a b) ∙ ap (λ l. plains before ++ l) (append_assoc (plains a) (plains b) others)
      ∙ sym (append_assoc (plains before) (plains a) (plains b ++ others)) ∙ ap (λ l. l ++ (plains b ++ others)) (sym (map-append plain before a))

  rejoined : (before a b : List (Expression Nowhere)) (others : List (Argument Nowhere)) (e : Expression Nowhere)
      → plains (before ++ a) ++ plain e ∷ (plains b ++ others) ≡ plains before ++ (plains (a ++ e ∷ b) ++ others)
  rejoined before a b others e = sym (parted before a (e ∷ b) others)

  module _ (o : Ordered) (k : SortKey) (w : Written (Expression Nowhere)) (xs : List (Argument Nowhere)) (f : Fits o xs) where
    -- after some of those that count
    after_some : (p : InsertionPoint) (n : ℕ) → number_at o p ≡ n → put_edits path o p w ≡ put_edit path n w ∷ [] → (a b : List (Expression Nowhere)) → f.counted ≡ a ++ b → n ≡ length f.before + length a
        → (length f.before + length a ≡ 0 → plains b ++ f.others ≡ []) → length (put_key p k o.keys) ≡ suc (length o.keys)
        → ((v : Written (Expression Nowhere)) → (put_one o p k w).first ≡ Some v → (rest : List (Expression Nowhere)) × (a ++ w.node ∷ b ≡ v.node ∷ rest)) → OnePut o p k w xs
    after_some p n number edits a b are is none many first =
        let front = f.before ++ a in
        let back = plains b ++ f.others in
        let count : length front ≡ length f.before + length a = length-append f.before a in
        let put = put_behind n front back w (is ∙ sym count) (λ zero_left. none (sym count ∙ zero_left)) in
        let had : xs ≡ plains front ++ back = f.are ∙ ap (λ c. plains f.before ++ (plains c ++ f.others)) are ∙ parted f.before a b f.others in
        let longer : length f.counted ≡ length a + length b = ap length are ∙ length-append a b in
        let now : length (a ++ w.node ∷ b) ≡ length a + suc (length b) = length-append a (w.node ∷ b) in
        record {
          front = plains front;
          back = back;
          had = had;
          at = number ∙ is ∙ sym count ∙ sym (length-map front plain);
          made = λ rest. ap (λ es. all_edited (es ++ rest) xs) edits ∙ ap (λ l. option_and_then (all_edited rest) (edited_elements (put_edit path n w) l)) had ∙ ap (option_and_then (all_edited rest)) put.made;
          may = λ flat of_first rest more. subst (λ es. MayBeEdited path (es ++ rest) xs) (sym edits) (subst (MayBeEdited path (put_edit path n w ∷ rest)) (sym had) (put.may flat rest more));
          fits = record {
            before = f.before;
            counted = a ++ w.node ∷ b;
            others = f.others;
            are = rejoined f.before a b f.others w.node;
            from = f.from;
            end = let was = f.end in omega (arith, was, longer, now);
            many = let was = f.many in omega (arith, many, was, longer, now);
            first = first;
            none = λ zero_left. absurd (omega (arith, zero_left));
          };
        }

    at_end : put_edits path o point.End w ≡ put_edit path o.end w ∷ [] → OnePut o point.End k w xs
    at_end edits =
        let empty : length f.before + length f.counted ≡ 0 → f.others ≡ [] = λ zero_left. f.none (f.end ∙ zero_left) in
        after_some point.End o.end refl edits f.counted [] (sym (append-nil f.counted)) f.end empty (length-append o.keys (k ∷ []) ∙ omega arith) (by_end (nat_eq o.from o.end) refl)
      where
        nothing : (es : List (Expression Nowhere)) → length es ≡ 0 → es ≡ []
        nothing [] none = refl
        nothing (e ∷ es) none = absurd (omega (arith, none))

        some_is : (u v : Written (Expression Nowhere)) → Some u ≡ Some v → u ≡ v
        some_is u v is = some-injective u v is

        by_end : (b : Bool) → nat_eq o.from o.end ≡ b → (v : Written (Expression Nowhere)) → (if b then Some w else o.first) ≡ Some v → (rest : List (Expression Nowhere)) × (f.counted ++ w.node ∷ [] ≡ v.node ∷ rest)
        by_end true here v is =
            let same = eqb-true o.from o.end here in
            let from = f.from in
            let end = f.end in
            let no_element : length f.counted ≡ 0 = omega (arith, same, from, end) in
            ([], ap (λ c. c ++ w.node ∷ []) (nothing f.counted no_element) ∙ ap (λ (u : Written (Expression Nowhere)). u.node ∷ []) (some_is w v is))
        by_end false here v is = let r = f.first v is in (r.0 ++ w.node ∷ [], ap (λ c. c ++ w.node ∷ []) r.1)

    -- a prefix of a list that has a first element
    first_stays : (n : ℕ) (v : Written (Expression Nowhere)) → o.first ≡ Some v
        → (rest : List (Expression Nowhere)) × (take (suc n) f.counted ++ w.node ∷ drop (suc n) f.counted ≡ v.node ∷ rest)
    first_stays n v is =
        let r = f.first v is in
        (take n r.0 ++ w.node ∷ drop n r.0, ap (λ c. take (suc n) c ++ w.node ∷ drop (suc n) c) r.1)

    taken : (n : ℕ) (es : List (Expression Nowhere)) → n ≤ length es → length (take n es) ≡ n
    taken zero es few = refl
    taken (suc n) [] few = absurd (omega (arith, few))
    taken (suc n) (e ∷ es) few = ap suc (taken n es (omega (arith, few)))

    cut : (n : ℕ) (es : List (Expression Nowhere)) → es ≡ take n es ++ drop n es
    cut zero es = refl
    cut (suc n) [] = refl
    cut (suc n) (e ∷ es) = ap (λ l. e ∷ l) (cut n es)

    after_one : (n : ℕ) → n < length o.keys → OnePut o (point.After n) k w xs
    after_one n within =
        let few : suc n ≤ length f.counted = let many = f.many in omega (arith, within, many) in
        let count = taken (suc n) f.counted few in
        let from = f.from in
        let at : suc (o.from + n) ≡ length f.before + length (take (suc n) f.counted) = omega (arith, from, count) in
        let longer : length (insert o.keys (suc n) k) ≡ suc (length o.keys) = omega (arith, length-insert o.keys (suc n) k (omega (arith, within))) in
        after_some (point.After n) (suc (o.from + n)) refl refl (take (suc n) f.counted) (drop (suc n) f.counted) (cut (suc n) f.counted) at (λ none. absurd (omega (arith, none, count))) longer (first_stays n)

    in_front : (v : Written (Expression Nowhere)) → o.first ≡ Some v → OnePut o point.Front k w xs
    in_front v is =
        let r = f.first v is in
        let back : List (Argument Nowhere) = plain v.node ∷ (plains r.0 ++ f.others) in
        let had : xs ≡ plains f.before ++ back = f.are ∙ ap (λ c. plains f.before ++ (plains c ++ f.others)) r.1 in
        let edits : put_edits path o point.Front w ≡ Replace path o.from w ∷ put_edit path (suc o.from) v ∷ [] = ap (λ first. front_edits path o first w) is in
        let there = in_place_of f.before v.node (plains r.0 ++ f.others) (plain w.node) in
        let zs = plains f.before ++ back in
        let front_is = f.from in
        let is_there : nth zs o.from ≡ Some (plain v.node) = ap (nth zs) front_is ∙ there.0 in
        let replaced : take o.from zs ++ plain w.node ∷ drop (suc o.from) zs ≡ plains f.before ++ plain w.node ∷ (plains r.0 ++ f.others) =
        ap (λ m. take m zs ++ plain w.node ∷ drop (suc m) zs) front_is ∙ there.1 in
        let between : plains f.before ++ plain w.node ∷ (plains r.0 ++ f.others) ≡ plains (f.before ++ w.node ∷ []) ++ (plains r.0 ++ f.others) =
        sym (append_assoc (plains f.before) (plain w.node ∷ []) (plains r.0 ++ f.others)) ∙ ap (λ l. l ++ (plains r.0 ++ f.others)) (sym (map-append plain f.before (w.node ∷ []))) in
        let after : plains (f.before ++ w.node ∷ []) ++ plain v.node ∷ (plains r.0 ++ f.others) ≡ plains f.before ++ plain w.node ∷ back =
        ap (λ l. l ++ back) (map-append plain f.before (w.node ∷ [])) ∙ append_assoc (plains f.before) (plain w.node ∷ []) back in
        let count : length (f.before ++ w.node ∷ []) ≡ suc (length f.before) = omega (arith, length-append f.before (w.node ∷ [])) in
        let put = put_behind (suc o.from) (f.before ++ w.node ∷ []) (plains r.0 ++ f.others) v (omega (arith, front_is, count)) (λ none. absurd (omega (arith, none, count))) in
        record {
          front = plains f.before;
          back = back;
          had = had;
          at = front_is ∙ sym (length-map f.before plain);
          made = λ rest.
              ap (λ es. all_edited (es ++ rest) xs) edits ∙ ap (all_edited (Replace path o.from w ∷ put_edit path (suc o.from) v ∷ rest)) had
              ∙ ap (λ it. option_and_then (all_edited (put_edit path (suc o.from) v ∷ rest)) (option_and_then (exchanged o.from (λ u. w.node) zs) it)) is_there
              ∙ ap (λ l. option_and_then (all_edited rest) (edited_elements (put_edit path (suc o.from) v) l)) (replaced ∙ between)
              ∙ ap (option_and_then (all_edited rest)) (put.made ∙ ap Some after);
          may = λ flat of_first rest more. subst (λ es. MayBeEdited path (es ++ rest) xs) (sym edits)
              (subst (MayBeEdited path (Replace path o.from w ∷ put_edit path (suc o.from) v ∷ rest)) (sym had)
              (instead o.from w v.node (put_edit path (suc o.from) v ∷ rest) zs flat is_there
              (subst (MayBeEdited path (put_edit path (suc o.from) v ∷ rest)) (sym (replaced ∙ between)) (put.may (of_first v is) rest (subst (MayBeEdited path rest) (sym after) more)))));
          fits = record {
            before = f.before;
            counted = w.node ∷ f.counted;
            others = f.others;
            are = ap (λ c. plains f.before ++ plain w.node ∷ (plains c ++ f.others)) (sym r.1);
            from = f.from;
            end = let was = f.end in omega (arith, was);
            many = ap suc f.many;
            first = λ u same. (f.counted, ap (λ (x : Written (Expression Nowhere)). x.node ∷ f.counted) (some-injective w u same));
            none = λ zero_left. absurd (omega (arith, zero_left));
          };
        }

    -- where the list says
    put_at : (p : InsertionPoint) → IsInside p (length o.keys) → (p ≡ point.Front → is_some o.first ≡ true) → OnePut o p k w xs
    put_at point.End within free = at_end refl
    put_at (point.After n) within free = after_one n within
    put_at point.Front within free = by_first o.first refl (free refl)
      where
        by_first : (first : Option (Written (Expression Nowhere))) → o.first ≡ first → is_some first ≡ true → OnePut o point.Front k w xs
        by_first None is some = absurd (let no : ⊥ = cc in no)
        by_first (Some v) is some = in_front v is

    pub one_put : OnePut o (point_in o k) k w xs
    one_put = put_at (point_in o k) (inside (is_some o.first) k o.keys) (front_free (is_some o.first) k o.keys)

-- ==== All of them.

inserted_first : {A : Type 0} (xs : List A) (a : A) → insert xs 0 a ≡ a ∷ xs
inserted_first [] a = refl
inserted_first (x ∷ xs) a = refl

inserted_between : {A : Type 0} (front back : List A) (a : A) (n : ℕ) → n ≡ length front → insert (front ++ back) n a ≡ front ++ a ∷ back
inserted_between [] back a n is = ap (λ m. insert back m a) is ∙ inserted_first back a
inserted_between (x ∷ front) back a zero is = absurd (omega (arith, is))
inserted_between (x ∷ front) back a (suc n) is = ap (λ l. x ∷ l) (inserted_between front back a n (omega (arith, is)))

abbrev pub AllFlat : List Added → Type 0
AllFlat [] = Unit {0}
AllFlat (a ∷ more) = IsFlat a.written × AllFlat more

-- the first is what it was, or the one that is put there
next_flat : (o : Ordered) (p : InsertionPoint) (k : SortKey) (w : Written (Expression Nowhere)) → IsFlat w → FirstIsFlat o → FirstIsFlat (put_one o p k w)
next_flat o p k w flat of_first v is = by_place (comes_first o.from o.end p) is
  where
    by_place : (b : Bool) → (if b then Some w else o.first) ≡ Some v → IsFlat v
    by_place true same = subst IsFlat (some-injective w v same) flat
    by_place false same = of_first v same

module _ (path : List ℕ) where
  pub may_be_put : (added : List Added) (o : Ordered) (xs : List (Argument Nowhere)) → Fits o xs → AllFlat added → FirstIsFlat o → MayBeEdited path (all_edits path o added) xs
  may_be_put [] o xs f flat of_first = unedited xs
  may_be_put (a ∷ more) o xs f flat of_first =
      let r = one_put path o a.key a.written xs f in
      let next = put_one o (point_in o a.key) a.key a.written in
      r.may flat.0 of_first (all_edits path next more) (may_be_put more next (r.front ++ plain a.written.node ∷ r.back) r.fits flat.1 (next_flat o (point_in o a.key) a.key a.written flat.0 of_first))

  -- the elements are all in their places
  pub put_elements : (added : List Added) (o : Ordered) (xs ys : List (Argument Nowhere)) → Fits o xs → all_edited (all_edits path o added) xs ≡ Some ys → ys ≡ all_elements o added xs
  put_elements [] o xs ys f made = sym (some-injective xs ys made)
  put_elements (a ∷ more) o xs ys f made =
      let p = point_in o a.key in
      let r = one_put path o a.key a.written xs f in
      let next = put_one o p a.key a.written in
      let it : Argument Nowhere = plain a.written.node in
      let is : r.front ++ it ∷ r.back ≡ insert xs (number_at o p) it = sym (ap (λ l. insert l (number_at o p) it) r.had ∙ inserted_between r.front r.back it (number_at o p) r.at) in
      put_elements more next (r.front ++ it ∷ r.back) ys r.fits (sym (r.made (all_edits path next more)) ∙ made) ∙ ap (all_elements next more) is

  module _ (named : List ℕ → Added) (is_string : (name : List ℕ) → (named name).written.node ≡ string_of name) where
    pub put_among : (names : List (List ℕ)) (o : Ordered) (xs ys : List (Argument Nowhere)) → Fits o xs → all_edited (all_edits path o (map named names)) xs ≡ Some ys → GetsAmong names xs ys
    put_among [] o xs ys f made = subst (GetsAmong [] xs) (some-injective xs ys made) (as_before xs)
    put_among (name ∷ names) o xs ys f made =
        let a = named name in
        let r = one_put path o a.key a.written xs f in
        let next = put_one o (point_in o a.key) a.key a.written in
        let rest = put_among names next (r.front ++ plain a.written.node ∷ r.back) ys r.fits (sym (r.made (all_edits path next (map named names))) ∙ made) in
        one_more name names r.front r.back xs ys r.had (subst (λ e. GetsAmong names (r.front ++ plain e ∷ r.back) ys) (is_string name) rest)
