-- A list after an edit is no deeper than before by more than what the edit puts in.
use Rattle.meson_edit.proofs.Words.{max, ◌≡◌, ℕ, zero, suc, ◌+◌, ◌≤◌, List, [], ◌∷◌, ◌++◌, take, drop, Some, ap, subst, arith, expression_depth, listing_depth}
use Rattle.meson_edit.proofs.Words.{argument_depth, arguments_depth, file_depth, nth, value_of, Nowhere, Plain, Expression, Listing, listing, Argument, plain}
use Rattle.meson_edit.proofs.Words.{named, pair, arguments_of, list-of-arguments, some-injective, map-some, Edit, First, After, Remove, Replace, Wrap}
use Rattle.meson_edit.proofs.Words.{RemoveStatement, Append, Assign, Lines, elements, with_elements, with_value, array_of, first_element, element_added, element_removed}
use Rattle.meson_edit.proofs.Words.{edited_elements, edited_list, new_depth, EditsDeepen, RemovalsStayWithin, FirstsStayWithin, InsertionsStayWithin}
use Rattle.meson_edit.proofs.Words.{EditsDeepenByOne}
use Rattle.meson_edit.proofs.lists.Found.{valued}
use Rattle.meson_edit.proofs.paths.DeepLists.{depths-grow}
use Rattle.meson_edit.proofs.sequences.Changed.{changed}

abbrev Elements : Type 0
Elements = List (Argument Nowhere)

abbrev depth_of : Elements → ℕ
depth_of xs = arguments_depth (arguments_of xs)

-- ---- parts of lists

depth-append : (xs ys : Elements) → depth_of (xs ++ ys) ≡ max (depth_of xs) (depth_of ys)
depth-append [] ys = omega arith
depth-append (x ∷ xs) ys = omega (arith, depth-append xs ys)

depth-take : (n : ℕ) (xs : Elements) → depth_of (take n xs) ≤ depth_of xs
depth-take zero xs = omega arith
depth-take (suc n) [] = omega arith
depth-take (suc n) (x ∷ xs) = omega (arith, depth-take n xs)

depth-drop : (n : ℕ) (xs : Elements) → depth_of (drop n xs) ≤ depth_of xs
depth-drop zero xs = omega arith
depth-drop (suc n) [] = omega arith
depth-drop (suc n) (x ∷ xs) = omega (arith, depth-drop n xs)

depth-nth : (xs : Elements) (n : ℕ) (x : Argument Nowhere) → nth xs n ≡ Some x → argument_depth x ≤ depth_of xs
depth-nth [] n x is = absurd cc
depth-nth (y ∷ ys) zero x is = subst (λ z. argument_depth z ≤ depth_of (y ∷ ys)) (some-injective y x is) (omega arith)
depth-nth (y ∷ ys) (suc n) x is = omega (arith, depth-nth ys n x is)

-- ---- edited lists

-- so many elements, one more, and others
depth-put : (n m k : ℕ) (xs : Elements) (a : Argument Nowhere) → argument_depth a ≤ depth_of xs + k → depth_of (take n xs ++ a ∷ drop m xs) ≤ depth_of xs + k
depth-put n m k xs a deep = omega (arith, depth-append (take n xs) (a ∷ drop m xs), depth-take n xs, depth-drop m xs, deep)

depth-without : (n m : ℕ) (xs : Elements) → depth_of (take n xs ++ drop m xs) ≤ depth_of xs + 0
depth-without n m xs = omega (arith, depth-append (take n xs) (drop m xs), depth-take n xs, depth-drop m xs)

-- (a pair is as deep as its key too)
value-depth : (a : Argument Nowhere) (v w : Expression Nowhere) → value_of a ≡ Some w → (argument_depth (with_value v a) ≤ max (argument_depth a) (expression_depth v)) × (expression_depth w ≤ argument_depth a)
value-depth (plain e) v w is = let same = ap expression_depth (some-injective e w is) in (omega arith, omega (arith, same))
value-depth (named s x e) v w is = let same = ap expression_depth (some-injective e w is) in (omega arith, omega (arith, same))
value-depth (pair s e f) v w is = let same = ap expression_depth (some-injective f w is) in (omega arith, omega (arith, same))

first-depth : (a : Argument Nowhere) (xs now : Elements) → first_element a xs ≡ Some now → depth_of now ≤ depth_of xs + argument_depth a
first-depth a [] now is = subst (λ ys. depth_of ys ≤ 0 + argument_depth a) (some-injective _ _ is) (omega arith)
first-depth a (x ∷ xs) now is = absurd cc

elements-deepen : (e : Edit) (xs now : Elements) → edited_elements e xs ≡ Some now → depth_of now ≤ depth_of xs + new_depth e
elements-deepen (First path new) xs now is = first-depth new.node xs now is
elements-deepen (After path n new) xs now is =
    let m = map-some (element_added n new.node xs) (nth xs n) now is in
    subst (λ ys. depth_of ys ≤ depth_of xs + argument_depth new.node) m.2 (depth-put (suc n) (suc n) (argument_depth new.node) xs new.node (omega arith))
elements-deepen (Remove path n) xs now is =
    let m = map-some (element_removed n xs) (nth xs n) now is in
    subst (λ ys. depth_of ys ≤ depth_of xs + 0) m.2 (depth-without n (suc n) xs)
elements-deepen (Replace path n new) xs now is =
    let v = valued (λ w. new.node) n xs now is in
    let d = value-depth v.it new.node v.value v.is_value in
    subst (λ ys. depth_of ys ≤ depth_of xs + expression_depth new.node) v.is_now
    (depth-put n (suc n) (expression_depth new.node) xs (with_value new.node v.it) (omega (arith, d.0, depth-nth xs n v.it v.is_it)))
elements-deepen (Wrap path n) xs now is =
    let v = valued array_of n xs now is in
    let d = value-depth v.it (array_of v.value) v.value v.is_value in
    subst (λ ys. depth_of ys ≤ depth_of xs + 1) v.is_now
    (depth-put n (suc n) 1 xs (with_value (array_of v.value) v.it) (omega (arith, d.0, d.1, depth-nth xs n v.it v.is_it)))
elements-deepen (RemoveStatement blank path n) xs now is = absurd cc
elements-deepen (Append new) xs now is = absurd cc
elements-deepen (Assign path new) xs now is = absurd cc
elements-deepen (Lines place new) xs now is = absurd cc

-- ---- edited trees

listing-deepens : (l : Listing Nowhere) (now : Elements) (k : ℕ) → depth_of now ≤ depth_of (elements l) + k → listing_depth (with_elements l now) ≤ listing_depth l + k
listing-deepens (listing s trailing list) now k deep = omega (arith, ap arguments_depth (list-of-arguments list), deep)

list-deepens : (e : Edit) (path : List ℕ) (t now : Plain) → edited_list e path t ≡ Some now → file_depth now ≤ file_depth t + new_depth e
list-deepens e path t now is =
    let c = changed e path t now is in
    let deeper = elements-deepen e (elements c.place.list) c.list c.is_list in
    subst (λ u. file_depth u ≤ file_depth t + new_depth e) c.is_now
    (depths-grow t path c.place c.is_place (with_elements c.place.list c.list) (new_depth e) (listing-deepens c.place.list c.list (new_depth e) deeper))

pub edits-deepen : EditsDeepen
edits-deepen (First list new) path of t now is = list-deepens (First list new) list t now is
edits-deepen (After list n new) path of t now is = list-deepens (After list n new) list t now is
edits-deepen (Remove list n) path of t now is = list-deepens (Remove list n) list t now is
edits-deepen (Replace list n new) path of t now is = list-deepens (Replace list n new) list t now is
edits-deepen (Wrap list n) path of t now is = list-deepens (Wrap list n) list t now is
edits-deepen (RemoveStatement blank block n) path of t now is = absurd of
edits-deepen (Append new) path of t now is = absurd of
edits-deepen (Assign assignment new) path of t now is = absurd of
edits-deepen (Lines place new) path of t now is = absurd of

pub removals-stay-within : RemovalsStayWithin
removals-stay-within path n t now is = omega (arith, list-deepens (Remove path n) path t now is)

pub firsts-stay-within : FirstsStayWithin
firsts-stay-within path new flat t now is = omega (arith, flat, list-deepens (First path new) path t now is)

pub insertions-stay-within : InsertionsStayWithin
insertions-stay-within path n new flat t now is = omega (arith, flat, list-deepens (After path n new) path t now is)

pub edits-deepen-by-one : EditsDeepenByOne
edits-deepen-by-one e path of small t now is = omega (arith, small, edits-deepen e path of t now is)
