-- The sort keys of a list's elements after others are put among them.
use Rattle.std.specs.Prelude.{insert, is_some}
use Rattle.std.proofs.lemmas.List.Edits.{length-insert}
use Rattle.meson_lex.proofs.Written.{literal_value}
use Rattle.meson_steps.specs.declared.order.InsertionPoint.{InsertionPoint}
use Rattle.meson_steps.specs.declared.order.InsertionPoint.TheVariants as point
use Rattle.meson_steps.specs.declared.order.SortKey.{SortKey}
use Rattle.meson_steps.specs.Order.{IsInside, put_key}
use Rattle.meson_steps.specs.OrderedLists.{Added, Ordered, all_elements, number_at, point_in, put_one, sort_key, sort_keys, text_key}
use Rattle.meson_sources.specs.Sorting.{added_text}
use Rattle.meson_sources.proofs.Words.{All, All-head, All-tail, [], ap, ap₂, arith, drop, IsUtf8, length, List, map, refl, Span, suc, sym, zero, ℕ, ◌++◌, ◌+◌, ◌∙◌, ◌∷◌, ◌≡◌, ◌≤◌}
use Rattle.meson_sources.proofs.Words.{Argument, erase_argument, erase_expression, Expression, identifier, named, Nowhere, pair, plain, string}
use Rattle.meson_sources.proofs.sorted.InOrder.{all_noted}
use Rattle.meson_sources.proofs.sorted.Puts.{inside}

-- ---- lists

inserted_last : {A : Type 0} (xs : List A) (a : A) → insert xs (length xs) a ≡ xs ++ a ∷ []
inserted_last [] a = refl
inserted_last (x ∷ xs) a = ap (λ l. x ∷ l) (inserted_last xs a)

inserted_first : {A : Type 0} (xs : List A) (a : A) → a ∷ xs ≡ insert xs 0 a
inserted_first [] a = refl
inserted_first (x ∷ xs) a = refl

no_shorter : {A : Type 0} (xs : List A) (n : ℕ) (a : A) → length xs ≤ length (insert xs n a)
no_shorter [] n a = omega arith
no_shorter (x ∷ xs) zero a = omega arith
no_shorter (x ∷ xs) (suc n) a = let rest = no_shorter xs n a in omega (arith, rest)

-- an element put behind some is put among those that are left without these
left_with : {A : Type 0} (xs : List A) (a : A) (n m k : ℕ) → k ≡ n + m → n ≤ length xs → drop n (insert xs k a) ≡ insert (drop n xs) m a
left_with xs a zero m k is few = ap (λ j. insert xs j a) (omega (arith, is))
left_with [] a (suc n) m k is few = absurd (omega (arith, few))
left_with (x ∷ xs) a (suc n) m zero is few = absurd (omega (arith, is))
left_with (x ∷ xs) a (suc n) m (suc k) is few = left_with xs a n m k (omega (arith, is)) (omega (arith, few))

keys_inserted : (xs : List (Argument Nowhere)) (n : ℕ) (e : Expression Nowhere) → n ≤ length (sort_keys xs) → sort_keys (insert xs n (plain e)) ≡ insert (sort_keys xs) n (sort_key e)
keys_inserted [] zero e few = refl
keys_inserted [] (suc n) e few = absurd (omega (arith, few))
keys_inserted (plain x ∷ xs) zero e few = refl
keys_inserted (named s x v ∷ xs) zero e few = refl
keys_inserted (pair s x v ∷ xs) zero e few = refl
keys_inserted (plain x ∷ xs) (suc n) e few = ap (λ l. sort_key x ∷ l) (keys_inserted xs n e (omega (arith, few)))
keys_inserted (named s x v ∷ xs) (suc n) e few = absurd (omega (arith, few))
keys_inserted (pair s x v ∷ xs) (suc n) e few = absurd (omega (arith, few))

-- ---- places among keys

abbrev place_of : InsertionPoint → List SortKey → ℕ
place_of point.End keys = length keys
place_of (point.After n) keys = suc n
place_of point.Front keys = 0

put_is : (p : InsertionPoint) (k : SortKey) (keys : List SortKey) → put_key p k keys ≡ insert keys (place_of p keys) k
put_is point.End k keys = sym (inserted_last keys k)
put_is (point.After n) k keys = refl
put_is point.Front k keys = inserted_first keys k

place_inside : (p : InsertionPoint) (keys : List SortKey) → IsInside p (length keys) → place_of p keys ≤ length keys
place_inside point.End keys within = omega arith
place_inside (point.After n) keys within = omega (arith, within)
place_inside point.Front keys within = omega arith

number_is : (o : Ordered) (p : InsertionPoint) → o.end ≡ o.from + length o.keys → number_at o p ≡ o.from + place_of p o.keys
number_is o point.End end = end
number_is o (point.After n) end = omega arith
number_is o point.Front end = omega arith

-- ---- all that are put

-- the key of each is that of its node
abbrev pub AllKeyed : List Added → Type 0
AllKeyed [] = Unit {0}
AllKeyed (a ∷ more) = (a.key ≡ sort_key a.written.node) × AllKeyed more

pub keys_after : (added : List Added) → AllKeyed added → (o : Ordered) (xs : List (Argument Nowhere)) → sort_keys (drop o.from xs) ≡ o.keys → o.end ≡ o.from + length o.keys → o.from ≤ length xs
    → sort_keys (drop o.from (all_elements o added xs)) ≡ (all_noted o added).keys
keys_after [] keyed o xs are end few = are
keys_after (a ∷ more) keyed o xs are end few =
    let p = point_in o a.key in
    let e = a.written.node in
    let it : Argument Nowhere = plain e in
    let m = place_of p o.keys in
    let next = put_one o p a.key a.written in
    let ys = insert xs (number_at o p) it in
    let within : m ≤ length o.keys = place_inside p o.keys (inside (is_some o.first) a.key o.keys) in
    let left : drop o.from ys ≡ insert (drop o.from xs) m it = left_with xs it o.from m (number_at o p) (number_is o p end) few in
    let as_many : length (sort_keys (drop o.from xs)) ≡ length o.keys = ap length are in
    let keys : sort_keys (drop o.from ys) ≡ put_key p a.key o.keys =
    ap sort_keys left ∙ keys_inserted (drop o.from xs) m e (omega (arith, within, as_many)) ∙ ap₂ (λ ks k. insert ks m k) are (sym keyed.0) ∙ sym (put_is p a.key o.keys) in
    let longer : length (put_key p a.key o.keys) ≡ length o.keys + 1 = ap length (put_is p a.key o.keys) ∙ length-insert o.keys m a.key within in
    let still = no_shorter xs (number_at o p) it in
    keys_after more keyed.1 next ys keys (omega (arith, end, longer)) (omega (arith, few, still))

pub texts_keyed : (names : List (List ℕ)) → All IsUtf8 names → AllKeyed (map added_text names)
texts_keyed [] utf8 = tt
texts_keyed (name ∷ names) utf8 = (sym (ap text_key (literal_value name (All-head IsUtf8 name names utf8))), texts_keyed names (All-tail IsUtf8 name names utf8))

-- ---- without places

key_erased : (e : Expression Span) → sort_key (erase_expression e) ≡ sort_key e
key_erased (identifier s x) = refl
key_erased (string s q x) = refl
key_erased _ = refl

pub keys_erased : (xs : List (Argument Span)) → sort_keys (map erase_argument xs) ≡ sort_keys xs
keys_erased [] = refl
keys_erased (plain e ∷ xs) = ap₂ (λ k ks. k ∷ ks) (key_erased e) (keys_erased xs)
keys_erased (named s x e ∷ xs) = refl
keys_erased (pair s x e ∷ xs) = refl
