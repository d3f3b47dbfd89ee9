-- The place of a new element in a list: it is inside, and keeps the order.
use Rattle.std.proofs.Common.{◌≡◌, ◌≢◌, ℕ, zero, suc, ◌+◌, ◌≤◌, true, false, List, [], ◌∷◌, length, refl, sym, ap, ◌∙◌, subst, arith}
use Rattle.std.specs.Prelude.{Bool, All, cond, ◌&&◌, count_by, insert, nat_lt, if◌then◌else◌}
use Rattle.std.specs.Cmp.Lexicographic.{slice_cmp}
use Rattle.std.specs.Ordering.{is_lt, nat_cmp, ordering_reverse}
use Rattle.std.specs.declared.cmp.Ordering.{Ordering}
use Rattle.std.specs.declared.cmp.Ordering.TheVariants.{Less, Equal, Greater}
use Rattle.std.proofs.lemmas.Bool.{and_from, and_parts}
use Rattle.std.proofs.lemmas.Cmp.{nat_list_cmp_total}
use Rattle.std.proofs.lemmas.List.Elements.{All-head, All-tail}
use Rattle.std.proofs.lemmas.List.Sums.{count_by-le-length, sum_by-cons}
use Rattle.std.proofs.lemmas.Map.Text.{is_eq-slice_cmp}
use Rattle.std.proofs.lemmas.Slice.Eq.{bytes_eq-Decides}
use Rattle.meson_steps.specs.declared.order.InsertionPoint.TheVariants as point
use Rattle.meson_steps.specs.declared.order.SortKey.{SortKey}
use Rattle.meson_steps.specs.declared.order.SortKey.TheVariants as key
use Rattle.meson_steps.specs.Order.{IsInside, KeepsOrder, NeedsOrder, ascend, bytes_less, insertion_point, is_alike, is_less, is_order, may_be_ordered, point_after, put_key}

-- ---- inside

after_inside : (front_free : Bool) (n many : ℕ) → n ≤ many → IsInside (point_after front_free n) many
after_inside true zero many within = tt
after_inside false zero many within = tt
after_inside front_free (suc n) many within = omega (arith, within)

pub point_inside : (front_free : Bool) (new : SortKey) (keys : List SortKey) → IsInside (insertion_point front_free new keys) (length keys)
point_inside front_free new keys = go (may_be_ordered new && is_order new keys)
  where
    n : ℕ
    n = count_by (λ k. is_less k new) keys

    go : (b : Bool) → IsInside (if b then point_after front_free n else point.End) (length keys)
    go true = after_inside front_free n (length keys) (count_by-le-length (λ k. is_less k new) keys)
    go false = tt

after_front : (front_free : Bool) (n : ℕ) → point_after front_free n ≡ point.Front → front_free ≡ true
after_front true n is = refl
after_front false zero is = absurd (let no : ⊥ = cc in no)
after_front false (suc n) is = absurd (let no : ⊥ = cc in no)

pub front_is_there : (front_free : Bool) (new : SortKey) (keys : List SortKey) → insertion_point front_free new keys ≡ point.Front → front_free ≡ true
front_is_there front_free new keys is = go (may_be_ordered new && is_order new keys) is
  where
    n : ℕ
    n = count_by (λ k. is_less k new) keys

    go : (b : Bool) → (if b then point_after front_free n else point.End) ≡ point.Front → front_free ≡ true
    go true h = after_front front_free n h
    go false h = absurd (let no : ⊥ = cc in no)

pub needs_order : NeedsOrder
needs_order front_free new keys other = go (may_be_ordered new) refl (is_order new keys) refl other
  where
    n : ℕ
    n = count_by (λ k. is_less k new) keys

    go : (a : Bool) → may_be_ordered new ≡ a → (b : Bool) → is_order new keys ≡ b → (if a && b then point_after front_free n else point.End) ≢ point.End
        → (is_order new keys ≡ true) × (may_be_ordered new ≡ true)
    go true may true in_order h = (in_order, may)
    go true may false in_order h = absurd (h refl)
    go false may b in_order h = absurd (h refl)

-- ---- of two alike one is less

same_bytes : (x y : List ℕ) → slice_cmp nat_cmp x y ≡ Equal → x ≡ y
same_bytes x y is = grind (arith, is_eq-slice_cmp x y, bytes_eq-Decides x y)

bytes_other : (x y : List ℕ) (o : Ordering) → slice_cmp nat_cmp x y ≡ o → is_lt o ≡ false → x ≢ y → bytes_less y x ≡ true
bytes_other x y Less is not_less other = absurd (let no : ⊥ = cc in no)
bytes_other x y Equal is not_less other = absurd (other (same_bytes x y is))
bytes_other x y Greater is not_less other = ap is_lt (nat_list_cmp_total.antisymm y x ∙ ap (λ o. ordering_reverse o) is)

other_less : (k new : SortKey) → is_alike new k ≡ true → is_less k new ≡ false → k ≢ new → is_less new k ≡ true
other_less (key.Text x) (key.Text y) alike not_less other = bytes_other x y (slice_cmp nat_cmp x y) refl not_less (λ same. other (ap key.Text same))
other_less (key.Name x) (key.Name y) alike not_less other = bytes_other x y (slice_cmp nat_cmp x y) refl not_less (λ same. other (ap key.Name same))
other_less (key.Text x) (key.Name y) alike not_less other = absurd (let no : ⊥ = cc in no)
other_less (key.Text x) key.Other alike not_less other = absurd (let no : ⊥ = cc in no)
other_less (key.Name x) (key.Text y) alike not_less other = absurd (let no : ⊥ = cc in no)
other_less (key.Name x) key.Other alike not_less other = absurd (let no : ⊥ = cc in no)
other_less key.Other (key.Text y) alike not_less other = absurd (let no : ⊥ = cc in no)
other_less key.Other (key.Name y) alike not_less other = absurd (let no : ⊥ = cc in no)
other_less key.Other key.Other alike not_less other = absurd (let no : ⊥ = cc in no)

is_lt_only : (o : Ordering) → is_lt o ≡ true → o ≡ Less
is_lt_only Less h = refl
is_lt_only Equal h = absurd (let no : ⊥ = cc in no)
is_lt_only Greater h = absurd (let no : ⊥ = cc in no)

bytes_trans : (x y z : List ℕ) → bytes_less x y ≡ true → bytes_less y z ≡ true → bytes_less x z ≡ true
bytes_trans x y z one two = ap is_lt (nat_list_cmp_total.trans x y z (is_lt_only (slice_cmp nat_cmp x y) one) (is_lt_only (slice_cmp nat_cmp y z) two))

less_on : (a b d : SortKey) → is_less a b ≡ true → is_less b d ≡ true → is_less a d ≡ true
less_on (key.Text x) (key.Text y) (key.Text z) one two = bytes_trans x y z one two
less_on (key.Name x) (key.Name y) (key.Name z) one two = bytes_trans x y z one two
less_on _ _ _ one two = absurd (let no : ⊥ = cc in no)

alike_on : (new a b : SortKey) → is_alike new a ≡ true → is_less a b ≡ true → is_alike new b ≡ true
alike_on (key.Text w) (key.Text x) (key.Text y) alike less = refl
alike_on (key.Name w) (key.Name x) (key.Name y) alike less = refl
alike_on _ _ _ alike less = absurd (let no : ⊥ = cc in no)

-- ---- among keys that ascend

abbrev weight : Bool → ℕ
weight b = cond b 1 0

module _ (new : SortKey) where
  abbrev many : List SortKey → ℕ
  many keys = count_by (λ k. is_less k new) keys

  counted : (k : SortKey) (more : List SortKey) → many (k ∷ more) ≡ weight (is_less k new) + many more
  counted k more = sum_by-cons (λ l. cond (is_less l new) 1 0) k more

  not_later : (k l : SortKey) → is_less k l ≡ true → is_less k new ≡ false → is_less l new ≡ false
  not_later k l less not_less = go (is_less l new) refl
    where
      go : (b : Bool) → is_less l new ≡ b → is_less l new ≡ false
      go true h = let no : true ≡ false = sym (less_on k l new less h) ∙ not_less in absurd (let none : ⊥ = cc in none)
      go false h = h

  none_less : (k : SortKey) (keys : List SortKey) → ascend (k ∷ keys) ≡ true → is_less k new ≡ false → many (k ∷ keys) ≡ 0
  none_less k [] up not_less =
      let split : many (k ∷ []) ≡ weight (is_less k new) + many [] = counted k [] in
      let nothing : many [] ≡ 0 = refl in
      let here : weight (is_less k new) ≡ 0 = ap weight not_less in
      omega (arith, split, nothing, here)
  none_less k (l ∷ more) up not_less =
      let both = and_parts (is_less k l) (ascend (l ∷ more)) up in
      let rest = none_less l more both.1 (not_later k l both.0 not_less) in
      let split : many (k ∷ l ∷ more) ≡ weight (is_less k new) + many (l ∷ more) = counted k (l ∷ more) in
      let here : weight (is_less k new) ≡ 0 = ap weight not_less in
      omega (arith, split, here, rest)

  above : (k : SortKey) (more : List SortKey) (m : ℕ) → is_less k new ≡ true → ascend (k ∷ more) ≡ true → ascend (insert more m new) ≡ true → ascend (k ∷ insert more m new) ≡ true
  above k [] zero less up rest = and_from (is_less k new) true less refl
  above k [] (suc m) less up rest = and_from (is_less k new) true less refl
  above k (l ∷ later) zero less up rest = and_from (is_less k new) (ascend (new ∷ l ∷ later)) less rest
  above k (l ∷ later) (suc m) less up rest = and_from (is_less k l) (ascend (l ∷ insert later m new)) (and_parts (is_less k l) (ascend (l ∷ later)) up).0 rest

  step : (k : SortKey) (more : List SortKey) → is_alike new k ≡ true → ascend (k ∷ more) ≡ true → All (λ l. l ≢ new) (k ∷ more) → (is_less k new ≡ true → ascend (insert more (many more) new) ≡ true)
      → ascend (insert (k ∷ more) (many (k ∷ more)) new) ≡ true
  step k more alike up others rest = go (is_less k new) refl
    where
      go : (b : Bool) → is_less k new ≡ b → ascend (insert (k ∷ more) (many (k ∷ more)) new) ≡ true
      go false h =
          subst (λ n. ascend (insert (k ∷ more) n new) ≡ true) (sym (none_less k more up h))
          (and_from (is_less new k) (ascend (k ∷ more)) (other_less k new alike h (All-head (λ l. l ≢ new) k more others)) up)
      go true h =
          let split : many (k ∷ more) ≡ weight (is_less k new) + many more = counted k more in
          let here : weight (is_less k new) ≡ 1 = ap weight h in
          let count : many (k ∷ more) ≡ suc (many more) = omega (arith, split, here) in
          subst (λ n. ascend (insert (k ∷ more) n new) ≡ true) (sym count) (above k more (many more) h up (rest h))

  in_place : (k : SortKey) (more : List SortKey) → is_alike new k ≡ true → ascend (k ∷ more) ≡ true → All (λ l. l ≢ new) (k ∷ more) → ascend (insert (k ∷ more) (many (k ∷ more)) new) ≡ true
  in_place k [] alike up others = step k [] alike up others (λ h. refl)
  in_place k (l ∷ more) alike up others =
      let both = and_parts (is_less k l) (ascend (l ∷ more)) up in
      step k (l ∷ more) alike up others (λ h. in_place l more (alike_on new k l alike both.0) both.1 (All-tail (λ j. j ≢ new) k (l ∷ more) others))

pub keeps_order : KeepsOrder
keeps_order front_free new [] in_order others other = absurd (let no : ⊥ = cc in no)
keeps_order front_free new (k ∷ more) in_order others other = go (may_be_ordered new && is_order new (k ∷ more)) other
  where
    keys : List SortKey
    keys = k ∷ more

    n : ℕ
    n = count_by (λ l. is_less l new) (k ∷ more)

    up : ascend (insert (k ∷ more) n new) ≡ true
    up =
        let long = and_parts (nat_lt 3 (length (k ∷ more))) (is_alike new k && ascend (k ∷ more)) in_order in
        let both = and_parts (is_alike new k) (ascend (k ∷ more)) long.1 in
        in_place new k more both.0 both.1 others

    there : (ff : Bool) (m : ℕ) → ascend (insert (k ∷ more) m new) ≡ true → point_after ff m ≢ point.End → ascend (put_key (point_after ff m) new (k ∷ more)) ≡ true
    there true zero h p = h
    there false zero h p = absurd (p refl)
    there ff (suc m) h p = h

    go : (b : Bool) → (if b then point_after front_free n else point.End) ≢ point.End → ascend (put_key (if b then point_after front_free n else point.End) new (k ∷ more)) ≡ true
    go true p = there front_free n up p
    go false p = absurd (p refl)
