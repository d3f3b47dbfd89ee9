-- Values that are put in their places: the elements stay in their order, and a list that is in order for the values stays so.
use Rattle.std.proofs.Common.{◌≡◌, ◌≢◌, ℕ, zero, suc, ◌+◌, ◌≤◌, true, false, List, [], ◌∷◌, ◌++◌, get_or, length, map, Some, refl, sym, ap, ap₂, ◌∙◌, subst, arith}
use Rattle.std.specs.Prelude.{Bool, All, ◌&&◌, count_by, insert, nat_lt, if◌then◌else◌, is_some}
use Rattle.std.specs.List.{AllPairs, list_all}
use Rattle.std.proofs.lemmas.Bool.{and_from, and_parts, lt-ltb, ltb-true}
use Rattle.std.proofs.lemmas.List.Edits.{length-insert}
use Rattle.std.proofs.lemmas.List.Elements.{All-cons, All-head, All-tail}
use Rattle.meson_lex.specs.declared.kinds.Span.{Span}
use Rattle.meson_lex.proofs.Written.{literal_value}
use Rattle.meson_syntax.specs.Tree.{Argument, plain, named, pair, Expression, identifier, string, Nowhere, erase_argument, erase_expression}
use Rattle.meson_steps.specs.declared.given.Given.{Given}
use Rattle.meson_steps.specs.declared.given.Given.TheVariants as given
use Rattle.meson_steps.specs.declared.order.InsertionPoint.{InsertionPoint}
use Rattle.meson_steps.specs.declared.order.InsertionPoint.TheVariants as point
use Rattle.meson_steps.specs.declared.order.SortKey.{SortKey}
use Rattle.meson_steps.specs.declared.order.SortKey.TheVariants as key
use Rattle.meson_steps.specs.Code.{IsExpression}
use Rattle.meson_steps.specs.GivenWords.{MayBeGiven}
use Rattle.meson_steps.specs.Identifiers.{is_identifier}
use Rattle.meson_steps.specs.Order.{IsInside, ascend, insertion_point, is_alike, is_less, is_order, may_be_ordered, point_after, put_key}
use Rattle.meson_steps.specs.OrderedLists.{Added, Ordered, all_elements, comes_first, number_at, point_in, put_one, sort_key, sort_keys, text_key}
use Rattle.meson_steps.proofs.Identifiers.{identifier_true}
use Rattle.meson_steps.proofs.KeyedWritten.{word_return}
use Rattle.meson_steps.proofs.Points.{keeps_order, point_inside}
use Rattle.meson_places.specs.Equality.{is_old}
use Rattle.meson_places.specs.Several.{AllMayBeGiven}
use Rattle.meson_places.specs.SortedAdditions.{fresh_added, given_key}
use Rattle.meson_places.specs.SortedEffects.{AreAmong, IsInOrderFor}
use Rattle.meson_places.specs.Values.{given_node, written_given}
use Rattle.meson_places.proofs.LoneValues.{identifier_written}
use Rattle.meson_places.proofs.OneMeaning.{one_node}

-- ---- all elements are there

pub among_all : (o : Ordered) (new : List Added) (xs : List (Argument Nowhere)) → AreAmong xs (map (λ a. a.written.node) new) (all_elements o new xs)
among_all o [] xs = refl
among_all o (a ∷ more) xs =
    let p = point_in o a.key in
    (number_at o p, among_all (put_one o p a.key a.written) more (insert xs (number_at o p) (plain a.written.node)))

-- ---- the keys of elements

erased_key : (e : Expression Span) → sort_key (erase_expression e) ≡ sort_key e
erased_key (identifier s x) = refl
erased_key (string s q x) = refl
erased_key _ = refl

pub erased_keys : (xs : List (Argument Span)) → sort_keys (map erase_argument xs) ≡ sort_keys xs
erased_keys [] = refl
erased_keys (plain e ∷ xs) = ap₂ (λ k ks. k ∷ ks) (erased_key e) (erased_keys xs)
erased_keys (named s x e ∷ xs) = refl
erased_keys (pair s k v ∷ xs) = refl

inserted_key : (xs : List (Argument Nowhere)) (m : ℕ) (e : Expression Nowhere) → m ≤ length (sort_keys xs) → sort_keys (insert xs m (plain e)) ≡ insert (sort_keys xs) m (sort_key e)
inserted_key xs zero e within = refl
inserted_key [] (suc m) e within = absurd (omega (arith, within))
inserted_key (plain x ∷ xs) (suc m) e within = ap (λ l. sort_key x ∷ l) (inserted_key xs m e (omega (arith, within)))
inserted_key (named s x v ∷ xs) (suc m) e within = absurd (omega (arith, within))
inserted_key (pair s k v ∷ xs) (suc m) e within = absurd (omega (arith, within))

-- what is written for a value has the key of the value, if it may be ordered
named_by : (code : List ℕ) (is : IsExpression code) → is_identifier code ≡ true → sort_key is.node ≡ key.Name code
named_by code is passes =
    let i = identifier_true code passes in
    let own : IsExpression code = record {
      node = identifier tt code;
      writes = identifier_written (record { from = 0; to = 0 }) code i (word_return code i.0);
      level = tt;
      shallow = omega arith;
    } in
    ap sort_key (one_node code is own)

given_sorts : (g : Given) (may : MayBeGiven g) → may_be_ordered (given_key g) ≡ true → sort_key (given_node g may) ≡ given_key g
given_sorts (given.Text text) may ordered = ap text_key (literal_value text may)
given_sorts (given.Switch b) may ordered = absurd (let no : ⊥ = cc in no)
given_sorts (given.Code code) may ordered = go (is_identifier code) refl ordered
  where
    go : (b : Bool) → is_identifier code ≡ b → may_be_ordered (if b then key.Name code else key.Other) ≡ true → sort_key may.node ≡ (if b then key.Name code else key.Other)
    go true is h = named_by code may is
    go false is h = absurd (let no : ⊥ = cc in no)

abbrev pub AllSort : List Added → Type 0
AllSort [] = Unit {0}
AllSort (a ∷ more) = (may_be_ordered a.key ≡ true → sort_key a.written.node ≡ a.key) × AllSort more

pub fresh_sort : (known : Given → Bool) (before gs : List Given) (mays : AllMayBeGiven gs) → AllSort (fresh_added known before gs mays)
fresh_sort known before [] mays = tt
fresh_sort known before (g ∷ gs) mays = go (is_old known before g) (fresh_sort known (before ++ g ∷ []) gs mays.1)
  where
    rest : List Added
    rest = fresh_added known (before ++ g ∷ []) gs mays.1

    go : (b : Bool) → AllSort rest → AllSort (if b then rest else record { key = given_key g; written = written_given g mays.0 } ∷ rest)
    go true sorts = sorts
    go false sorts = (given_sorts g mays.0, sorts)

-- ---- one more key

abbrev Fits : SortKey → List SortKey → Type 0
Fits k keys = (may_be_ordered k && is_order k keys) ≡ true

-- it comes to a place where the list is in order with it
record IsPut (k : SortKey) (keys : List SortKey) (p : InsertionPoint) : Type 0 where
  inner : p ≢ point.End
  inside : IsInside p (length keys)
  up : ascend (put_key p k keys) ≡ true

after_inner : (n : ℕ) → point_after true n ≢ point.End
after_inner zero is = let no : ⊥ = cc in no
after_inner (suc n) is = let no : ⊥ = cc in no

is_put : (k : SortKey) (keys : List SortKey) → Fits k keys → All (λ l. l ≢ k) keys → IsPut k keys (insertion_point true k keys)
is_put k keys fits others =
    let n = count_by (λ l. is_less l k) keys in
    let is : insertion_point true k keys ≡ point_after true n = ap (λ b. if b then point_after true n else point.End) fits in
    let inner : insertion_point true k keys ≢ point.End = λ at_end. after_inner n (sym is ∙ at_end) in
    record {
      inner = inner;
      inside = point_inside true k keys;
      up = keeps_order true k keys (and_parts (may_be_ordered k) (is_order k keys) fits).1 others inner;
    }

alike_with : (l j k : SortKey) → is_alike j l ≡ true → is_alike k l ≡ true → is_alike k j ≡ true
alike_with (key.Text z) (key.Text x) (key.Text y) one two = refl
alike_with (key.Text z) (key.Text x) (key.Name y) one two = absurd (let no : ⊥ = cc in no)
alike_with (key.Text z) (key.Text x) key.Other one two = absurd (let no : ⊥ = cc in no)
alike_with (key.Text z) (key.Name x) k one two = absurd (let no : ⊥ = cc in no)
alike_with (key.Text z) key.Other k one two = absurd (let no : ⊥ = cc in no)
alike_with (key.Name z) (key.Name x) (key.Name y) one two = refl
alike_with (key.Name z) (key.Name x) (key.Text y) one two = absurd (let no : ⊥ = cc in no)
alike_with (key.Name z) (key.Name x) key.Other one two = absurd (let no : ⊥ = cc in no)
alike_with (key.Name z) (key.Text x) k one two = absurd (let no : ⊥ = cc in no)
alike_with (key.Name z) key.Other k one two = absurd (let no : ⊥ = cc in no)
alike_with key.Other (key.Text x) k one two = absurd (let no : ⊥ = cc in no)
alike_with key.Other (key.Name x) k one two = absurd (let no : ⊥ = cc in no)
alike_with key.Other key.Other k one two = absurd (let no : ⊥ = cc in no)

longer : (n m : ℕ) → n ≤ m → nat_lt 3 n ≡ true → nat_lt 3 m ≡ true
longer n m more is = lt-ltb 3 m (omega (arith, ltb-true 3 n is, more))

-- another one still fits
still_fits : (j k : SortKey) (keys : List SortKey) (p : InsertionPoint) → IsPut j keys p → Fits j keys → Fits k keys → Fits k (put_key p j keys)
still_fits j k [] p is one fits = let both = and_parts (may_be_ordered k) false fits in absurd (let no : ⊥ = cc in no)
still_fits j k (l ∷ more) p is one fits = go p is
  where
    of_j : is_order j (l ∷ more) ≡ true
    of_j = (and_parts (may_be_ordered j) (is_order j (l ∷ more)) one).1

    of_k : (may_be_ordered k ≡ true) × (is_order k (l ∷ more) ≡ true)
    of_k = and_parts (may_be_ordered k) (is_order k (l ∷ more)) fits

    long : (nat_lt 3 (length (l ∷ more)) ≡ true) × ((is_alike k l && ascend (l ∷ more)) ≡ true)
    long = and_parts (nat_lt 3 (length (l ∷ more))) (is_alike k l && ascend (l ∷ more)) of_k.1

    alike : is_alike k l ≡ true
    alike = (and_parts (is_alike k l) (ascend (l ∷ more)) long.1).0

    alike_j : is_alike j l ≡ true
    alike_j = (and_parts (is_alike j l) (ascend (l ∷ more)) (and_parts (nat_lt 3 (length (l ∷ more))) (is_alike j l && ascend (l ∷ more)) of_j).1).0

    in_order : (h : SortKey) (tail : List SortKey) → length (l ∷ more) ≤ length (h ∷ tail) → is_alike k h ≡ true → ascend (h ∷ tail) ≡ true → Fits k (h ∷ tail)
    in_order h tail more_there same up =
        and_from (may_be_ordered k) (is_order k (h ∷ tail)) of_k.0
        (and_from (nat_lt 3 (length (h ∷ tail))) (is_alike k h && ascend (h ∷ tail)) (longer (length (l ∷ more)) (length (h ∷ tail)) more_there long.0)
        (and_from (is_alike k h) (ascend (h ∷ tail)) same up))

    go : (q : InsertionPoint) → IsPut j (l ∷ more) q → Fits k (put_key q j (l ∷ more))
    go point.End put = absurd (put.inner refl)
    go (point.After n) put =
        let count = length-insert more n j (omega (arith, put.inside)) in
        in_order l (insert more n j) (omega (arith, count)) alike put.up
    go point.Front put = in_order j (l ∷ more) (omega arith) (alike_with l j k alike_j alike) put.up

all_inserted : {X : Type 0} (P : X → Type 0) (xs : List X) (n : ℕ) (y : X) → P y → All P xs → All P (insert xs n y)
all_inserted P xs zero y one all = All-cons P y xs one all
all_inserted P [] (suc n) y one all = All-cons P y [] one all
all_inserted P (x ∷ xs) (suc n) y one all = All-cons P x (insert xs n y) (All-head P x xs all) (all_inserted P xs n y one (All-tail P x xs all))

all_put : (P : SortKey → Type 0) (p : InsertionPoint) (j : SortKey) (keys : List SortKey) → p ≢ point.End → P j → All P keys → All P (put_key p j keys)
all_put P point.End j keys inner one all = absurd (inner refl)
all_put P (point.After n) j keys inner one all = all_inserted P keys (suc n) j one all
all_put P point.Front j keys inner one all = All-cons P j keys one all

-- ---- all of them

fit_each : (k : SortKey) (ks keys keys2 : List SortKey) → ((l : SortKey) → Fits l keys → Fits l keys2) → list_all (λ l. may_be_ordered l && is_order l keys) ks ≡ true → list_all (λ l. may_be_ordered l && is_order l keys2) ks ≡ true
fit_each k [] keys keys2 fits all = refl
fit_each k (l ∷ ks) keys keys2 fits all =
    let both = and_parts (may_be_ordered l && is_order l keys) (list_all (λ m. may_be_ordered m && is_order m keys) ks) all in
    and_from (may_be_ordered l && is_order l keys2) (list_all (λ m. may_be_ordered m && is_order m keys2) ks) (fits l both.0) (fit_each k ks keys keys2 fits both.1)

module _ (o : Ordered) (a : Added) (ks : List SortKey) (i : IsInOrderFor o (a.key ∷ ks)) where
  abbrev fits_all : (Fits a.key o.keys) × (list_all (λ l. may_be_ordered l && is_order l o.keys) ks ≡ true)
  fits_all = and_parts (may_be_ordered a.key && is_order a.key o.keys) (list_all (λ l. may_be_ordered l && is_order l o.keys) ks) i.each

  first_others : All (λ l. l ≢ a.key) o.keys
  first_others = All-head (λ k. All (λ l. l ≢ k) o.keys) a.key ks i.others

  put_here : IsPut a.key o.keys (point_in o a.key)
  put_here = subst (λ b. IsPut a.key o.keys (insertion_point b a.key o.keys)) (sym i.front) (is_put a.key o.keys fits_all.0 first_others)

  front_then : (p : InsertionPoint) → is_some (put_one o p a.key a.written).first ≡ true
  front_then p = go (comes_first o.from o.end p)
    where
      go : (b : Bool) → is_some (if b then Some a.written else o.first) ≡ true
      go true = refl
      go false = i.front

  in_order_then : IsInOrderFor (put_one o (point_in o a.key) a.key a.written) ks
  in_order_then =
      let p = point_in o a.key in
      let now = put_key p a.key o.keys in
      let rest = All-tail (λ k. All (λ l. l ≢ k) o.keys) a.key ks i.others in
      record {
        each = fit_each a.key ks o.keys now (λ l fits. still_fits a.key l o.keys p put_here fits_all.0 fits) fits_all.1;
        front = front_then p;
        others = λ n d within. all_put (λ l. l ≢ get_or ks n d) p a.key o.keys put_here.inner (i.distinct 0 (suc n) d (omega arith) (omega (arith, within))) (rest n d within);
        distinct = λ m n d before within. i.distinct (suc m) (suc n) d (omega (arith, before)) (omega (arith, within));
      }

  keys_then : (ys : List (Argument Nowhere)) → o.from ≡ 0 → sort_keys ys ≡ o.keys → (may_be_ordered a.key ≡ true → sort_key a.written.node ≡ a.key)
      → sort_keys (insert ys (number_at o (point_in o a.key)) (plain a.written.node)) ≡ put_key (point_in o a.key) a.key o.keys
  keys_then ys from are sorts = go (point_in o a.key) put_here
    where
      own : sort_key a.written.node ≡ a.key
      own = sorts (and_parts (may_be_ordered a.key) (is_order a.key o.keys) fits_all.0).0

      go : (p : InsertionPoint) → IsPut a.key o.keys p → sort_keys (insert ys (number_at o p) (plain a.written.node)) ≡ put_key p a.key o.keys
      go point.End put = absurd (put.inner refl)
      go (point.After n) put =
          let number : o.from + n ≡ n = omega (arith, from) in
          let within : suc n ≤ length (sort_keys ys) = omega (arith, put.inside, ap length are) in
          ap (λ m. sort_keys (insert ys (suc m) (plain a.written.node))) number ∙ inserted_key ys (suc n) a.written.node within
          ∙ ap₂ (λ ks2 k. insert ks2 (suc n) k) are own
      go point.Front put = ap (λ m. sort_keys (insert ys m (plain a.written.node))) from ∙ ap₂ (λ k ks2. k ∷ ks2) own are

pub stays_in_order : (o : Ordered) (new : List Added) (ys : List (Argument Nowhere)) → o.from ≡ 0 → sort_keys ys ≡ o.keys → AllSort new → ascend o.keys ≡ true → IsInOrderFor o (map (λ a. a.key) new)
    → ascend (sort_keys (all_elements o new ys)) ≡ true
stays_in_order o [] ys from are sorts up i = ap ascend are ∙ up
stays_in_order o (a ∷ more) ys from are sorts up i =
    let p = point_in o a.key in
    let ks = map (λ b. b.key) more in
    stays_in_order (put_one o p a.key a.written) more (insert ys (number_at o p) (plain a.written.node)) from (keys_then o a ks i ys from are sorts.0) sorts.1
    (put_here o a ks i).up (in_order_then o a ks i)

-- a list that is in order for a value ascends
pub fits_ascend : (o : Ordered) (k : SortKey) (ks : List SortKey) → IsInOrderFor o (k ∷ ks) → ascend o.keys ≡ true
fits_ascend o k ks i = go o.keys (and_parts (may_be_ordered k) (is_order k o.keys) (and_parts (may_be_ordered k && is_order k o.keys) (list_all (λ l. may_be_ordered l && is_order l o.keys) ks) i.each).0).1
  where
    go : (keys : List SortKey) → is_order k keys ≡ true → ascend keys ≡ true
    go [] h = refl
    go (l ∷ more) h =
        let long = and_parts (nat_lt 3 (length (l ∷ more))) (is_alike k l && ascend (l ∷ more)) h in
        (and_parts (is_alike k l) (ascend (l ∷ more)) long.1).1
