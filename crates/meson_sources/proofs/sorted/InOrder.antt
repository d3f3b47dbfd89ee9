-- A list in order that gets texts, each of which has a place in it, is in order with them.
use Rattle.std.specs.Prelude.{count_by, insert, is_some, nat_lt, ◌&&◌, ◌||◌, if◌then◌else◌}
use Rattle.std.specs.List.{AllByRecursion}
use Rattle.std.proofs.lemmas.Bool.{and_from, and_parts}
use Rattle.std.proofs.lemmas.Bool.Decides.{nat_tests}
use Rattle.std.proofs.lemmas.List.Edits.{length-insert}
use Rattle.std.proofs.lemmas.List.Sums.{sum_by-cons, sum_by-insert}
use Rattle.meson_edit.specs.Edits.{Written}
use Rattle.meson_calls.specs.Roles.{one_of}
use Rattle.meson_steps.proofs.Points.{keeps_order}
use Rattle.meson_steps.specs.declared.order.InsertionPoint.{InsertionPoint}
use Rattle.meson_steps.specs.declared.order.InsertionPoint.TheVariants as point
use Rattle.meson_steps.specs.declared.order.SortKey.{SortKey}
use Rattle.meson_steps.specs.declared.order.SortKey.TheVariants as key
use Rattle.meson_steps.specs.Order.{IsInside, ascend, is_alike, is_less, is_order, may_be_ordered, point_after, put_key}
use Rattle.meson_steps.specs.OrderedLists.{Added, Ordered, comes_first, point_in, put_one}
use Rattle.meson_sources.specs.InOrder.{HasPlace, are_in_order}
use Rattle.meson_sources.specs.Sorting.{added_text}
use Rattle.meson_sources.proofs.Words.{All, All-cons, All-head, All-tail, bytes_eq, bytes_eq-Decides, cond, not, filter, [], ap, ap₂, arith, Bool, false, length, List, map, Mark, new_names, is_known, distinct, distinct_by}
use Rattle.meson_sources.proofs.Words.{Expression, Nowhere, refl, Some, Span, suc, sym, true, zero, ℕ, ◌+◌, ◌∙◌, ◌∷◌, ◌≡◌, ◌≢◌, ◌≤◌}
use Rattle.meson_sources.proofs.sorted.Puts.{inside}

-- ==== One text.

-- of texts the order is the same, whichever is new
same_order : (x : List ℕ) (keys : List SortKey) → is_order (key.Text x) keys ≡ are_in_order keys
same_order x [] = refl
same_order x (key.Text y ∷ more) = refl
same_order x (key.Name y ∷ more) = refl
same_order x (key.Other ∷ more) = refl

more_than_three : (m n : ℕ) → nat_lt 3 m ≡ true → m ≤ n → nat_lt 3 n ≡ true
more_than_three m n is few = grind (arith, nat_tests)

still_in_order : (name : List ℕ) (keys : List SortKey) (p : InsertionPoint) → p ≢ point.End → IsInside p (length keys) → are_in_order keys ≡ true → ascend (put_key p (key.Text name) keys) ≡ true
    → are_in_order (put_key p (key.Text name) keys) ≡ true
still_in_order name [] p other within is up = absurd (let no : ⊥ = cc in no)
still_in_order name (k ∷ more) point.End other within is up = absurd (other refl)
still_in_order name (k ∷ more) (point.After n) other within is up =
    let long = and_parts (nat_lt 3 (length (k ∷ more))) (is_alike (key.Text []) k && ascend (k ∷ more)) is in
    let alike = and_parts (is_alike (key.Text []) k) (ascend (k ∷ more)) long.1 in
    let after = k ∷ insert more n (key.Text name) in
    let count : length (insert more n (key.Text name)) ≡ length more + 1 = length-insert more n (key.Text name) (omega (arith, within)) in
    and_from (nat_lt 3 (length after)) (is_alike (key.Text []) k && ascend after) (more_than_three (length (k ∷ more)) (length after) long.0 (omega (arith, count)))
    (and_from (is_alike (key.Text []) k) (ascend after) alike.0 up)
still_in_order name (k ∷ more) point.Front other within is up =
    let long = and_parts (nat_lt 3 (length (k ∷ more))) (is_alike (key.Text []) k && ascend (k ∷ more)) is in
    let after = key.Text name ∷ k ∷ more in
    and_from (nat_lt 3 (length after)) (is_alike (key.Text []) (key.Text name) && ascend after) (more_than_three (length (k ∷ more)) (length after) long.0 (omega arith)) up

not_end : (free : Bool) (n : ℕ) → (n ≡ 0 → free ≡ true) → point_after free n ≢ point.End
not_end true zero free_front is = absurd (let no : ⊥ = cc in no)
not_end false zero free_front is = let both : false ≡ true = free_front refl in absurd (let no : ⊥ = cc in no)
not_end free (suc n) free_front is = absurd (let no : ⊥ = cc in no)

-- what holds of all keys and of the new one holds of all with it
all_inserted : (P : SortKey → Type 0) (new : SortKey) → P new → (keys : List SortKey) (n : ℕ) → All P keys → All P (insert keys n new)
all_inserted P new here [] zero all = All-cons P new [] here all
all_inserted P new here [] (suc n) all = All-cons P new [] here all
all_inserted P new here (k ∷ more) zero all = All-cons P new (k ∷ more) here all
all_inserted P new here (k ∷ more) (suc n) all = All-cons P k (insert more n new) (All-head P k more all) (all_inserted P new here more n (All-tail P k more all))

all_put : (P : SortKey → Type 0) (new : SortKey) → P new → (p : InsertionPoint) → p ≢ point.End → (keys : List SortKey) → All P keys → All P (put_key p new keys)
all_put P new here point.End other keys all = absurd (other refl)
all_put P new here (point.After n) other keys all = all_inserted P new here keys (suc n) all
all_put P new here point.Front other keys all = All-cons P new keys here all

-- where none of them passes with the new one, none did
none_passed : (f : SortKey → Bool) (new : SortKey) (p : InsertionPoint) → p ≢ point.End → (keys : List SortKey) → count_by f (put_key p new keys) ≡ 0 → count_by f keys ≡ 0
none_passed f new point.End other keys none = absurd (other refl)
none_passed f new (point.After n) other keys none =
    let split : count_by f (insert keys (suc n) new) ≡ count_by f keys + cond (f new) 1 0 = sum_by-insert (λ k. cond (f k) 1 0) keys (suc n) new in
    omega (arith, split, none)
none_passed f new point.Front other keys none =
    let split : count_by f (new ∷ keys) ≡ cond (f new) 1 0 + count_by f keys = sum_by-cons (λ k. cond (f k) 1 0) new keys in
    omega (arith, split, none)

module _ (o : Ordered) (name : List ℕ) (in_order : are_in_order o.keys ≡ true) (has : HasPlace o name) (w : Written (Expression Nowhere)) where
  abbrev new : SortKey
  new = key.Text name

  abbrev many : ℕ
  many = count_by (λ k. is_less k (key.Text name)) o.keys

  abbrev next : Ordered
  next = put_one o (point_in o (key.Text name)) (key.Text name) w

  is_point : point_in o new ≡ point_after (is_some o.first) many
  is_point =
      let may : may_be_ordered new ≡ true = ap not has.no_dash in
      ap₂ (λ a b. if a && b then point_after (is_some o.first) many else point.End) may (same_order name o.keys ∙ in_order)

  pub elsewhere : point_in o new ≢ point.End
  elsewhere = λ is. not_end (is_some o.first) many has.front (sym is_point ∙ is)

  pub next_in_order : are_in_order next.keys ≡ true
  next_in_order =
      still_in_order name o.keys (point_in o new) elsewhere (inside (is_some o.first) new o.keys) in_order
      (keeps_order (is_some o.first) new o.keys (same_order name o.keys ∙ in_order) has.is_new elsewhere)

  first_stays : (b : Bool) → is_some o.first ≡ true → is_some (if b then Some w else o.first) ≡ true
  first_stays true some = refl
  first_stays false some = some

  -- another text has a place with it
  pub has_place : (other : List ℕ) → name ≢ other → HasPlace o other → HasPlace next other
  has_place other apart h =
      record {
        no_dash = h.no_dash;
        is_new = all_put (λ k. k ≢ key.Text other) new (λ same. apart (ap text_in same)) (point_in o new) elsewhere o.keys h.is_new;
        front = λ none. first_stays (comes_first o.from o.end (point_in o new)) (h.front (none_passed (λ k. is_less k (key.Text other)) new (point_in o new) elsewhere o.keys none));
      }
    where
      text_in : SortKey → List ℕ
      text_in (key.Text text) = text
      text_in _ = []

  pub have_places : (others : List (List ℕ)) → AllByRecursion (λ other. name ≢ other) others → AllByRecursion (HasPlace o) others → AllByRecursion (HasPlace next) others
  have_places [] apart have = tt
  have_places (other ∷ more) apart have = (has_place other apart.0 have.0, have_places more apart.1 have.1)

-- ==== All of them.

-- the list with all
abbrev pub all_noted : Ordered → List Added → Ordered
all_noted o [] = o
all_noted o (a ∷ more) = all_noted (put_one o (point_in o a.key) a.key a.written) more

-- no two are the same
abbrev pub AreApart : List (List ℕ) → Type 0
AreApart [] = Unit {0}
AreApart (x ∷ xs) = AllByRecursion (λ y. x ≢ y) xs × AreApart xs

pub all_in_order : (names : List (List ℕ)) (o : Ordered) → are_in_order o.keys ≡ true → AllByRecursion (HasPlace o) names → AreApart names → are_in_order (all_noted o (map added_text names)).keys ≡ true
all_in_order [] o is have apart = is
all_in_order (x ∷ xs) o is have apart =
    let w = (added_text x).written in
    all_in_order xs (put_one o (point_in o (key.Text x)) (key.Text x) w) (next_in_order o x is have.0 w) (have_places o x is have.0 w xs apart.0 have.1) apart.1

-- ---- new names are apart

abbrev Unseen : List (List ℕ) → List ℕ → Type 0
Unseen seen y = one_of seen y ≡ false

two_apart : (x : List ℕ) (seen : List (List ℕ)) (y : List ℕ) → Unseen (x ∷ seen) y → (x ≢ y) × Unseen seen y
two_apart x seen y unseen = by (bytes_eq x y) refl unseen
  where
    by : (b : Bool) → bytes_eq x y ≡ b → (b || one_of seen y) ≡ false → (x ≢ y) × Unseen seen y
    by true same h = absurd (let no : ⊥ = cc in no)
    by false other h = ((λ same. let both : true ≡ false = sym ((bytes_eq-Decides x y).1 same) ∙ other in absurd (let no : ⊥ = cc in no)), h)

all_apart : (x : List ℕ) (seen ys : List (List ℕ)) → AllByRecursion (Unseen (x ∷ seen)) ys → AllByRecursion (λ y. x ≢ y) ys × AllByRecursion (Unseen seen) ys
all_apart x seen [] all = (tt, tt)
all_apart x seen (y ∷ ys) all =
    let here = two_apart x seen y all.0 in
    let rest = all_apart x seen ys all.1 in
    ((here.0, rest.0), (here.1, rest.1))

distinct_apart : (seen names : List (List ℕ)) → AreApart (distinct_by seen names) × AllByRecursion (Unseen seen) (distinct_by seen names)
distinct_apart seen [] = (tt, tt)
distinct_apart seen (x ∷ xs) = by (one_of seen x) refl (distinct_apart seen xs) (distinct_apart (x ∷ seen) xs)
  where
    chosen : Bool → List (List ℕ)
    chosen b = if b then distinct_by seen xs else x ∷ distinct_by (x ∷ seen) xs

    by : (b : Bool) → one_of seen x ≡ b → AreApart (distinct_by seen xs) × AllByRecursion (Unseen seen) (distinct_by seen xs)
        → AreApart (distinct_by (x ∷ seen) xs) × AllByRecursion (Unseen (x ∷ seen)) (distinct_by (x ∷ seen) xs) → AreApart (chosen b) × AllByRecursion (Unseen seen) (chosen b)
    by true known without more = without
    by false unknown without more =
        let rest = all_apart x seen (distinct_by (x ∷ seen) xs) more.1 in
        ((rest.0, more.0), (unknown, rest.1))

all_filtered : (P : List ℕ → Type 0) (f : List ℕ → Bool) (xs : List (List ℕ)) → AllByRecursion P xs → AllByRecursion P (filter f xs)
all_filtered P f [] all = tt
all_filtered P f (x ∷ xs) all = by (f x) (all_filtered P f xs all.1)
  where
    by : (b : Bool) → AllByRecursion P (filter f xs) → AllByRecursion P (if b then x ∷ filter f xs else filter f xs)
    by true rest = (all.0, rest)
    by false rest = rest

filtered_apart : (f : List ℕ → Bool) (xs : List (List ℕ)) → AreApart xs → AreApart (filter f xs)
filtered_apart f [] apart = tt
filtered_apart f (x ∷ xs) apart = by (f x) (filtered_apart f xs apart.1)
  where
    by : (b : Bool) → AreApart (filter f xs) → AreApart (if b then x ∷ filter f xs else filter f xs)
    by true rest = (all_filtered (λ y. x ≢ y) f xs apart.0, rest)
    by false rest = rest

pub new_apart : (marks : List (Mark Span)) (names : List (List ℕ)) → AreApart (new_names marks names)
new_apart marks names = filtered_apart (λ name. not (is_known marks name)) (distinct names) (distinct_apart [] names).0
