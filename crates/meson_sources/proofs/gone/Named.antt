-- The spots of names, and the sources that go with them.
use Rattle.std.proofs.lemmas.List.Folds.{list_any-append}
use Rattle.meson_sources.proofs.Words.{filter, list_any, bytes_eq, if◌then◌else◌, Ok, ok_or, option_map, ◌&&◌, ◌||◌, ◌⊎◌, [], ap, ap₂, Bool, false, inl, inr}
use Rattle.meson_sources.proofs.Words.{List, None, Option, refl, Some, subst, sym, true, ℕ, ◌++◌, ◌∙◌, ◌∷◌, ◌≡◌, or_left, or_right, bytes_eq-Decides, then_ok}
use Rattle.meson_sources.proofs.Words.{Span, some-injective, Every, every-append, and-then-some, map-some, child, place, Project, one_of, CallRef, NotRemovable}
use Rattle.meson_sources.proofs.Words.{fixed, in_list, Item, Mark, Slot, items, opaque_count, distinct, distinct_by, then_was, AreSpotsOf, element_spot}
use Rattle.meson_sources.proofs.Words.{has_one_of, is_at, has_text, items_of, Spot, spot_of, spots_by, spots_named, spots_of}
use Rattle.meson_sources.proofs.gone.Spots.{spot_itself, both_true, same_one, Pairwise, pairwise_append, Apart, AreApart}
use Rattle.meson_sources.proofs.met.Standing.{AllStand, ItemFits, OtherPlace, SlotFits}

-- ==== The spots of names are those at which the items of these names stand, and no others.

-- ---- tests

module _ {X : Type 0} where
  any_left : (f : X → Bool) (xs ys : List X) → list_any f xs ≡ true → list_any f (xs ++ ys) ≡ true
  any_left f xs ys is = list_any-append f xs ys ∙ or_left (list_any f xs) (list_any f ys) is

  any_right : (f : X → Bool) (xs ys : List X) → list_any f ys ≡ true → list_any f (xs ++ ys) ≡ true
  any_right f xs ys is = list_any-append f xs ys ∙ or_right (list_any f xs) (list_any f ys) is

  -- a weaker test
  any_weaker : (f g : X → Bool) → ((x : X) → f x ≡ true → g x ≡ true) → (xs : List X) → list_any f xs ≡ true → list_any g xs ≡ true
  any_weaker f g weaker [] is = absurd cc
  any_weaker f g weaker (x ∷ xs) is = by (f x) refl (any_weaker f g weaker xs) is where
    by : (b : Bool) → f x ≡ b → (list_any f xs ≡ true → list_any g xs ≡ true) → (b || list_any f xs) ≡ true → list_any g (x ∷ xs) ≡ true
    by true here rest is = or_left (g x) (list_any g xs) (weaker x here)
    by false here rest is = or_right (g x) (list_any g xs) (rest is)

  pub any_filtered : (f g : X → Bool) (xs : List X) → list_any g (filter f xs) ≡ true → list_any (λ x. f x && g x) xs ≡ true
  any_filtered f g [] is = absurd cc
  any_filtered f g (x ∷ xs) is = by (f x) (any_filtered f g xs) is where
    first : (c : Bool) → (list_any g (filter f xs) ≡ true → list_any (λ y. f y && g y) xs ≡ true) → (c || list_any g (filter f xs)) ≡ true → (c || list_any (λ y. f y && g y) xs) ≡ true
    first true rest is = refl
    first false rest is = rest is

    by : (b : Bool) → (list_any g (filter f xs) ≡ true → list_any (λ y. f y && g y) xs ≡ true) → list_any g (if b then x ∷ filter f xs else filter f xs) ≡ true
        → ((b && g x) || list_any (λ y. f y && g y) xs) ≡ true
    by true rest is = first (g x) rest is
    by false rest is = rest is

  every_filtered : (f : X → Bool) (P : X → Type 0) (xs : List X) → Every P (filter f xs) → Every (λ x. f x ≡ true → P x) xs
  every_filtered f P [] every = tt
  every_filtered f P (x ∷ xs) every = by (f x) refl (every_filtered f P xs) every where
    by : (b : Bool) → f x ≡ b → (Every P (filter f xs) → Every (λ y. f y ≡ true → P y) xs) → Every P (if b then x ∷ filter f xs else filter f xs) → Every (λ y. f y ≡ true → P y) (x ∷ xs)
    by true here rest all = (λ named. all.0, rest all.1)
    by false here rest all = (λ named. let both : true ≡ false = sym named ∙ here in absurd cc, rest all)

  pub every_weaker : (P Q : X → Type 0) → ((x : X) → P x → Q x) → (xs : List X) → Every P xs → Every Q xs
  every_weaker P Q weaker [] every = tt
  every_weaker P Q weaker (x ∷ xs) every = (weaker x every.0, every_weaker P Q weaker xs every.1)

  pub every_both : (P Q R : X → Type 0) → ((x : X) → P x → Q x → R x) → (xs : List X) → Every P xs → Every Q xs → Every R xs
  every_both P Q R join [] one other = tt
  every_both P Q R join (x ∷ xs) one other = (join x one.0 other.0, every_both P Q R join xs one.1 other.1)

-- ---- the spots of items

pub its_spot : (slot : Slot) (s : Spot) → spot_of slot ≡ Some s → is_at s slot ≡ true
its_spot (in_list c n) s is = ap (λ t. is_at t (in_list c n)) (sym (some-injective _ _ is)) ∙ spot_itself (record { list = c; number = n })
its_spot fixed s is = absurd cc

pub record Both (is : List (Item Span)) (spots : List Spot) : Type 0 where
  pub each : Every (λ i. list_any (λ s. is_at s i.slot) spots ≡ true) is
  pub only : Every (λ s. list_any (λ (i : Item Span). is_at s i.slot) is ≡ true) spots

pub both_of : (is : List (Item Span)) (spots : List Spot) → spots_of is ≡ Some spots → Both is spots
both_of [] spots same = subst (Both []) (some-injective _ _ same) (record { each = tt; only = tt })
both_of (i ∷ more) spots same =
    let a = and-then-some (λ spot. option_map (λ spots. spot ∷ spots) (spots_of more)) (spot_of i.slot) spots same in
    let b = map-some (λ spots. a.0 ∷ spots) (spots_of more) spots a.2 in
    let r = both_of more b.0 b.1 in
    let here = its_spot i.slot a.0 a.1 in
    subst (Both (i ∷ more)) b.2 (record {
      each = (
        or_left (is_at a.0 i.slot) (list_any (λ s. is_at s i.slot) b.0) here,
        every_weaker (λ j. list_any (λ s. is_at s j.slot) b.0 ≡ true) (λ j. list_any (λ s. is_at s j.slot) (a.0 ∷ b.0) ≡ true) (λ j one. or_right (is_at a.0 j.slot) (list_any (λ s. is_at s j.slot) b.0) one) more r.each,
      );
      only = (
        or_left (is_at a.0 i.slot) (list_any (λ (j : Item Span). is_at a.0 j.slot) more) here,
        every_weaker (λ s. list_any (λ (j : Item Span). is_at s j.slot) more ≡ true) (λ s. list_any (λ (j : Item Span). is_at s j.slot) (i ∷ more) ≡ true) (λ s one. or_right (is_at s i.slot) (list_any (λ (j : Item Span). is_at s j.slot) more) one) b.0 r.only,
      );
    })

pub some_spots : (o : Option (List Spot)) (spots : List Spot) → ok_or o NotRemovable ≡ Ok spots → o ≡ Some spots
some_spots None spots is = absurd cc
some_spots (Some found) spots is = let same : found ≡ spots = cc in ap Some same

pub of_one : (unknown : ℕ) (is : List (Item Span)) (spots : List Spot) → spots_by unknown is ≡ Ok spots → Both is spots
of_one unknown [] spots same = absurd cc
of_one unknown (i ∷ more) spots same = both_of (i ∷ more) spots (some_spots (spots_of (i ∷ more)) spots same)

-- ---- of names

module _ (marks : List (Mark Span)) where
  abbrev Each : List (List ℕ) → List Spot → Item Span → Type 0
  Each names spots i = has_one_of names i ≡ true → list_any (λ s. is_at s i.slot) spots ≡ true

  abbrev Only : List (List ℕ) → Spot → Type 0
  Only names s = list_any (λ i. has_one_of names i && is_at s i.slot) (items marks) ≡ true

  none_named : (is : List (Item Span)) → Every (Each [] []) is
  none_named [] = tt
  none_named (i ∷ is) = (λ named. absurd cc, none_named is)

  next_each : (name : List ℕ) (more : List (List ℕ)) (here later : List Spot) (i : Item Span) → (has_text name i ≡ true → list_any (λ s. is_at s i.slot) here ≡ true) → Each more later i → Each (name ∷ more) (here ++ later) i
  next_each name more here later i one others = by (has_text name i) refl where
    by : (b : Bool) → has_text name i ≡ b → (b || has_one_of more i) ≡ true → list_any (λ s. is_at s i.slot) (here ++ later) ≡ true
    by true named is = any_left (λ s. is_at s i.slot) here later (one named)
    by false named is = any_right (λ s. is_at s i.slot) here later (others is)

  and_weaker : (b c d : Bool) → (b ≡ true → c ≡ true) → (b && d) ≡ true → (c && d) ≡ true
  and_weaker true c d weaker is = ap (λ e. e && d) (weaker refl) ∙ is
  and_weaker false c d weaker is = absurd cc

  pub named_spots : (names : List (List ℕ)) (spots : List Spot) → spots_named marks names ≡ Ok spots → AreSpotsOf (items marks) names spots
  named_spots [] spots is = let same : [] ≡ spots = cc in subst (AreSpotsOf (items marks) []) same (record { each = none_named (items marks); only = tt })
  named_spots (name ∷ more) spots is =
      let a = then_was (spots_by (opaque_count marks) (items_of name marks)) (λ here. then_ok (spots_named marks more) (λ later. Ok (here ++ later))) spots is in
      let b = then_was (spots_named marks more) (λ later. Ok (a.0 ++ later)) spots a.2 in
      let same : a.0 ++ b.0 ≡ spots = let h = b.2 in cc in
      let one = of_one (opaque_count marks) (items_of name marks) a.0 a.1 in
      let r = named_spots more b.0 b.1 in
      subst (AreSpotsOf (items marks) (name ∷ more)) same (record {
        each =
            every_both (λ i. has_text name i ≡ true → list_any (λ s. is_at s i.slot) a.0 ≡ true) (Each more b.0) (Each (name ∷ more) (a.0 ++ b.0)) (next_each name more a.0 b.0) (items marks)
            (every_filtered (has_text name) (λ i. list_any (λ s. is_at s i.slot) a.0 ≡ true) (items marks) one.each) r.each;
        only =
            every-append (Only (name ∷ more)) a.0 b.0
            (every_weaker (λ s. list_any (λ (i : Item Span). is_at s i.slot) (items_of name marks) ≡ true) (Only (name ∷ more)) (λ s here.
            any_weaker (λ i. has_text name i && is_at s i.slot) (λ i. has_one_of (name ∷ more) i && is_at s i.slot) (λ i. and_weaker (has_text name i) (has_one_of (name ∷ more) i) (is_at s i.slot) (or_left (has_text name i) (has_one_of more i))) (items marks)
            (any_filtered (has_text name) (λ i. is_at s i.slot) (items marks) here)) a.0 one.only)
            (every_weaker (Only more) (Only (name ∷ more)) (λ s later.
            any_weaker (λ i. has_one_of more i && is_at s i.slot) (λ i. has_one_of (name ∷ more) i && is_at s i.slot) (λ i. and_weaker (has_one_of more i) (has_one_of (name ∷ more) i) (is_at s i.slot) (or_right (has_text name i) (has_one_of more i))) (items marks)
            later) b.0 r.only);
      })

-- ==== A name and others than it.

-- what is one of the others is not the name
pub not_name : (name : List ℕ) (more : List (List ℕ)) → one_of more name ≡ false → (text : List ℕ) → one_of more text ≡ true → one_of (name ∷ []) text ≡ false
not_name name more other text named = go (bytes_eq name text) refl
  where
    go : (b : Bool) → bytes_eq name text ≡ b → (b || false) ≡ false
    go true is = let same = (bytes_eq-Decides name text).0 is in let both : true ≡ false = sym named ∙ sym (ap (one_of more) same) ∙ other in absurd cc
    go false is = refl

-- seen or not, where none of these is among them
seen_alike : (seen seen2 xs : List (List ℕ)) → Every (λ x. one_of seen x ≡ one_of seen2 x) xs → distinct_by seen xs ≡ distinct_by seen2 xs
seen_alike seen seen2 [] all = refl
seen_alike seen seen2 (x ∷ xs) all =
    ap (λ b. if b then distinct_by seen xs else x ∷ distinct_by (x ∷ seen) xs) all.0
    ∙ go (one_of seen2 x) (seen_alike seen seen2 xs all.1)
    (seen_alike (x ∷ seen) (x ∷ seen2) xs (every_weaker (λ y. one_of seen y ≡ one_of seen2 y) (λ y. one_of (x ∷ seen) y ≡ one_of (x ∷ seen2) y) (λ y same. ap (λ b. bytes_eq x y || b) same) xs all.1))
  where
    go : (b : Bool) → distinct_by seen xs ≡ distinct_by seen2 xs → distinct_by (x ∷ seen) xs ≡ distinct_by (x ∷ seen2) xs
        → (if b then distinct_by seen xs else x ∷ distinct_by (x ∷ seen) xs) ≡ (if b then distinct_by seen2 xs else x ∷ distinct_by (x ∷ seen2) xs)
    go true same with_it = same
    go false same with_it = ap (λ l. x ∷ l) with_it

none_is : (name : List ℕ) (xs : List (List ℕ)) → one_of xs name ≡ false → Every (λ x. one_of (name ∷ []) x ≡ one_of [] x) xs
none_is name [] other = tt
none_is name (x ∷ xs) other = (not_name name (x ∷ xs) other x (ap (λ b. b || one_of xs x) ((bytes_eq-Decides x x).1 refl)), none_is name xs (rest (bytes_eq x name) other))
  where
    rest : (b : Bool) → (b || one_of xs name) ≡ false → one_of xs name ≡ false
    rest true is = absurd cc
    rest false is = is

pub distinct_others : (name : List ℕ) (more : List (List ℕ)) → one_of more name ≡ false → distinct (name ∷ more) ≡ name ∷ distinct more
distinct_others name more other = ap (λ l. name ∷ l) (seen_alike (name ∷ []) [] more (none_is name more other))

-- ==== The sources that have gone are those with the names that are removed.

-- ---- tests

either_true : (b c : Bool) → (b || c) ≡ true → (b ≡ true) ⊎ (c ≡ true)
either_true true c is = inl refl
either_true false c is = inr is

pub alike : (b c : Bool) → (b ≡ true → c ≡ true) → (c ≡ true → b ≡ true) → b ≡ c
alike true c one other = sym (one refl)
alike false true one other = other refl
alike false false one other = refl

-- one of which both holds
pub record SomeOf {X : Type 0} (f : X → Bool) (P : X → Type 0) : Type 0 where
  pub it : X
  pub is : f it ≡ true
  pub holds : P it

pub some_of : {X : Type 0} (f : X → Bool) (P : X → Type 0) (xs : List X) → Every P xs → list_any f xs ≡ true → SomeOf f P
some_of f P [] all is = absurd cc
some_of {X} f P (x ∷ xs) all is = go (either_true (f x) (list_any f xs) is) (some_of f P xs all.1)
  where
    go : (f x ≡ true) ⊎ (list_any f xs ≡ true) → (list_any f xs ≡ true → SomeOf f P) → SomeOf f P
    go (inl here) others = record { it = x; is = here; holds = all.0 }
    go (inr later) others = others later

-- ---- names

module _ (text : List ℕ) where
  -- as the items of a name are looked for
  abbrev pub has_one : List (List ℕ) → Bool
  has_one names = list_any (λ name. bytes_eq text name) names

  turned : (x : List ℕ) → bytes_eq x text ≡ true → bytes_eq text x ≡ true
  turned x is = (bytes_eq-Decides text x).1 (sym ((bytes_eq-Decides x text).0 is))

  turned_back : (x : List ℕ) → bytes_eq text x ≡ true → bytes_eq x text ≡ true
  turned_back x is = (bytes_eq-Decides x text).1 (sym ((bytes_eq-Decides text x).0 is))

  is_seen : (seen : List (List ℕ)) (x : List ℕ) → bytes_eq x text ≡ true → one_of seen x ≡ true → one_of seen text ≡ true
  is_seen seen x is known = subst (λ y. one_of seen y ≡ true) ((bytes_eq-Decides x text).0 is) known

  distinct_has : (seen names : List (List ℕ)) → one_of names text ≡ true → (one_of seen text ≡ true) ⊎ (has_one (distinct_by seen names) ≡ true)
  distinct_has seen [] is = absurd cc
  distinct_has seen (x ∷ xs) is = go (one_of seen x) refl (either_true (bytes_eq x text) (one_of xs text) is) (distinct_has seen xs) (distinct_has (x ∷ seen) xs)
    where
      further : (one_of (x ∷ seen) text ≡ true) ⊎ (has_one (distinct_by (x ∷ seen) xs) ≡ true) → (one_of seen text ≡ true) ⊎ (has_one (x ∷ distinct_by (x ∷ seen) xs) ≡ true)
      further (inl one) = by (either_true (bytes_eq x text) (one_of seen text) one)
        where
          by : (bytes_eq x text ≡ true) ⊎ (one_of seen text ≡ true) → (one_of seen text ≡ true) ⊎ (has_one (x ∷ distinct_by (x ∷ seen) xs) ≡ true)
          by (inl here) = inr (or_left (bytes_eq text x) (has_one (distinct_by (x ∷ seen) xs)) (turned x here))
          by (inr before) = inl before
      further (inr more) = inr (or_right (bytes_eq text x) (has_one (distinct_by (x ∷ seen) xs)) more)

      go : (b : Bool) → one_of seen x ≡ b → (bytes_eq x text ≡ true) ⊎ (one_of xs text ≡ true)
          → (one_of xs text ≡ true → (one_of seen text ≡ true) ⊎ (has_one (distinct_by seen xs) ≡ true)) → (one_of xs text ≡ true → (one_of (x ∷ seen) text ≡ true) ⊎ (has_one (distinct_by (x ∷ seen) xs) ≡ true))
          → (one_of seen text ≡ true) ⊎ (has_one (if b then distinct_by seen xs else x ∷ distinct_by (x ∷ seen) xs) ≡ true)
      go true known (inl here) same with_it = inl (is_seen seen x here known)
      go true known (inr later) same with_it = same later
      go false known (inl here) same with_it = inr (or_left (bytes_eq text x) (has_one (distinct_by (x ∷ seen) xs)) (turned x here))
      go false known (inr later) same with_it = further (with_it later)

  pub named_distinct : (names : List (List ℕ)) → one_of names text ≡ true → has_one (distinct names) ≡ true
  named_distinct names is = go (distinct_has [] names is)
    where
      go : (one_of [] text ≡ true) ⊎ (has_one (distinct names) ≡ true) → has_one (distinct names) ≡ true
      go (inl none) = absurd cc
      go (inr found) = found

  had_distinct : (seen names : List (List ℕ)) → has_one (distinct_by seen names) ≡ true → one_of names text ≡ true
  had_distinct seen [] is = absurd cc
  had_distinct seen (x ∷ xs) is = go (one_of seen x) is (had_distinct seen xs) (had_distinct (x ∷ seen) xs)
    where
      go : (b : Bool) → has_one (if b then distinct_by seen xs else x ∷ distinct_by (x ∷ seen) xs) ≡ true → (has_one (distinct_by seen xs) ≡ true → one_of xs text ≡ true)
          → (has_one (distinct_by (x ∷ seen) xs) ≡ true → one_of xs text ≡ true) → one_of (x ∷ xs) text ≡ true
      go true found same with_it = or_right (bytes_eq x text) (one_of xs text) (same found)
      go false found same with_it = next (either_true (bytes_eq text x) (has_one (distinct_by (x ∷ seen) xs)) found)
        where
          next : (bytes_eq text x ≡ true) ⊎ (has_one (distinct_by (x ∷ seen) xs) ≡ true) → one_of (x ∷ xs) text ≡ true
          next (inl here) = or_left (bytes_eq x text) (one_of xs text) (turned_back x here)
          next (inr later) = or_right (bytes_eq x text) (one_of xs text) (with_it later)

  pub distinct_named : (names : List (List ℕ)) → has_one (distinct names) ≡ true → one_of names text ≡ true
  distinct_named names is = had_distinct [] names is

-- ==== Where no item is met twice, no spot of names is there twice.

-- ---- names each once

abbrev Differs : List ℕ → List ℕ → Type 0
Differs x y = x ≡ y → ⊥

unseen : (x : List ℕ) (seen ys : List (List ℕ)) → one_of seen x ≡ true → Every (Differs x) (distinct_by seen ys)
unseen x seen [] is = tt
unseen x seen (y ∷ ys) is = go (one_of seen y) refl (unseen x seen ys is) (unseen x (y ∷ seen) ys (or_right (bytes_eq y x) (one_of seen x) is))
  where
    go : (b : Bool) → one_of seen y ≡ b → Every (Differs x) (distinct_by seen ys) → Every (Differs x) (distinct_by (y ∷ seen) ys) → Every (Differs x) (if b then distinct_by seen ys else y ∷ distinct_by (y ∷ seen) ys)
    go true known without with_it = without
    go false known without with_it = (λ same. let both : true ≡ false = sym is ∙ ap (one_of seen) same ∙ known in cc, with_it)

names_differ : (seen names : List (List ℕ)) → Pairwise Differs (distinct_by seen names)
names_differ seen [] = tt
names_differ seen (x ∷ xs) = go (one_of seen x) (names_differ seen xs) (names_differ (x ∷ seen) xs)
  where
    go : (b : Bool) → Pairwise Differs (distinct_by seen xs) → Pairwise Differs (distinct_by (x ∷ seen) xs) → Pairwise Differs (if b then distinct_by seen xs else x ∷ distinct_by (x ∷ seen) xs)
    go true without with_it = without
    go false without with_it = (unseen x (x ∷ seen) xs (or_left (bytes_eq x x) (one_of seen x) ((bytes_eq-Decides x x).1 refl)), with_it)

-- ---- spots of items

-- no spot is that of both
abbrev OtherSlot : Item Span → Item Span → Type 0
OtherSlot i j = (s : Spot) → is_at s i.slot ≡ true → is_at s j.slot ≡ true → ⊥

place_of_spot : (s : Spot) (slot : Slot) (q : CallRef) → SlotFits slot q → is_at s slot ≡ true → q ≡ child s.list s.number
place_of_spot s (in_list c n) q fits at = fits ∙ ap (λ (t : Spot). child t.list t.number) (sym (same_one s (element_spot c n) at))
place_of_spot s fixed q fits at = absurd cc

slots_differ : (is : List (Item Span)) → Every ItemFits is → Pairwise OtherPlace is → Pairwise OtherSlot is
slots_differ [] fit differ = tt
slots_differ (i ∷ is) fit differ = (
  every_both ItemFits (OtherPlace i) (OtherSlot i) (λ j fits other s at its. other (place_of_spot s i.slot i.place fit.0 at ∙ sym (place_of_spot s j.slot j.place fits its))) is fit.1 differ.0,
  slots_differ is fit.1 differ.1,
)

-- two items of one list, if one is not the other
abbrev IfOther : Item Span → Item Span → Type 0
IfOther i j = Differs i.text j.text → OtherSlot i j

all_others : (is : List (Item Span)) → Pairwise OtherSlot is → Every (λ i. Every (IfOther i) is) is
all_others [] differ = tt
all_others (x ∷ xs) differ = (
  (λ other. absurd (other refl), every_weaker (OtherSlot x) (IfOther x) (λ j slots other. slots) xs differ.0),
  every_both (OtherSlot x) (λ i. Every (IfOther i) xs) (λ i. Every (IfOther i) (x ∷ xs)) (λ i slots others. (λ other s at its. slots s its at, others)) xs differ.0 (all_others xs differ.1),
)

apart_at : (s t : Spot) (i j : Item Span) → OtherSlot i j → is_at s i.slot ≡ true → is_at t j.slot ≡ true → Apart s t
apart_at s t i j other at its = λ same.
    let one : s ≡ t = ap₂ (λ list n. record { list = list; number = n }) (ap₂ place same.0 same.1) same.2 in
    other t (subst (λ u. is_at u i.slot ≡ true) one at) its

-- the spots of the items that pass a test
module _ (f : Item Span → Bool) where
  kept_apart : (is : List (Item Span)) (spots : List Spot) → spots_of (filter f is) ≡ Some spots → Pairwise OtherSlot is → AreApart spots
  kept_apart [] spots is differ = subst AreApart (some-injective [] spots is) tt
  kept_apart (x ∷ xs) spots is differ = go (f x) is (λ more made. kept_apart xs more made differ.1)
    where
      go : (b : Bool) → spots_of (if b then x ∷ filter f xs else filter f xs) ≡ Some spots → ((more : List Spot) → spots_of (filter f xs) ≡ Some more → AreApart more) → AreApart spots
      go false made rest = rest spots made
      go true made rest =
          let a = and-then-some (λ spot. option_map (λ spots. spot ∷ spots) (spots_of (filter f xs))) (spot_of x.slot) spots made in
          let b = map-some (λ spots. a.0 ∷ spots) (spots_of (filter f xs)) spots a.2 in
          let others = every_weaker (λ t. list_any (λ (i : Item Span). is_at t i.slot) (filter f xs) ≡ true) (Apart a.0) (λ t found.
          let o = some_of (λ i. f i && is_at t i.slot) (OtherSlot x) xs differ.0 (any_filtered f (λ i. is_at t i.slot) xs found) in
          apart_at a.0 t x o.it o.holds (its_spot x.slot a.0 a.1) (both_true (f o.it) (is_at t o.it.slot) o.is).1) b.0 (both_of (filter f xs) b.0 b.1).only in
          subst AreApart b.2 (others, rest b.0 b.1)

-- ---- spots of names

module _ (marks : List (Mark Span)) (differ : Pairwise OtherSlot (items marks)) where
  abbrev named_at : List ℕ → Spot → Item Span → Bool
  named_at name s i = has_text name i && is_at s i.slot

  abbrev one_of_at : List (List ℕ) → Spot → Item Span → Bool
  one_of_at names s i = has_one_of names i && is_at s i.slot

  names_apart : (name : List ℕ) (more : List (List ℕ)) → Every (Differs name) more → (s t : Spot) → list_any (named_at name s) (items marks) ≡ true → list_any (one_of_at more t) (items marks) ≡ true → Apart s t
  names_apart name more others s t here later =
      let o = some_of (named_at name s) (λ i. Every (IfOther i) (items marks)) (items marks) (all_others (items marks) differ) here in
      let u = some_of (one_of_at more t) (IfOther o.it) (items marks) o.holds later in
      let one = both_true (has_text name o.it) (is_at s o.it.slot) o.is in
      let other = both_true (has_one_of more u.it) (is_at t u.it.slot) u.is in
      let n = some_of (λ y. bytes_eq u.it.text y) (Differs name) more others other.0 in
      apart_at s t o.it u.it (u.holds (λ same. n.holds (sym ((bytes_eq-Decides o.it.text name).0 one.0) ∙ same ∙ (bytes_eq-Decides u.it.text n.it).0 n.is))) one.1 other.1

  found_apart : (names : List (List ℕ)) → Pairwise Differs names → (spots : List Spot) → spots_named marks names ≡ Ok spots → AreApart spots
  found_apart [] differs spots is = let same : [] ≡ spots = cc in subst AreApart same tt
  found_apart (name ∷ more) differs spots is =
      let a = then_was (spots_by (opaque_count marks) (items_of name marks)) (λ here. then_ok (spots_named marks more) (λ later. Ok (here ++ later))) spots is in
      let b = then_was (spots_named marks more) (λ later. Ok (a.0 ++ later)) spots a.2 in
      let same : a.0 ++ b.0 ≡ spots = let h = b.2 in cc in
      let across =
      every_weaker (λ s. list_any (λ (i : Item Span). is_at s i.slot) (items_of name marks) ≡ true) (λ s. Every (Apart s) b.0) (λ s here.
      every_weaker (λ t. list_any (one_of_at more t) (items marks) ≡ true) (Apart s) (λ t. names_apart name more differs.0 s t (any_filtered (has_text name) (λ i. is_at s i.slot) (items marks) here)) b.0
      (named_spots marks more b.0 b.1).only) a.0 (of_one (opaque_count marks) (items_of name marks) a.0 a.1).only in
      subst AreApart same (pairwise_append Apart a.0 b.0 (kept_apart (has_text name) (items marks) a.0 (spots_there (items_of name marks) a.0 a.1) differ) (found_apart more differs.1 b.0 b.1) across)
    where
      spots_there : (is : List (Item Span)) (here : List Spot) → spots_by (opaque_count marks) is ≡ Ok here → spots_of is ≡ Some here
      spots_there [] here made = absurd cc
      spots_there (i ∷ others) here made = some_spots (spots_of (i ∷ others)) here made

-- no spot is there twice
pub spots_apart : (p : Project Span) (marks : List (Mark Span)) → AllStand p marks → (names : List (List ℕ)) (spots : List Spot) → spots_named marks (distinct names) ≡ Ok spots → AreApart spots
spots_apart p marks a names spots is = found_apart marks (slots_differ (items marks) a.fit a.differ) (distinct names) (names_differ [] names) spots is
