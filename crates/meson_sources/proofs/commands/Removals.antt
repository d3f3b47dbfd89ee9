-- The removals of a command as the code goes through them.
use Rattle.std.proofs.lemmas.List.Sorted.{IsPermutation-reverse, sum_by-IsPermutation}
use Rattle.meson_sources.proofs.Words.{cond, Err, if◌then◌else◌, Ok, ok_or, option_map, Result, reverse, ◌||◌, [], add-one, ap, append_assoc, ap₂, Bool, drop}
use Rattle.meson_sources.proofs.Words.{false, get_or, length, List, map, None, Option, refl, Some, sym, take, true, ℕ, ◌++◌, ◌+◌, ◌-◌, ◌<◌, ◌∙◌, ◌∷◌, ◌≡◌}
use Rattle.meson_sources.proofs.Words.{drop-cons, take-suc, map-append, reverse-append, then_ok, child, place, CallRef, Refusal, NotRemovable, SourceItem, bare}
use Rattle.meson_sources.proofs.Words.{ListStep, is_before, number_without, path_without, removal, removals_after, Spot, spot_without, all_there, before_all}
use Rattle.meson_sources.proofs.Words.{is_some_there, joined_spots, spot_if_there, spots_at, spots_from, has_value}

-- ==== Where the items of a name stand, gathered one after another.

module _ (name : List ℕ) (items : List SourceItem) (numbers : List (Option ℕ)) (i : ℕ) (d : SourceItem) (e : Option ℕ) (within : i < length items) (also : i < length numbers) where
  abbrev item : SourceItem
  item = get_or items i d

  abbrev number : Option ℕ
  number = get_or numbers i e

  abbrev later : List (Option Spot)
  later = spots_at name (drop (i + 1) items) (drop (i + 1) numbers)

  both_are : spots_at name (drop i items) (drop i numbers) ≡ (if has_value name item then spot_if_there item.list number ∷ later else later)
  both_are =
      ap (λ xs. spots_at name xs (drop i numbers)) (drop-cons items i d within ∙ ap (λ k. item ∷ drop k items) (sym (add-one i)))
      ∙ ap (λ ns. spots_at name (item ∷ drop (i + 1) items) ns) (drop-cons numbers i e also ∙ ap (λ k. number ∷ drop k numbers) (sym (add-one i)))

  pub spot_here : has_value name item ≡ true → spots_at name (drop i items) (drop i numbers) ≡ spot_if_there item.list number ∷ later
  spot_here is = both_are ∙ ap (λ b. if b then spot_if_there item.list number ∷ later else later) is

  pub no_spot_here : has_value name item ≡ false → spots_at name (drop i items) (drop i numbers) ≡ later
  no_spot_here is = both_are ∙ ap (λ b. if b then spot_if_there item.list number ∷ later else later) is

put_before : (first : List Spot) (s : Spot) (more : Option (List Spot)) → before_all (first ++ s ∷ []) more ≡ before_all first (option_map (λ spots. s ∷ spots) more)
put_before first s None = refl
put_before first s (Some spots) = ap Some (append_assoc first (s ∷ []) spots)

pub one_before : (first : List Spot) (s : Spot) (more : List (Option Spot)) → before_all (first ++ s ∷ []) (all_there more) ≡ before_all first (all_there (Some s ∷ more))
one_before first s more = put_before first s (all_there more)

pub some_spot : (b : Bool) (spots : List (Option Spot)) (s : Option Spot) (more : List (Option Spot)) → spots ≡ s ∷ more → (b || is_some_there spots) ≡ true
some_spot true spots s more is = refl
some_spot false spots s more is = ap is_some_there is

-- ---- one name after another

behind_more : (first here : List Spot) (rest : Result (List Spot) Refusal) → joined_spots (first ++ here) rest ≡ joined_spots first (then_ok rest (λ later. Ok (here ++ later)))
behind_more first here (Ok later) = ap Ok (append_assoc first here later)
behind_more first here (Err e) = refl

by_spots : (first new : List Spot) (o : Option (List Spot)) (rest : Result (List Spot) Refusal) → before_all first o ≡ Some new
    → joined_spots new rest ≡ joined_spots first (then_ok (ok_or o NotRemovable) (λ here. then_ok rest (λ later. Ok (here ++ later))))
by_spots first new None rest is = absurd cc
by_spots first new (Some here) rest is = let same : new ≡ first ++ here = cc in ap (λ xs. joined_spots xs rest) same ∙ behind_more first here rest

pub next_name : (first new : List Spot) (unknown : ℕ) (spots : List (Option Spot)) (rest : Result (List Spot) Refusal) → is_some_there spots ≡ true
    → before_all first (all_there spots) ≡ Some new → joined_spots new rest ≡ joined_spots first (then_ok (spots_from unknown spots) (λ here. then_ok rest (λ later. Ok (here ++ later))))
next_name first new unknown [] rest some is = absurd cc
next_name first new unknown (s ∷ spots) rest some is = by_spots first new (all_there (s ∷ spots)) rest is

-- ==== Elements that go one after another, as the code goes through them.

-- ---- in any order

turned_number : (gone : List Spot) (c : CallRef) (n : ℕ) → number_without (reverse gone) c n ≡ number_without gone c n
turned_number gone c n = ap (λ k. n - k) (sum_by-IsPermutation (λ s. cond (is_before c n s) 1 0) gone (reverse gone) (IsPermutation-reverse gone))

turned_path : (gone : List Spot) (c : CallRef) (path : List ℕ) → path_without (reverse gone) c path ≡ path_without gone c path
turned_path gone c [] = refl
turned_path gone c (n ∷ path) = ap₂ (λ i l. i ∷ l) (turned_number gone c n) (turned_path gone (child c n) path)

pub turned : (gone : List Spot) (s : Spot) → spot_without (reverse gone) s ≡ spot_without gone s
turned gone s =
    ap₂ (λ path n. record { list = place s.list.file path; number = n }) (turned_path gone (place s.list.file []) s.list.path.steps) (turned_number gone s.list s.number)

-- ---- one by one

module _ {X : Type 0} (view : X → Spot) (xs : List X) where
  -- the steps from the i-th on
  abbrev pub steps_from : ℕ → List (Option ListStep)
  steps_from i = map bare (removals_after (reverse (map view (take i xs))) (map view (drop i xs)))

  pub one_step : (i : ℕ) (d : X) → i < length xs → steps_from i ≡ bare (removal (spot_without (map view (take i xs)) (view (get_or xs i d)))) ∷ steps_from (i + 1)
  one_step i d within =
      let gone = map view (take i xs) in
      let here = view (get_or xs i d) in
      let rest = map view (drop (i + 1) xs) in
      let more : reverse (map view (take (i + 1) xs)) ≡ here ∷ reverse gone =
      ap (λ k. reverse (map view (take k xs))) (add-one i) ∙ ap (λ l. reverse (map view l)) (take-suc xs i d within) ∙ ap reverse (map-append view (take i xs) (get_or xs i d ∷ []))
      ∙ reverse-append gone (here ∷ []) in
      ap (λ l. map bare (removals_after (reverse gone) (map view l))) (drop-cons xs i d within ∙ ap (λ k. get_or xs i d ∷ drop k xs) (sym (add-one i)))
      ∙ ap₂ (λ s gs. bare (removal s) ∷ map bare (removals_after gs rest)) (turned gone here) (sym more)
