-- Lists of makers, as the code has them.
use Rattle.std.proofs.Common.{◌≡◌, ℕ, ◌+◌, ◌<◌, ◌≤◌, List, [], ◌∷◌, ◌++◌, length, take, drop, get_or, map, sym, ap, subst, ◌∙◌}
use Rattle.std.specs.Prelude.{Bool, true, false, ◌||◌, nat_lt, if◌then◌else◌}
use Rattle.std.specs.List.{list_any}
use Rattle.std.proofs.lemmas.Bool.{lt-ltb}
use Rattle.std.proofs.lemmas.List.{append_assoc, at_drop_all, at_drop_more, length-map, map-append, take-map}
use Rattle.meson_lex.specs.declared.kinds.Span.{Span}
use Rattle.meson_following.specs.declared.makers.Maker as code
use Rattle.meson_following.specs.CodeMakers.{maker_view}
use Rattle.meson_following.specs.Makers.{Made, Maker, limited, max_makers}

-- a search through makers
module _ {X Y : Type 0} (test : Y → Bool) (view : X → Y) (xs : List X) (i : ℕ) (x : X) (whole : Bool) where
  next : i < length xs → x ≡ get_or xs i x → list_any test (map view (drop i xs)) ≡ (test (view x) || list_any test (map view (drop (i + 1) xs)))
  next within at_i = ap (list_any test) (at_drop_more (map view) xs i x within) ∙ ap (λ y. test (view y) || list_any test (map view (drop (i + 1) xs))) (sym at_i)

  pub found : i < length xs → x ≡ get_or xs i x → test (view x) ≡ true → list_any test (map view (drop i xs)) ≡ whole → true ≡ whole
  found within at_i is so_far = sym (ap (λ b. b || list_any test (map view (drop (i + 1) xs))) is) ∙ sym (next within at_i) ∙ so_far

  pub passed : i < length xs → x ≡ get_or xs i x → test (view x) ≡ false → list_any test (map view (drop i xs)) ≡ whole → list_any test (map view (drop (i + 1) xs)) ≡ whole
  passed within at_i is so_far = sym (next within at_i ∙ ap (λ b. b || list_any test (map view (drop (i + 1) xs))) is) ∙ so_far

pub none_found : {X Y : Type 0} (test : Y → Bool) (view : X → Y) (xs : List X) (i : ℕ) (whole : Bool) → length xs ≤ i → list_any test (map view (drop i xs)) ≡ whole → false ≡ whole
none_found test view xs i whole past so_far = sym (ap (list_any test) (at_drop_all (map view) xs i past)) ∙ so_far

-- one more is copied
pub copied : {X Y : Type 0} (f : X → Y) (xs done after : List X) (i : ℕ) (x y : X) → i < length xs → after ≡ done ++ y ∷ [] → f y ≡ f x → x ≡ get_or xs i x
    → map f done ++ map f (drop i xs) ≡ map f xs → map f after ++ map f (drop (i + 1) xs) ≡ map f xs
copied f xs done after i x y within joins same at_i so_far =
    let rest = map f (drop (i + 1) xs) in
    ap (λ ys. map f ys ++ rest) joins
    ∙ ap (λ zs. zs ++ rest) (map-append f done (y ∷ []))
    ∙ append_assoc (map f done) (f y ∷ []) rest
    ∙ ap (λ v. map f done ++ (v ∷ rest)) (same ∙ ap f at_i)
    ∙ sym (ap (λ zs. map f done ++ zs) (at_drop_more (map f) xs i x within))
    ∙ so_far

pub limited_long : (items cut : List code.Maker) (unknown : Bool) → cut ≡ take max_makers items → max_makers < length items
    → (let m : Made Span = record { makers = map maker_view cut; unknown = true } in let whole : Made Span = record { makers = map maker_view items; unknown = unknown } in m ≡ limited whole)
limited_long items cut unknown is more =
    let some : max_makers < length (map maker_view items) = subst (λ n. max_makers < n) (sym (length-map items maker_view)) more in
    let long : nat_lt max_makers (length (map maker_view items)) ≡ true = lt-ltb max_makers (length (map maker_view items)) some in
    let kept : Made Span = record { makers = take max_makers (map maker_view items); unknown = true } in
    let whole : Made Span = record { makers = map maker_view items; unknown = unknown } in
    let first : List (Maker Span) → Made Span = λ ms. record { makers = ms; unknown = true } in
    ap first (ap (map maker_view) is ∙ sym (take-map maker_view max_makers items)) ∙ sym (ap (λ b. if b then kept else whole) long)
