-- The way from a folder to a path, by how many parts they begin with alike.
use Rattle.std.proofs.Common.{◌≡◌, ℕ, zero, suc, ◌+◌, ◌-◌, ◌<◌, ◌≤◌, List, [], ◌∷◌, ◌++◌, length, map, drop, get_or, refl, sym, ap, ap₂, arith, add-one, append-nil, drop-cons, length-drop, ◌∙◌}
use Rattle.std.specs.Prelude.{Bool, true, false, bytes_eq, if◌then◌else◌, replicate}
use Rattle.std.proofs.Math.ListN.{drop_of_length-le}
use Rattle.meson_followed.specs.Paths.{Parts, upward, way_from}

no_path : (folder : Parts) → way_from folder [] ≡ map (λ _. upward) folder
no_path [] = refl
no_path (f ∷ folder) = refl

module _ {X : Type 0} (now : X → List ℕ) where
  ups_are : (xs : List X) → map (λ _. upward) (map now xs) ≡ replicate (length xs) upward
  ups_are [] = refl
  ups_are (x ∷ xs) = ap (λ us. upward ∷ us) (ups_are xs)

  pub all_upward : (n : ℕ) (x : X) → now x ≡ upward → map now (replicate n x) ≡ replicate n upward
  all_upward zero x is = refl
  all_upward (suc n) x is = ap₂ (λ u us. u ∷ us) is (all_upward n x is)

  module _ (folder path : List X) (i : ℕ) where
    -- the way from where i parts are alike
    abbrev pub way_left : ℕ → Parts
    way_left n = way_from (map now (drop n folder)) (map now (drop n path))

    abbrev pub way_then : Parts
    way_then = replicate (length folder - i) upward ++ map now (drop i path)

    ups_left : map (λ _. upward) (map now (drop i folder)) ≡ replicate (length folder - i) upward
    ups_left = ups_are (drop i folder) ∙ ap (λ n. replicate n upward) (length-drop i folder)

    pub folder_ends : length folder ≤ i → way_left i ≡ way_then
    folder_ends past =
        let none : length folder - i ≡ 0 = omega (arith, past) in
        ap (λ fs. way_from (map now fs) (map now (drop i path))) (drop_of_length-le folder past) ∙ ap (λ n. replicate n upward ++ map now (drop i path)) (sym none)

    pub path_ends : length path ≤ i → way_left i ≡ way_then
    path_ends past =
        let ends = drop_of_length-le path past in
        ap (λ ps. way_from (map now (drop i folder)) (map now ps)) ends
        ∙ no_path (map now (drop i folder)) ∙ ups_left
        ∙ sym (append-nil (replicate (length folder - i) upward)) ∙ ap (λ ps. replicate (length folder - i) upward ++ map now ps) (sym ends)

    module _ (d e : X) (within : i < length folder) where
      abbrev f : X
      f = get_or folder i d

      folder_is : drop i folder ≡ f ∷ drop (i + 1) folder
      folder_is = drop-cons folder i d within ∙ ap (λ n. f ∷ drop n folder) (sym (add-one i))

      module _ (there : i < length path) where
        abbrev x : X
        x = get_or path i e

        path_is : drop i path ≡ x ∷ drop (i + 1) path
        path_is = drop-cons path i e there ∙ ap (λ n. x ∷ drop n path) (sym (add-one i))

        abbrev by_test : Bool → Parts
        by_test b = if b then way_left (i + 1) else map (λ _. upward) (map now (f ∷ drop (i + 1) folder)) ++ map now (x ∷ drop (i + 1) path)

        pub parts_alike : bytes_eq (now f) (now x) ≡ true → way_left i ≡ way_left (i + 1)
        parts_alike same = ap₂ (λ fs ps. way_from (map now fs) (map now ps)) folder_is path_is ∙ ap by_test same

        pub parts_differ : bytes_eq (now f) (now x) ≡ false → way_left i ≡ way_then
        parts_differ other =
            ap₂ (λ fs ps. way_from (map now fs) (map now ps)) folder_is path_is ∙ ap by_test other
            ∙ ap₂ (λ fs ps. map (λ _. upward) (map now fs) ++ map now ps) (sym folder_is) (sym path_is)
            ∙ ap (λ us. us ++ map now (drop i path)) ups_left
