use Rattle.std.proofs.Common.{◌≡◌, ◌≤◌, ◌-◌, [], ◌++◌, length, map, take, drop, refl, sym, ap, ap₂, arith, length-drop, ◌∙◌}
use Rattle.std.specs.Prelude.{ℕ, List, replicate}
use Rattle.std.proofs.lemmas.List.{map-append, take_all}
use Rattle.meson_followed.specs.Paths.{upward}
use Rattle.meson_followed.proofs.SharedParts.{all_upward}
use Rattle.meson_followed.proofs.ways.way_from.Goals as goal

-- an empty list that gets N of these, and then others
filled : {X : Type 0} (now : X → List ℕ) (path old both all : List X) (n len shared : ℕ) (up : X) → now up ≡ upward → old ≡ [] → len ≡ 0
    → both ≡ take n old ++ replicate (n - len) up → all ≡ both ++ take (length path - shared) (drop shared path)
    → map now all ≡ replicate n upward ++ map now (drop shared path)
filled {X = X} now path old both all n len shared up is_up none empty are_both are_all =
    let few : length (drop shared path) ≤ length path - shared = let e = length-drop shared path in omega (arith, e) in
    let left : n - len ≡ n = omega (arith, empty) in
    let nothing : List X = [] in
    let none_taken : take {A = X} n nothing ≡ nothing = take_all n nothing (omega arith) in
    let all_up : both ≡ replicate n up = are_both ∙ ap₂ (λ xs k. take n xs ++ replicate k up) none left ∙ ap (λ xs. xs ++ replicate n up) none_taken in
    ap (map now) (are_all ∙ ap₂ (λ xs ys. xs ++ ys) all_up (take_all (length path - shared) (drop shared path) few))
    ∙ map-append now (replicate n up) (drop shared path) ∙ ap (λ us. us ++ map now (drop shared path)) (all_upward now n up is_up)

pub returns : goal.returns
returns c =
    let n = length c.args.folder.now - c.shared_len-shared.result in
    filled (λ x. x.now) c.args.path.now c.new-way.result.items c.resize.new.self.items c.extend_from_slice.new.self.items n _ c.shared_len-shared.result _ refl
    c.new-way.ensures.items c.new-way.ensures.len c.in_ok-resize.ensures.items c.in_ok-extend_from_slice.ensures.items
    ∙ sym c.shared_len-shared.ensures.way
