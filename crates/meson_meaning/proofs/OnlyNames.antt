-- Where literals are removed from lists, nothing else changes.
use Rattle.std.proofs.Common.{◌≡◌, ℕ, List, [], ◌∷◌, sym, ap₂, refl, subst, ◌∙◌}
use Rattle.meson_syntax.specs.Tree.{Nowhere}
use Rattle.meson_calls.specs.Project.{Project}
use Rattle.meson_meaning.specs.Laws.{AreMissing, OnlyNamesGo, bare, names, trees}
use Rattle.meson_meaning.specs.Placing.{with_places}
use Rattle.meson_meaning.specs.Running.{run}
use Rattle.meson_meaning.specs.Spots.{is_spot}
use Rattle.meson_meaning.specs.Without.{project_without}
use Rattle.meson_meaning.proofs.RunsAlong.{are_missing}
use Rattle.meson_meaning.proofs.SpotParts.{all_fit}
use Rattle.meson_meaning.proofs.SpotsLost.{all_lost, names_kept}

same_project : (p q : Project Nowhere) → trees p ≡ trees q → names p ≡ names q → p ≡ q
same_project [] [] same_trees same_names = refl
same_project [] (g ∷ more) same_trees same_names = absurd cc
same_project (f ∷ files) [] same_trees same_names = absurd cc
same_project (f ∷ files) (g ∷ more) same_trees same_names =
    let name : f.name ≡ g.name = cc in
    let tree : f.tree ≡ g.tree = cc in
    let rest_trees : trees files ≡ trees more = cc in
    let rest_names : names files ≡ names more = cc in
    let put : _ = λ (n : List ℕ) (t : _). record { name = n; tree = t } in
    ap₂ (λ h hs. h ∷ hs) (ap₂ put name tree) (same_project files more rest_trees rest_names)

pub only_names_go : OnlyNamesGo
only_names_go before spots literals folders after same_trees same_names ch =
    let gone = is_spot spots in
    let small = project_without bare gone (with_places before) in
    let same : after ≡ small = same_project after small (same_trees ∙ sym (all_lost spots before (all_fit before spots literals))) (same_names ∙ sym (names_kept spots before)) in
    subst (λ p. AreMissing bare gone (run ch (with_places before)) (run ch p)) (sym same) (are_missing bare gone (with_places before) folders ch)
