use Rattle.std.proofs.Common.{◌≡◌, ℕ, suc, true, false, List, [], ◌∷◌, ◌++◌, length, codes, refl, arith}
use Rattle.std.specs.Prelude.{◌==◌}
use Rattle.std.proofs.lemmas.Bool.Decides.{nat_tests}
use Rattle.meson_rewrite.specs.Changes.{title_part}

no-title : (title : List ℕ) → (length title == 0) ≡ true → [] ≡ title_part title
no-title [] e = refl
no-title (b ∷ title) e = absurd (let zero : suc (length title) ≡ 0 = grind (arith, nat_tests) in omega (arith, zero))

titled : (title : List ℕ) → (length title == 0) ≡ false → codes ", title: " ++ title ≡ title_part title
titled [] e = absurd (let no : ⊥ = cc in no)
titled (b ∷ title) e = refl
