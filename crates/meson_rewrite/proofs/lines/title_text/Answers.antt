use Rattle.std.proofs.Common.{◌≡◌, ℕ, suc, true, false, List, [], ◌∷◌, ◌++◌, length, codes, refl, arith}
use Rattle.std.specs.Prelude.{◌==◌}
use Rattle.std.proofs.lemmas.Bool.Decides.{nat_tests}
use Rattle.meson_rewrite.specs.Lines.{line, title_line}

no-title : (title : List ℕ) → (length title == 0) ≡ true → [] ≡ title_line title
no-title [] e = refl
no-title (b ∷ title) e = absurd (let zero : suc (length title) ≡ 0 = grind (arith, nat_tests) in omega (arith, zero))

titled : (title : List ℕ) → (length title == 0) ≡ false → line (codes "title: " ++ title) ≡ title_line title
titled [] e = absurd (let no : ⊥ = cc in no)
titled (b ∷ title) e = refl
