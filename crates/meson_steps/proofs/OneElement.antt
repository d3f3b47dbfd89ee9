-- Lists of one element, as the code has them.
use Rattle.meson_steps.proofs.Words.{◌≡◌, ℕ, List, [], ◌∷◌, length, get_or, refl, arith, arg_view, args_view, Arg, is_plain, one_plain}

pub the_one : (source : List ℕ) (args : List Arg) (d : Arg) → length args ≡ 1 → one_plain (args_view source args) ≡ is_plain (arg_view source (get_or args 0 d))
the_one source [] d is = absurd (let no : ⊥ = omega (arith, is) in no)
the_one source (a ∷ []) d is = refl
the_one source (a ∷ b ∷ more) d is = absurd (let no : ⊥ = omega (arith, is) in no)
