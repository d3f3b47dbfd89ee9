use Rattle.std.proofs.Common.{◌≡◌, ℕ, suc, List, [], ◌∷◌, length, true, refl, sym, ap, ◌∙◌, arith}
use Rattle.std.specs.Prelude.{is_some, nat_lt}
use Rattle.std.proofs.lemmas.Bool.Decides.{nat_tests}
use Rattle.meson_calls.specs.Calls.{first_of, keyword, value_with_name}
use Rattle.meson_calls.specs.ChosenNotes.{call_with}
use Rattle.meson_calls.specs.NamedArguments.{kept_args, kwargs_key}
use Rattle.meson_calls.proofs.Listed.{list_is}
use Rattle.meson_details.proofs.showing.is_hidden.Goals as goal

positive : (n : ℕ) → nat_lt 0 (suc n) ≡ true
positive n = grind (arith, nat_tests)

any_first : {X : Type 0} (xs : List X) → nat_lt 0 (length xs) ≡ is_some (first_of xs)
any_first [] = refl
any_first (x ∷ xs) = positive (length xs)

pub returns : goal.returns
returns c = λ function.
    let source = c.args.source.now in
    let count = c.count_named.ensures ∙ ap (λ k. length (kept_args source (value_with_name k) 0 c.get.result.now)) c.as_slice.ensures ∙ ap (λ xs. length (kept_args source (value_with_name kwargs_key) 0 xs)) c.get.ensures in
    ap (nat_lt 0) count ∙ any_first (kept_args source (value_with_name kwargs_key) 0 c.args.arguments.now.items)
    ∙ ap (λ m. is_some (first_of (keyword kwargs_key (call_with function m)))) (sym (list_is source c.args.arguments.now))
