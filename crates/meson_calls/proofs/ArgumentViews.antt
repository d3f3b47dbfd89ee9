-- Arguments of the code and what they stand for.
use Rattle.meson_calls.proofs.Words.{rules, ◌≡◌, ℕ, zero, suc, ◌<◌, ◌≤◌, List, [], ◌∷◌, length, get_or, Some, None, refl, arith, Span, nth, plain, named, pair}
use Rattle.meson_calls.proofs.Words.{arg_view, args_view, expr_view, name_at, Arg, Expr}
use Rattle.meson_syntax.specs.declared.tree.Arg.TheVariants as arg
use Rattle.meson_syntax.specs.declared.tree.Arg.TheFolds.{the_lemmas}

pub plain_view : (source : List ℕ) (e : Expr) → arg_view source (arg.Plain e) ≡ plain (expr_view source e)
plain_view source e = search (rules, the_lemmas)

pub named_view : (source : List ℕ) (s x : Span) (e : Expr) → arg_view source (arg.Named s x e) ≡ named s (name_at source x) (expr_view source e)
named_view source s x e = search (rules, the_lemmas)

pub pair_view : (source : List ℕ) (s : Span) (k v : Expr) → arg_view source (arg.Pair s k v) ≡ pair s (expr_view source k) (expr_view source v)
pair_view source s k v = search (rules, the_lemmas)

pub nth_there : (source : List ℕ) (args : List Arg) (n : ℕ) (d : Arg) → n < length args → nth (args_view source args) n ≡ Some (arg_view source (get_or args n d))
nth_there source [] n d within = absurd (omega (arith, within))
nth_there source (a ∷ args) zero d within = refl
nth_there source (a ∷ args) (suc n) d within = let below : n < length args = omega (arith, within) in nth_there source args n d below

pub nth_past : (source : List ℕ) (args : List Arg) (n : ℕ) → length args ≤ n → nth (args_view source args) n ≡ None
nth_past source [] n past = refl
nth_past source (a ∷ args) zero past = absurd (omega (arith, past))
nth_past source (a ∷ args) (suc n) past = let below : length args ≤ n = omega (arith, past) in nth_past source args n below
