-- The file and the call at a place.
use Rattle.meson_calls.proofs.Words.{false, option_and_then, ◌≡◌, ℕ, zero, suc, ◌<◌, ◌≤◌, List, [], ◌∷◌, length, get_or, refl, sym, ap, ◌∙◌, arith, Option}
use Rattle.meson_calls.proofs.Words.{Some, None, bytes_at, File, Span, Expression, view, Parsed, Call, call_of, is_role_call, name_of_file, named_trees, views}
use Rattle.meson_calls.proofs.Words.{Project, nth_file, has_role, is_target_call, is_target, CallRef}
use Rattle.meson_syntax.specs.Paths as paths
use Rattle.meson_calls.specs.declared.call.Role.TheVariants as role

pub nth_there : (files : List File) (trees : List Parsed) (i : ℕ) (d : Parsed) → length trees ≡ length files → i < length trees →
    nth_file (named_trees files (views files trees)) i ≡ Some (record { name = name_of_file i files; tree = view (bytes_at i files) (get_or trees i d) })
nth_there files [] i d many within = absurd (omega arith)
nth_there [] (t ∷ trees) i d many within = absurd (omega (arith, many))
nth_there (f ∷ files) (t ∷ trees) zero d many within = refl
nth_there (f ∷ files) (t ∷ trees) (suc i) d many within =
    let alike : length trees ≡ length files = omega (arith, many) in
    let below : i < length trees = omega (arith, within) in
    nth_there files trees i d alike below

pub nth_past : (files : List File) (trees : List Parsed) (i : ℕ) → length trees ≤ i → nth_file (named_trees files (views files trees)) i ≡ None
nth_past [] trees i past = refl
nth_past (f ∷ files) [] i past = refl
nth_past (f ∷ files) (t ∷ trees) zero past = absurd (omega (arith, past))
nth_past (f ∷ files) (t ∷ trees) (suc i) past = let below : length trees ≤ i = omega (arith, past) in nth_past files trees i below

by_call : (c : Option (Call Span)) → is_role_call role.Target c ≡ elim c [ None ↦ false | Some d ↦ has_role role.Target d ]
by_call None = refl
by_call (Some c) = refl

module _ (files : List File) (trees : List Parsed) (c : CallRef) where
  abbrev p : Project Span
  p = named_trees files (views files trees)

  pub no_file : length trees ≤ c.file → false ≡ is_target p c
  no_file past = sym (ap (λ f. is_target_call (option_and_then (λ g. paths.expression_on_path g.tree c.path.steps) f)) (nth_past files trees c.file past))

  module _ (d : Parsed) (many : length trees ≡ length files) (within : c.file < length trees) where
    found : (o : Option (Expression Span)) → o ≡ paths.expression_on_path (view (bytes_at c.file files) (get_or trees c.file d)) c.path.steps → is_target_call o ≡ is_target p c
    found o is = ap is_target_call is ∙ sym (ap (λ f. is_target_call (option_and_then (λ g. paths.expression_on_path g.tree c.path.steps) f)) (nth_there files trees c.file d many within))

    pub no_expression : None ≡ paths.expression_on_path (view (bytes_at c.file files) (get_or trees c.file d)) c.path.steps → false ≡ is_target p c
    no_expression is = found None is

    pub an_expression : (e : Expression Span) → Some e ≡ paths.expression_on_path (view (bytes_at c.file files) (get_or trees c.file d)) c.path.steps → is_role_call role.Target (call_of e) ≡ is_target p c
    an_expression e is = by_call (call_of e) ∙ found (Some e) is
