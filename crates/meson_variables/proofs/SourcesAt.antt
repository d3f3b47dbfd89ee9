-- The sources of the call at a place.
use Rattle.meson_variables.proofs.Words.{◌≡◌, ◌≢◌, ℕ, ◌<◌, List, length, get_or, refl, sym, ap, ◌∙◌, Option, Some, None, option_map, option_and_then, false}
use Rattle.meson_variables.proofs.Words.{Result, Ok, Err, IfOk, IfErr, bytes_at, File, Span, Expression, Listing, view, Parsed, Call, call_of, call_with}
use Rattle.meson_variables.proofs.Words.{is_role_call, named_trees, views, Project, placed, CallRef, OutOfMemory, nth_there, sources, sources_of_call}
use Rattle.meson_calls.specs.declared.refusal.Refusal.{Refusal}
use Rattle.meson_syntax.specs.Tree as tree
use Rattle.meson_syntax.specs.Paths as paths
use Rattle.meson_variables.specs.declared.source.Sources as found
use Rattle.meson_calls.specs.declared.call.Role.TheVariants as role

-- ---- places

module _ (files : List File) (trees : List Parsed) (c : CallRef) (d : Parsed) (many : length trees ≡ length files) (within : c.file < length trees) where
  abbrev pub the_project : Project Span
  the_project = named_trees files (views files trees)

  abbrev pub the_tree : tree.File Span
  the_tree = view (bytes_at c.file files) (get_or trees c.file d)

  by_listing : (r : Result found.Sources Refusal) (k : Option (Call Span)) (l : Listing Span) → Some l ≡ option_map (λ j. j.arguments) k → ((function : List ℕ) → sources_of_call the_project (placed c (call_with function l)) ≡ r) →
      option_map (sources_of_call the_project) (option_map (placed c) k) ≡ Some r
  by_listing r None l is so = cc
  by_listing r (Some k) l is so = let same : l ≡ k.arguments = cc in ap Some (ap (λ m. sources_of_call the_project (placed c (call_with k.function m))) (sym same) ∙ so k.function)

  pub sources_are : (e : Expression Span) (l : Listing Span) (r : Result found.Sources Refusal) → Some e ≡ paths.expression_on_path the_tree c.path.steps → Some l ≡ option_map (λ k. k.arguments) (call_of e) →
      ((function : List ℕ) → sources_of_call the_project (placed c (call_with function l)) ≡ r) → sources the_project c ≡ Some r
  sources_are e l r is is_call so =
      ap (λ f. option_map (sources_of_call the_project) (option_map (placed c) (option_and_then call_of (option_and_then (λ g. paths.expression_on_path g.tree c.path.steps) f)))) (nth_there files trees c.file d many within)
      ∙ ap (λ o. option_map (sources_of_call the_project) (option_map (placed c) (option_and_then call_of o))) (sym is)
      ∙ by_listing r (call_of e) l is_call so

  module _ (e : Expression Span) (l : Listing Span) (is : Some e ≡ paths.expression_on_path the_tree c.path.steps) (is_call : Some l ≡ option_map (λ k. k.arguments) (call_of e)) where
    pub sources_found : (r : Result found.Sources Refusal) → ((function : List ℕ) → IfOk r (λ s. sources_of_call the_project (placed c (call_with function l)) ≡ Ok s)) → IfOk r (λ s. sources the_project c ≡ Some (Ok s))
    sources_found (Ok s) so = sources_are e l (Ok s) is is_call so
    sources_found (Err x) so = tt

    pub sources_refused : (r : Result found.Sources Refusal) → ((function : List ℕ) → IfErr r (λ x. x ≢ OutOfMemory → sources_of_call the_project (placed c (call_with function l)) ≡ Err x)) →
        IfErr r (λ x. x ≢ OutOfMemory → sources the_project c ≡ Some (Err x))
    sources_refused (Ok s) so = tt
    sources_refused (Err x) so = λ other. sources_are e l (Err x) is is_call (λ f. so f other)

pub no_call : (o : Option (Call Span)) → None ≡ option_map (λ k. k.arguments) o → is_role_call role.Target o ≡ false
no_call None is = refl
no_call (Some k) is = cc
