-- The call at a place, by what the trees have there.
use Rattle.std.proofs.Common.{◌≡◌, ◌<◌, ◌≤◌, List, length, get_or, sym, ap, ◌∙◌}
use Rattle.std.specs.Prelude.{Bool, true, false, IsTrue, Option, Some, None, is_some, option_map, option_and_then}
use Rattle.meson_lex.specs.declared.kinds.Span.{Span}
use Rattle.meson_splice.specs.declared.file_set.File.{File}
use Rattle.meson_splice.specs.Files.{bytes_at}
use Rattle.meson_syntax.specs.declared.tree.Parsed.{Parsed}
use Rattle.meson_syntax.specs.Paths as paths
use Rattle.meson_syntax.specs.Tree.{Expression}
use Rattle.meson_syntax.specs.View.{view}
use Rattle.meson_calls.specs.declared.call.CallRef.{CallRef}
use Rattle.meson_calls.specs.Calls.{Call, call_of}
use Rattle.meson_calls.specs.Loading.{named_trees, views}
use Rattle.meson_calls.specs.Project.{Project, Placed, placed, expression_at}
use Rattle.meson_details.specs.Details.{is_call}
use Rattle.meson_calls.proofs.Standing.{nth_past, nth_there}

pub contrary : (b : Bool) → b ≡ false → IsTrue b → ⊥
contrary true is there = absurd cc
contrary false is there = absurd cc

abbrev called_by : CallRef → Option (Expression Span) → Option (Placed (Call Span))
called_by c o = option_map (placed c) (option_and_then call_of o)

-- no call where no expression is one
no_call : (c : CallRef) (o : Option (Expression Span)) → option_and_then call_of o ≡ None → is_some (called_by c o) ≡ false
no_call c o none = ap (λ k. is_some (option_map (placed c) k)) none

module _ (files : List File) (trees : List Parsed) (c : CallRef) where
  abbrev p : Project Span
  p = named_trees files (views files trees)

  pub past_files : length trees ≤ c.file → is_call p c ≡ false
  past_files past = ap (λ f. is_some (called_by c (option_and_then (λ g. paths.expression_on_path g.tree c.path.steps) f))) (nth_past files trees c.file past)

  module _ (d : Parsed) (many : length trees ≡ length files) (within : c.file < length trees) where
    pub stands : expression_at p c ≡ paths.expression_on_path (view (bytes_at c.file files) (get_or trees c.file d)) c.path.steps
    stands = ap (λ f. option_and_then (λ g. paths.expression_on_path g.tree c.path.steps) f) (nth_there files trees c.file d many within)

    pub no_expression : None ≡ paths.expression_on_path (view (bytes_at c.file files) (get_or trees c.file d)) c.path.steps → is_call p c ≡ false
    no_expression none = no_call c (expression_at p c) (ap (option_and_then call_of) (stands ∙ sym none))

    pub other_expression : (e : Expression Span) → Some e ≡ paths.expression_on_path (view (bytes_at c.file files) (get_or trees c.file d)) c.path.steps → call_of e ≡ None → is_call p c ≡ false
    other_expression e is other = no_call c (expression_at p c) (ap (option_and_then call_of) (stands ∙ sym is) ∙ other)
