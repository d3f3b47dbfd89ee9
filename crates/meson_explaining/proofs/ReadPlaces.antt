-- What is said of the expression at a place, by what the trees have there.
use Rattle.std.proofs.Common.{◌≡◌, ◌<◌, ◌≤◌, List, length, get_or, sym, ap, ◌∙◌}
use Rattle.std.specs.Prelude.{Option, None, option_and_then}
use Rattle.meson_lex.specs.declared.kinds.Span.{Span}
use Rattle.meson_splice.specs.declared.file_set.File.{File}
use Rattle.meson_splice.specs.Files.{bytes_at}
use Rattle.meson_syntax.specs.declared.tree.Parsed.{Parsed}
use Rattle.meson_syntax.specs.Paths as paths
use Rattle.meson_syntax.specs.Tree.{Expression}
use Rattle.meson_syntax.specs.View.{view}
use Rattle.meson_calls.specs.declared.call.CallRef.{CallRef}
use Rattle.meson_calls.specs.Loading.{named_trees, views}
use Rattle.meson_calls.specs.Project.{expression_at}
use Rattle.meson_calls.proofs.Standing.{nth_past, nth_there}

module _ {X : Type 0} (told : Option (Expression Span) → X) (files : List File) (trees : List Parsed) (c : CallRef) where
  pub past_all : length trees ≤ c.file → told (expression_at (named_trees files (views files trees)) c) ≡ told None
  past_all past = ap (λ f. told (option_and_then (λ g. paths.expression_on_path g.tree c.path.steps) f)) (nth_past files trees c.file past)

  pub there_is : (d : Parsed) → length trees ≡ length files → c.file < length trees → (o : Option (Expression Span))
      → o ≡ paths.expression_on_path (view (bytes_at c.file files) (get_or trees c.file d)) c.path.steps → told o ≡ told (expression_at (named_trees files (views files trees)) c)
  there_is d many within o is = ap told is ∙ sym (ap (λ f. told (option_and_then (λ g. paths.expression_on_path g.tree c.path.steps) f)) (nth_there files trees c.file d many within))
