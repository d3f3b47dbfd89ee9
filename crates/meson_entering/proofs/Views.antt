-- What the code's expressions stand for, by their kind.
use Rattle.std.proofs.Common.{rules, ◌≡◌, ℕ, List}
use Rattle.meson_lex.specs.declared.kinds.Span.{Span}
use Rattle.meson_syntax.specs.declared.tree.Arg.TheFolds.{the_lemmas}
use Rattle.meson_syntax.specs.declared.tree.Expr.TheVariants as expr
use Rattle.meson_syntax.specs.declared.tree.Expr.{Expr}
use Rattle.meson_syntax.specs.declared.tree.List as rust
use Rattle.meson_syntax.specs.Tree.{dictionary, paren}
use Rattle.meson_syntax.specs.View.{expr_view, list_view}

module _ (source : List ℕ) where
  pub paren_is : (s : Span) (e : Expr) → expr_view source (expr.Paren s e) ≡ paren s (expr_view source e)
  paren_is s e = search (rules, the_lemmas)

  pub dictionary_is : (l : rust.List) → expr_view source (expr.Dictionary l) ≡ dictionary (list_view source l)
  dictionary_is l = search (rules, the_lemmas)
