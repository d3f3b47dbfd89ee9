-- The notes of arguments, one after another, and that their values are texts.
use Rattle.std.proofs.Common.{rules, ◌≡◌, ℕ, zero, suc, ◌+◌, ◌<◌, List, [], ◌∷◌, ◌++◌, length, drop, get_or, Option, Some, None, sym, ap, ◌∙◌, subst, arith, append_assoc}
use Rattle.std.specs.Prelude.{Bool, if◌then◌else◌}
use Rattle.std.specs.List.{filter_map, cons_option}
use Rattle.std.proofs.lemmas.List.{at_drop_more}
use Rattle.meson_lex.specs.declared.kinds.Span.{Span}
use Rattle.meson_syntax.specs.declared.tree.Arg.{Arg}
use Rattle.meson_syntax.specs.declared.tree.Arg.TheFolds.{the_lemmas}
use Rattle.meson_syntax.specs.declared.tree.List as rust
use Rattle.meson_syntax.specs.Tree.{Argument, arguments_of, listing}
use Rattle.meson_syntax.specs.View.{arg_view, args_view, expr_view, list_view, text_at}
use Rattle.meson_syntax.specs.declared.tree.Arg.TheVariants as arg
use Rattle.meson_syntax.specs.declared.tree.Expr.{Expr}
use Rattle.meson_splice.specs.declared.file_set.File.{File}
use Rattle.meson_splice.specs.Files.{bytes_at}
use Rattle.meson_edit.specs.Standing.{expression_span}
use Rattle.meson_calls.proofs.ArgumentViews.{named_view}
use Rattle.meson_explaining.specs.ArgumentValues.{is_wanted, keyword_note, named_note}
use Rattle.meson_explaining.specs.declared.explanation.Note.{Note}
use Rattle.meson_details.specs.ValueTexts.{ArgsHaveTexts, HasText, ListHasTexts}

module _ {Y : Type 0} (f : Argument Span → Option Y) (source : List ℕ) (args : List Arg) (i : ℕ) (d : Arg) (within : i < length args) where
  here : (o : Option Y) → f (arg_view source (get_or args i d)) ≡ o → filter_map f (args_view source (drop i args)) ≡ cons_option o (filter_map f (args_view source (drop (i + 1) args)))
  here o is = at_drop_more (λ xs. filter_map f (args_view source xs)) args i d within ∙ ap (λ p. cons_option p (filter_map f (args_view source (drop (i + 1) args)))) is

  pub one_kept : (done : List Y) (y : Y) → f (arg_view source (get_or args i d)) ≡ Some y
      → (done ++ y ∷ []) ++ filter_map f (args_view source (drop (i + 1) args)) ≡ done ++ filter_map f (args_view source (drop i args))
  one_kept done y is = append_assoc done (y ∷ []) (filter_map f (args_view source (drop (i + 1) args))) ∙ ap (λ ys. done ++ ys) (sym (here (Some y) is))

  pub none_kept : (done : List Y) → f (arg_view source (get_or args i d)) ≡ None
      → done ++ filter_map f (args_view source (drop (i + 1) args)) ≡ done ++ filter_map f (args_view source (drop i args))
  none_kept done is = ap (λ ys. done ++ ys) (sym (here None is))

-- ---- keyword arguments, of which something is said or not

module _ (files : List File) (file : ℕ) (key : Option (List ℕ)) (s x : Span) (e : Expr) (text : List ℕ) (is : text ≡ text_at (bytes_at file files) x) where
  abbrev noted : Bool → Option Note
  noted b = if b then Some (named_note files file text (expression_span (expr_view (bytes_at file files) e))) else None

  pub keyword_told : (b : Bool) → is_wanted key text ≡ b → noted b ≡ keyword_note files file key (arg_view (bytes_at file files) (arg.Named s x e))
  keyword_told b wanted =
      let source = bytes_at file files in
      let span = expression_span (expr_view source e) in
      sym (ap (keyword_note files file key) (named_view source s x e)
      ∙ ap (λ t. if is_wanted key t then Some (named_note files file t span) else None) (sym is)
      ∙ ap noted wanted)

-- ---- texts

pub args_texts : (source : List ℕ) (l : rust.List) → ListHasTexts source (list_view source l) → ArgsHaveTexts source l.items
args_texts source l texts =
    let is : list_view source l ≡ listing l.span l.trailing (arguments_of (args_view source l.items)) = search (rules, the_lemmas) in
    subst (ListHasTexts source) is texts

pub arg_text : (source : List ℕ) (args : List Arg) (i : ℕ) (d : Arg) → i < length args → ArgsHaveTexts source args → HasText source (arg_view source (get_or args i d))
arg_text source [] i d within texts = absurd (omega (arith, within))
arg_text source (a ∷ args) zero d within texts = texts.0
arg_text source (a ∷ args) (suc i) d within texts = let below : i < length args = omega (arith, within) in arg_text source args i d below texts.1
