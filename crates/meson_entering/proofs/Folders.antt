-- The folders that an argument may mean, by its kind.
use Rattle.std.proofs.Common.{◌≡◌, ℕ, List, [], Option, Some, None, refl, sym, ap, ◌∙◌}
use Rattle.meson_lex.specs.declared.kinds.Span.{Span}
use Rattle.meson_syntax.specs.Tree.{Expression, File, identifier}
use Rattle.meson_calls.specs.declared.call.Reading.{Reading}
use Rattle.meson_calls.specs.declared.call.Reading.TheVariants.{Written, Followed}
use Rattle.meson_entering.specs.Entering.{folders_of}
use Rattle.meson_entering.specs.Loops.{loop_texts}

module _ (reading : Reading) (tree : File Span) (path : List ℕ) (o : Option (Expression Span)) where
  none_of : (r : Reading) → folders_of r tree path None ≡ []
  none_of Written = refl
  none_of Followed = refl

  pub no_argument : o ≡ None → [] ≡ folders_of reading tree path o
  no_argument is = sym (ap (folders_of reading tree path) is ∙ none_of reading)

  pub by_name : (s : Span) (x : List ℕ) → reading ≡ Followed → o ≡ Some (identifier s x) → loop_texts tree x path ≡ folders_of reading tree path o
  by_name s x is argument = sym (ap (λ r. folders_of r tree path o) is ∙ ap (folders_of Followed tree path) argument)

pub by_reading : {reading r : Reading} (tree : File Span) (path : List ℕ) {o : Option (Expression Span)} (p : Option (Expression Span)) → reading ≡ r → o ≡ p → folders_of reading tree path o ≡ folders_of r tree path p
by_reading {reading} {r} tree path {o} p is argument = ap (λ q. folders_of q tree path o) is ∙ ap (folders_of r tree path) argument
