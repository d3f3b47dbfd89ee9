-- Keyword arguments whose values have a text in the source that is UTF-8.
use Rattle.std.specs.Prelude.{ℕ, List, ⊤}
use Rattle.std.specs.Str.{IsUtf8}
use Rattle.meson_lex.specs.declared.kinds.Span.{Span}
use Rattle.meson_syntax.specs.declared.tree.Arg.{Arg}
use Rattle.meson_syntax.specs.Tree.{Listing, listing, Argument, plain, named, pair, Arguments, no_arguments, argument, arguments_of}
use Rattle.meson_syntax.specs.View.{args_view}
use Rattle.meson_details.specs.Details.{source_text}

abbrev pub HasText : List ℕ → Argument Span → Type 0
HasText source (plain e) = ⊤
HasText source (named s x e) = IsUtf8 (source_text source e)
HasText source (pair s e f) = ⊤

abbrev pub HaveTexts : List ℕ → Arguments Span → Type 0
HaveTexts source no_arguments = ⊤
HaveTexts source (argument a more) = HasText source a × HaveTexts source more

abbrev pub ListHasTexts : List ℕ → Listing Span → Type 0
ListHasTexts source (listing s trailing list) = HaveTexts source list

abbrev pub ArgsHaveTexts : List ℕ → List Arg → Type 0
ArgsHaveTexts source args = HaveTexts source (arguments_of (args_view source args))
