-- The elements of a list, by those of the code's.
use Rattle.meson_edit.proofs.Words.{rules, ◌≡◌, ℕ, List, [], ◌∷◌, refl, ap, ◌∙◌, Span, Argument, argument_list, arguments_of, listing, args_view, list_view}
use Rattle.meson_edit.proofs.Words.{elements}
use Rattle.meson_syntax.specs.declared.tree.Arg.TheFolds.{the_lemmas}
use Rattle.meson_syntax.specs.declared.tree.List as rust

listed : (args : List (Argument Span)) → argument_list (arguments_of args) ≡ args
listed [] = refl
listed (a ∷ args) = ap (λ l. a ∷ l) (listed args)

list_is : (source : List ℕ) (l : rust.List) → list_view source l ≡ listing (rust.out-List l).span (rust.out-List l).trailing (arguments_of (args_view source (rust.out-List l).items))
list_is source l = search (rules, the_lemmas)

pub list_elements : (source : List ℕ) (l : rust.List) → elements (list_view source l) ≡ args_view source (rust.out-List l).items
list_elements source l = ap elements (list_is source l) ∙ listed (args_view source (rust.out-List l).items)
