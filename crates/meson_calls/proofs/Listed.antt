-- The view of a list, by its elements.
use Rattle.meson_calls.proofs.Words.{rules, ◌≡◌, ℕ, List, listing, arguments_of, args_view, list_view}
use Rattle.meson_syntax.specs.declared.tree.Arg.TheFolds.{the_lemmas}
use Rattle.meson_syntax.specs.declared.tree.List as rust

module _ (source : List ℕ) where
  pub list_is : (l : rust.List) → list_view source l ≡ listing (rust.out-List l).span (rust.out-List l).trailing (arguments_of (args_view source (rust.out-List l).items))
  list_is l = search (rules, the_lemmas)
