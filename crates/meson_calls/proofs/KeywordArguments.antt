-- The arguments of a name, of a call and of the code's list.
use Rattle.meson_calls.proofs.Words.{◌≡◌, ℕ, List, ap, list_view, keyword, value_with_name, call_with, kept_args}
use Rattle.meson_calls.proofs.Listed.{list_is}
use Rattle.meson_syntax.specs.declared.tree.List as rust

module _ (source : List ℕ) (l : rust.List) (function : List ℕ) where
  pub keyword_is : (key : List ℕ) → keyword key (call_with function (list_view source l)) ≡ kept_args source (value_with_name key) 0 (rust.out-List l).items
  keyword_is key = ap (λ x. keyword key (call_with function x)) (list_is source l)
