-- What is there after values take the place of the elements of an array.
use Rattle.std.specs.Prelude.{◌≡◌, List, map, Some}
use Rattle.meson_syntax.specs.Paths.{ListAt, list_at, nth, value_of}
use Rattle.meson_syntax.specs.Tree.{Argument, Expression, Nowhere, Plain}
use Rattle.meson_edit.specs.Edits.{with_elements}
use Rattle.meson_calls.specs.declared.call.CallRef.{CallRef}
use Rattle.meson_steps.specs.Steps.{changed_at}

-- The elements of the list there have these values, one each and in this order, and all else in the trees is as it was.
pub record HasValues (list : CallRef) (now : List (Expression Nowhere)) (before after : List Plain) : Type 0 where
  pub tree : Plain
  pub is_tree : nth before list.file ≡ Some tree
  pub place : ListAt Nowhere
  pub is_place : list_at tree list.path.steps ≡ Some place
  pub new : List (Argument Nowhere)
  pub are : map value_of new ≡ map Some now
  pub is_after : changed_at list.file (λ t. Some (place.back (with_elements place.list new))) before ≡ Some after
