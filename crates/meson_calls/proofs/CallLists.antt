-- The arguments of a call that stands in trees, as the code has them at its place.
use Rattle.meson_calls.proofs.Words.{option_map, option_and_then, ◌≡◌, ◌<◌, List, length, get_or, Some, sym, ap, ◌∙◌, subst, bytes_at, Span, ListAt, list_at}
use Rattle.meson_calls.proofs.Words.{view, Parsed, CallIn, named_trees, views, Project, BuildFile, nth_file, CallRef}
use Rattle.meson_calls.proofs.CallsAt.{some_within}
use Rattle.meson_calls.proofs.Loads.{as_many}
use Rattle.meson_calls.proofs.Standing.{nth_there}

module _ (trees : List Parsed) (place : CallRef) (c : CallIn trees place) where
  abbrev p : Project Span
  p = named_trees c.files (views c.files trees)

  in_file : nth_file p place.file ≡ Some c.there.there.file
  in_file = subst (λ k. nth_file p k.file ≡ Some c.there.there.file) c.is_place c.there.there.is_file

  pub inside : place.file < length trees
  inside = some_within c.files trees place.file c.there.there.file in_file

  at_place : list_at c.there.there.file.tree place.path.steps ≡ Some c.there.there.list
  at_place = subst (λ k. list_at c.there.there.file.tree k.path.steps ≡ Some c.there.there.list) c.is_place c.there.there.is_list

  pub list_is : (d : Parsed) → option_map (λ (q : ListAt Span). q.list) (list_at (view (bytes_at place.file c.files) (get_or trees place.file d)) place.path.steps) ≡ Some c.call.it.arguments
  list_is d =
      sym (ap (λ o. option_map (λ (q : ListAt Span). q.list) (option_and_then (λ (g : BuildFile Span). list_at g.tree place.path.steps) o)) (nth_there c.files trees place.file d (as_many c.files trees c.parsed) inside))
      ∙ ap (λ o. option_map (λ (q : ListAt Span). q.list) (option_and_then (λ (g : BuildFile Span). list_at g.tree place.path.steps) o)) in_file
      ∙ ap (option_map (λ (q : ListAt Span). q.list)) at_place
      ∙ ap Some c.there.is_list
