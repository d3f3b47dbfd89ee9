-- Which places have an assigned value, by the trees of the code.
use Rattle.std.proofs.Common.{◌≡◌, ◌<◌, ◌≤◌, List, length, get_or, Option, Some, None, refl, sym, ap}
use Rattle.std.specs.Prelude.{false, is_some, option_map, option_and_then}
use Rattle.meson_splice.specs.declared.file_set.File.{File}
use Rattle.meson_splice.specs.Files.{bytes_at}
use Rattle.meson_syntax.specs.declared.tree.Parsed.{Parsed}
use Rattle.meson_syntax.specs.View.{view}
use Rattle.meson_edit.specs.Assigned.{assigned_at}
use Rattle.meson_calls.specs.declared.call.CallRef.{CallRef}
use Rattle.meson_calls.specs.Loading.{named_trees, views}
use Rattle.meson_calls.proofs.Standing.{nth_past, nth_there}
use Rattle.meson_places.specs.AssignedValues.{above, is_assigned}

pub some_mapped : {A B : Type 0} (f : A → B) (o : Option A) → is_some (option_map f o) ≡ is_some o
some_mapped f None = refl
some_mapped f (Some x) = refl

module _ (files : List File) (trees : List Parsed) (c : CallRef) where
  pub not_past : length trees ≤ c.file → false ≡ is_assigned (named_trees files (views files trees)) c
  not_past past = sym (ap (λ f. is_some (option_and_then (λ g. assigned_at g.tree (above c.path.steps)) f)) (nth_past files trees c.file past))

  pub assigned_there : (d : Parsed) → length trees ≡ length files → c.file < length trees
      → is_some (assigned_at (view (bytes_at c.file files) (get_or trees c.file d)) (above c.path.steps)) ≡ is_assigned (named_trees files (views files trees)) c
  assigned_there d many within =
      sym (ap (λ f. is_some (option_and_then (λ g. assigned_at g.tree (above c.path.steps)) f)) (nth_there files trees c.file d many within))
