-- Where the list to which sources are added is in order, it still is with them.
use Rattle.std.specs.Prelude.{◌≡◌, ◌≢◌, ℕ, Bool, true, false, All, List, [], drop, count_by, is_some, Some, Ok}
use Rattle.std.specs.List.{AllByRecursion}
use Rattle.std.specs.Str.{IsUtf8}
use Rattle.meson_lex.specs.declared.kinds.Span.{Span}
use Rattle.meson_syntax.specs.Tree.{Argument, Nowhere, Plain}
use Rattle.meson_calls.specs.declared.call.CallName.{CallName}
use Rattle.meson_calls.specs.declared.call.CallRef.{CallRef}
use Rattle.meson_calls.specs.declared.call.Role.TheVariants as role
use Rattle.meson_calls.specs.Calls.{Call}
use Rattle.meson_calls.specs.Finding.{the_call}
use Rattle.meson_calls.specs.Loading.{IsProject, Loaded, project}
use Rattle.meson_calls.specs.Project.{Placed}
use Rattle.meson_variables.specs.TargetSources.{home, source_marks}
use Rattle.meson_steps.specs.declared.order.SortKey.{SortKey}
use Rattle.meson_steps.specs.declared.order.SortKey.TheVariants as key
use Rattle.meson_steps.specs.Order.{begins_dash, is_less, is_order}
use Rattle.meson_steps.specs.OrderedLists.{Ordered, sort_keys}
use Rattle.meson_steps.specs.ResultLimits.{plain_trees}
use Rattle.meson_steps.specs.Steps.{Step, all_stepped}
use Rattle.meson_sources.specs.Effects.{elements_found}
use Rattle.meson_sources.specs.Sorting.{first_sorted, ordered_in, sources_sorted}
use Rattle.meson_sources.specs.SourceEdits.{new_names}

-- at least four, each a text less than the next
abbrev pub are_in_order : List SortKey → Bool
are_in_order keys = is_order (key.Text []) keys

-- A text has a place in a list in order: it does not begin with `-`, no element that counts is the same, and it may be put in front where none is less.
pub record HasPlace (o : Ordered) (name : List ℕ) : Type 0 where
  pub no_dash : begins_dash name ≡ false
  pub is_new : All (λ k. k ≢ key.Text name) o.keys
  pub front : count_by (λ k. is_less k (key.Text name)) o.keys ≡ 0 → is_some o.first ≡ true

-- The elements that count are in order, of the list at a place.
pub record IsInOrder (call list : CallRef) (trees : List Plain) : Type 0 where
  pub elements : List (Argument Nowhere)
  pub are : elements_found list trees ≡ Some elements
  pub in_order : are_in_order (sort_keys (drop (first_sorted call list) elements)) ≡ true

-- the law: a list that is in order before sources are added to it, of which each has a place in it, is in order afterwards
abbrev pub OrderIsKept : Type 0
OrderIsKept = (old : Loaded) → IsProject old → (target : CallName) (c : Placed (Call Span)) → the_call (project old) role.Target target ≡ Ok c
    → (names : List (List ℕ)) → All IsUtf8 names → (steps : List Step) (after : List Plain)
    → sources_sorted old.files (project old) c names ≡ Ok steps → all_stepped steps (plain_trees old) ≡ Some after
    → (list : CallRef) → list ≡ home c.place (source_marks (project old) c) → are_in_order (ordered_in old.files (project old) c.place list).keys ≡ true
    → AllByRecursion (HasPlace (ordered_in old.files (project old) c.place list)) (new_names (source_marks (project old) c) names)
    → IsInOrder c.place list after
