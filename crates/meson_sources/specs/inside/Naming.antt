-- Names among the items that the code keeps.
use Rattle.std.specs.Prelude.{ℕ, Bool, not, List, bytes_eq}
use Rattle.std.specs.List.{filter, list_any}
use Rattle.meson_variables.specs.declared.source.SourceItem.{SourceItem}
use Rattle.meson_steps.specs.Names.{distinct}

abbrev pub has_value : List ℕ → SourceItem → Bool
has_value name i = bytes_eq i.value name

-- the names that are not among the items
abbrev pub new_among : List SourceItem → List (List ℕ) → List (List ℕ)
new_among items names = filter (λ name. not (list_any (has_value name) items)) (distinct names)
