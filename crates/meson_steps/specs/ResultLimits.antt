-- What is checked of the result of steps.
use Rattle.std.specs.Prelude.{◌≤◌, ℕ, ◌-◌, ◌^◌, min, List, map, All, length}
use Rattle.meson_splice.specs.declared.file_set.File.{File}
use Rattle.meson_syntax.specs.Tree.{Plain, erase}
use Rattle.meson_syntax.specs.Grammar.{file_depth}
use Rattle.meson_syntax.specs.Reads.{max_len, max_depth}
use Rattle.meson_calls.specs.Loading.{Loaded, trees}

abbrev pub plain_trees : Loaded → List Plain
plain_trees l = map erase (trees l)

-- ---- the limits, which are checked of the result

abbrev pub AreShallow : List Plain → Type 0
AreShallow ts = All (λ t. file_depth t ≤ max_depth) ts

abbrev pub AreSmall : List File → Type 0
AreSmall files = All (λ f. length f.bytes ≤ max_len) files

-- the greatest number that a count reaches
abbrev pub saturated : ℕ → ℕ
saturated n = min n (2 ^ 64 - 1)
