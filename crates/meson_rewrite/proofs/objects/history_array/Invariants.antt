use Rattle.std.proofs.Common.{◌≡◌, ◌++◌, map, reverse}
use Rattle.serde_json.specs.View.{view}
use Rattle.meson_rewrite.specs.Objects.{change_data}
use Rattle.meson_rewrite.proofs.objects.history_array.Given as goal

-- the changes so far, and those that are left
abbrev pub invariant-loop-change : goal.invariant-loop-change
invariant-loop-change l = map view l.list.items ++ map change_data (reverse l.change-iterator.iter.rest.now) ≡ map change_data (reverse l.changes)
