use Rattle.std.proofs.Common.{◌≡◌, ℕ, List, ◌++◌, drop, map}
use Rattle.std.specs.Prelude.{flat_map}
use Rattle.meson_calls.specs.Notes.{note_views}
use Rattle.meson_warnings.specs.LeftVariables.{left_of}
use Rattle.meson_warnings.specs.Reads.{reads}
use Rattle.meson_warnings.proofs.left_variables.left_among.Given as goal

abbrev pub invariant-loop-i : goal.invariant-loop-i
invariant-loop-i l =
    let left = λ (x : List ℕ). left_of l.removed.named.now l.removed.readers.now (note_views l.removed.parts.now) x (reads l.project x) in
    l.notes.items ++ flat_map left (map (λ x. x.now) (drop l.i l.names)) ≡ flat_map left (map (λ x. x.now) l.names)
