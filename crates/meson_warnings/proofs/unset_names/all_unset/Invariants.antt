use Rattle.std.proofs.Common.{◌≡◌, ◌++◌, drop, map}
use Rattle.std.specs.Prelude.{flat_map}
use Rattle.meson_calls.specs.Notes.{note_views}
use Rattle.meson_warnings.specs.UnsetNames.{unset_note}
use Rattle.meson_warnings.proofs.unset_names.all_unset.Given as goal

abbrev pub invariant-loop-i : goal.invariant-loop-i
invariant-loop-i l =
    let unset = unset_note l.written.named.now l.written.setters.now (note_views l.written.parts.now) in
    l.notes.items ++ flat_map unset (map (λ x. x.now) (drop l.i l.names)) ≡ flat_map unset (map (λ x. x.now) l.names)
