use Rattle.std.proofs.Common.{◌≡◌, ◌++◌, drop, map}
use Rattle.std.specs.Prelude.{filter}
use Rattle.meson_explaining.specs.ArgumentPlaces.{is_setting, setting_note}
use Rattle.meson_explaining.proofs.argument_places.all_settings.Given as goal

abbrev pub invariant-loop-i : goal.invariant-loop-i
invariant-loop-i l =
    let test = is_setting l.only l.variable in
    l.notes.items ++ map setting_note (filter test (drop l.i l.held)) ≡ map setting_note (filter test l.held)
