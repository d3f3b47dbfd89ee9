use Rattle.std.proofs.Common.{◌≡◌, List, drop}
use Rattle.meson_steps.specs.GivenWords.{MayBeGiven}
use Rattle.meson_steps.specs.ListSteps.{AreBare}
use Rattle.meson_steps.specs.Steps.{Step}
use Rattle.meson_places.specs.AllAssigned.{replace_among, then_more}
use Rattle.meson_places.specs.Names.{loaded_in}
use Rattle.meson_places.specs.Replacements.{exchange}
use Rattle.meson_places.proofs.all_changed.replace_among.Given as goal

abbrev pub invariant-loop-i : goal.invariant-loop-i
invariant-loop-i l = (may : MayBeGiven l.pair.new.now) → let among = replace_among (loaded_in l.fn.sources) l.key (exchange l.pair.old.now l.pair.new.now may) in
    (done : List Step) × AreBare done l.steps.items × (among l.places ≡ then_more done (among (drop l.i l.places)))
