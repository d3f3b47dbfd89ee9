use Rattle.meson_calls.proofs.Words.{◌∙◌}
use Rattle.meson_calls.proofs.NamePositions.{position_named}
use Rattle.meson_calls.proofs.searching.position_of_name.Goals as goal

pub returns : goal.returns
returns c = c.find.ensures ∙ position_named c.args.name.now c.args.files.now
