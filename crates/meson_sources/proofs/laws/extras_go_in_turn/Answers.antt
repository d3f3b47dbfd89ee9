use Rattle.meson_sources.proofs.laws.extras_go_in_turn.Goals as goal
use Rattle.meson_sources.proofs.gone.InTurn.{extras-go-in-turn}

pub returns : goal.returns
returns c = extras-go-in-turn
