use Rattle.meson_sources.proofs.laws.sources_go_in_turn.Goals as goal
use Rattle.meson_sources.proofs.gone.InTurn.{sources-go-in-turn}

pub returns : goal.returns
returns c = sources-go-in-turn
