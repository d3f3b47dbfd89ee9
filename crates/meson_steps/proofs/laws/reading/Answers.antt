use Rattle.meson_steps.proofs.ReadAgain.{lists-are-read-again}
use Rattle.meson_steps.proofs.laws.reading.Goals as goal

pub returns : goal.returns
returns c = record { lists_are_read_again = lists-are-read-again }
