use Rattle.meson_splice.proofs.Inverses.{inverse-restores, inverse-restores-files}
use Rattle.meson_splice.proofs.laws.inverse_restores.Goals as goal

pub returns : goal.returns
returns c = record { text = inverse-restores; files = inverse-restores-files }
