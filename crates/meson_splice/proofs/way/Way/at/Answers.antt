use Rattle.std.proofs.Common.{◌∙◌, ◌∷◌, ◌+◌, drop, ap, sym}
use Rattle.meson_splice.specs.Patch.{inverse_of, inverses_of}
use Rattle.meson_splice.proofs.Ways.{backward-at}
use Rattle.meson_splice.proofs.way.Way.at.Goals as goal

pub returns-in-Backward : goal.returns-in-Backward
returns-in-Backward c =
    let splices = c.args.splices.now in
    let it = c.index-splices-splices.result in
    rw c.in-Backward.is (
    backward-at splices c.args.n it c.requires
    ∙ ap (λ s. s ∷ drop (c.args.n + 1) (inverses_of splices)) (ap inverse_of (sym c.index-splices-splices.is) ∙ sym c.backward.ensures))
