use Rattle.meson_targets.proofs.Words.{◌∙◌, sym, ap, [], ◌∷◌, ◌++◌, goes_through}
use Rattle.meson_targets.proofs.Throughs.{too_short}
use Rattle.meson_targets.proofs.uses.StatementPlace.is_on.Goals as goal

pub returns-then-path-block : goal.returns-then-path-block
returns-then-path-block c =
    let n = c.args.self.now.number in
    sym (ap (λ b. goes_through (b ++ n ∷ []) c.args.path.now) (sym c.get-block.ensures) ∙ too_short c.get-block.result.now n c.args.path.now c.if-path-block.true)
