use Rattle.meson_steps.proofs.Words.{rules}
use Rattle.std.proofs.lemmas.Fn.{filter_same}
use Rattle.meson_steps.proofs.layouts.leave_effective.Goals as goal

pub returns : goal.returns
returns c = filter_same _ _ _ (λ x b f k. search rules) _ _ c.retain.ensures.filtered
