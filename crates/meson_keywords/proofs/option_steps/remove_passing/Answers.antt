use Rattle.meson_keywords.proofs.Words.{◌++◌, map, ap₂, ◌∙◌, Some, bare, removed_from}
use Rattle.meson_keywords.proofs.option_steps.remove_passing.Goals as goal

pub returns : goal.returns
returns c = c.in_ok-remove_all.ensures
    ∙ ap₂ (λ p ns. map Some c.args.steps.now.items ++ map bare (removed_from p 0 ns)) c.in_ok-list.ensures (c.as_slice.ensures.value ∙ c.in_ok-gone.ensures)
