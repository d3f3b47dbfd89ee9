use Rattle.meson_steps.proofs.Words.{◌∙◌, ap, list_at, view}
use Rattle.meson_steps.proofs.journal.put_in.Goals as goal

pub returns-clause-gives : goal.returns-clause-gives
returns-clause-gives c = λ source r is. c.put_list.ensures.gives source r (ap (λ t. list_at (view source t) c.args.path.now.steps) c.shift.ensures ∙ is)
