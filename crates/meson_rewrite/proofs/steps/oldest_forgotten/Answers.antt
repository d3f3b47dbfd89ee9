use Rattle.std.proofs.Common.{None, ap, refl, ◌∙◌}
use Rattle.meson_script.proofs.TextFacts.{forgets-text}
use Rattle.meson_rewrite.specs.declared.advice.Advice.TheVariants.{Nothing}
use Rattle.meson_rewrite.specs.declared.stop.Stop.TheVariants.{Splice}
use Rattle.meson_rewrite.proofs.steps.oldest_forgotten.Goals as goal

pub returns-in-Ok-clause-does : goal.returns-in-Ok-clause-does
returns-in-Ok-clause-does c = (c.in-Ok.ensures.done, record { project = refl; info = c.nothing_done.ensures })

pub returns-in-Ok-clause-text : goal.returns-in-Ok-clause-text
returns-in-Ok-clause-text c = forgets-text c.args.count c.args.session.now.history c.forget_oldest.new.self c.in-Ok.ensures.done

pub returns-in-Err-clause-refused : goal.returns-in-Err-clause-refused
returns-in-Err-clause-refused c = (c.in-Err.ensures.refused.1, c.from.ensures ∙ ap (λ f. Splice f None Nothing) c.in-Err.ensures.refused.0)
