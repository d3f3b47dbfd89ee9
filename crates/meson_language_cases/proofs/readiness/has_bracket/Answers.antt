use Rattle.meson_language_cases.proofs.Borders.{walked-bracket}
use Rattle.meson_language_cases.proofs.readiness.has_bracket.Goals as goal

pub returns : goal.returns
returns c = walked-bracket c.args.source.now c.items-item-items.result c.into_iter-item-iterator.result c.loop-item.item-iterator c.items-item-items.ensures.lexed c.into_iter-item-iterator.ensures.into_iter_gives c.in-None.ensures.steps.0 c.loop-item.invariant.clean c.args.at c.loop-item.opens c.loop-item.invariant.opens
