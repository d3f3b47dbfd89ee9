use Rattle.meson_language_cases.proofs.Borders.{walked-span}
use Rattle.meson_language_cases.proofs.readiness.has_span.Goals as goal

pub returns : goal.returns
returns c = walked-span c.args.source.now c.items-item-items.result c.into_iter-item-iterator.result c.loop-item.item-iterator c.items-item-items.ensures.lexed c.into_iter-item-iterator.ensures.into_iter_gives c.in-None.ensures.steps.0 c.loop-item.invariant.clean c.args.span c.loop-item.begins c.loop-item.ends c.if-not-begins.false c.if-not-ends.false c.loop-item.invariant.begins c.loop-item.invariant.ends
