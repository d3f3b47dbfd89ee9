use Rattle.meson_steps.proofs.Words.{◌++◌, sym, ap, ◌∙◌, append-nil}
use Rattle.meson_steps.proofs.ReadKinds.{given_kinds, kinds_read}
use Rattle.meson_steps.proofs.code.kinds_of.Goals as goal

pub returns : goal.returns
returns c = λ xs list.
    let kinds = c.loop-item.kinds.items in
    sym (append-nil kinds) ∙ ap (λ rs. kinds ++ given_kinds rs) (sym c.in-None.ensures.steps.0) ∙ c.loop-item.invariant
    ∙ ap given_kinds c.into_iter-item-iterator.ensures.into_iter_gives
    ∙ kinds_read c.args.source.now c.items-item-items.result xs c.items-item-items.ensures.lexed list
