use Rattle.std.proofs.Common.{◌++◌, append-nil, sym, ap, ◌∙◌}
use Rattle.meson_lex.proofs.ScanLexed.{scan_only}
use Rattle.meson_places.specs.Equality.{tokens, tokens_in}
use Rattle.meson_places.proofs.equality.tokens.Goals as goal

pub returns : goal.returns
unfolding tokens
returns c =
    let text = c.args.text.now in
    let all = c.loop-item.all.items in
    sym (append-nil all) ∙ ap (λ rs. all ++ tokens_in text rs) (sym c.in-None.ensures.steps.0) ∙ c.loop-item.invariant
    ∙ ap (tokens_in text) (c.into_iter-item-iterator.ensures.into_iter_gives ∙ scan_only 0 text c.items-item-items.result c.items-item-items.ensures.lexed)
