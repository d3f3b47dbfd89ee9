use Rattle.std.proofs.Common.{lit<, sym, ◌∙◌}
use Rattle.std.proofs.lemmas.Iterator.Consumers.{map_from_collect}
use Rattle.std.proofs.lemmas.Iterator.Splits.{YieldsList-from_str_split}
use Rattle.std.proofs.lemmas.Result.{IfOk-weaker}
use Rattle.meson_calls.proofs.PlainFolders.{slash_parts-are}
use Rattle.meson_followed.proofs.paths.parts_of.Goals as goal

pub returns : goal.returns
returns c =
    let text = c.args.text.now in
    IfOk-weaker c.collect.result _ _ (λ parts are. are ∙ sym (slash_parts-are text))
    (map_from_collect _ c.collect.ensures.ran (YieldsList-from_str_split 47 text (lit< tt) c.split.ensures.text c.split.ensures.has_more c.split.ensures.pattern))
