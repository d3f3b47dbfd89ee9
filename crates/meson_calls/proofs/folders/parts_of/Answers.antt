use Rattle.std.proofs.Common.{rules, ◌∙◌, lit<, sym, ap}
use Rattle.std.specs.Prelude.{filter}
use Rattle.std.proofs.lemmas.Iterator.Consumers.{YieldsList-at, YieldsList-from_filter, map_from_collect}
use Rattle.std.proofs.lemmas.Iterator.Splits.{YieldsList-from_str_split}
use Rattle.std.proofs.lemmas.Result.{IfOk-weaker}
use Rattle.meson_calls.specs.Entering.{names_folder}
use Rattle.meson_calls.proofs.PlainFolders.{slash_parts-are}
use Rattle.meson_calls.proofs.folders.parts_of.Goals as goal

pub returns : goal.returns
returns c =
    let folder = c.args.folder.now in
    IfOk-weaker c.collect.result _ _ (λ parts are. are ∙ ap (filter names_folder) (sym (slash_parts-are folder)))
    (map_from_collect _ c.collect.ensures.ran
    (YieldsList-from_filter _ names_folder
    (YieldsList-at c.filter.ensures.source (YieldsList-from_str_split 47 folder (lit< tt) c.split.ensures.text c.split.ensures.has_more c.split.ensures.pattern))
    c.filter.ensures.closure (λ x r q k. search rules)))
