use Rattle.std.proofs.Common.{sym, ◌∙◌}
use Rattle.std.proofs.lemmas.Iterator.{YieldsList-from_slice}
use Rattle.std.proofs.lemmas.Iterator.Adapters.{option_map_id}
use Rattle.std.proofs.lemmas.Iterator.Consumers.{YieldsList-from_copied, max_from_yields_List}
use Rattle.meson_places.proofs.colon.last_end.Goals as goal

pub returns : goal.returns
returns c = sym (option_map_id c.max.result) ∙ max_from_yields_List c.copied.result c.max.result c.max.ensures.ran (YieldsList-from_copied (YieldsList-from_slice c.args.ends.now cc))
