use Rattle.std.proofs.Common.{◌∙◌, ap}
use Rattle.serde_json.specs.Written.{has_float}
use Rattle.meson_rewrite.proofs.PlainObjects.{listed-plain}
use Rattle.meson_rewrite.proofs.listed.listing_text.Goals as goal

pub json_line-requires : goal.json_line-requires
json_line-requires c = ap has_float c.in_ok-listed.ensures ∙ listed-plain c.args.reading c.args.listing.now c.args.session.now
