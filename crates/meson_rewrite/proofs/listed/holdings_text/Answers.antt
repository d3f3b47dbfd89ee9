use Rattle.std.proofs.Common.{◌∙◌, ap}
use Rattle.serde_json.specs.Written.{has_float}
use Rattle.meson_rewrite.proofs.Listings.{project-plain}
use Rattle.meson_rewrite.proofs.listed.holdings_text.Goals as goal

pub json_line-requires : goal.json_line-requires
json_line-requires c = ap has_float c.in_ok-listing.ensures ∙ project-plain c.args.reading c.args.project.now
