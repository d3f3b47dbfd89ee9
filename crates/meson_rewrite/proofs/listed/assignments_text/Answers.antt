use Rattle.std.proofs.Common.{◌∙◌, ap}
use Rattle.serde_json.specs.Written.{has_float}
use Rattle.meson_rewrite.proofs.Listings.{assignments-plain}
use Rattle.meson_rewrite.proofs.listed.assignments_text.Goals as goal

pub json_line-requires : goal.json_line-requires
json_line-requires c = ap has_float c.in_ok-listing.ensures ∙ assignments-plain c.args.project.now
