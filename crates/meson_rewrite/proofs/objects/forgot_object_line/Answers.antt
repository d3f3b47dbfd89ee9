use Rattle.std.proofs.Common.{◌∙◌, ap}
use Rattle.serde_json.specs.View.{view}
use Rattle.serde_json.specs.Written.{has_float}
use Rattle.meson_rewrite.proofs.PlainObjects.{forgot-plain}
use Rattle.meson_rewrite.proofs.objects.forgot_object_line.Goals as goal

pub json_line-requires : goal.json_line-requires
json_line-requires c = ap has_float c.in_ok-forgot.ensures ∙ forgot-plain (view c.args.which) c.requires
