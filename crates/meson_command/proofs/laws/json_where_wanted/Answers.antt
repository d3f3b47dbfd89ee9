use Rattle.meson_command.proofs.Json.{json-law}
use Rattle.meson_command.proofs.laws.json_where_wanted.Goals as goal

pub returns : goal.returns
returns c = json-law
