use Rattle.meson_json.proofs.KnownFacts.{refusing-law}
use Rattle.meson_json.proofs.laws.refusing_changes_nothing.Goals as goal

pub returns : goal.returns
returns c = refusing-law
