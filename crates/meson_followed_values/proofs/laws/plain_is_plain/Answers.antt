use Rattle.meson_followed_values.proofs.PlainValues.{plain_is_plain}
use Rattle.meson_followed_values.proofs.laws.plain_is_plain.Goals as goal

pub returns : goal.returns
returns c = plain_is_plain
