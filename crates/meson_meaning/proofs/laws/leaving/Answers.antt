use Rattle.std.proofs.Common.{refl}
use Rattle.std.specs.Char.{encode_utf8}
use Rattle.std.specs.Str.{chars, is_utf8}
use Rattle.meson_meaning.proofs.laws.leaving.Goals as goal

pub returns : goal.returns
unfolding encode_utf8 chars is_utf8
returns c = (refl, refl, refl, refl, refl, refl, refl, refl, refl, refl, refl)
