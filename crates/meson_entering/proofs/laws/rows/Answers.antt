use Rattle.std.proofs.Common.{refl}
use Rattle.std.specs.Char.{encode_utf8}
use Rattle.std.specs.Str.{chars, is_utf8}
use Rattle.meson_entering.proofs.laws.rows.Goals as goal

pub returns-clause-lists : goal.returns-clause-lists
unfolding encode_utf8 chars is_utf8
returns-clause-lists c = (refl, refl, refl, refl, refl)

pub returns-clause-variables : goal.returns-clause-variables
unfolding encode_utf8 chars is_utf8
returns-clause-variables c = (refl, refl, refl, refl)

pub returns-clause-around : goal.returns-clause-around
unfolding encode_utf8 chars is_utf8
returns-clause-around c = (refl, refl, refl, refl, refl)
