use Rattle.std.proofs.Common.{refl}
use Rattle.std.specs.Char.{encode_utf8}
use Rattle.std.specs.Str.{chars, is_utf8}
use Rattle.meson_followed_values.proofs.laws.rows.Goals as goal

pub returns-clause-in_turn : goal.returns-clause-in_turn
unfolding encode_utf8 chars is_utf8
returns-clause-in_turn c = (refl, refl, refl, refl, refl, refl, refl, refl)

pub returns-clause-branching : goal.returns-clause-branching
unfolding encode_utf8 chars is_utf8
returns-clause-branching c = (refl, refl, refl, refl, refl, refl, refl)

pub returns-clause-read_elsewhere : goal.returns-clause-read_elsewhere
unfolding encode_utf8 chars is_utf8
returns-clause-read_elsewhere c = (refl, refl, refl, refl, refl, refl, refl, refl, refl, refl)

pub returns-clause-sums : goal.returns-clause-sums
unfolding encode_utf8 chars is_utf8
returns-clause-sums c = (refl, refl, refl, refl, refl, refl, refl, refl, refl, refl, refl)
