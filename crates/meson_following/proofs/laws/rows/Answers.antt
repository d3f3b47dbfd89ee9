use Rattle.std.proofs.Common.{refl}
use Rattle.std.specs.Char.{encode_utf8}
use Rattle.std.specs.Str.{chars, is_utf8}
use Rattle.meson_following.proofs.laws.rows.Goals as goal

pub returns-clause-in_turn : goal.returns-clause-in_turn
unfolding encode_utf8 chars is_utf8
returns-clause-in_turn c = (refl, refl, refl, refl, refl, refl, refl)

pub returns-clause-branching : goal.returns-clause-branching
unfolding encode_utf8 chars is_utf8
returns-clause-branching c = (refl, refl, refl, refl, refl, refl, refl)

pub returns-clause-looping : goal.returns-clause-looping
unfolding encode_utf8 chars is_utf8
returns-clause-looping c = (refl, refl, refl, refl, refl, refl, refl)

pub returns-clause-setting : goal.returns-clause-setting
unfolding encode_utf8 chars is_utf8
returns-clause-setting c = (refl, refl, refl, refl, refl, refl, refl, refl)

pub returns-clause-entering : goal.returns-clause-entering
unfolding encode_utf8 chars is_utf8
returns-clause-entering c = (refl, refl, refl, refl, refl, refl)

pub returns-clause-entering_each : goal.returns-clause-entering_each
unfolding encode_utf8 chars is_utf8
returns-clause-entering_each c = (refl, refl, refl, refl, refl)
