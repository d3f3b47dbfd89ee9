use Rattle.std.proofs.Common.{refl}
use Rattle.std.specs.Char.{encode_utf8}
use Rattle.std.specs.Str.{chars, is_utf8}
use Rattle.meson_meaning.proofs.laws.evaluations.Goals as goal

pub returns-clause-one_after_another : goal.returns-clause-one_after_another
unfolding encode_utf8 chars is_utf8
returns-clause-one_after_another c = (refl, refl, refl, refl, refl, refl, refl, refl, refl, refl)

pub returns-clause-either : goal.returns-clause-either
unfolding encode_utf8 chars is_utf8
returns-clause-either c = (refl, refl, refl, refl, refl, refl, refl, refl)

pub returns-clause-turning : goal.returns-clause-turning
unfolding encode_utf8 chars is_utf8
returns-clause-turning c = (refl, refl, refl, refl, refl, refl, refl, refl)

pub returns-clause-folders : goal.returns-clause-folders
unfolding encode_utf8 chars is_utf8
returns-clause-folders c = (refl, refl, refl, refl, refl, refl, refl, refl, refl, refl, refl, refl)

pub returns-clause-setting : goal.returns-clause-setting
unfolding encode_utf8 chars is_utf8
returns-clause-setting c = (refl, refl, refl, refl, refl, refl, refl)

pub returns-clause-summing : goal.returns-clause-summing
unfolding encode_utf8 chars is_utf8
returns-clause-summing c = (refl, refl, refl, refl, refl, refl, refl, refl, refl)

pub returns-clause-using : goal.returns-clause-using
unfolding encode_utf8 chars is_utf8
returns-clause-using c = (refl, refl, refl, refl, refl, refl, refl, refl, refl)
