use Rattle.std.proofs.Common.{refl}
use Rattle.std.specs.Char.{encode_utf8}
use Rattle.std.specs.Str.{chars, is_utf8}
use Rattle.meson_following.proofs.laws.infos.Goals as goal

pub returns-clause-one_after_another : goal.returns-clause-one_after_another
unfolding encode_utf8 chars is_utf8
returns-clause-one_after_another c = (refl, refl, refl)

pub returns-clause-either : goal.returns-clause-either
unfolding encode_utf8 chars is_utf8
returns-clause-either c = (refl, refl, refl)

pub returns-clause-turning : goal.returns-clause-turning
unfolding encode_utf8 chars is_utf8
returns-clause-turning c = (refl, refl, refl)

pub returns-clause-summing : goal.returns-clause-summing
unfolding encode_utf8 chars is_utf8
returns-clause-summing c = (refl, refl, refl)

pub returns-clause-folders : goal.returns-clause-folders
unfolding encode_utf8 chars is_utf8
returns-clause-folders c = (refl, refl, refl, refl, refl)

pub returns-clause-once : goal.returns-clause-once
unfolding encode_utf8 chars is_utf8
returns-clause-once c = (refl, refl)

pub returns-clause-beginning : goal.returns-clause-beginning
unfolding encode_utf8 chars is_utf8
returns-clause-beginning c = (refl, refl, refl)

pub returns-clause-naming : goal.returns-clause-naming
unfolding encode_utf8 chars is_utf8
returns-clause-naming c = (refl, refl, refl)

pub returns-clause-limit : goal.returns-clause-limit
unfolding encode_utf8 chars is_utf8
returns-clause-limit c = (refl, refl)
