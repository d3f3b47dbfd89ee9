use Rattle.std.proofs.Common.{refl}
use Rattle.std.specs.Char.{encode_utf8}
use Rattle.std.specs.Str.{chars, is_utf8}
use Rattle.meson_followed.proofs.laws.edit_rows.Goals as goal

pub returns-clause-in_turn : goal.returns-clause-in_turn
unfolding encode_utf8 chars is_utf8
returns-clause-in_turn c = (refl, refl, refl, refl, refl, refl, refl, refl)

pub returns-clause-unknown : goal.returns-clause-unknown
unfolding encode_utf8 chars is_utf8
returns-clause-unknown c = (refl, refl, refl, refl, refl)

pub returns-clause-branching : goal.returns-clause-branching
unfolding encode_utf8 chars is_utf8
returns-clause-branching c = (refl, refl, refl, refl, refl, refl, refl)

pub returns-clause-folders : goal.returns-clause-folders
unfolding encode_utf8 chars is_utf8
returns-clause-folders c = (refl, refl, refl, refl, refl, refl, refl)

pub returns-clause-shared : goal.returns-clause-shared
unfolding encode_utf8 chars is_utf8
returns-clause-shared c = (refl, refl, refl, refl, refl, refl, refl, refl, refl)
