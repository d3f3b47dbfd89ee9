use Rattle.std.proofs.Common.{refl}
use Rattle.std.specs.Char.{encode_utf8}
use Rattle.std.specs.Str.{chars, is_utf8}
use Rattle.meson_followed.proofs.laws.rename_rows.Goals as goal

pub returns-clause-in_place : goal.returns-clause-in_place
unfolding encode_utf8 chars is_utf8
returns-clause-in_place c = (refl, refl, refl, refl, refl, refl, refl)

pub returns-clause-across_folders : goal.returns-clause-across_folders
unfolding encode_utf8 chars is_utf8
returns-clause-across_folders c = (refl, refl, refl, refl, refl, refl, refl, refl, refl, refl, refl)

pub returns-clause-refused : goal.returns-clause-refused
unfolding encode_utf8 chars is_utf8
returns-clause-refused c = (refl, refl, refl, refl, refl, refl, refl, refl, refl, refl, refl, refl)
