use Rattle.std.proofs.Common.{refl}
use Rattle.std.specs.Char.{encode_utf8}
use Rattle.std.specs.Str.{chars, is_utf8}
use Rattle.meson_sharing.proofs.laws.shared_lists.Goals as goal

pub returns-clause-alone : goal.returns-clause-alone
unfolding encode_utf8 chars is_utf8
returns-clause-alone c = (refl, refl, refl, refl, refl, refl, refl, refl, refl, refl, refl)

pub returns-clause-through : goal.returns-clause-through
unfolding encode_utf8 chars is_utf8
returns-clause-through c = (refl, refl, refl, refl, refl, refl)

pub returns-clause-other_targets : goal.returns-clause-other_targets
unfolding encode_utf8 chars is_utf8
returns-clause-other_targets c = (refl, refl, refl, refl, refl, refl, refl, refl)

pub returns-clause-other_reads : goal.returns-clause-other_reads
unfolding encode_utf8 chars is_utf8
returns-clause-other_reads c = (refl, refl, refl, refl, refl, refl, refl, refl, refl)

pub returns-clause-other_names : goal.returns-clause-other_names
unfolding encode_utf8 chars is_utf8
returns-clause-other_names c = (refl, refl, refl, refl, refl, refl, refl, refl)

pub returns-clause-uses : goal.returns-clause-uses
unfolding encode_utf8 chars is_utf8
returns-clause-uses c = (refl, refl, refl, refl, refl, refl, refl)

pub returns-clause-sharers : goal.returns-clause-sharers
unfolding encode_utf8 chars is_utf8
returns-clause-sharers c = (refl, refl, refl, refl, refl, refl)
