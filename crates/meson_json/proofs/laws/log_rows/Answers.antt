use Rattle.std.proofs.Common.{refl}
use Rattle.std.specs.Fmt.{digits}
use Rattle.std.specs.Str.{chars, is_utf8}
use Rattle.serde_json.proofs.OnLiterals.{serde_json_on_literals}
use Rattle.meson_json.specs.Each.{each_of}
use Rattle.meson_json.specs.Log.{history_of, log_data, log_of, logged, splice_of_data, titled_change_of}
use Rattle.meson_json.proofs.laws.log_rows.Goals as goal

pub returns : goal.returns
unfolding serde_json_on_literals digits chars is_utf8 each_of history_of log_data log_of logged splice_of_data titled_change_of
returns c = (refl, refl, refl, refl, refl, refl, refl, refl, refl, refl)
