-- The values of keyword arguments, of options and of changes of values in a script.
use Rattle.std.specs.Prelude.{ℕ, List, true, false, codes, Option, Some, None, option_map, option_and_then}
use Rattle.std.specs.Fmt.{signed_decimal}
use Rattle.serde_json.specs.Data.{Data, boolean, number, string, array, object}
use Rattle.serde_json.specs.Find.{as_i64, as_str}
use Rattle.meson_json.specs.Each.{each_of}
use Rattle.meson_json.specs.Members.{member_text}
use Rattle.meson_steps.specs.Code.{code_of}
use Rattle.meson_steps.specs.declared.command.Setting.{Setting}
use Rattle.meson_steps.specs.declared.given.Given.{Given}
use Rattle.meson_steps.specs.declared.given.Given.TheVariants as given
use Rattle.meson_steps.specs.declared.command.Setting.TheVariants.{Text, Bool as Flag, Texts}

-- a text, `true`, `false` or an array of texts
abbrev pub setting_of : Data → Option Setting
setting_of (boolean b) = Some (Flag b)
setting_of (string s) = Some (Text s)
setting_of (array ds) = option_map Texts (each_of as_str ds)
setting_of _ = None

-- a text, `true`, `false`, or a whole number of 64 bits with sign in decimal
abbrev pub option_value : Data → Option (List ℕ)
option_value (boolean true) = Some (codes "true")
option_value (boolean false) = Some (codes "false")
option_value (number n) = option_map signed_decimal (as_i64 n)
option_value (string s) = Some s
option_value _ = None

-- a text, `true`, `false`, or the code of an object, if it is an expression
abbrev pub given_value : Data → Option Given
given_value (boolean b) = Some (given.Switch b)
given_value (string s) = Some (given.Text s)
given_value (object ms) = option_and_then (λ code. option_map given.Code (code_of code)) (member_text (codes "code") (object ms))
given_value _ = None
