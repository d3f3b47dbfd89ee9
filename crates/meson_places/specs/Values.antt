-- What is written for values that are given, and which of them may replace a value.
use Rattle.std.specs.Prelude.{ℕ, Bool, true, false, ◌&&◌, List, codes, if◌then◌else◌, is_some}
use Rattle.std.specs.List.{list_all}
use Rattle.meson_lex.specs.Literals.{literal}
use Rattle.meson_syntax.specs.Tree.{Argument, plain, Expression, boolean, array, Nowhere}
use Rattle.meson_edit.specs.Edits.{Written}
use Rattle.meson_calls.specs.Calls.{literal_of}
pub use Rattle.meson_steps.specs.Identifiers.{is_identifier}
use Rattle.meson_steps.specs.WrittenTexts.{string_of}
use Rattle.meson_steps.specs.declared.given.Given.{Given}
use Rattle.meson_steps.specs.declared.given.Given.TheVariants as given
use Rattle.meson_steps.specs.GivenWords.{MayBeGiven}
use Rattle.meson_places.specs.Slots.{elements_in}

-- ---- what is written

abbrev pub switch_text : Bool → List ℕ
switch_text b = if b then codes "true" else codes "false"

abbrev pub given_bytes : Given → List ℕ
given_bytes (given.Text text) = literal text
given_bytes (given.Switch b) = switch_text b
given_bytes (given.Code code) = code

abbrev pub given_node : (g : Given) → MayBeGiven g → Expression Nowhere
given_node (given.Text text) may = string_of text
given_node (given.Switch b) may = boolean tt b
given_node (given.Code code) may = may.node

abbrev pub written_given : (g : Given) → MayBeGiven g → Written (Expression Nowhere)
written_given g may = record { bytes = given_bytes g; node = given_node g may }

-- ---- kinds

abbrev pub is_boolean : {S : Type 0} → Expression S → Bool
is_boolean (boolean s b) = true
is_boolean _ = false

-- A value keeps its kind: a text may replace a text, and a truth value a truth value. Code may replace any value.
abbrev pub keeps_kind : {S : Type 0} → Given → Expression S → Bool
keeps_kind (given.Text text) e = is_some (literal_of e)
keeps_kind (given.Switch b) e = is_boolean e
keeps_kind (given.Code code) e = true

abbrev pub is_text : {S : Type 0} → Argument S → Bool
is_text (plain e) = is_some (literal_of e)
is_text _ = false

abbrev pub is_array : {S : Type 0} → Expression S → Bool
is_array (array l) = true
is_array _ = false

-- an array of texts
abbrev pub are_texts : {S : Type 0} → Expression S → Bool
are_texts e = is_array e && list_all is_text (elements_in e)
