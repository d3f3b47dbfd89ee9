-- What may be there once only among the keyword arguments of a call that is reported.
use Rattle.std.specs.Prelude.{ℕ, List, [], ◌∷◌, if◌then◌else◌, Option, Some, None, Result, Ok}
use Rattle.std.specs.List.{filter_map}
use Rattle.meson_splice.specs.Patch.{then_ok}
use Rattle.meson_syntax.specs.Tree.{Argument, named}
use Rattle.meson_edit.specs.Edits.{elements}
use Rattle.meson_calls.specs.declared.call.Role.{Role}
use Rattle.meson_calls.specs.declared.refusal.Refusal.{Refusal}
use Rattle.meson_calls.specs.Calls.{Call, keyword}
use Rattle.meson_calls.specs.Keys.{is_key}
use Rattle.meson_calls.specs.NamedArguments.{once}

abbrev pub only_once : {S : Type 0} → List ℕ → Call S → Result (Unit {0}) Refusal
only_once key c = once key (keyword key c) tt

abbrev pub name_in : {S : Type 0} → Argument S → Option (List ℕ)
name_in (named s x e) = Some x.text
name_in _ = None

abbrev pub key_told : {S : Type 0} → Role → Call S → List ℕ → Result (Unit {0}) Refusal
key_told r c key = if is_key r key then only_once key c else Ok tt

abbrev pub keys_told : {S : Type 0} → Role → Call S → List (List ℕ) → Result (Unit {0}) Refusal
keys_told r c [] = Ok tt
keys_told r c (key ∷ more) = then_ok (key_told r c key) (λ _. keys_told r c more)

-- the keyword arguments that commands change, in the call's order
abbrev pub call_told : {S : Type 0} → Role → Call S → Result (Unit {0}) Refusal
call_told r c = keys_told r c (filter_map name_in (elements c.arguments))
