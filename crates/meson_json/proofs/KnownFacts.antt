-- Scripts whose members are all known, and the search for one that is not.
use Rattle.std.proofs.Common.{◌≡◌, ◌∙◌, ◌∷◌, ◌+◌, ℕ, Bool, true, false, List, [], Option, Some, None, Result, Ok, Err, if◌then◌else◌, refl, ap, string_bytes}
use Rattle.std.specs.Prelude.{nat_lt, ok_or, option_and_then}
use Rattle.serde_json.specs.Data.{Data, Items, no_items, item}
use Rattle.serde_json.specs.Events.{items_len}
use Rattle.serde_json.specs.Find.{as_array, as_object}
use Rattle.serde_json.specs.View.{members_view}
use Rattle.meson_splice.specs.Patch.{then_ok}
use Rattle.meson_steps.specs.declared.command.Command.{Command}
use Rattle.meson_json.specs.Each.{names_of_members}
use Rattle.meson_json.specs.Known.{is_known, unknown_in}
use Rattle.meson_json.specs.Rows.{RefusingChangesNothing}
use Rattle.meson_json.specs.Scripts.{entry_by, entry_of, entries_of, max_commands, script_of, without_unknown}
use Rattle.meson_json.specs.declared.member_check.UnknownMembers.TheVariants.{Ignored, Refused}
use Rattle.meson_json.specs.declared.fault.ScriptFault.{ScriptFault}
use Rattle.meson_json.specs.declared.fault.ScriptFault.TheVariants.{NotArray, NotJson, TooMany}
use Rattle.meson_json.proofs.EachFacts.{Entry}

-- ---- the loop over the members

pub find-passes : (command : Command) (es left : List Entry) (e : Entry) → es ≡ e ∷ left → is_known command (string_bytes e.0) ≡ true
    → unknown_in command (members_view es) ≡ unknown_in command (members_view left)
unfolding names_of_members
find-passes command es left e is known = rw (is, known) refl

pub find-stops : (command : Command) (es left : List Entry) (e : Entry) → es ≡ e ∷ left → is_known command (string_bytes e.0) ≡ false
    → unknown_in command (members_view es) ≡ Some (string_bytes e.0)
unfolding names_of_members
find-stops command es left e is unknown = rw (is, unknown) refl

pub find-ends : (command : Command) (es : List Entry) → es ≡ [] → unknown_in command (members_view es) ≡ None
unfolding names_of_members
find-ends command es is = rw is refl

-- ---- what is accepted where they are refused

both : {A B : Type 0} (r s : Result A ScriptFault) (f g : A → Result B ScriptFault) (y : B) → ((x : A) → r ≡ Ok x → s ≡ Ok x) → ((x : A) (z : B) → f x ≡ Ok z → g x ≡ Ok z)
    → then_ok r f ≡ Ok y → then_ok s g ≡ Ok y
both (Ok x) s f g y h k e = ap (λ t. then_ok t g) (h x refl) ∙ k x y e
both (Err fault) s f g y h k e = let no : ⊥ = cc in absurd no

abbrev found : Command → Result Command ScriptFault
found c = Ok c

only : (i : ℕ) (c : Command) (name : Option (List ℕ)) (d : Command) → without_unknown i c name ≡ Ok d → found c ≡ Ok d
only i c None d e = e
only i c (Some name) d e = let no : ⊥ = cc in absurd no

alone : (r : Result Command ScriptFault) (f : Command → Result Command ScriptFault) (d : Command) → ((c : Command) → f c ≡ Ok d → found c ≡ Ok d) → then_ok r f ≡ Ok d → r ≡ Ok d
alone (Ok c) f d h e = h c e
alone (Err fault) f d h e = let no : ⊥ = cc in absurd no

one : (i : ℕ) (d : Data) (c : Command) → entry_by Refused i d ≡ Ok c → entry_by Ignored i d ≡ Ok c
unfolding entry_by
one i d c e = alone (entry_of i d) _ c (λ x h. only i x (option_and_then (unknown_in x) (as_object d)) c h) e

each : (i : ℕ) (ds : Items) (cs : List Command) → entries_of Refused i ds ≡ Ok cs → entries_of Ignored i ds ≡ Ok cs
unfolding entries_of
each i no_items cs e = e
each i (item d ds) cs e =
    both (entry_by Refused i d) (entry_by Ignored i d) _ _ cs (one i d)
    (λ c rest. both (entries_of Refused (i + 1) ds) (entries_of Ignored (i + 1) ds) _ _ rest (each (i + 1) ds) (λ all z h. h)) e

few : (b : Bool) (r s : Result (List Command) ScriptFault) (cs : List Command) → (r ≡ Ok cs → s ≡ Ok cs) → (if b then Err TooMany else r) ≡ Ok cs → (if b then Err TooMany else s) ≡ Ok cs
few true r s cs h e = e
few false r s cs h e = h e

pub refusing-law : RefusingChangesNothing
unfolding script_of
refusing-law value cs e =
    both (ok_or value NotJson) (ok_or value NotJson) _ _ cs (λ d is. is)
    (λ d z. both (ok_or (as_array d) NotArray) (ok_or (as_array d) NotArray) _ _ z (λ ds is. is)
    (λ ds y. few (nat_lt max_commands (items_len ds)) _ _ y (each 0 ds y))) e
