-- The place of the value that a name names.
use Rattle.std.specs.Prelude.{ok_or, Result}
use Rattle.meson_splice.specs.Patch.{then_ok}
use Rattle.meson_calls.specs.declared.call.CallRef.{CallRef}
use Rattle.meson_calls.specs.declared.refusal.Refusal.{Refusal}
use Rattle.meson_calls.specs.declared.refusal.Refusal.TheVariants.{NoSuchValue}
use Rattle.meson_calls.specs.Loading.{Loaded, project}
use Rattle.meson_steps.specs.declared.argument.ValueName.{ValueName}
use Rattle.meson_places.specs.Arguments.{last_key}
use Rattle.meson_places.specs.Changes.{slot_place}
use Rattle.meson_places.specs.Names.{the_place}
use Rattle.meson_places.specs.Slots.{the_slot}

-- a value that is absent is refused by its key
abbrev pub value_place : Loaded → ValueName → Result CallRef Refusal
value_place l n =
    then_ok (the_place l n.place) (λ p. then_ok (the_slot (project l) p n.keys) (λ s. ok_or (slot_place (project l) s) (NoSuchValue (last_key n.keys))))
