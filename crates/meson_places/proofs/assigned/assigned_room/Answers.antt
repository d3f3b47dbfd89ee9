use Rattle.std.proofs.Common.{ap, ◌∙◌}
use Rattle.std.proofs.lemmas.Result.{IfOk-weaker}
use Rattle.meson_places.specs.AssignedValues.{assigned_room}
use Rattle.meson_places.proofs.GivenWritten.{code_value}
use Rattle.meson_places.proofs.assigned.assigned_room.Goals as goal

pub returns-in-Code : goal.returns-in-Code
returns-in-Code c = λ may.
    let x = code_value c.args.given.now c.in-Code.code c.as_bytes.result.now c.in-Code.is (c.as_bytes.ensures.value ∙ c.get.ensures.text) may in
    IfOk-weaker c.has_room_at.result _ _ (λ b h. h ∙ ap (assigned_room c.args.place.now) x.1) (c.has_room_at.ensures x.0)
