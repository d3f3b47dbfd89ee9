use Rattle.std.proofs.Common.{sym, ap, ◌∙◌}
use Rattle.std.proofs.lemmas.Result.{IfOk-weaker}
use Rattle.meson_steps.specs.ResultLimits.{plain_trees}
use Rattle.meson_steps.proofs.PlainTrees.{parsed_shallow}
use Rattle.meson_places.specs.Names.{loaded_in}
use Rattle.meson_places.specs.Room.{has_room, list_in_trees}
use Rattle.meson_places.specs.Values.{given_node}
use Rattle.meson_places.proofs.GivenWritten.{code_value, flat_switch, flat_text}
use Rattle.meson_places.proofs.RoomFound.{flat_room}
use Rattle.meson_places.proofs.room.has_room.Goals as goal

pub returns-in-Text : goal.returns-in-Text
returns-in-Text c = λ may.
    sym (flat_room (plain_trees (loaded_in c.args.sources)) (parsed_shallow c.args.sources.files.now c.args.sources.trees.now c.requires) c.args.list.now (given_node c.args.given.now may)
    (flat_text c.args.given.now c.in-Text.field-0 c.in-Text.is may))

pub returns-in-Switch : goal.returns-in-Switch
returns-in-Switch c = λ may.
    sym (flat_room (plain_trees (loaded_in c.args.sources)) (parsed_shallow c.args.sources.files.now c.args.sources.trees.now c.requires) c.args.list.now (given_node c.args.given.now may)
    (flat_switch c.args.given.now c.in-Switch.field-0 c.in-Switch.is may))

pub returns-in-Code : goal.returns-in-Code
returns-in-Code c = λ may.
    let x = code_value c.args.given.now c.in-Code.code c.as_bytes.result.now c.in-Code.is (c.as_bytes.ensures.value ∙ c.get.ensures.text) may in
    IfOk-weaker c.has_room_for.result _ _ (λ b h. h ∙ ap (λ e. has_room e (list_in_trees (plain_trees (loaded_in c.args.sources)) c.args.list.now)) x.1) (c.has_room_for.ensures x.0)
