use Rattle.std.proofs.Common.{◌∙◌}
use Rattle.std.proofs.lemmas.Result.{IfOk-weaker}
use Rattle.meson_inventory.proofs.AssignmentsListed.{all_held, all_named}
use Rattle.meson_inventory.proofs.assignments.assignments_in.Goals as goal

pub all_held_at-requires : goal.all_held_at-requires
all_held_at-requires c =
    all_named c.args.file c.args.source.now c.args.parsed.now c.requires c.as_slice.result.now (c.as_slice.ensures.value ∙ c.in_ok-places.ensures)

pub returns : goal.returns
returns c =
    IfOk-weaker c.all_held_at.result _ _
    (λ held is. is ∙ all_held c.args.file c.args.source.now c.args.parsed.now c.requires c.as_slice.result.now (c.as_slice.ensures.value ∙ c.in_ok-places.ensures))
    c.all_held_at.ensures
