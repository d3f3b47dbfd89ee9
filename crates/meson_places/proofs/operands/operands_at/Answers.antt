use Rattle.std.proofs.Common.{ap, ◌∙◌}
use Rattle.std.proofs.lemmas.Result.{IfOk-weaker}
use Rattle.meson_places.specs.Operands.{children_from, operands_in}
use Rattle.meson_places.proofs.operands.operands_at.Goals as goal

pub returns-in-Some : goal.returns-in-Some
returns-in-Some c =
    let place = c.args.place.now in
    IfOk-weaker c.first_children.result _ _
    (λ v is. is ∙ ap (children_from place 0) (c.operand_count.ensures c.in-Some.found.source.now) ∙ ap (operands_in place) c.in-Some.ensures.found) c.first_children.ensures
