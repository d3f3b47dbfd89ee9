use Rattle.std.proofs.Common.{◌≡◌, ◌-◌, ◌/◌, length, sym, ap, ◌∙◌}
use Rattle.std.specs.Prelude.{nat_le}
use Rattle.std.proofs.lemmas.Result.{IfOk-weaker}
use Rattle.meson_syntax.specs.Grammar.{expression_depth}
use Rattle.meson_places.specs.AssignedValues.{above, around}
use Rattle.meson_places.proofs.AssignedRoom.{around_above}
use Rattle.meson_places.proofs.assigned.has_room_at.Goals as goal

pub returns : goal.returns
returns c = λ x.
    let path = c.args.place.now.path.steps in
    let half : c.saturating_sub-above.result ≡ length path - 1 = c.saturating_sub-above.ensures ∙ ap (λ p. length p - 1) c.get.ensures in
    let left : c.saturating_sub.result ≡ 64 - around (above path) = c.saturating_sub.ensures ∙ ap (λ n. 64 - n / 2) half ∙ ap (λ n. 64 - n) (sym (around_above path)) in
    IfOk-weaker c.nests_within.result _ _ (λ b h. h ∙ ap (nat_le (expression_depth x.node)) left) (c.nests_within.ensures x)
