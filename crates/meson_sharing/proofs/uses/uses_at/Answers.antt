use Rattle.std.proofs.Common.{◌≡◌, ◌++◌, ap, ◌∙◌}
use Rattle.meson_syntax.specs.View.{expr_view}
use Rattle.meson_calls.specs.Project.{place}
use Rattle.meson_sharing.specs.CodeUses.{uses_there}
use Rattle.meson_sharing.specs.Sharing.{uses_of_expression}
use Rattle.meson_sharing.proofs.uses.uses_at.Goals as goal

pub returns : goal.returns
returns c =
    let q = c.args.place.now in
    let x = expr_view c.in-Some.value.source.now c.in-Some.value.expr.now in
    let at_ = place q.file c.in_ok-path.path.items in
    let here : at_ ≡ q = ap (place q.file) (c.in_ok-path.ensures.items ∙ c.get.ensures) in
    c.in_ok-in_use.ensures
    ∙ ap (λ before. before ++ uses_of_expression at_ x) c.new-found.ensures.items
    ∙ ap (λ a. uses_of_expression a x) here
    ∙ ap (uses_there q) c.in-Some.ensures.value
