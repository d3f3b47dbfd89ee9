use Rattle.std.proofs.Common.{◌≡◌, ℕ, suc, ◌+◌, ◌-◌, ◌<◌, [], ◌∷◌, ◌++◌, append_assoc, sym, ap, ◌∙◌, arith, add-one}
use Rattle.meson_calls.specs.declared.call.CallRef.{CallRef}
use Rattle.meson_calls.specs.Project.{child}
use Rattle.meson_places.specs.Operands.{children_from}
use Rattle.meson_places.proofs.operands.first_children.Goals as goal

one_more : (place : CallRef) (i many : ℕ) → i < many → children_from place i (many - i) ≡ child place i ∷ children_from place (i + 1) (many - (i + 1))
one_more place i many within =
    let left : many - i ≡ suc (many - (i + 1)) = omega (arith, within) in
    ap (children_from place i) left ∙ ap (λ n. child place i ∷ children_from place n (many - (i + 1))) (sym (add-one i))

pub loop-i-preserved : goal.loop-i-preserved
loop-i-preserved c =
    let place = c.args.place.now in
    let i = c.loop-i.i in
    let many = c.args.many in
    let rest = children_from place (i + 1) (many - (i + 1)) in
    let here = c.in_ok-child.ensures ∙ ap (λ q. child q i) c.as_place.ensures in
    ap (λ l. l ++ rest) (c.in_ok-push.ensures.items ∙ ap (λ x. c.loop-i.places.items ++ x ∷ []) here)
    ∙ append_assoc c.loop-i.places.items (child place i ∷ []) rest
    ∙ ap (λ l. c.loop-i.places.items ++ l) (sym (one_more place i many c.loop-i-test.true))
    ∙ c.loop-i.invariant
