use Rattle.std.proofs.Common.{◌≡◌, List, Result, ap, ap₂, sym, ◌++◌, ◌∙◌}
use Rattle.std.specs.Prelude.{IfOk, flat_map}
use Rattle.std.proofs.lemmas.Result.{IfOk-weaker}
use Rattle.meson_calls.specs.declared.call.CallName.{CallName}
use Rattle.meson_explaining.specs.declared.explanation.Note.{Note}
use Rattle.meson_warnings.specs.LeftVariables.{left_variables}
use Rattle.meson_warnings.specs.Overwrites.{lost_value}
use Rattle.meson_warnings.specs.UnsetNames.{unset_names}
use Rattle.meson_warnings.specs.Warnings.{warnings}
use Rattle.meson_warnings.proofs.side_effects.warnings.Goals as goal

-- what is told is what equal notes are
told_as : {X E : Type 0} (items : X → List Note) (r : Result X E) (xs ys : List Note) → xs ≡ ys → IfOk r (λ v. items v ≡ xs) → IfOk r (λ v. items v ≡ ys)
told_as items r xs ys same told = IfOk-weaker r (λ v. items v ≡ xs) (λ v. items v ≡ ys) (λ v is. is ∙ same) told

pub returns-in-KwargsSet : goal.returns-in-KwargsSet
returns-in-KwargsSet c =
    let l = c.args.project.now in
    let role = c.in-KwargsSet.role in
    let is : warnings l c.args.command.now ≡ flat_map (λ p. lost_value l role c.in-KwargsSet.name p.0) c.in-KwargsSet.pairs ++ unset_names l role c.in-KwargsSet.name c.in-KwargsSet.pairs =
    ap (warnings l) c.in-KwargsSet.is in
    told_as (λ v. v.items) c.warn_of_set.result _ (warnings l c.args.command.now)
    (ap₂ (λ n ps. flat_map (λ p. lost_value l role n p.0) ps ++ unset_names l role n ps) c.as_name.ensures c.get.ensures ∙ sym is) c.warn_of_set.ensures

pub returns-in-TargetRemove : goal.returns-in-TargetRemove
returns-in-TargetRemove c =
    let l = c.args.project.now in
    let target : CallName = c.in-TargetRemove.target in
    let is : warnings l c.args.command.now ≡ left_variables l target = ap (warnings l) c.in-TargetRemove.is in
    told_as (λ v. v.items) c.left_variables.result _ (warnings l c.args.command.now) (ap (left_variables l) c.as_name-in-TargetRemove.ensures ∙ sym is) c.left_variables.ensures
