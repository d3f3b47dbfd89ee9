use Rattle.std.proofs.Common.{◌≡◌, ap, ◌∙◌, sym}
use Rattle.std.specs.Prelude.{map, take}
use Rattle.std.proofs.lemmas.List.{take-map}
use Rattle.std.proofs.lemmas.Result.{IfOk-weaker}
use Rattle.meson_calls.specs.Searching.{name_at}
use Rattle.meson_steps.specs.Names.{distinct}
use Rattle.meson_warnings.specs.UnsetNames.{unset_at}
use Rattle.meson_warnings.proofs.SomeNames.{some_unset}
use Rattle.meson_warnings.proofs.unset_names.unset_among.Goals as goal

pub returns : goal.returns
returns c =
    let l = c.args.project.now in
    let role = c.args.subject.role in
    let name = name_at c.args.subject.name in
    let xs = c.args.names.now in
    let some : map (λ x. x.now) c.as_slice.result.now ≡ take 100 (distinct xs) =
    ap (map (λ x. x.now)) (c.as_slice.ensures.value ∙ c.truncate.ensures.items) ∙ sym (take-map (λ x. x.now) 100 c.in_ok-names.names.items) ∙ ap (take 100) c.in_ok-names.ensures in
    IfOk-weaker c.unset_at.result _ _
    (λ notes is. is ∙ ap (unset_at l role name) some ∙ some_unset l name role xs (sym c.is_empty.ensures ∙ c.if-is_empty.false) (sym c.in_ok-setters_known.ensures ∙ c.if-not-branch.false)) c.unset_at.ensures
