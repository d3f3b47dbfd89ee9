use Rattle.std.proofs.Common.{◌≡◌, Some, sym, ap, ◌∙◌, subst}
use Rattle.std.proofs.lemmas.Result.{IfOk-weaker}
use Rattle.meson_steps.specs.Meanings.{AreMeant}
use Rattle.meson_places.specs.Names.{loaded_in}
use Rattle.meson_places.specs.Several.{add_array, set_all, set_all_there}
use Rattle.meson_places.specs.inside.Wanted.{child_view}
use Rattle.meson_places.proofs.Refused.{refused_as}
use Rattle.meson_places.proofs.several.set_all.Goals as goal

pub returns-in-Some-clause-meant : goal.returns-in-Some-clause-meant
returns-in-Some-clause-meant c = λ may.
    let l = loaded_in c.args.sources in
    let gs = c.args.values.now in
    let key = c.args.key.now in
    let list = c.in-Element.list in
    let n = c.in-Element.number in
    let v = c.in-Some.child in
    let same : set_all l gs may key c.args.slot.now ≡ set_all_there l gs may key list n (Some (child_view c.bytes.result.now v)) =
    ap (set_all l gs may key) c.in-Element.is ∙ ap (set_all_there l gs may key list n) (sym c.in-Some.ensures.child)
    ∙ ap (λ s. set_all_there l gs may key list n (Some (child_view s v))) (sym c.bytes.ensures) in
    IfOk-weaker c.set_all_there.result _ _ (λ steps m. subst (λ x. AreMeant x steps.items) (sym same) m) (c.set_all_there.ensures.meant may)

pub returns-in-Some-clause-refused : goal.returns-in-Some-clause-refused
returns-in-Some-clause-refused c = λ may.
    let l = loaded_in c.args.sources in
    let gs = c.args.values.now in
    let key = c.args.key.now in
    let list = c.in-Element.list in
    let n = c.in-Element.number in
    let v = c.in-Some.child in
    refused_as c.set_all_there.result (set_all l gs may key c.args.slot.now) (set_all_there l gs may key list n (Some (child_view c.bytes.result.now v)))
    (ap (set_all l gs may key) c.in-Element.is ∙ ap (set_all_there l gs may key list n) (sym c.in-Some.ensures.child)
    ∙ ap (λ s. set_all_there l gs may key list n (Some (child_view s v))) (sym c.bytes.ensures))
    (c.set_all_there.ensures.refused may)

pub returns-in-Absent-clause-meant : goal.returns-in-Absent-clause-meant
returns-in-Absent-clause-meant c = λ may.
    let same = ap (set_all (loaded_in c.args.sources) c.args.values.now may c.args.key.now) c.in-Absent.is in
    IfOk-weaker c.add_array.result _ _ (λ steps m. subst (λ x. AreMeant x steps.items) (sym same) m) (c.add_array.ensures.meant may)

pub returns-in-Absent-clause-refused : goal.returns-in-Absent-clause-refused
returns-in-Absent-clause-refused c = λ may.
    let l = loaded_in c.args.sources in
    refused_as c.add_array.result (set_all l c.args.values.now may c.args.key.now c.args.slot.now) (add_array l c.args.values.now may c.in-Absent.key c.in-Absent.list)
    (ap (set_all l c.args.values.now may c.args.key.now) c.in-Absent.is) (c.add_array.ensures.refused may)
