use Rattle.std.proofs.Common.{sym, ap, ◌∙◌, subst}
use Rattle.std.specs.Prelude.{Some, if◌then◌else◌}
use Rattle.std.proofs.lemmas.Result.{IfOk-weaker}
use Rattle.meson_calls.specs.Project.{child}
use Rattle.meson_steps.specs.Meanings.{AreMeant}
use Rattle.meson_places.specs.Names.{loaded_in}
use Rattle.meson_places.specs.Several.{set_all_there, set_array, set_elements}
use Rattle.meson_places.specs.inside.Wanted.{child_view}
use Rattle.meson_places.proofs.Refused.{refused_as}
use Rattle.meson_places.proofs.several.set_all_there.Goals as goal

pub returns-then-is_array-clause-meant : goal.returns-then-is_array-clause-meant
returns-then-is_array-clause-meant c = λ may.
    let l = loaded_in c.args.sources in
    let gs = c.args.values.now in
    let h = c.args.held in
    let v = child_view h.source.now h.child in
    let same = ap (λ b. if b then set_elements l gs may h.key.now (child h.list.now v.number) v.value else set_array l gs may h.key.now h.list.now h.number v.value) (sym (c.is_array.ensures h.source.now) ∙ c.if-is_array.true) in
    IfOk-weaker c.set_elements.result _ _ (λ steps m. subst (λ r. AreMeant r steps.items) (sym same) m) (c.set_elements.ensures.meant may)

pub returns-then-is_array-clause-refused : goal.returns-then-is_array-clause-refused
returns-then-is_array-clause-refused c = λ may.
    let l = loaded_in c.args.sources in
    let gs = c.args.values.now in
    let h = c.args.held in
    let v = child_view h.source.now h.child in
    refused_as c.set_elements.result (set_all_there l gs may h.key.now h.list.now h.number (Some v)) (set_elements l gs may h.key.now (child h.list.now v.number) v.value)
    (ap (λ b. if b then set_elements l gs may h.key.now (child h.list.now v.number) v.value else set_array l gs may h.key.now h.list.now h.number v.value) (sym (c.is_array.ensures h.source.now) ∙ c.if-is_array.true))
    (c.set_elements.ensures.refused may)

pub returns-else-is_array-clause-meant : goal.returns-else-is_array-clause-meant
returns-else-is_array-clause-meant c = λ may.
    let l = loaded_in c.args.sources in
    let gs = c.args.values.now in
    let h = c.args.held in
    let v = child_view h.source.now h.child in
    let same = ap (λ b. if b then set_elements l gs may h.key.now (child h.list.now v.number) v.value else set_array l gs may h.key.now h.list.now h.number v.value) (sym (c.is_array.ensures h.source.now) ∙ c.if-is_array.false) in
    IfOk-weaker c.set_array.result _ _ (λ steps m. subst (λ r. AreMeant r steps.items) (sym same) m) (c.set_array.ensures.meant may)

pub returns-else-is_array-clause-refused : goal.returns-else-is_array-clause-refused
returns-else-is_array-clause-refused c = λ may.
    let l = loaded_in c.args.sources in
    let gs = c.args.values.now in
    let h = c.args.held in
    let v = child_view h.source.now h.child in
    refused_as c.set_array.result (set_all_there l gs may h.key.now h.list.now h.number (Some v)) (set_array l gs may h.key.now h.list.now h.number v.value)
    (ap (λ b. if b then set_elements l gs may h.key.now (child h.list.now v.number) v.value else set_array l gs may h.key.now h.list.now h.number v.value) (sym (c.is_array.ensures h.source.now) ∙ c.if-is_array.false))
    (c.set_array.ensures.refused may)
