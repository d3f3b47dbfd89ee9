use Rattle.std.proofs.Common.{◌≡◌, Some, sym, ap, ◌∙◌, subst}
use Rattle.std.proofs.lemmas.Result.{IfOk-weaker}
use Rattle.meson_splice.specs.Files.{bytes_at}
use Rattle.meson_calls.specs.Loading.{project}
use Rattle.meson_calls.specs.Project.{expression_at}
use Rattle.meson_steps.specs.Meanings.{AreMeant}
use Rattle.meson_places.specs.Colons.{ends_in_file}
use Rattle.meson_places.specs.Changes.{added_to, set_steps, set_there, set_whole}
use Rattle.meson_places.specs.Names.{loaded_in}
use Rattle.meson_places.specs.Values.{written_given}
use Rattle.meson_places.specs.inside.Wanted.{child_view}
use Rattle.meson_places.proofs.Refused.{refused_as}
use Rattle.meson_places.proofs.changes.set_steps.Goals as goal

pub returns-in-Some-clause-meant : goal.returns-in-Some-clause-meant
returns-in-Some-clause-meant c = λ may.
    let l = loaded_in c.args.sources in
    let g = c.args.given.now in
    let w = written_given g may in
    let key = c.args.key.now in
    let list = c.in-Element.list in
    let n = c.in-Element.number in
    let child = c.in-Some.child in
    let same : set_steps l g w key c.args.slot.now ≡ set_there g w key list n (Some (child_view c.bytes-source.result.now child)) =
    ap (set_steps l g w key) c.in-Element.is ∙ ap (set_there g w key list n) (sym c.in-Some.ensures.child)
    ∙ ap (λ s. set_there g w key list n (Some (child_view s child))) (sym c.bytes-source.ensures) in
    IfOk-weaker c.replace_steps.result _ _ (λ steps m. subst (λ x. AreMeant x steps.items) (sym same) m) (c.replace_steps.ensures.meant may)

pub returns-in-Some-clause-refused : goal.returns-in-Some-clause-refused
returns-in-Some-clause-refused c = λ w.
    let l = loaded_in c.args.sources in
    let g = c.args.given.now in
    let key = c.args.key.now in
    let list = c.in-Element.list in
    let n = c.in-Element.number in
    let child = c.in-Some.child in
    refused_as c.replace_steps.result (set_steps l g w key c.args.slot.now) (set_there g w key list n (Some (child_view c.bytes-source.result.now child)))
    (ap (set_steps l g w key) c.in-Element.is ∙ ap (set_there g w key list n) (sym c.in-Some.ensures.child)
    ∙ ap (λ s. set_there g w key list n (Some (child_view s child))) (sym c.bytes-source.ensures))
    (c.replace_steps.ensures.refused w)

pub returns-in_ok-value-in-Absent-clause-meant : goal.returns-in_ok-value-in-Absent-clause-meant
returns-in_ok-value-in-Absent-clause-meant c = λ may.
    let l = loaded_in c.args.sources in
    let g = c.args.given.now in
    let w = written_given g may in
    let same = ap (set_steps l g w c.args.key.now) c.in-Absent.is in
    IfOk-weaker c.added_to.result _ _ (λ steps m. subst (λ x. AreMeant x steps.items) (sym same) m) (c.added_to.ensures.meant w (sym c.in_ok-value-in-Absent.ensures.done))

pub returns-in_ok-value-in-Absent-clause-refused : goal.returns-in_ok-value-in-Absent-clause-refused
returns-in_ok-value-in-Absent-clause-refused c = λ w.
    let l = loaded_in c.args.sources in
    let list = c.in-Absent.list in
    refused_as c.added_to.result (set_steps l c.args.given.now w c.args.key.now c.args.slot.now) (added_to (bytes_at list.file l.files) (ends_in_file l list.file) w c.in-Absent.key list (expression_at (project l) list))
    (ap (set_steps l c.args.given.now w c.args.key.now) c.in-Absent.is) (c.added_to.ensures.refused w)

pub returns-in-Whole-clause-meant : goal.returns-in-Whole-clause-meant
returns-in-Whole-clause-meant c = λ may.
    let same = ap (set_steps (loaded_in c.args.sources) c.args.given.now (written_given c.args.given.now may) c.args.key.now) c.in-Whole.is in
    IfOk-weaker c.set_whole.result _ _ (λ steps m. subst (λ x. AreMeant x steps.items) (sym same) m) (c.set_whole.ensures.meant may)

pub returns-in-Whole-clause-refused : goal.returns-in-Whole-clause-refused
returns-in-Whole-clause-refused c = λ w.
    let l = loaded_in c.args.sources in
    let g = c.args.given.now in
    let key = c.args.key.now in
    refused_as c.set_whole.result (set_steps l g w key c.args.slot.now) (set_whole l g w key c.in-Whole.place (expression_at (project l) c.in-Whole.place))
    (ap (set_steps l g w key) c.in-Whole.is) (c.set_whole.ensures.refused w)
