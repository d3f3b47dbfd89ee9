use Rattle.std.proofs.Common.{sym, subst}
use Rattle.std.specs.Prelude.{IfOk}
use Rattle.meson_steps.specs.Meanings.{AreMeant}
use Rattle.meson_places.specs.Changes.{added_there}
use Rattle.meson_calls.specs.Refusals.{RefusedAs}
use Rattle.meson_places.proofs.additions.added_there.Goals as goal

pub returns-in-Some-clause-meant : goal.returns-in-Some-clause-meant
returns-in-Some-clause-meant c = λ w is_w.
    let r = c.args.receiver in
    subst (λ k. IfOk c.added_by_kind.result (λ steps. AreMeant (added_there r.spaced w c.args.key.now r.list.now k r.many) steps.items))
    (sym c.in-Some.is) (c.added_by_kind.ensures.meant w is_w)

pub returns-in-Some-clause-refused : goal.returns-in-Some-clause-refused
returns-in-Some-clause-refused c = λ w.
    let r = c.args.receiver in
    subst (λ k. RefusedAs c.added_by_kind.result (added_there r.spaced w c.args.key.now r.list.now k r.many))
    (sym c.in-Some.is) (c.added_by_kind.ensures.refused w)
