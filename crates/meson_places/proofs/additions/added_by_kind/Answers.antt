use Rattle.std.proofs.Common.{sym, subst}
use Rattle.std.specs.Prelude.{IfOk}
use Rattle.meson_steps.specs.Meanings.{AreMeant}
use Rattle.meson_places.specs.Changes.{added_by_kind}
use Rattle.meson_calls.specs.Refusals.{RefusedAs}
use Rattle.meson_places.proofs.additions.added_by_kind.Goals as goal

pub returns-in-Call-clause-meant : goal.returns-in-Call-clause-meant
returns-in-Call-clause-meant c = λ w is_w.
    let r = c.args.receiver in
    subst (λ k. IfOk c.keyword_steps.result (λ steps. AreMeant (added_by_kind r.spaced w c.args.key.now r.list.now k r.many) steps.items))
    (sym c.in-Call.is) (c.keyword_steps.ensures.meant w is_w)

pub returns-in-Call-clause-refused : goal.returns-in-Call-clause-refused
returns-in-Call-clause-refused c = λ w.
    let r = c.args.receiver in
    subst (λ k. RefusedAs c.keyword_steps.result (added_by_kind r.spaced w c.args.key.now r.list.now k r.many))
    (sym c.in-Call.is) (c.keyword_steps.ensures.refused w)

pub returns-in-Dictionary-clause-meant : goal.returns-in-Dictionary-clause-meant
returns-in-Dictionary-clause-meant c = λ w is_w.
    let r = c.args.receiver in
    subst (λ k. IfOk c.entry_steps.result (λ steps. AreMeant (added_by_kind r.spaced w c.args.key.now r.list.now k r.many) steps.items))
    (sym c.in-Dictionary.is) (c.entry_steps.ensures.meant w is_w)

pub returns-in-Dictionary-clause-refused : goal.returns-in-Dictionary-clause-refused
returns-in-Dictionary-clause-refused c = λ w.
    let r = c.args.receiver in
    subst (λ k. RefusedAs c.entry_steps.result (added_by_kind r.spaced w c.args.key.now r.list.now k r.many))
    (sym c.in-Dictionary.is) (c.entry_steps.ensures.refused w)
