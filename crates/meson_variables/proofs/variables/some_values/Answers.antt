use Rattle.meson_variables.proofs.Words.{◌∙◌, sym, ap, subst, IfOk-weaker, note_views, AreSetters, project_good, setters_good}
use Rattle.meson_variables.proofs.SoughtValues.{some_single}
use Rattle.meson_variables.proofs.variables.some_values.Goals as goal

pub notes_naming-requires-clause-parsed : goal.notes_naming-requires-clause-parsed
notes_naming-requires-clause-parsed c = c.requires.whole.parsed

pub values_named-requires-clause-named : goal.values_named-requires-clause-named
values_named-requires-clause-named c = c.requires.whole.named

pub values_named-requires-clause-good : goal.values_named-requires-clause-good
values_named-requires-clause-good c =
    let fs = c.args.files.now in
    let ts = c.args.trees.now in
    let names = c.args.names.now in
    let are = subst (AreSetters names 0 fs ts) (sym (ap note_views c.as_slice.ensures.value ∙ c.in_ok-notes.ensures)) c.in_ok-taken.ensures in
    setters_good names fs ts (note_views c.as_slice.result.now) (project_good fs ts c.requires.whole.parsed) are

pub returns : goal.returns
returns c =
    let fs = c.args.files.now in
    let ts = c.args.trees.now in
    let names = c.args.names.now in
    let are = subst (AreSetters names 0 fs ts) (sym (ap note_views c.as_slice.ensures.value ∙ c.in_ok-notes.ensures)) c.in_ok-taken.ensures in
    IfOk-weaker c.values_named.result _ _
    (λ values so x among. so x among ∙ some_single fs ts c.requires.whole.parsed x names (note_views c.as_slice.result.now) are among) c.values_named.ensures
