use Rattle.meson_targets.proofs.Words.{sym, ◌∙◌, eqb-true, eqb-false, project_in, note_views, noted_good, targets_named}
use Rattle.meson_calls.specs.declared.call.Role.TheVariants as role
use Rattle.meson_calls.proofs.NotesWith.{same_named}
use Rattle.meson_targets.proofs.NewTargets.{is_taken, is_free}
use Rattle.meson_calls.proofs.Picked.{name_places}
use Rattle.meson_targets.proofs.target_adding.not_taken.Goals as goal

pub with_name-requires : goal.with_name-requires
with_name-requires c = noted_good c.args.noted.now c.requires

pub returns-then-not-is_empty-clause-refused : goal.returns-then-not-is_empty-clause-refused
returns-then-not-is_empty-clause-refused c = λ other.
    let n = c.args.noted.now in
    let p = project_in n in
    let name = c.args.name.now in
    let are = c.in_ok-targets.ensures ∙ same_named role.Target name n.files.now n.trees.now (note_views n.notes.now) c.requires.whole.parsed c.requires.taken ∙ name_places role.Target name p in
    is_taken (targets_named p name) c.as_slice.result.now (c.as_slice.ensures.value ∙ are) (eqb-false _ _ (sym c.is_empty.ensures ∙ c.if-not-is_empty.true))

pub returns-clause-checked : goal.returns-clause-checked
returns-clause-checked c =
    let n = c.args.noted.now in
    let p = project_in n in
    let name = c.args.name.now in
    let are = c.in_ok-targets.ensures ∙ same_named role.Target name n.files.now n.trees.now (note_views n.notes.now) c.requires.whole.parsed c.requires.taken ∙ name_places role.Target name p in
    is_free (targets_named p name) c.as_slice.result.now (c.as_slice.ensures.value ∙ are) (eqb-true _ _ (sym c.is_empty.ensures ∙ c.if-not-is_empty.false))
