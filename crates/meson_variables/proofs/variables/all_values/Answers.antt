use Rattle.meson_variables.proofs.Words.{◌≡◌, ◌∙◌, sym, ap, subst, not, IfOk-weaker, named_trees, views, note_views, notes, NotesGood, project_good}
use Rattle.meson_variables.proofs.Words.{has_unknown, by_notes}
use Rattle.meson_variables.proofs.SoughtValues.{all_single}
use Rattle.meson_variables.proofs.variables.all_values.Goals as goal

pub notes_of-requires : goal.notes_of-requires
notes_of-requires c = c.requires.parsed

pub known_values-requires-clause-named : goal.known_values-requires-clause-named
known_values-requires-clause-named c = c.requires.named

pub known_values-requires-clause-good : goal.known_values-requires-clause-good
known_values-requires-clause-good c =
    subst NotesGood (sym (ap note_views c.as_slice.ensures.value ∙ c.in_ok-notes.ensures ∙ c.in_ok-taken.ensures)) (project_good c.args.files.now c.args.trees.now c.requires.parsed)

pub returns : goal.returns
returns c =
    let fs = c.args.files.now in
    let ts = c.args.trees.now in
    let p = named_trees fs (views fs ts) in
    let all : note_views c.as_slice.result.now ≡ notes p = ap note_views c.as_slice.ensures.value ∙ c.in_ok-notes.ensures ∙ c.in_ok-taken.ensures in
    IfOk-weaker c.known_values.result _ _ (λ values so x. so x ∙ ap (λ ns. by_notes x (not (has_unknown fs ns)) ns) all ∙ all_single fs ts c.requires.parsed x) c.known_values.ensures
