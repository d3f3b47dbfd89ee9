use Rattle.meson_variables.proofs.Words.{◌∙◌, ap, if◌then◌else◌, None, option_flatten, note_views, assigned_notes, is_set_by}
use Rattle.meson_variables.proofs.Assignments.{only_taken}
use Rattle.meson_variables.proofs.values.Values.by_notes.Goals as goal

pub returns : goal.returns
returns c = λ x.
    let ns = note_views c.args.notes.now in
    c.in_ok-forget_all_set.ensures x
    ∙ ap (λ v. if is_set_by x ns then None else v) (ap option_flatten (c.in_ok-values.ensures x) ∙ only_taken (assigned_notes x ns))
