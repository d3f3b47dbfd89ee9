use Rattle.meson_calls.proofs.Words.{false, ◌==◌, ◌≡◌, ap, ◌∙◌, subst, length, found_places, only_one, note_views}
use Rattle.meson_calls.specs.OnePlace.{place_within}
use Rattle.meson_calls.specs.declared.call.Role.TheVariants as role
use Rattle.meson_calls.proofs.OneCall.{behind_project, if_refused}
use Rattle.meson_calls.proofs.finding.call_within.Goals as goal

pub returns-else-is_empty-clause-refused : goal.returns-else-is_empty-clause-refused
returns-else-is_empty-clause-refused c =
    let found = only_one (found_places c.args.within role.Project c.args.id.now (note_views c.args.notes.now)) in
    let some : false ≡ (length c.in_ok-projects-in-Project.projects.items == 0) = c.if-is_empty.ensures ∙ ap (λ xs. length xs == 0) c.as_slice.ensures.value in
    let projects = c.in_ok-projects-in-Project.ensures in
    let behind = subst (λ xs. false ≡ (length xs == 0)) projects some in
    if_refused c.only_found.result (place_within c.args.within c.args.role c.args.id.now (note_views c.args.notes.now)) found
    (ap (λ r. place_within c.args.within r c.args.id.now (note_views c.args.notes.now)) c.in-Project.is ∙ behind_project _ found behind) c.only_found.ensures.refused
