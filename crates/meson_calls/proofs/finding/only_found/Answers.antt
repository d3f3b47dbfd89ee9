use Rattle.meson_calls.proofs.Words.{◌∙◌, ap, found_places, only_one, note_views}
use Rattle.meson_calls.proofs.OneCall.{refused_as, done_as}
use Rattle.meson_calls.proofs.finding.only_found.Goals as goal

pub returns-clause-found : goal.returns-clause-found
returns-clause-found c = done_as c.only_one.result (only_one (found_places c.args.within c.args.role c.args.id.now (note_views c.args.notes.now))) (c.only_one.ensures ∙ ap only_one c.in_ok-calls.ensures)

pub returns-clause-refused : goal.returns-clause-refused
returns-clause-refused c = refused_as c.only_one.result (only_one (found_places c.args.within c.args.role c.args.id.now (note_views c.args.notes.now))) (c.only_one.ensures ∙ ap only_one c.in_ok-calls.ensures)
