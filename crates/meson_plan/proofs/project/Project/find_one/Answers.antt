use Rattle.std.proofs.Common.{refl, ◌∙◌, sym, ap, subst}
use Rattle.std.proofs.lemmas.Result.{IfOk-weaker}
use Rattle.meson_calls.proofs.NotedCalls.{noted_good}
use Rattle.meson_calls.proofs.OneCall.{if_refused}
use Rattle.meson_plan.proofs.DetailsThere.{place_there}
use Rattle.meson_calls.specs.Notes.{note_views}
use Rattle.meson_calls.specs.Spelling.{AreNotesWith, sought_words}
use Rattle.meson_plan.proofs.project.Project.find_one.Goals as goal
use Rattle.meson_calls.specs.Searching.{name_at}

pub the_call-requires : goal.the_call-requires
the_call-requires c = noted_good c.noted-noted.result
    (c.noted-noted.ensures.noted c.args.role c.args.name.id.now
    (subst (AreNotesWith (sought_words c.args.role c.args.name.id.now) 0 c.args.self.now.files c.args.self.now.parsed) (sym (ap note_views c.as_slice.ensures.value ∙ c.in_ok-notes.ensures)) c.in_ok-taken.ensures))

pub returns-clause-found : goal.returns-clause-found
returns-clause-found c =
    let same = place_there c.noted-noted.result c.args.role (name_at c.args.name)
    (c.noted-noted.ensures.noted c.args.role c.args.name.id.now
    (subst (AreNotesWith (sought_words c.args.role c.args.name.id.now) 0 c.args.self.now.files c.args.self.now.parsed) (sym (ap note_views c.as_slice.ensures.value ∙ c.in_ok-notes.ensures)) c.in_ok-taken.ensures))
    c.args.self.now c.noted-noted.ensures.same _ refl in
    IfOk-weaker c.the_call.result _ _ (λ found h. sym same ∙ h) c.the_call.ensures.found

pub returns-clause-refused : goal.returns-clause-refused
returns-clause-refused c =
    let same = place_there c.noted-noted.result c.args.role (name_at c.args.name)
    (c.noted-noted.ensures.noted c.args.role c.args.name.id.now
    (subst (AreNotesWith (sought_words c.args.role c.args.name.id.now) 0 c.args.self.now.files c.args.self.now.parsed) (sym (ap note_views c.as_slice.ensures.value ∙ c.in_ok-notes.ensures)) c.in_ok-taken.ensures))
    c.args.self.now c.noted-noted.ensures.same _ refl in
    if_refused c.the_call.result _ _ (sym same) c.the_call.ensures.refused
