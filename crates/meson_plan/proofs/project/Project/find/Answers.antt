use Rattle.std.proofs.Common.{◌∙◌, sym, ap, subst}
use Rattle.std.proofs.lemmas.Result.{IfOk-weaker}
use Rattle.meson_calls.proofs.NotedCalls.{noted_good}
use Rattle.meson_calls.specs.Notes.{note_views}
use Rattle.meson_calls.specs.Searching.{name_at}
use Rattle.meson_calls.specs.Spelling.{AreNotesWith, sought_words}
use Rattle.meson_plan.proofs.NamedThere.{named_there, refused_alike}
use Rattle.meson_plan.proofs.project.Project.find.Goals as goal

pub calls_named-requires : goal.calls_named-requires
calls_named-requires c = noted_good c.noted-noted.result
    (c.noted-noted.ensures.noted c.args.role c.args.name.id.now
    (subst (AreNotesWith (sought_words c.args.role c.args.name.id.now) 0 c.args.self.now.files c.args.self.now.parsed) (sym (ap note_views c.as_slice.ensures.value ∙ c.in_ok-notes.ensures)) c.in_ok-taken.ensures))

pub returns-clause-all : goal.returns-clause-all
returns-clause-all c =
    let same = named_there c.noted-noted.result c.args.role (name_at c.args.name)
    (c.noted-noted.ensures.noted c.args.role c.args.name.id.now
    (subst (AreNotesWith (sought_words c.args.role c.args.name.id.now) 0 c.args.self.now.files c.args.self.now.parsed) (sym (ap note_views c.as_slice.ensures.value ∙ c.in_ok-notes.ensures)) c.in_ok-taken.ensures))
    c.args.self.now c.noted-noted.ensures.same in
    IfOk-weaker c.calls_named.result _ _ (λ calls h. sym same ∙ h) c.calls_named.ensures.all

pub returns-clause-refused : goal.returns-clause-refused
returns-clause-refused c =
    let same = named_there c.noted-noted.result c.args.role (name_at c.args.name)
    (c.noted-noted.ensures.noted c.args.role c.args.name.id.now
    (subst (AreNotesWith (sought_words c.args.role c.args.name.id.now) 0 c.args.self.now.files c.args.self.now.parsed) (sym (ap note_views c.as_slice.ensures.value ∙ c.in_ok-notes.ensures)) c.in_ok-taken.ensures))
    c.args.self.now c.noted-noted.ensures.same in
    refused_alike c.calls_named.result _ _ (sym same) c.calls_named.ensures.refused
