use Rattle.meson_keywords.proofs.Words.{◌∙◌, ap, subst, sym, IfOk-weaker, if_refused}
use Rattle.meson_calls.specs.Notes.{note_views}
use Rattle.meson_calls.specs.Spelling.{AreNotesWith, sought_words}
use Rattle.meson_calls.proofs.GoodNotes.{project_good}
use Rattle.meson_calls.proofs.NotedCalls.{name_place}
use Rattle.meson_calls.proofs.NotesWith.{good_with}
use Rattle.meson_calls.specs.Searching.{name_at}
use Rattle.meson_keywords.proofs.changing.place_named.Goals as goal

pub the_call-requires : goal.the_call-requires
the_call-requires c =
    let files = c.args.files.now in
    let trees = c.args.trees.now in
    let words = sought_words c.args.role c.args.name.id.now in
    let are = subst (AreNotesWith words 0 files trees) (sym (ap note_views c.as_slice.ensures.value ∙ c.in_ok-notes.ensures)) c.in_ok-taken.ensures in
    good_with words files trees _ (project_good files trees c.requires) are

pub returns-clause-found : goal.returns-clause-found
returns-clause-found c =
    let files = c.args.files.now in
    let trees = c.args.trees.now in
    let are = subst (AreNotesWith (sought_words c.args.role c.args.name.id.now) 0 files trees) (sym (ap note_views c.as_slice.ensures.value ∙ c.in_ok-notes.ensures)) c.in_ok-taken.ensures in
    let same = name_place c.args.role (name_at c.args.name) files trees _ c.requires are in
    IfOk-weaker c.the_call.result _ _ (λ found h. sym same ∙ h) c.the_call.ensures.found

pub returns-clause-refused : goal.returns-clause-refused
returns-clause-refused c =
    let files = c.args.files.now in
    let trees = c.args.trees.now in
    let are = subst (AreNotesWith (sought_words c.args.role c.args.name.id.now) 0 files trees) (sym (ap note_views c.as_slice.ensures.value ∙ c.in_ok-notes.ensures)) c.in_ok-taken.ensures in
    let same = name_place c.args.role (name_at c.args.name) files trees _ c.requires are in
    if_refused c.the_call.result _ _ (sym same) c.the_call.ensures.refused
