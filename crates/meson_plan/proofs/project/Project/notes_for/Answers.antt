use Rattle.std.proofs.Common.{◌∙◌, sym, ap, subst}
use Rattle.std.proofs.lemmas.Result.{IfOk-weaker}
use Rattle.meson_calls.specs.Loading.{AreParsed, Loaded, loaded_from}
use Rattle.meson_calls.specs.Notes.{taken_view}
use Rattle.meson_calls.specs.Spelling.{AreNotesWith, sought_words}
use Rattle.meson_plan.proofs.project.Project.notes_for.Goals as goal

pub notes_for-requires : goal.notes_for-requires
notes_for-requires c = subst (AreParsed c.self.inside.files) (sym c.as_slice.ensures.value) c.self.invariant.0.parsed

pub returns : goal.returns
returns c =
    let same = ap (loaded_from c.self.inside.files) c.as_slice.ensures.value ∙ c.self.view_is in
    IfOk-weaker c.notes_for.result _ _ (λ found are. subst (λ (l : Loaded). AreNotesWith (sought_words c.args.role c.args.id.now) 0 l.files l.parsed (taken_view found)) same are) c.notes_for.ensures
