use Rattle.std.proofs.Common.{◌∙◌, sym, ap, subst}
use Rattle.meson_calls.specs.declared.call.Role.TheVariants as role
use Rattle.meson_calls.specs.Loading.{AreParsed, loaded_from, project}
use Rattle.meson_calls.specs.Notes.{note_views, notes}
use Rattle.meson_calls.specs.ChosenNotes.{places_with_role}
use Rattle.meson_calls.proofs.Picked.{role_places}
use Rattle.meson_plan.proofs.project.Project.targets.Goals as goal

pub notes_of-requires : goal.notes_of-requires
notes_of-requires c = subst (AreParsed c.self.inside.files) (sym c.as_slice.ensures.value) c.self.invariant.0.parsed

pub returns-clause-all : goal.returns-clause-all
returns-clause-all c =
    let files = c.self.inside.files in
    let same = ap (λ ts. notes (project (loaded_from files ts))) c.as_slice.ensures.value ∙ ap (λ l. notes (project l)) c.self.view_is in
    let noted = ap note_views c.as_slice-2.ensures.value ∙ c.in_ok-notes.ensures ∙ c.in_ok-taken.ensures ∙ same in
    c.in_ok-calls.ensures ∙ ap (places_with_role role.Target) noted ∙ role_places role.Target (project c.args.self.now)
