use Rattle.std.proofs.Common.{refl, ◌∙◌, sym, ap, ap₂, subst}
use Rattle.std.specs.Prelude.{IsTrue, Ok}
use Rattle.std.proofs.lemmas.Result.{IfErr-weaker, IfOk-weaker, err_from_is_err_and}
use Rattle.meson_calls.specs.declared.call.CallRef.{CallRef}
use Rattle.meson_calls.specs.declared.call.Role.TheVariants.{Target}
use Rattle.meson_calls.specs.Loading.{loaded_from, project}
use Rattle.meson_calls.specs.Roles.{is_target}
use Rattle.meson_calls.proofs.NotedCalls.{noted_good}
use Rattle.meson_plan.specs.Details.{AreDetails, NoDetails, not_found, untold}
use Rattle.meson_plan.proofs.DetailsThere.{place_there}
use Rattle.meson_plan.proofs.PlacesFound.{target_found}
use Rattle.meson_calls.specs.Notes.{note_views}
use Rattle.meson_calls.specs.Spelling.{AreNotesWith, sought_words}
use Rattle.meson_plan.proofs.project.Project.target_details.Goals as goal
use Rattle.meson_calls.specs.Searching.{name_at}

pub the_call-requires : goal.the_call-requires
the_call-requires c = noted_good c.noted-noted.result
    (c.noted-noted.ensures.noted Target c.args.name.id.now
    (subst (AreNotesWith (sought_words Target c.args.name.id.now) 0 c.args.self.now.files c.args.self.now.parsed) (sym (ap note_views c.as_slice.ensures.value ∙ c.in_ok-notes.ensures)) c.in_ok-taken.ensures))

pub returns-in_err-place-clause-refused : goal.returns-in_err-place-clause-refused
returns-in_err-place-clause-refused c =
    let error = err_from_is_err_and c.from_residual-in_err-place.result c.from_residual-in_err-place.ensures.1 in
    let found = place_there c.noted-noted.result Target (name_at c.args.name)
    (c.noted-noted.ensures.noted Target c.args.name.id.now
    (subst (AreNotesWith (sought_words Target c.args.name.id.now) 0 c.args.self.now.files c.args.self.now.parsed) (sym (ap note_views c.as_slice.ensures.value ∙ c.in_ok-notes.ensures)) c.in_ok-taken.ensures))
    c.args.self.now c.noted-noted.ensures.same _ refl in
    rw (error.1, error.2) (λ other. not_found c.in_err-place.field-0.0 (sym found ∙ c.in_err-place.ensures.refused other))

pub near_noted-requires : goal.near_noted-requires
near_noted-requires c = (
  Target,
  c.args.name.id.now,
  c.noted-noted.ensures.noted Target c.args.name.id.now
      (subst (AreNotesWith (sought_words Target c.args.name.id.now) 0 c.args.self.now.files c.args.self.now.parsed) (sym (ap note_views c.as_slice.ensures.value ∙ c.in_ok-notes.ensures)) c.in_ok-taken.ensures),
)

pub details_at-requires-clause-parsed : goal.details_at-requires-clause-parsed
details_at-requires-clause-parsed c = c.in_ok-variables.ensures.holds.whole.parsed

pub details_at-requires-clause-target : goal.details_at-requires-clause-target
details_at-requires-clause-target c =
    let v = c.in_ok-variables.variables in
    let is = ap project (ap₂ loaded_from c.in_ok-variables.ensures.files c.in_ok-variables.ensures.trees ∙ c.noted-noted.ensures.same) in
    let found = place_there c.noted-noted.result Target (name_at c.args.name)
    (c.noted-noted.ensures.noted Target c.args.name.id.now
    (subst (AreNotesWith (sought_words Target c.args.name.id.now) 0 c.args.self.now.files c.args.self.now.parsed) (sym (ap note_views c.as_slice.ensures.value ∙ c.in_ok-notes.ensures)) c.in_ok-taken.ensures))
    c.args.self.now c.noted-noted.ensures.same _ refl in
    let place = c.in_ok-place.place in
    subst (λ q. IsTrue (is_target q place)) (sym is) (target_found c.args.self.now (name_at c.args.name) place (sym found ∙ c.in_ok-place.ensures.found))

pub returns-clause-told : goal.returns-clause-told
returns-clause-told c =
    let v = c.in_ok-variables.variables in
    let is = ap project (ap₂ loaded_from c.in_ok-variables.ensures.files c.in_ok-variables.ensures.trees ∙ c.noted-noted.ensures.same) in
    let found = place_there c.noted-noted.result Target (name_at c.args.name)
    (c.noted-noted.ensures.noted Target c.args.name.id.now
    (subst (AreNotesWith (sought_words Target c.args.name.id.now) 0 c.args.self.now.files c.args.self.now.parsed) (sym (ap note_views c.as_slice.ensures.value ∙ c.in_ok-notes.ensures)) c.in_ok-taken.ensures))
    c.args.self.now c.noted-noted.ensures.same _ refl in
    let place = c.in_ok-place.place in
    IfOk-weaker c.details_at.result _ _ (λ told are.
    let there = subst (λ q. AreDetails q place told) is are in
    (sym found ∙ c.in_ok-place.ensures.found ∙ ap (λ (x : CallRef). Ok x) (sym there.is_place), subst (λ r. AreDetails (project c.args.self.now) r told) (sym there.is_place) there)) c.details_at.ensures.told

pub returns-clause-refused : goal.returns-clause-refused
returns-clause-refused c =
    let v = c.in_ok-variables.variables in
    let is = ap project (ap₂ loaded_from c.in_ok-variables.ensures.files c.in_ok-variables.ensures.trees ∙ c.noted-noted.ensures.same) in
    let found = place_there c.noted-noted.result Target (name_at c.args.name)
    (c.noted-noted.ensures.noted Target c.args.name.id.now
    (subst (AreNotesWith (sought_words Target c.args.name.id.now) 0 c.args.self.now.files c.args.self.now.parsed) (sym (ap note_views c.as_slice.ensures.value ∙ c.in_ok-notes.ensures)) c.in_ok-taken.ensures))
    c.args.self.now c.noted-noted.ensures.same _ refl in
    let place = c.in_ok-place.place in
    IfErr-weaker c.details_at.result _ _ (λ e refused other. untold place e (sym found ∙ c.in_ok-place.ensures.found) (subst (λ q. NoDetails q place e) is (refused other))) c.details_at.ensures.refused
