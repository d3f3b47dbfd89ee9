-- The calls that are named among the notes of a project are those of the project.
use Rattle.std.proofs.Common.{◌≡◌, ℕ, List, Option, sym, ap, ◌∙◌, refl}
use Rattle.std.specs.Prelude.{Result, Ok, Err}
use Rattle.meson_lex.specs.declared.kinds.Span.{Span}
use Rattle.meson_splice.specs.Patch.{then_ok}
use Rattle.meson_splice.specs.declared.file_set.File.{File}
use Rattle.meson_calls.specs.declared.call.CallName.{CallName}
use Rattle.meson_calls.specs.declared.call.CallRef.{CallRef}
use Rattle.meson_calls.specs.declared.call.Role.{Role}
use Rattle.meson_calls.specs.declared.noted.Noted.{Noted}
use Rattle.meson_calls.specs.declared.refusal.Refusal.{Refusal}
use Rattle.meson_calls.specs.ChosenNotes.{found_places}
use Rattle.meson_calls.specs.Loading.{Loaded, project}
use Rattle.meson_calls.specs.Naming.{found_among}
use Rattle.meson_calls.specs.NotedProjects.{IsNotedFor, loaded_in, project_in}
use Rattle.meson_calls.specs.Notes.{note_views}
use Rattle.meson_calls.specs.Parts.{parts}
use Rattle.meson_calls.specs.Refusals.{RefusedAs}
use Rattle.meson_calls.specs.Roles.{places}
use Rattle.meson_calls.specs.Searching.{names_of, project_names, searched_file, within}
use Rattle.meson_calls.proofs.NotesWith.{same_found}
use Rattle.meson_calls.proofs.OneCall.{names_are}
use Rattle.meson_calls.proofs.Picked.{found_notes}
use Rattle.meson_plan.specs.Named.{places_named}
use Rattle.meson_plan.specs.inside.NotedPlaces.{noted_places}

-- what is refused is refused as what is equal
pub refused_alike : {X Y : Type 0} (r : Result X Refusal) (a b : Result Y Refusal) → a ≡ b → RefusedAs r b → RefusedAs r a
refused_alike (Ok x) a b same h = tt
refused_alike (Err e) a b same h = λ other. same ∙ h other

module _ (n : Noted) (r : Role) (name : CallName) (is : IsNotedFor r name.id n) where
  -- in the files that are searched
  here : (w : Option ℕ) → found_places w r name.id (note_views n.notes.now) ≡ places (found_among (within w (parts (project_in n))) r name.id)
  here w = same_found w r name.id n.files.now n.trees.now (note_views n.notes.now) is.whole.parsed is.taken ∙ found_notes w r name.id (project_in n)

  abbrev noted_in : Option ℕ → Result (List CallRef) Refusal
  noted_in w = Ok (found_places w r name.id (note_views n.notes.now))

  abbrev named_in : Option ℕ → Result (List CallRef) Refusal
  named_in w = Ok (places (found_among (within w (parts (project_in n))) r name.id))

  searched : (o : Result (Option ℕ) Refusal) → then_ok o noted_in ≡ then_ok o named_in
  searched (Ok w) = ap Ok (here w)
  searched (Err e) = refl

  pub named_there : (l : Loaded) → loaded_in n ≡ l → noted_places r name (names_of n.files.now) (note_views n.notes.now) ≡ places_named (project l) r name
  named_there l same =
      searched (searched_file (names_of n.files.now) name.folder)
      ∙ ap (λ names. then_ok (searched_file names name.folder) named_in) (sym (names_are n.files.now n.trees.now is.whole.parsed))
      ∙ ap (λ k. places_named (project k) r name) same
