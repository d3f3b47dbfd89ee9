-- What is told of a call that stands at a place.
use Rattle.std.proofs.Common.{◌≡◌, ℕ, List, Option, Some, refl, sym, ap, ◌∙◌}
use Rattle.std.specs.Prelude.{Result, Ok, Err, IfOk, option_map, option_and_then}
use Rattle.meson_lex.specs.declared.kinds.Span.{Span}
use Rattle.meson_splice.specs.Files.{bytes_at}
use Rattle.meson_syntax.specs.Tree.{Name, Listing, call}
use Rattle.meson_calls.specs.declared.call.CallRef.{CallRef}
use Rattle.meson_calls.specs.declared.call.Role.{Role}
use Rattle.meson_calls.specs.declared.refusal.Refusal.{Refusal}
use Rattle.meson_calls.specs.declared.noted.Noted.{Noted}
use Rattle.meson_calls.specs.Calls.{Call, call_of}
use Rattle.meson_calls.specs.Finding.{the_call}
use Rattle.meson_calls.specs.Loading.{Loaded, project}
use Rattle.meson_calls.specs.NotedProjects.{IsNotedFor, loaded_in, project_in}
use Rattle.meson_calls.specs.Notes.{note_views}
use Rattle.meson_calls.specs.OnePlace.{the_place}
use Rattle.meson_calls.specs.ChosenNotes.{call_with}
use Rattle.meson_calls.specs.Project.{Project, Placed, placed, expression_at}
use Rattle.meson_calls.specs.Refusals.{IfRefused, RefusedAs}
use Rattle.meson_sources.specs.Extras.{extra_files, extra_of_call}
use Rattle.meson_details.specs.Details.{keywords, keywords_of_call}
use Rattle.meson_plan.specs.Details.{place_found}
use Rattle.meson_calls.proofs.NotedCalls.{same_place}
use Rattle.meson_calls.proofs.OneCall.{placed_at}
use Rattle.meson_calls.specs.declared.call.CallName.{CallName}
use Rattle.meson_calls.specs.Searching.{names_of}
use Rattle.meson_splice.specs.declared.file_set.File.{File}

-- ---- an answer about what stands there

module _ {X : Type 0} (meant : Option (Result X Refusal)) (here : Result X Refusal) (is : meant ≡ Some here) where
  pub found_there : (r : Result X Refusal) → IfOk r (λ x. here ≡ Ok x) → IfOk r (λ x. meant ≡ Some (Ok x))
  found_there (Ok x) h = is ∙ ap Some h
  found_there (Err e) h = tt

  pub refused_there : {Y : Type 0} (r : Result Y Refusal) → RefusedAs r here → IfRefused r (λ e. meant ≡ Some (Err e))
  refused_there (Ok y) h = tt
  refused_there (Err e) h = λ other. is ∙ ap Some (h other)

-- ---- a call

placed_same : (found : Result (Placed (Call Span)) Refusal) → placed_at found ≡ place_found found
placed_same (Ok c) = refl
placed_same (Err e) = refl

-- the one that an id names, looked up in notes
pub place_there : (n : Noted) (r : Role) (name : CallName) → IsNotedFor r name.id n → (l : Loaded) → loaded_in n ≡ l → (files : List File) → n.files.now ≡ files
    → the_place r name (names_of files) (note_views n.notes.now) ≡ place_found (the_call (project l) r name)
place_there n r name is l same files here =
    ap (λ fs. the_place r name (names_of fs) (note_views n.notes.now)) (sym here) ∙ sym (same_place n r name is) ∙ placed_same (the_call (project_in n) r name)
    ∙ ap (λ k. place_found (the_call (project k) r name)) same

module _ (c : CallRef) (s : Span) (f : Name Span) (l : Listing Span) where
  pub extra_there : (p : Project Span) → expression_at p c ≡ Some (call s f l) → extra_files p c ≡ Some (extra_of_call p (placed c (call_with f.text l)))
  extra_there p is = ap (λ o. option_map (extra_of_call p) (option_map (placed c) (option_and_then call_of o))) is

  pub keywords_there : (old : Loaded) (r : Role) → expression_at (project old) c ≡ Some (call s f l) → keywords old r c ≡ Some (keywords_of_call (bytes_at c.file old.files) r (call_with f.text l))
  keywords_there old r is = ap (λ o. option_map (λ (found : Placed (Call Span)). keywords_of_call (bytes_at c.file old.files) r found.it) (option_map (placed c) (option_and_then call_of o))) is
