-- The one call that an id names, by its place.
use Rattle.meson_calls.proofs.Words.{false, ◌==◌, Result, Ok, Err, IfOk, ◌≡◌, ℕ, List, [], ◌∷◌, length, refl, sym, ap, ◌∙◌, then_ok, Span, Call, found_places}
use Rattle.meson_calls.proofs.Words.{only_one, any_project, found_among, parts, within, AreParsed, named_trees, views, File, Parsed, Option, notes, any_place, Project, Placed, role_calls, places, CallRef, Role, Refusal}
use Rattle.meson_calls.specs.declared.call.Role.TheVariants as role
use Rattle.meson_calls.specs.Finding.{call_within, the_call}
use Rattle.meson_calls.specs.OnePlace.{place_within, the_place}
use Rattle.meson_calls.proofs.Words.{names_of, project_names, searched_file}
use Rattle.meson_calls.specs.declared.call.CallName.{CallName}
use Rattle.meson_calls.proofs.Picked.{role_places, found_notes}
use Rattle.meson_calls.specs.Refusals.{RefusedAs}

-- a result that is known as a whole
pub refused_as : {X : Type 0} (r wanted : Result X Refusal) → r ≡ wanted → RefusedAs r wanted
refused_as (Ok x) wanted is = tt
refused_as (Err e) wanted is = λ other. sym is

pub done_as : {X : Type 0} (r wanted : Result X Refusal) → r ≡ wanted → IfOk r (λ x. wanted ≡ Ok x)
done_as (Ok x) wanted is = sym is
done_as (Err e) wanted is = tt

-- where there is a project
pub behind_project : (projects : List CallRef) (found : Result CallRef Refusal) → false ≡ (length projects == 0) → then_ok (any_place projects) (λ _. found) ≡ found
behind_project [] found some = absurd cc
behind_project (p ∷ projects) found some = refl

pub if_refused : {X : Type 0} (r a b : Result X Refusal) → a ≡ b → RefusedAs r b → RefusedAs r a
if_refused (Ok x) a b same h = tt
if_refused (Err e) a b same h = λ other. same ∙ h other

-- ---- a call and its place

abbrev pub placed_at : Result (Placed (Call Span)) Refusal → Result CallRef Refusal
placed_at (Ok c) = Ok c.place
placed_at (Err e) = Err e

one_of_them : (ys : List (Placed (Call Span))) → only_one (places ys) ≡ placed_at (only_one ys)
one_of_them [] = refl
one_of_them (y ∷ []) = refl
one_of_them (y ∷ z ∷ ys) = refl

one_of_project : (xs ys : List (Placed (Call Span))) → then_ok (any_place (places xs)) (λ _. only_one (places ys)) ≡ placed_at (then_ok (any_project xs) (λ _. only_one ys))
one_of_project [] ys = refl
one_of_project (x ∷ xs) ys = one_of_them ys

within_is : (w : Option ℕ) (r : Role) (id : List ℕ) (p : Project Span) → place_within w r id (notes p) ≡ placed_at (call_within w p r id)
within_is w role.Target id p = ap only_one (found_notes w role.Target id p) ∙ one_of_them (found_among (within w (parts p)) role.Target id)
within_is w role.Dependency id p = ap only_one (found_notes w role.Dependency id p) ∙ one_of_them (found_among (within w (parts p)) role.Dependency id)
within_is w role.Project id p =
    ap (λ xs. then_ok (any_place xs) (λ _. only_one (found_places w role.Project id (notes p)))) (role_places role.Project p)
    ∙ ap (λ ys. then_ok (any_place (places (role_calls p role.Project))) (λ _. only_one ys)) (found_notes w role.Project id p)
    ∙ one_of_project (role_calls p role.Project) (found_among (within w (parts p)) role.Project id)

pub place_is : (r : Role) (name : CallName) (p : Project Span) → the_place r name (project_names p) (notes p) ≡ placed_at (the_call p r name)
place_is r name p = go (searched_file (project_names p) name.folder)
  where
    go : (o : Result (Option ℕ) Refusal) → then_ok o (λ w. place_within w r name.id (notes p)) ≡ placed_at (then_ok o (λ w. call_within w p r name.id))
    go (Ok w) = within_is w r name.id p
    go (Err e) = refl

-- the files of a project have the names of its files
pub names_are : (files : List File) (parsed : List Parsed) → AreParsed files parsed → project_names (named_trees files (views files parsed)) ≡ names_of files
names_are [] [] are = refl
names_are [] (t ∷ parsed) are = absurd are
names_are (f ∷ files) [] are = absurd are
names_are (f ∷ files) (t ∷ parsed) are = ap (λ names. f.name ∷ names) (names_are files parsed are.1)

pub call_there : (x : Result (Placed (Call Span)) Refusal) (call : CallRef) → placed_at x ≡ Ok call → (c : Placed (Call Span)) × (x ≡ Ok c) × (c.place ≡ call)
call_there (Ok c) call is = (c, refl, let same : c.place ≡ call = cc in same)
call_there (Err e) call is = absurd cc

pub call_refused : (x : Result (Placed (Call Span)) Refusal) (e : Refusal) → placed_at x ≡ Err e → x ≡ Err e
call_refused (Ok c) e is = absurd cc
call_refused (Err f) e is = let same : f ≡ e = cc in ap Err same
