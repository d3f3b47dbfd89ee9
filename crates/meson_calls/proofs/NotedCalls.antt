-- A project with its notes: these are good, and the call that an id names in them is that of the project, and stands in its trees.
use Rattle.meson_calls.proofs.Words.{ap, refl, Option, Result, then_ok, notes, named_trees, views, AreParsed, AreNotesWith, Note, File, Parsed, Ok, Err, ◌≡◌, ℕ, ◌<◌, List, length, sym, ◌∙◌, arith, Span, CallIn, Call, note_views, Placed, sought_words, NotesGood}
use Rattle.meson_calls.proofs.Words.{CallRef, Role, Refusal}
use Rattle.meson_calls.specs.declared.noted.Noted.{Noted}
use Rattle.meson_calls.specs.Finding.{the_call}
use Rattle.meson_calls.specs.NotedProjects.{IsNotedFor, project_in}
use Rattle.meson_calls.specs.OnePlace.{place_within, the_place}
use Rattle.meson_calls.specs.Searching.{names_of, searched_file}
use Rattle.meson_calls.specs.declared.call.CallName.{CallName}
use Rattle.meson_calls.proofs.CallLists.{inside}
use Rattle.meson_calls.proofs.CallsFound.{calls_stand}
use Rattle.meson_calls.proofs.GoodNotes.{project_good}
use Rattle.meson_calls.proofs.Loads.{as_many}
use Rattle.meson_calls.proofs.NotesWith as with_words
use Rattle.meson_calls.proofs.OneCall.{call_refused, call_there, names_are, place_is, placed_at}

module _ {r : Role} {id : List ℕ} (n : Noted) (is : IsNotedFor r id n) where
  pub noted_good : NotesGood (note_views n.notes.now)
  noted_good = with_words.good_with (sought_words r id) n.files.now n.trees.now (note_views n.notes.now) (project_good n.files.now n.trees.now is.whole.parsed) is.taken

  pub trees_as_many : length n.trees.now ≡ length n.files.now
  trees_as_many = as_many n.files.now n.trees.now is.whole.parsed

-- ---- the call that an id names

-- among these notes and among all
pub name_place : (r : Role) (name : CallName) (files : List File) (parsed : List Parsed) (ns : List (Placed (Note Span))) → AreParsed files parsed → AreNotesWith (sought_words r name.id) 0 files parsed ns
    → the_place r name (names_of files) ns ≡ the_place r name (names_of files) (notes (named_trees files (views files parsed)))
name_place r name files parsed ns parses are = go (searched_file (names_of files) name.folder)
  where
    go : (o : Result (Option ℕ) Refusal) → then_ok o (λ w. place_within w r name.id ns) ≡ then_ok o (λ w. place_within w r name.id (notes (named_trees files (views files parsed))))
    go (Ok w) = with_words.same_place w r name.id files parsed ns parses are
    go (Err e) = refl

-- among all notes of files
pub place_of_name : (r : Role) (name : CallName) (files : List File) (parsed : List Parsed) → AreParsed files parsed
    → the_place r name (names_of files) (notes (named_trees files (views files parsed))) ≡ placed_at (the_call (named_trees files (views files parsed)) r name)
place_of_name r name files parsed parses =
    let p = named_trees files (views files parsed) in
    ap (λ names. the_place r name names (notes p)) (sym (names_are files parsed parses)) ∙ place_is r name p

module _ (n : Noted) (r : Role) (name : CallName) (is : IsNotedFor r name.id n) where
  pub same_place : placed_at (the_call (project_in n) r name) ≡ the_place r name (names_of n.files.now) (note_views n.notes.now)
  same_place = sym (name_place r name n.files.now n.trees.now (note_views n.notes.now) is.whole.parsed is.taken ∙ place_of_name r name n.files.now n.trees.now is.whole.parsed)

  pub none_noted : (e : Refusal) → the_place r name (names_of n.files.now) (note_views n.notes.now) ≡ Err e → the_call (project_in n) r name ≡ Err e
  none_noted e why = call_refused (the_call (project_in n) r name) e (same_place ∙ why)

  module _ (place : CallRef) (found : the_place r name (names_of n.files.now) (note_views n.notes.now) ≡ Ok place) where
    one : (c : Placed (Call Span)) × (the_call (project_in n) r name ≡ Ok c) × (c.place ≡ place)
    one = call_there (the_call (project_in n) r name) place (same_place ∙ found)

    pub the_one : Placed (Call Span)
    the_one = one.0

    pub one_is : the_call (project_in n) r name ≡ Ok the_one
    unfolding the_one
    one_is = one.1

    pub one_at : the_one.place ≡ place
    unfolding the_one
    one_at = one.2

    abbrev pub call_in : CallIn n.trees.now place
    call_in = record { files = n.files.now; parsed = is.whole.parsed; call = the_one; is_place = one_at; there = calls_stand (project_in n) r name the_one one_is }

    pub call_within : place.file < length n.trees.now
    call_within = inside n.trees.now place call_in

    pub call_file : place.file < length n.files.now
    call_file = let within = call_within in let many = trees_as_many n is in omega (arith, within, many)
