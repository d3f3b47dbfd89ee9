-- The files that a build file enters, by how the build files are read: those that its `subdir` calls mean. Meson manual, Reference manual, `subdir`.
use Rattle.std.specs.Prelude.{◌≢◌, ℕ, List, [], if◌then◌else◌, codes, Option, Some, option_and_then}
use Rattle.std.specs.List.{cons_option, filter_map, flat_map}
use Rattle.meson_lex.specs.declared.kinds.Span.{Span}
use Rattle.meson_syntax.specs.Tree.{Expression, identifier, File}
use Rattle.meson_syntax.specs.View.{text_at}
use Rattle.meson_calls.specs.declared.call.CallRef.{CallRef}
use Rattle.meson_calls.specs.declared.call.Reading.{Reading}
use Rattle.meson_calls.specs.declared.call.Reading.TheVariants.{Followed}
use Rattle.meson_calls.specs.Calls.{Call, all_chosen, calls_function, first_argument, literal_of, part_call}
use Rattle.meson_calls.specs.Entering.{folder_file}
use Rattle.meson_calls.specs.Notes.{Note, a_call, an_assignment, a_loop}
use Rattle.meson_calls.specs.Parts.{parts_of_file}
use Rattle.meson_calls.specs.Project.{BuildFile, Placed, placed}
use Rattle.meson_entering.specs.Loops.{loop_texts}

-- The folders that a `subdir` of this argument at a path may mean: its literal. Where the files are followed, the name of a loop around it means each text that
-- is known of the loop's list.
abbrev pub folders_of : {S : Type 0} → Reading → File S → List ℕ → Option (Expression S) → List (List ℕ)
folders_of Followed tree path (Some (identifier s x)) = loop_texts tree x path
folders_of reading tree path o = cons_option (option_and_then literal_of o) []

-- the files that it may mean
abbrev pub files_meant : {S : Type 0} → Reading → BuildFile S → List ℕ → Call S → List (List ℕ)
files_meant reading f path c = filter_map (folder_file reading f.name) (folders_of reading f.tree path (first_argument c))

abbrev pub entered_at : {S : Type 0} → Reading → BuildFile S → Placed (Call S) → List (List ℕ)
entered_at reading f c = if calls_function (codes "subdir") c.it then files_meant reading f c.place.path.steps c.it else []

-- of all calls of a file, in order
abbrev pub files_entered : {S : Type 0} → Reading → BuildFile S → List (List ℕ)
files_entered reading f = flat_map (entered_at reading f) (all_chosen part_call (parts_of_file 0 f.tree))

-- the same of notes
abbrev pub call_enters : {S : Type 0} → Reading → BuildFile S → CallRef → Note S → List (List ℕ)
call_enters reading f q (a_call c) = entered_at reading f (placed q c)
call_enters reading f q (an_assignment x sets e) = []
call_enters reading f q (a_loop xs) = []

abbrev pub note_enters : {S : Type 0} → Reading → BuildFile S → Placed (Note S) → List (List ℕ)
note_enters reading f n = call_enters reading f n.place n.it

-- no part of the bytes is the name of that function
abbrev pub HasNoSubdir : List ℕ → Type 0
HasNoSubdir bytes = (s : Span) → text_at bytes s ≢ codes "subdir"
