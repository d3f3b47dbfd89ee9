-- The places in a project that a name finds: calls, and values of assignments.
use Rattle.std.specs.Prelude.{ℕ, ◌+◌, ◌==◌, Bool, true, false, not, ◌&&◌, List, [], ◌∷◌, length, take, filter, bytes_eq, codes, if◌then◌else◌, Option, Some, None, Result, Ok, Err, ok_or}
use Rattle.std.specs.List.{filter_map, list_all}
use Rattle.meson_lex.specs.declared.kinds.Span.{Span}
use Rattle.meson_splice.specs.declared.file_set.File.{File}
use Rattle.meson_splice.specs.Files.{bytes_at, position_of_file}
use Rattle.meson_splice.specs.Patch.{then_ok}
use Rattle.meson_syntax.specs.Paths.{list_span}
use Rattle.meson_edit.specs.Standing.{expression_span}
use Rattle.meson_calls.specs.declared.call.CallRef.{CallRef}
use Rattle.meson_calls.specs.declared.call.Role.TheVariants as role
use Rattle.meson_calls.specs.declared.refusal.Refusal.{Refusal}
use Rattle.meson_calls.specs.declared.refusal.Refusal.TheVariants.{Ambiguous, NoFile, NotFound}
use Rattle.meson_calls.specs.Calls.{Call, call_of, calls_function, first_literal, is}
use Rattle.meson_calls.specs.ChosenNotes.{places_with_role}
use Rattle.meson_calls.specs.Finding.{only_one}
use Rattle.meson_calls.specs.Folders.{build_file, in_folder}
use Rattle.meson_calls.specs.Loading.{Loaded, loaded_from, project}
use Rattle.meson_calls.specs.Naming.{project_ids}
use Rattle.meson_calls.specs.Notes.{Note, a_call, an_assignment, a_loop, notes}
use Rattle.meson_calls.specs.OnePlace.{any_place}
use Rattle.meson_calls.specs.Parts.{parts_of_file}
use Rattle.meson_calls.specs.Project.{BuildFile, Placed, child, nth_file}
use Rattle.meson_calls.specs.Roles.{has_role, one_of}
use Rattle.meson_calls.specs.Walks.{lists_opened}
use Rattle.meson_calls.specs.declared.keeper.Opened.{Opened}
use Rattle.meson_steps.specs.declared.argument.Callee.{Callee}
use Rattle.meson_steps.specs.declared.argument.Callee.TheVariants as callee
use Rattle.meson_steps.specs.declared.argument.PlaceName.{PlaceName}
use Rattle.meson_steps.specs.declared.argument.PlaceName.TheVariants as name
use Rattle.meson_steps.specs.declared.argument.Search.{Search}
use Rattle.meson_places.specs.declared.name.Sources.{Sources}

-- the files and trees of the code
abbrev pub loaded_in : Sources → Loaded
loaded_in s = loaded_from s.files.now s.trees.now

-- ---- by an id

-- whether a call is one of the function
abbrev pub calls_callee : {S : Type 0} → Callee → Call S → Bool
calls_callee callee.Target c = has_role role.Target c
calls_callee (callee.Function f) c = calls_function f c

-- whether it is one, and another text is its first argument without a name
abbrev pub calls_other : {S : Type 0} → Callee → List ℕ → Option (Call S) → Bool
calls_other f id None = false
calls_other f id (Some c) = calls_callee f c && not (is id (first_literal c))

-- whether what is noted is the call that is named
abbrev pub is_named : {S : Type 0} → PlaceName → Note S → Bool
is_named (name.Project id) (a_call c) = one_of project_ids id && calls_function (codes "project") c
is_named (name.Call f id) (a_call c) = calls_callee f c && is id (first_literal c)
is_named _ _ = false

-- whether it is an assignment with `=` of the value that is named
abbrev pub sets_named : {S : Type 0} → PlaceName → Note S → Bool
sets_named (name.Call f id) (an_assignment x sets e) = sets && (bytes_eq x id && calls_other f id (call_of e))
sets_named (name.Variable id) (an_assignment x sets e) = sets && bytes_eq x id
sets_named _ _ = false

-- the value of an assignment is its first child
abbrev pub named_place : {S : Type 0} → PlaceName → Placed (Note S) → Option CallRef
named_place n m = if is_named n m.it then Some m.place else (if sets_named n m.it then Some (child m.place 0) else None)

-- ---- by a line

-- the number of the line of the byte at an offset, counted from 1: each line feed (10) before it ends a line
abbrev pub line_of : List ℕ → ℕ → ℕ
line_of bytes at_ = length (filter (λ b. b == 10) (take at_ bytes)) + 1

-- where a call's opening bracket is, and where the value of an assignment begins
abbrev pub offset_of : Note Span → Option ℕ
offset_of (a_call c) = Some (list_span c.arguments).from
offset_of (an_assignment x sets e) = Some (expression_span e).from
offset_of (a_loop xs) = None

-- the place of a call, or of the value of an assignment
abbrev pub beginning_at : {S : Type 0} → Note S → CallRef → CallRef
beginning_at (a_call c) p = p
beginning_at (an_assignment x sets e) p = child p 0
beginning_at (a_loop xs) p = p

abbrev pub is_on : List ℕ → ℕ → Option ℕ → Bool
is_on bytes line None = false
is_on bytes line (Some at_) = line_of bytes at_ == line

-- what begins on this line of the file of this number and these bytes
abbrev pub place_on : List ℕ → (file line : ℕ) → Placed (Note Span) → Option CallRef
place_on bytes file line m = if m.place.file == file && is_on bytes line (offset_of m.it) then Some (beginning_at m.it m.place) else None

-- whether a path leads to what is at another path, or into it
abbrev pub leads_into : List ℕ → List ℕ → Bool
leads_into path [] = true
leads_into [] (n ∷ outer) = false
leads_into (m ∷ path) (n ∷ outer) = m == n && leads_into path outer

-- the place of an array or a dictionary whose bracket opens on this line
abbrev pub opens_on : List ℕ → (line : ℕ) → Opened → Option CallRef
opens_on bytes line o = if line_of bytes o.at == line then Some o.place else None

-- the first of some places of one file, if all others are in it
abbrev pub first_around : List CallRef → Result CallRef Refusal
first_around [] = Err NotFound
first_around (c ∷ more) = if list_all (λ d. leads_into d.path.steps c.path.steps) more then Ok c else Err Ambiguous

-- the first of some arrays and dictionaries
abbrev pub first_list : List CallRef → Result CallRef Refusal
first_list [] = Err NotFound
first_list (c ∷ more) = Ok c

-- what begins on a line: a call or an assigned value, and where there is none, the first array or dictionary that opens on it
abbrev pub beginning_among : (places lists : List CallRef) → Result CallRef Refusal
beginning_among [] lists = first_list lists
beginning_among (c ∷ more) lists = first_around (c ∷ more)

-- ---- which files are searched

-- the build file of a folder
abbrev pub file_of_folder : List ℕ → List ℕ
file_of_folder folder = if bytes_eq folder (codes ".") then build_file else in_folder folder

abbrev pub numbered_file : List File → List ℕ → Result ℕ Refusal
numbered_file files file = ok_or (position_of_file file files) NoFile

-- the number of the one file that is searched, if a folder is given
abbrev pub searched_file : List File → Option (List ℕ) → Result (Option ℕ) Refusal
searched_file files None = Ok None
searched_file files (Some folder) = then_ok (numbered_file files (file_of_folder folder)) (λ n. Ok (Some n))

abbrev pub is_searched : Option ℕ → CallRef → Bool
is_searched None c = true
is_searched (Some n) c = c.file == n

abbrev pub searched : Option ℕ → List CallRef → List CallRef
searched within cs = filter (is_searched within) cs

-- ---- what a search finds

-- a search for the call of `project` requires that there is such a call
abbrev pub project_there : {S : Type 0} → PlaceName → List (Placed (Note S)) → Result (Unit {0}) Refusal
project_there (name.Project id) ns = any_place (places_with_role role.Project ns)
project_there _ ns = Ok tt

-- the places that a name finds, in file order and source order; of a line, of which the files have the number of the file
abbrev pub places_by_id : {S : Type 0} → PlaceName → List (Placed (Note S)) → List CallRef
places_by_id n ns = filter_map (named_place n) ns

abbrev pub places_on : List File → (file line : ℕ) → List (Placed (Note Span)) → List CallRef
places_on files file line ns = filter_map (place_on (bytes_at file files) file line) ns

-- the arrays and dictionaries of a build file that open on this line of the file of this number
abbrev pub lists_among : List ℕ → (file line : ℕ) → Option (BuildFile Span) → List CallRef
lists_among bytes file line None = []
lists_among bytes file line (Some f) = filter_map (opens_on bytes line) (lists_opened (parts_of_file file f.tree))

abbrev pub lists_on : Loaded → (file line : ℕ) → List CallRef
lists_on l file line = lists_among (bytes_at file l.files) file line (nth_file (project l) file)

abbrev pub found_on : Loaded → Option ℕ → (file line : ℕ) → Result CallRef Refusal
found_on l within file line =
    beginning_among (searched within (places_on l.files file line (notes (project l)))) (searched within (lists_on l file line))

abbrev pub found_by_id : Loaded → Option ℕ → PlaceName → Result CallRef Refusal
found_by_id l within n = then_ok (project_there n (notes (project l))) (λ _. only_one (searched within (places_by_id n (notes (project l)))))

abbrev pub found_within : Loaded → Option ℕ → PlaceName → Result CallRef Refusal
found_within l within (name.Line file line) = then_ok (numbered_file l.files file) (λ n. found_on l within n line)
found_within l within n = found_by_id l within n

-- the one place that a search finds
abbrev pub the_place : Loaded → Search → Result CallRef Refusal
the_place l s = then_ok (searched_file l.files s.folder) (λ within. found_within l within s.name)
