-- Why the place of a value is not found, or more than one is.
use Rattle.std.specs.Prelude.{ℕ, ◌-◌, ◌==◌, Bool, true, ◌&&◌, ◌||◌, List, [], ◌∷◌, ◌++◌, bytes_eq, codes, decimal, filter, length, map, take}
use Rattle.std.specs.Prelude.{if◌then◌else◌, is_none, Option, Some, None}
use Rattle.meson_splice.specs.declared.file_set.File.{File}
use Rattle.meson_splice.specs.Files.{position_of_file}
use Rattle.meson_edit.specs.Edits.{is_empty}
use Rattle.meson_calls.specs.declared.call.Reading.{Reading}
use Rattle.meson_calls.specs.Calls.{is}
use Rattle.meson_calls.specs.Loading.{Loaded}
use Rattle.meson_calls.specs.declared.call.Role.TheVariants as role
use Rattle.meson_steps.specs.declared.argument.Callee.{Callee}
use Rattle.meson_steps.specs.declared.argument.Callee.TheVariants as callee
use Rattle.meson_steps.specs.declared.argument.PlaceName.{PlaceName}
use Rattle.meson_steps.specs.declared.argument.PlaceName.TheVariants as name
use Rattle.meson_steps.specs.declared.argument.Search.{Search}
use Rattle.meson_places.specs.Names.{file_of_folder}
use Rattle.meson_inventory.specs.Assignments.{assignments}
use Rattle.meson_inventory.specs.Holdings.{calls_held, subdirs_held, targets_held}
use Rattle.meson_inventory.specs.declared.assignments.HeldAssignment.{HeldAssignment}
use Rattle.meson_inventory.specs.declared.holdings.HeldCall.{HeldCall}
use Rattle.meson_explaining.specs.Keys.{nearest_key}
use Rattle.meson_explaining.specs.Notes.{few_notes, further, plain_note}
use Rattle.meson_explaining.specs.NotFound.{missing_notes, not_found}
use Rattle.meson_explaining.specs.Targets.{folder_notes, searched_help}
use Rattle.meson_explaining.specs.declared.explanation.Explanation.{Explanation}
use Rattle.meson_explaining.specs.declared.explanation.Note.{Note}

-- ---- what is searched

-- the number of the one file that is searched, if a folder is given that has one
abbrev pub only_file : List File → Option (List ℕ) → Option ℕ
only_file files None = None
only_file files (Some folder) = position_of_file (file_of_folder folder) files

abbrev pub is_searched : Option ℕ → ℕ → Bool
is_searched None file = true
is_searched (Some only) file = file == only

-- ---- the calls and the assignments that a name means

-- the calls of the function
abbrev pub callee_calls : Loaded → Callee → List HeldCall
callee_calls l callee.Target = targets_held l
callee_calls l (callee.Function f) = calls_held l f

-- a call that is searched, with this name or with this variable
abbrev pub is_meant : Option ℕ → List ℕ → HeldCall → Bool
is_meant only id c = is_searched only c.file && (is id c.head.name || is id c.variable)

-- an assignment that is searched, of this variable with `=`
abbrev pub is_setting : Option ℕ → List ℕ → HeldAssignment → Bool
is_setting only x a = is_searched only a.file && (a.sets && bytes_eq a.variable x)

abbrev pub setting_note : HeldAssignment → Note
setting_note a = record {
  spot = Some (record { file = a.file; at = a.span.from; end = a.span.to });
  text = a.variable ++ codes " is set here";
}

-- the first five, and how many others there are
abbrev pub few_settings : List HeldAssignment → List Note
few_settings xs = take 5 (map setting_note xs) ++ further (codes "further assignments of it") (length xs - 5)

abbrev pub settings_of : Loaded → Option ℕ → List ℕ → List HeldAssignment
settings_of l only x = filter (is_setting only x) (assignments l)

-- ---- more than one is meant

abbrev pub meant_notes : Loaded → Option ℕ → PlaceName → List Note
meant_notes l only (name.Project id) = few_notes 5 [] (codes "further calls of project") (filter (λ c. is_searched only c.file) (calls_held l (codes "project")))
meant_notes l only (name.Call f id) = few_notes 5 [] (codes "further calls that the id names") (filter (is_meant only id) (callee_calls l f))
meant_notes l only (name.Variable x) = few_settings (settings_of l only x)
meant_notes l only (name.Line file line) = plain_note (codes "more than one call or value begins on this line") ∷ []

-- where all build files are searched, or that of one folder alone
abbrev pub line_help : Option (List ℕ) → List ℕ
line_help None = codes "at FILE:LINE names the one that begins on that line, and --in FOLDER searches the build file of one folder alone"
line_help (Some folder) = codes "at FILE:LINE names the one that begins on that line"

abbrev pub one_place_help : PlaceName → Option (List ℕ) → List ℕ
one_place_help (name.Line file line) folder = codes "name one of them by its function and its id, or by its variable"
one_place_help _ folder = line_help folder

abbrev pub places_meant : Loaded → Search → Explanation
places_meant l s = record { notes = meant_notes l (only_file l.files s.folder) s.name; help = one_place_help s.name s.folder ∷ [] }

-- ---- none is meant, where build files are read so

-- help where the build file of one folder alone is searched
abbrev pub folder_lines : Option (List ℕ) → List (List ℕ)
folder_lines None = []
folder_lines (Some folder) = codes "--in FOLDER searches the build file of that folder alone" ∷ []

abbrev pub uncalled_notes : List ℕ → List HeldCall → List Note
uncalled_notes f cs = if is_empty cs then plain_note (codes "no build file calls " ++ f) ∷ [] else []

abbrev pub no_call_notes : List ℕ → List ℕ → List HeldCall → List HeldCall → List Note
no_call_notes f id cs subdirs = uncalled_notes f cs ++ missing_notes id (codes "calls of it without a literal name") cs subdirs

abbrev pub no_call : Reading → Loaded → Callee → List ℕ → Explanation
no_call reading l callee.Target id = not_found reading l role.Target id
no_call reading l (callee.Function f) id = record {
  notes = no_call_notes f id (calls_held l f) (subdirs_held reading l);
  help = codes "a call is found by its name or its variable, which list --of FUNCTION shows, or by its line with at FILE:LINE" ∷ [];
}

-- where the variable with the nearest name is set
abbrev pub nearest_settings : Loaded → Option (List ℕ) → List Note
nearest_settings l None = []
nearest_settings l (Some x) = few_settings (settings_of l None x)

abbrev pub no_setting : Loaded → List ℕ → Explanation
no_setting l x = record {
  notes = nearest_settings l (nearest_key x (map (λ a. a.variable) (assignments l)));
  help = codes "a variable is found where = sets it, which list --of variable shows" ∷ [];
}

abbrev pub nothing_on : List ℕ → ℕ → Explanation
nothing_on file line = record {
  notes = plain_note (codes "no call, no value and no list begins on line " ++ (decimal line ++ (codes " of " ++ file))) ∷ [];
  help = codes "list shows the lines of targets, list --of FUNCTION those of other calls, and list --of variable those of assignments" ∷ [];
}

abbrev pub nothing_there : Reading → Loaded → PlaceName → Explanation
nothing_there reading l (name.Project id) = record { notes = []; help = codes "project is called in the root file" ∷ [] }
nothing_there reading l (name.Call f id) = no_call reading l f id
nothing_there reading l (name.Variable x) = no_setting l x
nothing_there reading l (name.Line file line) = nothing_on file line

abbrev pub and_help : Explanation → List (List ℕ) → Explanation
and_help e more = record { notes = e.notes; help = e.help ++ more }

abbrev pub place_missing : Reading → Loaded → Search → Explanation
place_missing reading l s = and_help (nothing_there reading l s.name) (folder_lines s.folder)

-- ---- the folder or the file has no build file

abbrev pub line_file_notes : PlaceName → List Note
line_file_notes (name.Line file line) = plain_note (codes "the project has no build file " ++ file) ∷ []
line_file_notes _ = []

abbrev pub no_folder_notes : Loaded → Option (List ℕ) → PlaceName → List Note
no_folder_notes l None n = line_file_notes n
no_folder_notes l (Some folder) n = if is_none (only_file l.files (Some folder)) then folder_notes (length l.files) folder else line_file_notes n

abbrev pub place_without_file : Loaded → Search → Explanation
place_without_file l s = record {
  notes = no_folder_notes l s.folder s.name;
  help = searched_help ∷ [];
}
