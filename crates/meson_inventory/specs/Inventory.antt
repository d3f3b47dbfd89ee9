-- What a project holds as JSON, and as lines for people.
use Rattle.std.specs.Prelude.{ℕ, ◌+◌, ◌==◌, Bool, true, false, List, [], ◌++◌, length, map, filter, take, flat_map, codes, decimal, Option, Some, None}
use Rattle.serde_json.specs.Data.{Data, number, unsigned, string, array, object, no_members, member}
use Rattle.serde_json.specs.View.{items_of}
use Rattle.meson_splice.specs.declared.file_set.File.{File}
use Rattle.meson_splice.specs.Files.{bytes_at}
use Rattle.meson_calls.specs.declared.call.Reading.{Reading}
use Rattle.meson_calls.specs.Loading.{Loaded, name_of_file}
use Rattle.meson_listing.specs.Entries.{text_or_null}
use Rattle.meson_inventory.specs.Assignments.{assignments}
use Rattle.meson_inventory.specs.Holdings.{calls_held, holdings}
use Rattle.meson_inventory.specs.declared.assignments.HeldAssignment.{HeldAssignment}
use Rattle.meson_inventory.specs.declared.holdings.HeldCall.{HeldCall}

-- ---- as JSON

abbrev pub file_data : File → Data
file_data f = string f.name

-- the place of a call
abbrev pub spot_data : List File → HeldCall → Data
spot_data files c = object (member (codes "at") (number (unsigned c.head.at)) (member (codes "file") (string (name_of_file c.file files)) no_members))

-- and its names
abbrev pub held_data : List File → HeldCall → Data
held_data files c =
    object (member (codes "at") (number (unsigned c.head.at))
    (member (codes "file") (string (name_of_file c.file files)) (member (codes "function") (string c.head.function)
    (member (codes "name") (text_or_null c.head.name) (member (codes "variable") (text_or_null c.variable) no_members)))))

abbrev pub project_data : Reading → Loaded → Data
project_data reading l =
    object (member (codes "files") (array (items_of (map file_data l.files)))
    (member (codes "not_entered") (array (items_of (map (spot_data l.files) (holdings reading l).not_entered)))
    (member (codes "targets") (array (items_of (map (held_data l.files) (holdings reading l).targets))) no_members)))

-- the calls of a function, of any name
abbrev pub calls_data : Loaded → List ℕ → Data
calls_data l function = object (member (codes "calls") (array (items_of (map (held_data l.files) (calls_held l function)))) no_members)

-- whether a variable is set or added to
abbrev pub operator_of : Bool → List ℕ
operator_of true = codes "="
operator_of false = codes "+="

-- the place of an assignment, its variable and its operator
abbrev pub assignment_data : List File → HeldAssignment → Data
assignment_data files a =
    object (member (codes "at") (number (unsigned a.span.from)) (member (codes "file") (string (name_of_file a.file files))
    (member (codes "name") (string a.variable) (member (codes "operator") (string (operator_of a.sets)) no_members))))

abbrev pub assignments_data : Loaded → Data
assignments_data l = object (member (codes "assignments") (array (items_of (map (assignment_data l.files) (assignments l)))) no_members)

-- ---- as lines

-- the number of the line of the byte at an offset, counted from 1: each line feed (10) before it ends a line
abbrev pub line_number : List ℕ → ℕ → ℕ
line_number bytes at_ = length (filter (λ b. b == 10) (take at_ bytes)) + 1

abbrev pub named_part : Option (List ℕ) → List ℕ
named_part None = codes " without a literal name"
named_part (Some name) = codes " '" ++ (name ++ codes "'")

abbrev pub variable_part : Option (List ℕ) → List ℕ
variable_part None = []
variable_part (Some name) = codes ", variable " ++ name

-- `FUNCTION 'NAME', variable VARIABLE`
abbrev pub call_words : HeldCall → List ℕ
call_words c = c.head.function ++ (named_part c.head.name ++ variable_part c.variable)

-- `FILE:LINE: FUNCTION 'NAME', variable VARIABLE`, and what else is to be said of it
abbrev pub call_line : List File → List ℕ → HeldCall → List ℕ
call_line files more c =
    name_of_file c.file files ++ (codes ":" ++ (decimal (line_number (bytes_at c.file files) c.head.at) ++ (codes ": "
    ++ (call_words c ++ (more ++ codes "\n")))))

abbrev pub file_line : File → List ℕ
file_line f = f.name ++ codes ":1: build file\n"

-- a line for each target, then one for each file, then one for each `subdir` call that is not entered
abbrev pub project_lines : Reading → Loaded → List ℕ
project_lines reading l =
    flat_map (call_line l.files []) (holdings reading l).targets ++ (flat_map file_line l.files
    ++ flat_map (call_line l.files (codes ", not entered")) (holdings reading l).not_entered)

-- a line for each call of a function
abbrev pub calls_lines : Loaded → List ℕ → List ℕ
calls_lines l function = flat_map (call_line l.files []) (calls_held l function)

abbrev pub added_part : Bool → List ℕ
added_part true = []
added_part false = codes ", added to"

-- `FILE:LINE: variable NAME`, and whether it is added to
abbrev pub assignment_line : List File → HeldAssignment → List ℕ
assignment_line files a =
    name_of_file a.file files ++ (codes ":" ++ (decimal (line_number (bytes_at a.file files) a.span.from) ++ (codes ": variable "
    ++ (a.variable ++ (added_part a.sets ++ codes "\n")))))

-- a line for each assignment
abbrev pub assignments_lines : Loaded → List ℕ
assignments_lines l = flat_map (assignment_line l.files) (assignments l)
