-- What a project holds as JSON, with positions as the language server protocol counts them: lines from 0, characters in UTF-16 code units.
use Rattle.std.specs.Prelude.{ℕ, List, if◌then◌else◌, map, codes}
use Rattle.std.specs.Str.{is_utf8}
use Rattle.serde_json.specs.Data.{Data, null, number, unsigned, string, array, object, no_members, member}
use Rattle.serde_json.specs.View.{items_of}
use Rattle.meson_lex.specs.declared.kinds.Span.{Span}
use Rattle.meson_splice.specs.declared.file_set.File.{File}
use Rattle.meson_splice.specs.Files.{bytes_at}
use Rattle.meson_syntax.specs.View.{text_at}
use Rattle.meson_ranges.specs.Positions.{position_of}
use Rattle.meson_calls.specs.declared.call.Reading.{Reading}
use Rattle.meson_calls.specs.Loading.{Loaded, name_of_file}
use Rattle.meson_listing.specs.Entries.{text_or_null}
use Rattle.meson_inventory.specs.Assignments.{assignments}
use Rattle.meson_inventory.specs.Holdings.{calls_held, holdings}
use Rattle.meson_inventory.specs.Inventory.{file_data, operator_of}
use Rattle.meson_inventory.specs.declared.assignments.HeldAssignment.{HeldAssignment}
use Rattle.meson_inventory.specs.declared.holdings.HeldCall.{HeldCall}

abbrev pub count : ℕ → Data
count n = number (unsigned n)

-- the line and the character of an offset in the file of that number
abbrev pub line_at : List File → ℕ → ℕ → Data
line_at files file offset = count (position_of (bytes_at file files) offset).line

abbrev pub character_at : List File → ℕ → ℕ → Data
character_at files file offset = count (position_of (bytes_at file files) offset).character

-- where something ends in a file: after its last byte
abbrev pub end_data : List File → ℕ → ℕ → Data
end_data files file end =
    object (member (codes "at") (count end) (member (codes "character") (character_at files file end)
    (member (codes "line") (line_at files file end) no_members)))

-- the place of what is at a span of a file
abbrev pub placed_spot_data : List File → ℕ → Span → Data
placed_spot_data files file span =
    object (member (codes "at") (count span.from) (member (codes "character") (character_at files file span.from)
    (member (codes "end") (end_data files file span.to) (member (codes "file") (string (name_of_file file files))
    (member (codes "line") (line_at files file span.from) no_members)))))

abbrev pub call_span : HeldCall → Span
call_span c = record { from = c.head.at; to = c.end }

-- the bytes from one offset of a file up to another, as a text; null if they are not UTF-8
abbrev pub bytes_data : List ℕ → Data
bytes_data bytes = if is_utf8 bytes then string bytes else null

-- the text of a call in its file
abbrev pub call_text : List File → HeldCall → List ℕ
call_text files c = text_at (bytes_at c.file files) (call_span c)

-- the place of a `subdir` call that is not entered, and its text
abbrev pub unentered_data : List File → HeldCall → Data
unentered_data files c =
    object (member (codes "at") (count c.head.at) (member (codes "character") (character_at files c.file c.head.at)
    (member (codes "end") (end_data files c.file c.end) (member (codes "file") (string (name_of_file c.file files))
    (member (codes "line") (line_at files c.file c.head.at) (member (codes "text") (bytes_data (call_text files c)) no_members))))))

-- the place of a call, and its names
abbrev pub placed_call_data : List File → HeldCall → Data
placed_call_data files c =
    object (member (codes "at") (count c.head.at) (member (codes "character") (character_at files c.file c.head.at)
    (member (codes "end") (end_data files c.file c.end) (member (codes "file") (string (name_of_file c.file files))
    (member (codes "function") (string c.head.function) (member (codes "line") (line_at files c.file c.head.at)
    (member (codes "name") (text_or_null c.head.name) (member (codes "variable") (text_or_null c.variable) no_members))))))))

abbrev pub placed_project_data : Reading → Loaded → Data
placed_project_data reading l =
    object (member (codes "files") (array (items_of (map file_data l.files)))
    (member (codes "not_entered") (array (items_of (map (unentered_data l.files) (holdings reading l).not_entered)))
    (member (codes "targets") (array (items_of (map (placed_call_data l.files) (holdings reading l).targets))) no_members)))

-- the calls of a function, of any name
abbrev pub placed_calls_data : Loaded → List ℕ → Data
placed_calls_data l function = object (member (codes "calls") (array (items_of (map (placed_call_data l.files) (calls_held l function)))) no_members)

-- the place of an assignment, its variable and its operator
abbrev pub placed_assignment_data : List File → HeldAssignment → Data
placed_assignment_data files a =
    object (member (codes "at") (count a.span.from) (member (codes "character") (character_at files a.file a.span.from)
    (member (codes "end") (end_data files a.file a.span.to) (member (codes "file") (string (name_of_file a.file files))
    (member (codes "line") (line_at files a.file a.span.from) (member (codes "name") (string a.variable)
    (member (codes "operator") (string (operator_of a.sets)) no_members)))))))

abbrev pub placed_assignments_data : Loaded → Data
placed_assignments_data l = object (member (codes "assignments") (array (items_of (map (placed_assignment_data l.files) (assignments l)))) no_members)
