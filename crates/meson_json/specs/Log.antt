-- The undo log: a history as JSON, and back.
use Rattle.std.specs.Prelude.{◌==◌, ◌&&◌, ◌^◌, ℕ, nat_lt, List, [], ◌∷◌, ◌++◌, map, codes, if◌then◌else◌, Bool, Option, Some, None, option_map, option_and_then, Result, Ok, Err}
use Rattle.std.specs.List.{list_all}
use Rattle.std.specs.Str.{is_utf8}
use Rattle.serde_json.specs.Data.{Data, number, unsigned, string, array, object, no_members, member}
use Rattle.serde_json.specs.Find.{get, as_array}
use Rattle.serde_json.specs.View.{items_of}
use Rattle.serde_json.specs.Read.{read}
use Rattle.serde_json.specs.Written.{compact_text}
use Rattle.meson_json.specs.Each.{each_of}
use Rattle.meson_json.specs.Members.{member_text, whole_at, has_members}
use Rattle.meson_json.specs.Titles.{is_title}
use Rattle.meson_splice.specs.declared.change.Change.{Change}
use Rattle.meson_splice.specs.declared.history.History.{History}
use Rattle.meson_splice.specs.declared.splice.Splice.{Splice}
use Rattle.meson_json.specs.declared.fault.ScriptFault.{ScriptFault}
use Rattle.meson_json.specs.declared.fault.ScriptFault.TheVariants.{BadLog}
use Rattle.meson_json.specs.declared.version.Version.{Version}
use Rattle.meson_json.specs.declared.version.Version.TheVariants.{Bare, Titled}

-- ---- a history as JSON, with the members of an object in the order of their names

abbrev pub splice_data : Splice → Data
splice_data s = object (member (codes "at") (number (unsigned s.at))
    (member (codes "file") (string s.file) (member (codes "now") (string s.now) (member (codes "was") (string s.was) no_members))))

abbrev pub change_data : Change → Data
change_data c = object (member (codes "splices") (array (items_of (map splice_data c.splices))) (member (codes "title") (string c.title) no_members))

abbrev pub changes_data : List Change → Data
changes_data cs = array (items_of (map change_data cs))

unfoldable pub log_data : History → Data
log_data h = object (member (codes "future") (changes_data h.future)
    (member (codes "past") (changes_data h.past) (member (codes "version") (number (unsigned 2)) no_members)))

-- whether the bytes of a splice are text
abbrev pub is_text : Splice → Bool
is_text s = is_utf8 s.was && is_utf8 s.now

-- and the title is one
abbrev pub change_has_text : Change → Bool
change_has_text c = list_all is_text c.splices && is_title c.title

abbrev pub are_text : List Change → Bool
are_text cs = list_all change_has_text cs

-- whether the place is a number of 64 bits, as that of each splice in memory is
abbrev pub is_placed : Splice → Bool
is_placed s = nat_lt s.at (2 ^ 64)

abbrev pub are_placed : List Change → Bool
are_placed cs = list_all (λ c. list_all is_placed c.splices) cs

abbrev pub is_text_history : History → Bool
is_text_history h = are_text h.future && are_text h.past

-- compact, and a line end; only text has a log
unfoldable pub log_of : History → Result (List ℕ) ScriptFault
log_of h = if is_text_history h then Ok (compact_text (log_data h) ++ 10 ∷ []) else Err BadLog

-- ---- and back

-- if it is an object of these four members
unfoldable pub splice_of_data : Data → Option Splice
splice_of_data d =
    if has_members 4 d
    then option_and_then (λ at. option_and_then (λ file. option_and_then (λ now. option_and_then (λ was.
    Some (record { file = file; at = at; was = was; now = now })) (member_text (codes "was") d)) (member_text (codes "now") d))
    (member_text (codes "file") d)) (whole_at (codes "at") d)
    else None

abbrev pub titled : List Splice → List ℕ → Option Change
titled ss title = if is_title title then Some (record { splices = ss; title = title }) else None

-- if it is an object of these two members
unfoldable pub titled_change_of : Data → Option Change
titled_change_of d =
    if has_members 2 d
    then option_and_then (λ ss. option_and_then (titled ss) (member_text (codes "title") d))
    (option_and_then (each_of splice_of_data) (option_and_then as_array (get (codes "splices") d)))
    else None

abbrev pub version_of : ℕ → Option Version
version_of n = if n == 1 then Some Bare else if n == 2 then Some Titled else None

-- in the first version: the splices alone
abbrev pub change_of : Version → Data → Option Change
change_of Bare d = option_map (λ ss. record { splices = ss; title = [] }) (option_and_then (each_of splice_of_data) (as_array d))
change_of Titled d = titled_change_of d

abbrev pub changes_at : Version → List ℕ → Data → Option (List Change)
changes_at version name d = option_and_then (each_of (change_of version)) (option_and_then as_array (get name d))

-- if it is an object of these three members, of a known version
unfoldable pub history_of : Data → Option History
history_of d =
    if has_members 3 d
    then option_and_then (λ version. option_and_then (λ future. option_and_then (λ past.
    Some (record { past = past; future = future })) (changes_at version (codes "past") d)) (changes_at version (codes "future") d))
    (option_and_then version_of (whole_at (codes "version") d))
    else None

-- the history of a log's text
unfoldable pub logged : List ℕ → Option History
logged text = if is_utf8 text then option_and_then history_of (read text) else None
