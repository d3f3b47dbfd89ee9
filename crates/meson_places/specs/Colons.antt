-- The colon of a new keyword argument or entry: after a blank, or right after the key.
use Rattle.std.specs.Prelude.{ℕ, nat_lt, max, Bool, false, List, [], ◌∷◌, ◌++◌, drop, filter, flat_map, codes, if◌then◌else◌, Option, Some, None}
use Rattle.std.specs.List.{reduce}
use Rattle.std.specs.Option.{option_or}
use Rattle.meson_lex.specs.declared.kinds.Span.{Span}
use Rattle.meson_lex.specs.Bytes.{begins, is_blank}
use Rattle.meson_syntax.specs.Paths.{expression_on_path}
use Rattle.meson_syntax.specs.Tree.{Argument, plain, named, pair, Expression, File}
use Rattle.meson_edit.specs.Edits.{elements}
use Rattle.meson_edit.specs.Standing.{expression_span}
use Rattle.meson_calls.specs.declared.keeper.Opened.{Opened}
use Rattle.meson_calls.specs.Loading.{Loaded, project}
use Rattle.meson_calls.specs.Notes.{Note, a_call, an_assignment, a_loop, noted}
use Rattle.meson_calls.specs.Parts.{parts_of_file}
use Rattle.meson_calls.specs.Project.{BuildFile, nth_file}
use Rattle.meson_calls.specs.Walks.{lists_opened}
use Rattle.meson_places.specs.Slots.{elements_in}

-- what is between a key and its value
abbrev pub colon_text : (spaced : Bool) → List ℕ
colon_text spaced = if spaced then codes " : " else codes ": "

-- the offset where the key of a keyword argument or of an entry ends; other elements have no key
abbrev pub key_end : Argument Span → List ℕ
key_end (plain e) = []
key_end (named s x e) = x.place.to ∷ []
key_end (pair s k v) = (expression_span k).to ∷ []

-- the ends of the keys of some elements
abbrev pub key_ends : List (Argument Span) → List ℕ
key_ends xs = flat_map key_end xs

-- ---- the keys of a file

-- those of the keyword arguments of a call of a function
abbrev pub keyword_ends : Note Span → List ℕ
keyword_ends (a_call c) = key_ends (elements c.arguments)
keyword_ends (an_assignment x sets e) = []
keyword_ends (a_loop xs) = []

abbrev pub ends_of : Option (Expression Span) → List ℕ
ends_of None = []
ends_of (Some e) = key_ends (elements_in e)

-- those of the entries of a dictionary that is opened in a file
abbrev pub entry_ends : File Span → Opened → List ℕ
entry_ends tree o = ends_of (expression_on_path tree o.place.path.steps)

-- those of all calls of functions and all dictionaries in the file of a number. The arguments of methods are not looked at.
abbrev pub ends_among : (file : ℕ) → Option (BuildFile Span) → List ℕ
ends_among file None = []
ends_among file (Some f) =
    flat_map (λ m. keyword_ends m.it) (noted (parts_of_file file f.tree)) ++ flat_map (entry_ends f.tree) (lists_opened (parts_of_file file f.tree))

abbrev pub ends_in_file : Loaded → (file : ℕ) → List ℕ
ends_in_file l file = ends_among file (nth_file (project l) file)

-- ---- the last key

-- those before an offset
abbrev pub ends_before : (at_ : ℕ) → List ℕ → List ℕ
ends_before at_ ends = filter (λ end. nat_lt end at_) ends

-- the last one in the file
abbrev pub last_end : List ℕ → Option ℕ
last_end ends = reduce max ends

-- whether a blank comes after a key
abbrev pub is_spaced : (source : List ℕ) → (end : Option ℕ) → Bool
is_spaced source None = false
is_spaced source (Some end) = begins is_blank (drop end source)

-- As after the last key of the call or dictionary. Where it has no key, as after the last key before it in the file, whose keys have these ends. Where there is
-- no key before it either, without a blank.
abbrev pub is_spaced_in : (source ends : List ℕ) → Expression Span → Bool
is_spaced_in source ends e = is_spaced source (option_or (last_end (key_ends (elements_in e))) (last_end (ends_before (expression_span e).from ends)))
