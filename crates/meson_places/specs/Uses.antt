-- Where a variable is read or named, and whether that is one place alone.
use Rattle.std.specs.Prelude.{ℕ, Bool, true, false, not, is_some, ◌&&◌, List, [], ◌∷◌, ◌++◌, bytes_eq, codes, Option, Some, None, Result, Ok, Err}
use Rattle.std.specs.List.{list_any}
use Rattle.memchr.specs.Find.{matches}
use Rattle.meson_lex.specs.declared.fault.LexFault.{LexFault}
use Rattle.meson_lex.specs.declared.kinds.Item.{Item}
use Rattle.meson_lex.specs.declared.kinds.Kind.{Kind}
use Rattle.meson_lex.specs.declared.kinds.Kind.TheVariants.{FormatString, FormatMultilineString}
use Rattle.meson_lex.specs.declared.kinds.Span.{Span}
use Rattle.meson_lex.specs.Scan.{scan}
use Rattle.meson_splice.specs.declared.file_set.File.{File}
use Rattle.meson_syntax.specs.View.{text_at}
use Rattle.meson_calls.specs.declared.call.CallRef.{CallRef}
use Rattle.meson_calls.specs.Calls.{Call, first_literal, first_of}
use Rattle.meson_calls.specs.Notes.{Note, a_call, an_assignment, a_loop, notes}
use Rattle.meson_calls.specs.Parts.{parts}
use Rattle.meson_calls.specs.Project.{Placed, Project}
use Rattle.meson_calls.specs.Roles.{one_of}
use Rattle.meson_calls.specs.Walks.{read_in}
use Rattle.meson_places.specs.TargetNames.{is_same}

-- ---- calls that name a variable

-- the functions whose first argument is the name of a variable: Meson manual, Reference manual
abbrev pub variable_functions : List (List ℕ)
variable_functions = codes "get_variable" ∷ codes "set_variable" ∷ codes "is_variable" ∷ codes "unset_variable" ∷ []

-- whether a function with this literal as its first argument is about the variable; a name that is computed may be that of any variable that is read
abbrev pub literal_names : (x function : List ℕ) → Option (List ℕ) → Bool
literal_names x f None = bytes_eq f (codes "get_variable")
literal_names x f (Some text) = bytes_eq x text

abbrev pub call_names : {S : Type 0} → List ℕ → Call S → Bool
call_names x c = one_of variable_functions c.function && literal_names x c.function (first_literal c)

abbrev pub note_names : {S : Type 0} → List ℕ → Note S → Bool
note_names x (a_call c) = call_names x c
note_names x (an_assignment y sets e) = false
note_names x (a_loop xs) = false

-- whether a call of the project is about the variable
abbrev pub is_named : {S : Type 0} → List ℕ → List (Placed (Note S)) → Bool
is_named x ns = list_any (λ n. note_names x n.it) ns

-- ---- format strings: Meson manual, Syntax, "String formatting": `@name@` in a format string is the value of the variable

abbrev pub is_format : Kind → Bool
is_format FormatString = true
is_format FormatMultilineString = true
is_format _ = false

-- the name between two `@` (64)
abbrev pub placeholder : List ℕ → List ℕ
placeholder x = 64 ∷ (x ++ 64 ∷ [])

-- whether a text occurs in another one
abbrev pub occurs : (part text : List ℕ) → Bool
occurs part text = is_some (first_of (matches text part 0))

-- whether an item of a source is a format string that holds a text
abbrev pub item_holds : (source part : List ℕ) → Result Item LexFault → Bool
item_holds source part (Ok x) = is_format x.kind && occurs part (text_at source x.span)
item_holds source part (Err fault) = false

abbrev pub source_holds : (part source : List ℕ) → Bool
source_holds part source = list_any (item_holds source part) (scan 0 source)

-- whether a format string of one of some files holds the variable
abbrev pub is_formatted : List ℕ → List File → Bool
is_formatted x files = list_any (λ f. source_holds (placeholder x) f.bytes) files

-- ---- one place

abbrev pub is_only : CallRef → List CallRef → Bool
is_only c [] = false
is_only c (d ∷ []) = is_same d c
is_only c (d ∷ e ∷ more) = false

-- whether the identifier at this place is the only one that is the variable, and nothing else in the project reads or names it
abbrev pub is_read_once : List File → Project Span → List ℕ → CallRef → Bool
is_read_once files p x c = is_only c (read_in x (parts p)) && (not (is_formatted x files) && not (is_named x (notes p)))
