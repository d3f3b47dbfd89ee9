-- Why the value that keys name is not found, or may not be changed.
use Rattle.std.specs.Prelude.{ℕ, zero, suc, Bool, true, if◌then◌else◌, List, [], ◌∷◌, ◌++◌, bytes_eq, codes, length, option_map, option_to_list, take}
use Rattle.std.specs.Prelude.{Option, Some, None, Result, Ok, Err}
use Rattle.std.specs.List.{filter_map}
use Rattle.std.specs.Str.Lossy.{utf8_lossy}
use Rattle.meson_lex.specs.declared.kinds.Span.{Span}
use Rattle.meson_splice.specs.declared.file_set.File.{File}
use Rattle.meson_splice.specs.Files.{bytes_at}
use Rattle.meson_syntax.specs.Tree.{Expression, call, Argument, named}
use Rattle.meson_syntax.specs.View.{text_at}
use Rattle.meson_edit.specs.Edits.{elements}
use Rattle.meson_edit.specs.Standing.{expression_span}
use Rattle.meson_calls.specs.declared.call.CallRef.{CallRef}
use Rattle.meson_calls.specs.declared.refusal.Refusal.{Refusal}
use Rattle.meson_calls.specs.Loading.{Loaded, project}
use Rattle.meson_calls.specs.Project.{expression_at}
use Rattle.meson_steps.specs.declared.argument.ValueName.{ValueName}
use Rattle.meson_places.specs.Changes.{slot_value}
use Rattle.meson_places.specs.Names.{the_place}
use Rattle.meson_places.specs.Slots.{the_slot}
use Rattle.meson_places.specs.declared.slots.Slot.{Slot}
use Rattle.meson_explaining.specs.Keys.{or_then}
use Rattle.meson_explaining.specs.Names.{is_bad_variable}
use Rattle.meson_explaining.specs.Values.{start_of}
use Rattle.meson_explaining.specs.declared.explanation.Note.{Note}

-- ---- places

abbrev pub found_place : Result CallRef Refusal → Option CallRef
found_place (Err e) = None
found_place (Ok p) = Some p

-- ---- the value that keys lead to

abbrev pub slot_span : Loaded → Result Slot Refusal → Option Span
slot_span l (Err e) = None
slot_span l (Ok s) = option_map expression_span (slot_value (project l) s)

-- where it is, from a place on
abbrev pub span_by : Loaded → CallRef → List (List ℕ) → Option Span
span_by l p keys = slot_span l (the_slot (project l) p keys)

-- that of the first n keys, or of the most of them that lead to a value
abbrev pub deepest : Loaded → CallRef → List (List ℕ) → ℕ → Option Span
deepest l p keys zero = span_by l p []
deepest l p keys (suc n) = or_then (span_by l p (take (suc n) keys)) (deepest l p keys n)

-- the first line of what is there, cut, after some words
abbrev pub shown_note : List File → (words : List ℕ) → ℕ → Span → Note
shown_note files words file s = record {
  spot = Some (record { file = file; at = s.from; end = s.to });
  text = words ++ start_of (utf8_lossy (text_at (bytes_at file files) s));
}

abbrev pub shown_notes : List File → (words : List ℕ) → ℕ → Option Span → List Note
shown_notes files words file found = option_to_list (option_map (shown_note files words file) found)

abbrev pub reached_of : Loaded → List (List ℕ) → Option CallRef → List Note
reached_of l keys None = []
reached_of l keys (Some p) = shown_notes l.files (codes "the value is ") p.file (deepest l p keys (length keys))

-- of the value that the most of the keys lead to
abbrev pub reached_notes : Loaded → ValueName → List Note
reached_notes l n = reached_of l n.keys (found_place (the_place l n.place))

-- ---- `kwargs:` of the call

abbrev pub hiding_of : Loaded → Option CallRef → List Note
hiding_of l None = []
hiding_of l (Some p) = shown_notes l.files (codes "kwargs: ") p.file (span_by l p (codes "kwargs" ∷ []))

abbrev pub hiding_notes : Loaded → ValueName → List Note
hiding_notes l n = hiding_of l (found_place (the_place l n.place))

-- ---- keyword arguments of the call

-- of all names, or of one
abbrev pub is_wanted : Option (List ℕ) → List ℕ → Bool
is_wanted None x = true
is_wanted (Some key) x = bytes_eq x key

-- a value with its name
abbrev pub named_note : List File → ℕ → (name : List ℕ) → Span → Note
named_note files file name s = shown_note files (utf8_lossy name ++ codes ": ") file s

abbrev pub keyword_note : List File → ℕ → Option (List ℕ) → Argument Span → Option Note
keyword_note files file key (named s x e) = if is_wanted key x.text then Some (named_note files file x.text (expression_span e)) else None
keyword_note files file key _ = None

abbrev pub call_arguments : Expression Span → List (Argument Span)
call_arguments (call s f l) = elements l
call_arguments _ = []

abbrev pub call_elements : Option (Expression Span) → List (Argument Span)
call_elements None = []
call_elements (Some e) = call_arguments e

abbrev pub keywords_of : Loaded → Option (List ℕ) → Option CallRef → List Note
keywords_of l key None = []
keywords_of l key (Some p) = take 5 (filter_map (keyword_note l.files p.file key) (call_elements (expression_at (project l) p)))

-- the first five
abbrev pub keyword_notes : Loaded → Option (List ℕ) → ValueName → List Note
keyword_notes l key n = keywords_of l key (found_place (the_place l n.place))

-- those that there are, where a name is not among them
abbrev pub other_keywords : Loaded → List ℕ → ValueName → List Note
other_keywords l key n = if is_bad_variable key then [] else keyword_notes l None n
