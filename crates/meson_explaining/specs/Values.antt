-- Notes of the values of keyword arguments.
use Rattle.std.specs.Prelude.{ℕ, ◌==◌, not, ◌||◌, List, [], ◌++◌, if◌then◌else◌, bytes_eq, take, take_while, chars, codes, encode_utf8_all, Option}
use Rattle.std.specs.Prelude.{Some, None, Result, Ok, Err}
use Rattle.std.specs.List.{filter_map}
use Rattle.meson_lex.specs.declared.kinds.Span.{Span}
use Rattle.meson_splice.specs.Files.{bytes_at}
use Rattle.meson_syntax.specs.Tree.{Expression, Argument, named}
use Rattle.meson_edit.specs.Edits.{elements}
use Rattle.meson_edit.specs.Standing.{expression_span}
use Rattle.meson_calls.specs.declared.call.Role.{Role}
use Rattle.meson_calls.specs.declared.refusal.Refusal.{Refusal}
use Rattle.meson_calls.specs.Calls.{Call}
use Rattle.meson_calls.specs.Finding.{the_call}
use Rattle.meson_calls.specs.Loading.{Loaded, project}
use Rattle.meson_calls.specs.Project.{Placed}
use Rattle.meson_details.specs.Details.{source_text}
use Rattle.meson_explaining.specs.declared.explanation.Note.{Note}
use Rattle.meson_calls.specs.declared.call.CallName.{CallName}

-- the first line of a text, up to a line feed (10) or a carriage return (13), and at most 60 characters of it
abbrev pub start_of : List ℕ → List ℕ
start_of text = encode_utf8_all (take 60 (take_while (λ c. not (c == 10 || c == 13)) (chars text)))

-- a value of the key, in the file of that number with that source
abbrev pub value_note : ℕ → List ℕ → List ℕ → Expression Span → Note
value_note file source key e = record {
  spot = Some (record { file = file; at = (expression_span e).from; end = (expression_span e).to });
  text = key ++ (codes ": " ++ start_of (source_text source e));
}

abbrev pub argument_note : ℕ → List ℕ → List ℕ → Argument Span → Option Note
argument_note file source key (named s x e) = if bytes_eq x.text key then Some (value_note file source key e) else None
argument_note file source key _ = None

-- the arguments of the key in a call
abbrev pub call_notes : Loaded → List ℕ → Result (Placed (Call Span)) Refusal → List Note
call_notes l key (Err e) = []
call_notes l key (Ok c) = filter_map (argument_note c.place.file (bytes_at c.place.file l.files) key) (elements c.it.arguments)

-- in the one that the id names
abbrev pub value_notes : Loaded → Role → CallName → List ℕ → List Note
value_notes l r name key = call_notes l key (the_call (project l) r name)
