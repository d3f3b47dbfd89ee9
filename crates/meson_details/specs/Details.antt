-- What is reported of a call: its head, and its keyword arguments that commands change. Meson manual, Rewriter.
use Rattle.std.specs.Prelude.{ℕ, Bool, List, [], ◌∷◌, if◌then◌else◌, Option, Some, None, is_some, option_map, option_and_then, Result, Ok}
use Rattle.std.specs.List.{filter_map}
use Rattle.std.specs.Option.{option_map_or}
use Rattle.meson_lex.specs.Literals.{value}
use Rattle.meson_lex.specs.declared.kinds.Span.{Span}
use Rattle.meson_splice.specs.Files.{bytes_at}
use Rattle.meson_splice.specs.Patch.{then_ok}
use Rattle.meson_syntax.specs.Operators.{string_kind}
use Rattle.meson_syntax.specs.Tree.{Expression, identifier, boolean, string, array, call, Argument, named}
use Rattle.meson_syntax.specs.View.{text_at}
use Rattle.meson_edit.specs.Edits.{elements}
use Rattle.meson_edit.specs.Standing.{expression_span}
use Rattle.meson_calls.specs.declared.call.CallRef.{CallRef}
use Rattle.meson_calls.specs.declared.call.Role.{Role}
use Rattle.meson_calls.specs.declared.refusal.Refusal.{Refusal}
use Rattle.meson_calls.specs.CallPlaces.{call_at}
use Rattle.meson_calls.specs.Calls.{Call, first_of, first_literal, keyword, literal_of, value_without_name}
use Rattle.meson_calls.specs.Keys.{is_key, name_of}
use Rattle.meson_calls.specs.NamedArguments.{kwargs_key}
use Rattle.meson_calls.specs.Loading.{Loaded, project}
use Rattle.meson_calls.specs.ChosenNotes.{call_with}
use Rattle.meson_calls.specs.Project.{Project, expression_at}
use Rattle.meson_details.specs.declared.details.Head.{Head}
use Rattle.meson_details.specs.declared.details.Shown.{Shown}
use Rattle.meson_details.specs.declared.details.Shown.TheVariants as shown
use Rattle.meson_details.specs.Once.{call_told}

-- whether the place is that of a call
abbrev pub is_call : {S : Type 0} → Project S → CallRef → Bool
is_call p c = is_some (call_at p c)

-- ---- the head

-- a `kwargs:` argument may hold further keyword arguments
abbrev pub is_hidden : {S : Type 0} → Call S → Bool
is_hidden c = is_some (first_of (keyword kwargs_key c))

-- The offset of the first byte, the function, and whether arguments are hidden. And the text of the first argument without a name, if that is a literal.
abbrev pub head_of : Expression Span → Option Head
head_of (call s f l) = Some (record { at = s.from; function = f.text; hidden = is_hidden (call_with f.text l); name = first_literal (call_with f.text l) })
head_of _ = None

abbrev pub head : Project Span → CallRef → Option Head
head p c = option_and_then head_of (expression_at p c)

-- ---- the value of a keyword argument

-- what f gives for each, if it gives something for all
abbrev pub of_each : {X Y : Type 0} → (X → Option Y) → List X → Option (List Y)
of_each f [] = Some []
of_each f (x ∷ xs) = option_and_then (λ y. option_map (λ ys. y ∷ ys) (of_each f xs)) (f x)

abbrev pub literal_in : {S : Type 0} → Argument S → Option (List ℕ)
literal_in x = option_and_then literal_of (value_without_name x)

abbrev pub variable_in : {S : Type 0} → Argument S → Option (List ℕ)
variable_in x = option_and_then name_of (value_without_name x)

-- all else is reported by its source text
abbrev pub shown_list : List ℕ → Option (List (List ℕ)) → Option (List (List ℕ)) → Shown
shown_list source texts names = option_map_or shown.Texts texts (option_map_or shown.Ids names (shown.Opaque source))

-- the text in the source at a value
abbrev pub source_text : List ℕ → Expression Span → List ℕ
source_text source e = text_at source (expression_span e)

-- A literal is its text, `true` and `false` are themselves, a variable is its name. An array is the list of these if it holds literals alone, or variables
-- alone; an empty one is a list of texts.
abbrev pub shown_value : List ℕ → Expression Span → Shown
shown_value source (identifier s x) = shown.Id x
shown_value source (boolean s b) = shown.Bool b
shown_value source (string s q x) = option_map_or shown.Text (value (string_kind q) x) (shown.Opaque (text_at source s))
shown_value source (array l) = shown_list (source_text source (array l)) (of_each literal_in (elements l)) (of_each variable_in (elements l))
shown_value source e = shown.Opaque (source_text source e)

-- ---- the keyword arguments

abbrev pub shown_argument : List ℕ → Role → Argument Span → Option (List ℕ × Shown)
shown_argument source r (named s x e) = if is_key r x.text then Some (x.text, shown_value source e) else None
shown_argument source r _ = None

-- those that commands change, in the call's order; each may be there once only
abbrev pub keywords_of_call : List ℕ → Role → Call Span → Result (List (List ℕ × Shown)) Refusal
keywords_of_call source r c = then_ok (call_told r c) (λ _. Ok (filter_map (shown_argument source r) (elements c.arguments)))

abbrev pub keywords : Loaded → Role → CallRef → Option (Result (List (List ℕ × Shown)) Refusal)
keywords l r c = option_map (λ found. keywords_of_call (bytes_at c.file l.files) r found.it) (call_at (project l) c)
