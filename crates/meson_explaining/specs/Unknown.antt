-- Notes of arguments of a target of which it is not known what they hold.
use Rattle.std.specs.Prelude.{ℕ, List, [], if◌then◌else◌, bytes_eq, codes, drop, is_none, Option, Some, None, option_map, Result, Ok, Err, take}
use Rattle.std.specs.List.{filter_map}
use Rattle.meson_lex.specs.declared.kinds.Span.{Span}
use Rattle.meson_syntax.specs.Tree.{Expression, identifier, string, array, call, row, Argument, plain, named}
use Rattle.meson_edit.specs.Edits.{elements}
use Rattle.meson_edit.specs.Standing.{expression_span}
use Rattle.meson_calls.specs.Calls.{Call}
use Rattle.meson_calls.specs.Finding.{the_call}
use Rattle.meson_calls.specs.Loading.{Loaded, project}
use Rattle.meson_calls.specs.NamedArguments.{sources_key}
use Rattle.meson_calls.specs.Project.{Placed, Project}
use Rattle.meson_calls.specs.declared.call.Role.TheVariants as role
use Rattle.meson_calls.specs.declared.refusal.Refusal.{Refusal}
use Rattle.meson_variables.specs.Expansion.{is_files}
use Rattle.meson_variables.specs.Variables.{single}
use Rattle.meson_explaining.specs.declared.explanation.Note.{Note}
use Rattle.meson_calls.specs.declared.call.CallName.{CallName}

-- Why it is not known what an expression holds. Of strings, of lists and their sums, and of variables with one value nothing is said.
abbrev pub unknown_words : Project Span → Expression Span → Option (List ℕ)
unknown_words p (identifier s x) = if is_none (single p x) then Some (codes "this variable has no one known value") else None
unknown_words p (call s f l) = if is_files f.text l then None else Some (codes "it is not known what this call gives")
unknown_words p (string s q x) = None
unknown_words p (array l) = None
unknown_words p (row s e os) = None
unknown_words p _ = Some (codes "it is not known what this computes")

abbrev pub unknown_note : Project Span → ℕ → Expression Span → Option Note
unknown_note p file e =
    option_map (λ text. record { spot = Some (record { file = file; at = (expression_span e).from; end = (expression_span e).to }); text = text }) (unknown_words p e)

-- An argument without a name counts for sources alone, one with a name where it is the key.
abbrev pub argument_unknown : Project Span → ℕ → List ℕ → Argument Span → Option Note
argument_unknown p file key (plain e) = if bytes_eq key sources_key then unknown_note p file e else None
argument_unknown p file key (named s x e) = if bytes_eq x.text key then unknown_note p file e else None
argument_unknown p file key _ = None

-- the first three of the arguments after the first, which is the name
abbrev pub unknown_of_call : Project Span → List ℕ → Result (Placed (Call Span)) Refusal → List Note
unknown_of_call p key (Err e) = []
unknown_of_call p key (Ok c) = take 3 (filter_map (argument_unknown p c.place.file key) (drop 1 (elements c.it.arguments)))

-- of the target that an id names
abbrev pub unknown_arguments : Loaded → CallName → List ℕ → List Note
unknown_arguments l name key = unknown_of_call (project l) key (the_call (project l) role.Target name)
