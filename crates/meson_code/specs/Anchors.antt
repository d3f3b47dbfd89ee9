-- The statement beside which code is put: by what names a call or an assigned value in it, or by the line on which it begins.
use Rattle.std.specs.Prelude.{ℕ, Bool, true, false, List, if◌then◌else◌, Option, Some, None, option_and_then, Result, Ok, Err, ok_or}
use Rattle.meson_lex.specs.declared.kinds.Span.{Span}
use Rattle.meson_splice.specs.Files.{bytes_at}
use Rattle.meson_splice.specs.Patch.{then_ok}
use Rattle.meson_syntax.specs.Tree.{Statement, evaluate, assign}
use Rattle.meson_calls.specs.declared.call.CallRef.{CallRef}
use Rattle.meson_calls.specs.declared.refusal.Refusal.{Refusal}
use Rattle.meson_calls.specs.declared.refusal.Refusal.TheVariants.{NotFound, NotStatement}
use Rattle.meson_calls.specs.Loading.{Loaded, project}
use Rattle.meson_calls.specs.Project.{BuildFile, Project, nth_file}
use Rattle.meson_steps.specs.declared.argument.PlaceName.{PlaceName}
use Rattle.meson_steps.specs.declared.argument.PlaceName.TheVariants as name
use Rattle.meson_steps.specs.declared.argument.Search.{Search}
use Rattle.meson_targets.specs.TargetEdits.{StatementPlace, statement_of, statement_there}
use Rattle.meson_places.specs.Names.{found_by_id, is_searched, numbered_file, searched_file}
use Rattle.meson_code.specs.Statements.{first_on, statements_of_file}

-- ---- by an id

-- whether a statement is an expression by itself or an assignment, by `=` or `+=`
abbrev pub holds_value : {S : Type 0} → Statement S → Bool
holds_value (evaluate e) = true
holds_value (assign s x a e) = true
holds_value _ = false

abbrev pub if_holds_value : {S : Type 0} → StatementPlace → Option (Statement S) → Option StatementPlace
if_holds_value a None = None
if_holds_value a (Some x) = if holds_value x then Some a else None

-- the statement that is the expression at a place, or assigns it
abbrev pub statement_with : {S : Type 0} → Project S → CallRef → Option StatementPlace
statement_with p c = option_and_then (λ a. if_holds_value a (statement_there p a)) (statement_of c)

abbrev pub anchor_by_id : Loaded → Option ℕ → PlaceName → Result StatementPlace Refusal
anchor_by_id l within n = then_ok (found_by_id l within n) (λ c. ok_or (statement_with (project l) c) NotStatement)

-- ---- by a line

abbrev pub first_among : List ℕ → (file line : ℕ) → Option (BuildFile Span) → Option StatementPlace
first_among bytes file line None = None
first_among bytes file line (Some f) = first_on bytes line (statements_of_file file f.tree)

-- the first statement of the file of this number that begins on the line
abbrev pub statement_on : Loaded → (file line : ℕ) → Option StatementPlace
statement_on l file line = first_among (bytes_at file l.files) file line (nth_file (project l) file)

-- a statement, if its file is searched
abbrev pub if_searched : Option ℕ → StatementPlace → Result StatementPlace Refusal
if_searched within a = if is_searched within a.block then Ok a else Err NotFound

abbrev pub anchor_on : Loaded → Option ℕ → (file line : ℕ) → Result StatementPlace Refusal
anchor_on l within file line = then_ok (ok_or (statement_on l file line) NotFound) (if_searched within)

-- ---- what a search finds

abbrev pub anchor_within : Loaded → Option ℕ → PlaceName → Result StatementPlace Refusal
anchor_within l within (name.Line file line) = then_ok (numbered_file l.files file) (λ n. anchor_on l within n line)
anchor_within l within n = anchor_by_id l within n

-- the statement beside which code is put
abbrev pub the_anchor : Loaded → Search → Result StatementPlace Refusal
the_anchor l s = then_ok (searched_file l.files s.folder) (λ within. anchor_within l within s.name)
