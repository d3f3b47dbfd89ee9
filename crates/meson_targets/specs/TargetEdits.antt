-- Targets as whole statements: added at the end of a build file, and removed from it. Meson manual, Rewriter: `target add_target`, `target rm_target`.
use Rattle.std.specs.Prelude.{ℕ, Bool, true, false, not, ◌&&◌, nat_eq, List, [], ◌∷◌, ◌++◌, map, codes, if◌then◌else◌, bytes_eq, position, Option, Some, None, ok_or, option_map, option_and_then, Result, Ok, Err}
use Rattle.std.specs.List.{list_any}
use Rattle.meson_lex.specs.Literals.{literal}
use Rattle.meson_splice.specs.Patch.{then_ok}
use Rattle.meson_layout.specs.declared.primitive.BlankLines.TheVariants.{Stay}
use Rattle.meson_syntax.specs.declared.operator.Assignment.TheVariants as assignment
use Rattle.meson_syntax.specs.Tree.{bare_name, Nowhere, Expression, identifier, call, listing, plain, arguments_of, Statement, evaluate, assign, iteration}
use Rattle.meson_edit.specs.Blocks.{block_at, statement_in}
use Rattle.meson_edit.specs.Edits.{Written, RemoveStatement, Append}
use Rattle.meson_calls.specs.declared.call.CallName.{CallName}
use Rattle.meson_calls.specs.declared.call.CallRef.{CallRef}
use Rattle.meson_calls.specs.declared.call.Role.TheVariants as role
use Rattle.meson_calls.specs.declared.refusal.Refusal.{Refusal}
use Rattle.meson_calls.specs.declared.refusal.Refusal.TheVariants.{WrongKind, NameTaken, NoFile, NotStatement, InUse}
use Rattle.meson_calls.specs.Project.{Project, BuildFile, Placed, place, child, nth_file}
use Rattle.meson_calls.specs.Parts.{Part, an_expression, a_statement, parts}
use Rattle.meson_calls.specs.Calls.{Call, all_chosen, first_literal, is}
use Rattle.meson_calls.specs.Finding.{the_call}
use Rattle.meson_calls.specs.Roles.{target_functions, one_of, role_calls_among}
use Rattle.meson_calls.specs.Naming.{with_name}
use Rattle.meson_variables.specs.Variables.{one_of_names}
use Rattle.meson_calls.specs.Folders.{build_file, file_in}
use Rattle.meson_steps.specs.WrittenTexts.{string_of, comma_between}
use Rattle.meson_steps.specs.Names.{checked_names, distinct}
use Rattle.meson_steps.specs.Steps.{Step}

-- ---- a target added at the end of a file

-- The functions that say by their name what is built. `build_target` says it by an argument, which the command does not have.
abbrev pub is_target_kind : List ℕ → Bool
is_target_kind kind = one_of target_functions kind && not (bytes_eq kind (codes "build_target"))

abbrev pub kind_key : List ℕ
kind_key = codes "target_type"

abbrev pub checked_kind : List ℕ → Result (Unit {0}) Refusal
checked_kind kind = if is_target_kind kind then Ok tt else Err (WrongKind kind_key)

-- the calls of targets whose first argument is a literal of this text, among some parts, and in a project
abbrev pub targets_among : {S : Type 0} → List (Placed (Part S)) → List ℕ → List (Placed (Call S))
targets_among qs name = all_chosen (with_name name) (role_calls_among qs role.Target)

abbrev pub targets_named : {S : Type 0} → Project S → List ℕ → List (Placed (Call S))
targets_named p name = targets_among (parts p) name

-- there must be none
abbrev pub not_taken : {X : Type 0} → List X → Result (Unit {0}) Refusal
not_taken [] = Ok tt
not_taken (x ∷ more) = Err NameTaken

-- the name of a folder's build file; the empty text means the root file
abbrev pub file_of_folder : List ℕ → Option (List ℕ)
file_of_folder [] = Some build_file
file_of_folder (c ∷ cs) = file_in build_file (c ∷ cs)

-- the number of the file of this name
abbrev pub file_number : {S : Type 0} → Project S → List ℕ → Option ℕ
file_number p name = position (λ f. bytes_eq f.name name) p

-- the number of a folder's build file
abbrev pub number_in : {S : Type 0} → Project S → List ℕ → Result ℕ Refusal
number_in p folder = ok_or (option_and_then (file_number p) (file_of_folder folder)) NoFile

-- `KIND('NAME', 'SOURCE', ..)`; the texts are the name and the sources
abbrev pub target_statement : List ℕ → List (List ℕ) → Statement Nowhere
target_statement kind texts = evaluate (call tt (bare_name kind) (listing tt false (arguments_of (map plain (map string_of texts)))))

abbrev pub written_target : List ℕ → List (List ℕ) → Written (Statement Nowhere)
written_target kind texts = record { bytes = kind ++ (40 ∷ (comma_between (map literal texts) ++ 41 ∷ [])); node = target_statement kind texts }

abbrev pub append_steps : List ℕ → List (List ℕ) → ℕ → List Step
append_steps kind texts file = record { file = file; edit = Append (written_target kind texts) } ∷ []

-- the kind is checked first, then the name and the sources, then whether the name is taken, then whether there is such a file
abbrev pub target_added : {S : Type 0} → Project S → List ℕ → List ℕ → List ℕ → List (List ℕ) → Result (List Step) Refusal
target_added p target kind folder sources =
    then_ok (checked_kind kind) (λ _. then_ok (checked_names (target ∷ sources)) (λ _. then_ok (not_taken (targets_named p target)) (λ _.
    then_ok (number_in p folder) (λ file. Ok (append_steps kind (target ∷ distinct sources) file)))))

-- ---- the statement of a target

-- a statement by the place of its block and its number there
pub record StatementPlace : Type 0 where
  pub block : CallRef
  pub number : ℕ

-- An expression that is all of a statement, or its assigned value, is the first child of the statement. Its path ends with the statement's number and 0.
abbrev pub statement_path : List ℕ → Option (List ℕ × ℕ)
statement_path [] = None
statement_path (n ∷ []) = None
statement_path (n ∷ m ∷ []) = Some ([], n)
statement_path (n ∷ m ∷ k ∷ path) = option_map (λ statement. (n ∷ statement.0, statement.1)) (statement_path (m ∷ k ∷ path))

abbrev pub statement_of : CallRef → Option StatementPlace
statement_of c = option_map (λ statement. record { block = place c.file statement.0; number = statement.1 }) (statement_path c.path.steps)

abbrev pub statement_there : {S : Type 0} → Project S → StatementPlace → Option (Statement S)
statement_there {S} p statement =
    option_and_then (λ (f : BuildFile S). option_and_then (λ b. statement_in b.inside statement.number) (block_at f.tree statement.block.path.steps))
    (nth_file p statement.block.file)

-- what a statement does with its expression: nothing more, or it sets a variable to it
pub data Held : Type 0 where
  alone : Held
  set_to : List ℕ → Held

abbrev pub held_by : {S : Type 0} → Statement S → Option Held
held_by (evaluate e) = Some alone
held_by (assign s x assignment.Set e) = Some (set_to x.text)
held_by _ = None

-- the statement that is the call at this place or sets a variable to it
pub record Holder : Type 0 where
  pub statement : StatementPlace
  pub held : Held

abbrev pub holder : {S : Type 0} → Project S → CallRef → Option Holder
holder p c = option_and_then (λ statement. option_map (λ held. record { statement = statement; held = held })
    (option_and_then held_by (statement_there p statement))) (statement_of c)

-- the variable that a statement sets to the call at this place
abbrev pub name_set : Held → Option (List ℕ)
name_set alone = None
name_set (set_to x) = Some x

abbrev pub variable_of : {S : Type 0} → Project S → CallRef → Option (List ℕ)
variable_of p c = option_and_then (λ h. name_set h.held) (holder p c)

-- ---- uses of a variable

-- the functions whose first argument names a variable: Meson manual, Reference manual
abbrev pub variable_functions : List (List ℕ)
variable_functions = codes "get_variable" ∷ codes "set_variable" ∷ codes "is_variable" ∷ codes "unset_variable" ∷ []

abbrev pub call_uses : {S : Type 0} → List ℕ → Call S → Bool
call_uses x c = one_of variable_functions c.function && is x (first_literal c)

abbrev pub expression_uses : {S : Type 0} → List ℕ → Expression S → Bool
expression_uses x (identifier s y) = bytes_eq y x
expression_uses x (call s f l) = call_uses x (record { function = f.text; arguments = l })
expression_uses x _ = false

abbrev pub statement_uses : {S : Type 0} → List ℕ → Statement S → Bool
statement_uses x (assign s y a e) = bytes_eq y.text x
statement_uses x (iteration s xs e b) = one_of_names xs x
statement_uses x _ = false

abbrev pub part_uses : {S : Type 0} → List ℕ → Part S → Bool
part_uses x (an_expression e) = expression_uses x e
part_uses x (a_statement s) = statement_uses x s

-- whether the second path leads through what the first one names
abbrev pub goes_through : List ℕ → List ℕ → Bool
goes_through [] path = true
goes_through (m ∷ at_) [] = false
goes_through (m ∷ at_) (n ∷ path) = nat_eq m n && goes_through at_ path

-- whether a place is a statement's or is inside it
abbrev pub is_in_statement : StatementPlace → CallRef → Bool
is_in_statement statement c = nat_eq statement.block.file c.file && goes_through (child statement.block statement.number).path.steps c.path.steps

abbrev pub is_used_outside : {S : Type 0} → Project S → StatementPlace → List ℕ → Bool
is_used_outside p statement x = list_any (λ q. not (is_in_statement statement q.place) && part_uses x q.it) (parts p)

-- ---- a target removed

-- the variable that the statement sets, if it sets one, is used nowhere else
abbrev pub not_in_use : {S : Type 0} → Project S → StatementPlace → Held → Result (Unit {0}) Refusal
not_in_use p statement alone = Ok tt
not_in_use p statement (set_to x) = if is_used_outside p statement x then Err (InUse x) else Ok tt

abbrev pub statement_removal : StatementPlace → List Step
statement_removal statement = record { file = statement.block.file; edit = RemoveStatement Stay statement.block.path.steps statement.number } ∷ []

abbrev pub call_removed : {S : Type 0} → Project S → CallRef → Result (List Step) Refusal
call_removed p c = then_ok (ok_or (holder p c) NotStatement) (λ h. then_ok (not_in_use p h.statement h.held) (λ _. Ok (statement_removal h.statement)))

abbrev pub target_removed : {S : Type 0} → Project S → Placed (Call S) → Result (List Step) Refusal
target_removed p c = call_removed p c.place

-- the target that is named
abbrev pub named_removed : {S : Type 0} → Project S → CallName → Result (List Step) Refusal
named_removed p name = then_ok (the_call p role.Target name) (λ c. target_removed p c)
