-- Assignments that nothing needs once a statement is removed: they go too, one after another.
use Rattle.std.specs.Prelude.{ℕ, zero, suc, Bool, false, not, ◌&&◌, List, [], ◌∷◌, ◌++◌, map, bytes_eq, if◌then◌else◌, Option, Some, None, unwrap_or}
use Rattle.std.specs.List.{filter, filter_map, list_any}
use Rattle.std.specs.Option.{option_map_or, option_or}
use Rattle.meson_splice.specs.declared.file_set.File.{File}
use Rattle.meson_syntax.specs.Tree.{Nowhere, Plain}
use Rattle.meson_edit.specs.Edits.{without_statement}
use Rattle.meson_calls.specs.declared.call.CallRef.{CallRef}
use Rattle.meson_calls.specs.Notes.{Note, a_call, an_assignment, a_loop, notes}
use Rattle.meson_calls.specs.Parts.{Part, parts_of_file}
use Rattle.meson_calls.specs.Project.{Placed, Project, child, nth_file}
use Rattle.meson_calls.specs.Walks.{read_in}
use Rattle.meson_steps.specs.Steps.{Step, changed_at}
use Rattle.meson_targets.specs.TargetEdits.{StatementPlace, is_in_statement, is_used_outside}
use Rattle.meson_places.specs.Uses.{is_formatted, is_named}
use Rattle.meson_code.specs.Anchors.{statement_with}
use Rattle.meson_code.specs.Removal.{removal_step}

-- ---- the variables that a statement reads, of those that the project sets by `=`

abbrev pub assigned_name : {S : Type 0} → Note S → Option (List ℕ)
assigned_name (a_call c) = None
assigned_name (an_assignment x sets e) = if sets then Some x else None
assigned_name (a_loop xs) = None

abbrev pub assigned_names : {S : Type 0} → List (Placed (Note S)) → List (List ℕ)
assigned_names ns = filter_map (λ n. assigned_name n.it) ns

-- the parts of the file of this number
abbrev pub parts_in_file : {S : Type 0} → Project S → (file : ℕ) → List (Placed (Part S))
parts_in_file p file = option_map_or (λ f. parts_of_file file f.tree) (nth_file p file) []

abbrev pub is_any_in : StatementPlace → List CallRef → Bool
is_any_in a places = list_any (is_in_statement a) places

abbrev pub is_read_within : {S : Type 0} → Project S → StatementPlace → List ℕ → Bool
is_read_within p a x = is_any_in a (read_in x (parts_in_file p a.block.file))

abbrev pub names_read : {S : Type 0} → Project S → StatementPlace → List (List ℕ)
names_read p a = filter (is_read_within p a) (assigned_names (notes p))

-- ---- a variable that nothing needs

abbrev pub sets_name : {S : Type 0} → List ℕ → Note S → Bool
sets_name x (a_call c) = false
sets_name x (an_assignment y sets e) = bytes_eq y x && sets
sets_name x (a_loop xs) = false

-- the first statement that sets a variable by `=`; the value is its first child
abbrev pub setting : {S : Type 0} → Project S → List ℕ → Placed (Note S) → Option StatementPlace
setting p x n = if sets_name x n.it then statement_with p (child n.place 0) else None

abbrev pub first_setting_among : {S : Type 0} → Project S → List ℕ → List (Placed (Note S)) → Option StatementPlace
first_setting_among p x [] = None
first_setting_among p x (n ∷ ns) = option_or (setting p x n) (first_setting_among p x ns)

abbrev pub first_setting : {S : Type 0} → Project S → List ℕ → Option StatementPlace
first_setting p x = first_setting_among p x (notes p)

-- Nothing outside the statement uses the variable, no call may get it by its name, and no format string of the files as they were holds it.
abbrev pub is_unused : {S : Type 0} → List File → Project S → List ℕ → StatementPlace → Bool
is_unused files p x a = not (is_used_outside p a x) && (not (is_named x (notes p)) && not (is_formatted x files))

abbrev pub if_unused : {S : Type 0} → List File → Project S → List ℕ → Option StatementPlace → Option StatementPlace
if_unused files p x None = None
if_unused files p x (Some a) = if is_unused files p x a then Some a else None

abbrev pub unused_setting : {S : Type 0} → List File → Project S → List ℕ → Option StatementPlace
unused_setting files p x = if_unused files p x (first_setting p x)

-- that of the first of some variables that nothing needs
abbrev pub next_unused : {S : Type 0} → List File → Project S → (names : List (List ℕ)) → Option StatementPlace
next_unused files p [] = None
next_unused files p (x ∷ names) = option_or (unused_setting files p x) (next_unused files p names)

-- ---- one after another

-- trees as a project; the names of its files do not matter
abbrev pub project_of : List Plain → Project Nowhere
project_of trees = map (λ t. record { name = []; tree = t }) trees

abbrev pub trees_without : StatementPlace → List Plain → List Plain
trees_without a trees = unwrap_or (changed_at a.block.file (without_statement a.block.path.steps a.number) trees) trees

-- The steps of this number of turns, each of which removes one assignment of the trees as the one before left them. The variables are those that removed
-- statements read.
abbrev pub unused_steps : (turns : ℕ) → List File → (names : List (List ℕ)) → List Plain → List Step
unused_steps zero files names trees = []
unused_steps (suc turns) files names trees =
    option_map_or (λ a.
    removal_step (project_of trees) a
    ∷ unused_steps turns files (names ++ names_read (project_of trees) a) (trees_without a trees))
    (next_unused files (project_of trees) names) []
