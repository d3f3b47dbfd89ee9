-- What a change leaves of a call, as to the call's arguments before and after it. Meson manual, Rewriter: `kwargs`, `default-options`.
use Rattle.std.specs.Prelude.{◌≡◌, ℕ, ◌==◌, Bool, not, List, [], ◌∷◌, ◌++◌, map, if◌then◌else◌, Option, Some, None, is_none, option_and_then, All, Ok}
use Rattle.std.specs.List.{AllByRecursion, filter, filter_map}
use Rattle.std.specs.Str.{IsUtf8}
use Rattle.meson_lex.specs.declared.kinds.Span.{Span}
use Rattle.meson_syntax.specs.Tree.{Nowhere, Plain, Expression, array, dictionary, Argument, plain, named, pair}
use Rattle.meson_edit.specs.Edits.{elements}
use Rattle.meson_calls.specs.declared.call.CallRef.{CallRef}
use Rattle.meson_calls.specs.declared.call.Role.{Role}
use Rattle.meson_calls.specs.Calls.{Call, value_with_name}
use Rattle.meson_calls.specs.Calls as calls
use Rattle.meson_calls.specs.Finding.{the_call}
use Rattle.meson_calls.specs.Loading.{IsProject, Loaded, project}
use Rattle.meson_calls.specs.Project.{Placed}
use Rattle.meson_steps.specs.declared.command.Setting.{Setting}
use Rattle.meson_steps.specs.declared.command.Setting.TheVariants as setting
use Rattle.meson_steps.specs.ListSteps.{MayStandBetween}
use Rattle.meson_steps.specs.Names.{distinct_by}
use Rattle.meson_steps.specs.ResultLimits.{plain_trees}
use Rattle.meson_steps.specs.Steps.{Step}
use Rattle.meson_keywords.specs.declared.value_kinds.ElementKind.{ElementKind}
use Rattle.meson_keywords.specs.Changing.{CallStands, request_steps}
use Rattle.meson_keywords.specs.KeywordEdits.{element_text, says}
use Rattle.meson_keywords.specs.ValueKinds.{element_node}
use Rattle.meson_keywords.specs.Options.{options_key}
use Rattle.meson_keywords.specs.Tasking.{Asked, MayBeWritten, asked_tasks, to_set, to_add, to_remove, to_delete, to_set_options, to_delete_options}
use Rattle.meson_keywords.specs.Tasks.{Task, set, delete, add, remove, once, set_option, delete_option, before_equals}
use Rattle.meson_keywords.specs.TaskSteps.{elements_in, tasks_steps, trees_after}
use Rattle.meson_calls.specs.declared.call.CallName.{CallName}

-- ---- arguments by their names

-- the values of the arguments of a name
abbrev pub values_of : {S : Type 0} → List ℕ → List (Argument S) → List (Expression S)
values_of key xs = filter_map (value_with_name key) xs

-- the arguments of other names and those without one
abbrev pub is_other : {S : Type 0} → List ℕ → Argument S → Bool
is_other key x = is_none (value_with_name key x)

abbrev pub others : {S : Type 0} → List ℕ → List (Argument S) → List (Argument S)
others key xs = filter (is_other key) xs

-- what a value holds: the elements of an array or a dictionary; any other value is its own only element
abbrev pub held_elements : {S : Type 0} → Expression S → List (Argument S)
held_elements (array l) = elements l
held_elements (dictionary l) = elements l
held_elements e = plain e ∷ []

-- nothing if there is no value (of more than one value no command changes any)
abbrev pub held_in : {S : Type 0} → List (Expression S) → List (Argument S)
held_in [] = []
held_in (v ∷ more) = held_elements v

-- what the argument of a name holds
abbrev pub holds : {S : Type 0} → List ℕ → List (Argument S) → List (Argument S)
holds key xs = held_in (values_of key xs)

-- ---- keyword arguments

-- These are the values of the argument of the name, and all other arguments stay.
pub record HasValues (key : List ℕ) (now : List (Expression Nowhere)) (before after : List (Argument Nowhere)) : Type 0 where
  pub values : values_of key after ≡ now
  pub others : others key after ≡ others key before

-- This is what the argument of the name holds, and all other arguments stay.
pub record Holds (key : List ℕ) (now before after : List (Argument Nowhere)) : Type 0 where
  pub holds : holds key after ≡ now
  pub others : others key after ≡ others key before

-- the values that are added: each that is not there yet, once; if the argument is absent, all as they are given
abbrev pub coming : ElementKind → List (List ℕ) → List (Expression Nowhere) → List (List ℕ)
coming k values [] = values
coming k values (v ∷ more) = distinct_by (filter_map (element_text k) (held_elements v)) values

abbrev pub put_behind : ElementKind → List (List ℕ) → List (Argument Nowhere)
put_behind k values = map (λ text. plain (element_node k text)) values

-- ---- options

-- what is after the first `=`
abbrev pub after_equals : List ℕ → Option (List ℕ)
after_equals [] = None
after_equals (b ∷ bs) = if b == 61 then Some bs else after_equals bs

-- An entry is a text, NAME=VALUE, or a pair of two texts.
abbrev pub option_name : {S : Type 0} → Argument S → Option (List ℕ)
option_name (plain e) = option_and_then before_equals (calls.literal_of e)
option_name (named s x e) = None
option_name (pair s k v) = calls.literal_of k

abbrev pub value_of_option : {S : Type 0} → Argument S → Option (List ℕ)
value_of_option (plain e) = option_and_then after_equals (calls.literal_of e)
value_of_option (named s x e) = None
value_of_option (pair s k v) = calls.literal_of v

abbrev pub is_of : {S : Type 0} → List ℕ → Argument S → Bool
is_of name x = calls.is name (option_name x)

-- The entries of the option have these values; all other entries stay, and so do all other arguments.
pub record OptionIs (name : List ℕ) (now : List (Option (List ℕ))) (before after : List (Argument Nowhere)) : Type 0 where
  pub values : map value_of_option (filter (is_of name) (holds options_key after)) ≡ now
  pub entries : filter (λ x. not (is_of name x)) (holds options_key after) ≡ filter (λ x. not (is_of name x)) (holds options_key before)
  pub arguments : others options_key after ≡ others options_key before

-- ---- one task after another

-- what a task leaves; an option's name has no `=`
abbrev pub TaskLeaves : Task → (before after : List (Argument Nowhere)) → Type 0
TaskLeaves (set key new) before after = HasValues key (new.node ∷ []) before after
TaskLeaves (delete key) before after = HasValues key [] before after
TaskLeaves (add key k values) before after = Holds key (holds key before ++ put_behind k (coming k values (values_of key before))) before after
TaskLeaves (remove key k value) before after = Holds key (filter (λ x. not (says k value x)) (holds key before)) before after
TaskLeaves (once key) before after = after ≡ before
TaskLeaves (set_option name value) before after = before_equals name ≡ None → OptionIs name (Some value ∷ []) before after
TaskLeaves (delete_option name) before after = OptionIs name [] before after

pub data TasksLeave : List Task → (before after : List (Argument Nowhere)) → Type 0 where
  none : (xs : List (Argument Nowhere)) → TasksLeave [] xs xs
  one : (t : Task) (ts : List Task) (before between after : List (Argument Nowhere)) → TaskLeaves t before between → TasksLeave ts between after
      → TasksLeave (t ∷ ts) before after

-- ---- the law: the steps of tasks, done where the call is, leave of it what these tasks leave

abbrev pub StepsLeave : Type 0
StepsLeave = (ts : List Task) → AllByRecursion MayBeWritten ts → (c : CallRef) (trees : List Plain) → All MayStandBetween trees → CallStands c trees
    → (steps : List Step)
    → tasks_steps c ts trees ≡ Ok steps → TasksLeave ts (elements_in c trees) (elements_in c (trees_after steps trees))

-- ---- a request whose texts are UTF-8

abbrev pub IsSettingText : Setting → Type 0
IsSettingText (setting.Text t) = IsUtf8 t
IsSettingText (setting.Bool b) = Unit {0}
IsSettingText (setting.Texts ts) = All IsUtf8 ts

abbrev pub IsPairText : List ℕ × Setting → Type 0
IsPairText p = IsUtf8 p.0 × IsSettingText p.1

abbrev pub AreAskedTexts : Asked → Type 0
AreAskedTexts (to_set pairs) = AllByRecursion IsPairText pairs
AreAskedTexts (to_add pairs) = AllByRecursion IsPairText pairs
AreAskedTexts (to_remove pairs) = AllByRecursion IsPairText pairs
AreAskedTexts (to_delete keys) = Unit {0}
AreAskedTexts (to_set_options pairs) = AllByRecursion (λ p. IsUtf8 p.0 × IsUtf8 p.1) pairs
AreAskedTexts (to_delete_options names) = Unit {0}

-- The call that it names is the only one, and the trees have of it what its tasks leave.
pub record CallLeft (old : Loaded) (r : Role) (name : CallName) (asked : Asked) (after : List Plain) : Type 0 where
  pub call : Placed (Call Span)
  pub is_call : the_call (project old) r name ≡ Ok call
  pub tasks : List Task
  pub are_tasks : asked_tasks r asked ≡ Ok tasks
  pub leave : TasksLeave tasks (elements_in call.place (plain_trees old)) (elements_in call.place after)

-- the law: if a request means steps, these leave of its call what its tasks leave
abbrev pub RequestsLeave : Type 0
RequestsLeave = (old : Loaded) → IsProject old → (r : Role) (name : CallName) (asked : Asked) → AreAskedTexts asked → (steps : List Step)
    → request_steps (project old) (r, name, asked) ≡ Ok steps
    → CallLeft old r name asked (trees_after steps (plain_trees old))
