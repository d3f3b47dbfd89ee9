-- The tasks of the code: which are meant, and the element that a task is about.
use Rattle.std.specs.Prelude.{◌≡◌, ℕ, Bool, List, [], ◌∷◌, ◌++◌, Result, Ok}
use Rattle.meson_lex.specs.declared.kinds.Span.{Span}
use Rattle.meson_syntax.specs.Tree.{Expression, Argument}
use Rattle.meson_syntax.specs.View.{args_view, expr_view}
use Rattle.meson_keywords.specs.declared.elements.NumberedValue.{NumberedValue}
use Rattle.meson_keywords.specs.declared.elements.Subject.{Subject}
use Rattle.meson_keywords.specs.declared.elements.Test.{Test}
use Rattle.meson_keywords.specs.declared.elements.Test.TheVariants as test
use Rattle.meson_calls.specs.declared.refusal.Refusal.{Refusal}
use Rattle.meson_keywords.specs.declared.tasks.Task as code
use Rattle.meson_calls.specs.Calls.{Numbered}
use Rattle.meson_keywords.specs.KeywordEdits.{says}
use Rattle.meson_keywords.specs.Options.{has_key, is_entry_element}
use Rattle.meson_keywords.specs.Tasks.{Task}
use Rattle.meson_keywords.specs.Tasking.{MayBeWritten, TaskIs}

pub data TasksAre : List code.Task → List Task → Type 0 where
  none : TasksAre [] []
  one : (c : code.Task) (t : Task) (cs : List code.Task) (ts : List Task) → TaskIs c t → MayBeWritten t → TasksAre cs ts → TasksAre (c ∷ cs) (t ∷ ts)

-- The code's tasks are those that are meant.
pub record AreTasks (meant : Result (List Task) Refusal) (cs : List code.Task) : Type 0 where
  pub tasks : List Task
  pub is : meant ≡ Ok tasks
  pub are : TasksAre cs tasks

-- They are those before, and then those that are meant.
pub record AreTasksBehind (meant : Result (List Task) Refusal) (before after : List code.Task) : Type 0 where
  pub more : List code.Task
  pub joined : after ≡ before ++ more
  pub are : AreTasks meant more

abbrev pub found_argument : List ℕ → NumberedValue → Numbered (Expression Span)
found_argument source f = record { number = f.number; value = expr_view source f.value.now }

-- the arguments of the present call, and the value of one of them
abbrev pub args_of : Subject → List (Argument Span)
args_of s = args_view s.source.now s.args.now

abbrev pub held_value : Subject → NumberedValue → Expression Span
held_value s f = expr_view s.source.now f.value.now

abbrev pub test_of : {S : Type 0} → Test → Argument S → Bool
test_of (test.Says kind text) x = says kind text.now x
test_of (test.IsEntry name) x = is_entry_element name.now x
test_of (test.HasKey name) x = has_key name.now x
