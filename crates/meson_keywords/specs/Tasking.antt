-- The code's tasks, and the command that they come from.
use Rattle.std.specs.Prelude.{◌≡◌, ◌≤◌, ℕ, List, [], ◌∷◌, map, Result}
use Rattle.std.specs.Str.{IsUtf8}
use Rattle.meson_lex.specs.Kinds.{IsIdentifier}
use Rattle.meson_syntax.specs.Grammar.{LevelExpression, expression_depth, expression_words}
use Rattle.meson_syntax.specs.Tree.{Nowhere, Expression}
use Rattle.meson_edit.specs.Edits.{Written}
use Rattle.meson_edit.specs.Places.{IsWritten}
use Rattle.meson_calls.specs.declared.call.Role.{Role}
use Rattle.meson_steps.specs.declared.command.Setting.{Setting}
use Rattle.meson_keywords.specs.declared.value_kinds.ElementKind.{ElementKind}
use Rattle.meson_keywords.specs.declared.value_kinds.ElementKind.TheVariants as element
use Rattle.meson_calls.specs.declared.refusal.Refusal.{Refusal}
use Rattle.meson_keywords.specs.declared.request.Request.{Request}
use Rattle.meson_keywords.specs.declared.request.AskedWords.{AskedWords}
use Rattle.meson_keywords.specs.declared.request.AskedWords.TheVariants as words
use Rattle.meson_keywords.specs.declared.tasks.Task as code
use Rattle.meson_keywords.specs.declared.tasks.Task.TheVariants as code_task
use Rattle.meson_steps.specs.inside.WrittenValues.{WrittenFor, value_written}
use Rattle.meson_keywords.specs.Tasks.{Task, set, delete, add, remove, once, set_option, delete_option, each_made, set_entry, delete_entry, add_entry, remove_entry, set_option_entry, delete_option_entry}
use Rattle.meson_calls.specs.declared.call.CallName.{CallName}
use Rattle.meson_calls.specs.Searching.{name_at}

-- ---- the request of a command

pub data Asked : Type 0 where
  to_set to_add to_remove : List (List ℕ × Setting) → Asked
  to_delete : List (List ℕ) → Asked
  to_set_options : List (List ℕ × List ℕ) → Asked
  to_delete_options : List (List ℕ) → Asked

abbrev pub asked : AskedWords → Asked
asked (words.Set pairs) = to_set pairs.now
asked (words.Delete keys) = to_delete keys.now
asked (words.Add pairs) = to_add pairs.now
asked (words.Remove pairs) = to_remove pairs.now
asked (words.SetOptions pairs) = to_set_options pairs.now
asked (words.DeleteOptions names) = to_delete_options names.now

abbrev pub request_view : Request → Role × CallName × Asked
request_view r = (r.role, name_at r.name, asked r.words)

abbrev pub asked_tasks : Role → Asked → Result (List Task) Refusal
asked_tasks r (to_set pairs) = each_made (set_entry r) pairs
asked_tasks r (to_delete keys) = each_made (delete_entry r) keys
asked_tasks r (to_add pairs) = each_made (add_entry r) pairs
asked_tasks r (to_remove pairs) = each_made (remove_entry r) pairs
asked_tasks r (to_set_options pairs) = each_made set_option_entry pairs
asked_tasks r (to_delete_options names) = each_made delete_option_entry names

-- ---- what may be written

-- a text may be written as an element
abbrev pub IsElement : ElementKind → List ℕ → Type 0
IsElement element.Text t = IsUtf8 t
IsElement element.Identifier t = IsIdentifier t × IsUtf8 t

abbrev pub AreElements : ElementKind → List (List ℕ) → Type 0
AreElements e [] = Unit {0}
AreElements e (t ∷ ts) = IsElement e t × AreElements e ts

-- a keyword
abbrev pub IsKey : List ℕ → Type 0
IsKey key = IsIdentifier key × IsUtf8 key

-- a value in which no construct is in another but for the elements of an array
abbrev pub IsValue : Written (Expression Nowhere) → Type 0
IsValue new = IsWritten new.bytes (expression_words new.node) × LevelExpression new.node × (expression_depth new.node ≤ 1)

-- What the task writes may be written.
abbrev pub MayBeWritten : Task → Type 0
MayBeWritten (set key new) = IsKey key × IsValue new
MayBeWritten (delete key) = Unit {0}
MayBeWritten (add key k values) = IsKey key × AreElements k values
MayBeWritten (remove key k value) = Unit {0}
MayBeWritten (once key) = Unit {0}
MayBeWritten (set_option name value) = IsUtf8 name × IsUtf8 value
MayBeWritten (delete_option name) = Unit {0}

-- ---- tasks of the code

-- The code's task is this one.
abbrev pub TaskIs : code.Task → Task → Type 0
TaskIs (code_task.Set key new) t = (w : WrittenFor new) × (t ≡ set key.now (value_written new w))
TaskIs (code_task.Delete key) t = t ≡ delete key.now
TaskIs (code_task.Add key kind values) t = t ≡ add key.now kind (map (λ x. x.now) values.items)
TaskIs (code_task.Remove key kind value) t = t ≡ remove key.now kind value.now
TaskIs (code_task.Once key) t = t ≡ once key.now
TaskIs (code_task.SetOption name value) t = t ≡ set_option name.now value.now
TaskIs (code_task.DeleteOption name) t = t ≡ delete_option name.now
