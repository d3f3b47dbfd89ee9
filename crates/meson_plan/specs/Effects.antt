-- What is there after a command: the arguments of the call that it changes, the lists that get or lose sources or extra files, the sources that get another name,
-- the calls that a name names, and the value that is changed.
-- Meson manual, Rewriter.
use Rattle.std.specs.Prelude.{◌≡◌, ℕ, true, List, ◌∷◌, All, codes, Some, Ok}
use Rattle.std.specs.List.{AllByRecursion}
use Rattle.std.specs.Str.{IsUtf8}
use Rattle.meson_lex.specs.declared.kinds.Span.{Span}
use Rattle.meson_edit.specs.Edits.{with_lines}
use Rattle.meson_calls.specs.declared.call.CallRef.{CallRef}
use Rattle.meson_calls.specs.declared.call.Role.{Role}
use Rattle.meson_calls.specs.declared.call.Role.TheVariants as role
use Rattle.meson_calls.specs.Calls.{Call}
use Rattle.meson_calls.specs.Finding.{the_call}
use Rattle.meson_calls.specs.Loading.{IsProject, Loaded, named_trees, project}
use Rattle.meson_calls.specs.Project.{Placed}
use Rattle.meson_variables.specs.TargetSources.{home, source_marks}
use Rattle.meson_keywords.specs.Effects.{AreAskedTexts, CallLeft}
use Rattle.meson_keywords.specs.Tasking.{Asked, to_set, to_add, to_remove, to_delete, to_set_options, to_delete_options}
use Rattle.meson_followed.specs.Effects.{SourcesLeft}
use Rattle.meson_steps.specs.declared.source_change.SharedLists.{SharedLists}
use Rattle.meson_steps.specs.declared.source_change.SourceChange.{SourceChange}
use Rattle.meson_steps.specs.declared.command.CodePlace.{CodePlace}
use Rattle.meson_steps.specs.declared.command.Command.{Command}
use Rattle.meson_steps.specs.declared.command.Command.TheVariants as command
use Rattle.meson_steps.specs.declared.command.Done.{Done}
use Rattle.meson_places.specs.Effects.{ValueLeft}
use Rattle.meson_sources.specs.Effects.{ExtraComes, ListGets, ListGetsAmong, NameChanges, NamesGo, extra_home}
use Rattle.meson_sources.specs.InOrder.{HasPlace, IsInOrder, are_in_order}
use Rattle.meson_sources.specs.Sorting.{ordered_in}
use Rattle.meson_sources.specs.SourceEdits.{extra_marks, new_names}
use Rattle.meson_sources.specs.WholeExtras.{ExtrasGrow, ExtrasShrink}
use Rattle.meson_sources.specs.WholeSources.{SourcesGrow, SourcesShrink}
use Rattle.meson_steps.specs.Names.{distinct}
use Rattle.meson_steps.specs.ResultLimits.{plain_trees}
use Rattle.meson_steps.specs.Steps.{changed_at}
use Rattle.meson_targets.specs.Effects.{NamesTarget, TargetRemoved, call_with_texts}
use Rattle.meson_targets.specs.TargetEdits.{number_in}
use Rattle.meson_code.specs.declared.insertion.FileLines.{FileLines}
use Rattle.meson_code.specs.Insertion.{code_statements, lines_at, tree_place}
use Rattle.meson_code.specs.RemovalLaws.{CodeGoes}
use Rattle.meson_plan.specs.Performing.{Performs}
use Rattle.meson_calls.specs.declared.call.CallName.{CallName}
use Rattle.meson_calls.specs.Searching.{anywhere}

-- what the request leaves of its call, if its texts are UTF-8
abbrev pub LeavesOf : Loaded → Role → CallName → Asked → Loaded → Type 0
LeavesOf old r name asked new = AreAskedTexts asked → CallLeft old r name asked (plain_trees new)

-- The target is the only one that the id names. The list to which its further sources are added has each new one once. All its sources are those that it had
-- and these.
pub record SourcesCome (old : Loaded) (target : CallName) (names : List (List ℕ)) (new : Loaded) : Type 0 where
  pub call : Placed (Call Span)
  pub is_call : the_call (project old) role.Target target ≡ Ok call
  pub gets : ListGets (home call.place (source_marks (project old) call)) (new_names (source_marks (project old) call) names) (plain_trees old)
      (plain_trees new)
  pub whole : All IsUtf8 names → SourcesGrow (new_names (source_marks (project old) call) names) target call (project old) (project new)

-- The target is the only one that the id names. The list to which its further sources are added has each new one once, wherever it is put. Where it was in order
-- and each has a place in it, it still is.
pub record SourcesComeAmong (old : Loaded) (target : CallName) (names : List (List ℕ)) (new : Loaded) : Type 0 where
  pub call : Placed (Call Span)
  pub is_call : the_call (project old) role.Target target ≡ Ok call
  pub gets : ListGetsAmong (home call.place (source_marks (project old) call)) (new_names (source_marks (project old) call) names) (plain_trees old)
      (plain_trees new)
  pub in_order : All IsUtf8 names → (list : CallRef) → list ≡ home call.place (source_marks (project old) call)
      → are_in_order (ordered_in old.files (project old) call.place list).keys ≡ true
      → AllByRecursion (HasPlace (ordered_in old.files (project old) call.place list)) (new_names (source_marks (project old) call) names)
      → IsInOrder call.place list (plain_trees new)

-- Of the sources those that are named are gone, and no others of the target.
pub record SourcesGo (old : Loaded) (target : CallName) (names : List (List ℕ)) (new : Loaded) : Type 0 where
  pub call : Placed (Call Span)
  pub is_call : the_call (project old) role.Target target ≡ Ok call
  pub go : NamesGo (source_marks (project old) call) names (plain_trees old) (plain_trees new)
  pub whole : SourcesShrink names target call (project old) (project new)

-- No source had the new name. Each source of the old one has the new one, in its place: each list has as many elements, and all else is as it was.
pub record SourcesRenamed (old : Loaded) (target : CallName) (was now : List ℕ) (new : Loaded) : Type 0 where
  pub call : Placed (Call Span)
  pub is_call : the_call (project old) role.Target target ≡ Ok call
  pub changes : NameChanges (source_marks (project old) call) was now (plain_trees old) (plain_trees new)

-- The target is the only one that the id names. What is added is in a list of its sources, and what is removed is gone from all of them, as they are where
-- variables are followed.
pub record SourcesFollow (old : Loaded) (target : CallName) (change : SourceChange) (shared : SharedLists) (new : Loaded) : Type 0 where
  pub call : Placed (Call Span)
  pub is_call : the_call (project old) role.Target target ≡ Ok call
  pub left : SourcesLeft old call change shared (plain_trees new)

-- Each new extra file is there once. All extra files of the target are those that it had and these.
pub record ExtrasCome (old : Loaded) (target : CallName) (names : List (List ℕ)) (new : Loaded) : Type 0 where
  pub call : Placed (Call Span)
  pub is_call : the_call (project old) role.Target target ≡ Ok call
  pub come : ExtraComes call (extra_home (project old) call) (new_names (extra_marks (project old) call) names) (plain_trees old) (plain_trees new)
  pub whole : All IsUtf8 names → ExtrasGrow (new_names (extra_marks (project old) call) names) target call (project old) (project new)

-- Of the extra files those that are named are gone, and no others of the target.
pub record ExtrasGo (old : Loaded) (target : CallName) (names : List (List ℕ)) (new : Loaded) : Type 0 where
  pub call : Placed (Call Span)
  pub is_call : the_call (project old) role.Target target ≡ Ok call
  pub go : NamesGo (extra_marks (project old) call) names (plain_trees old) (plain_trees new)
  pub whole : ExtrasShrink names target call (project old) (project new)

-- The target is gone with its statement, and no target has its name.
pub record TargetGoes (old : Loaded) (target : CallName) (new : Loaded) : Type 0 where
  pub call : Placed (Call Span)
  pub is_call : the_call (project old) role.Target target ≡ Ok call
  pub removed : TargetRemoved old target call.place (plain_trees new)

-- The name names the new target alone, in the build file of the folder.
pub record TargetComes (old : Loaded) (name kind folder : List ℕ) (sources : List (List ℕ)) (new : Loaded) : Type 0 where
  pub file : ℕ
  pub is_file : number_in (project old) folder ≡ Ok file
  pub named : NamesTarget (named_trees old.files (plain_trees new)) name (call_with_texts kind (name ∷ distinct sources)) file

-- The block that is found, or that of the file, has the statements of the code in their place, in their order. All else of the trees is as it was.
pub record CodeComes (old : Loaded) (place : CodePlace) (code : List ℕ) (new : Loaded) : Type 0 where
  pub lines : FileLines
  pub are_lines : lines_at old place ≡ Ok lines
  pub trees : changed_at lines.block.file (with_lines (tree_place lines.block.path.steps lines.side) (code_statements code)) (plain_trees old)
      ≡ Some (plain_trees new)

abbrev pub HasEffect : Loaded → Command → Loaded → Type 0
HasEffect old (command.SourcesAdd target names) new = SourcesCome old target names new
HasEffect old (command.SourcesAddSorted target names) new = SourcesComeAmong old target names new
HasEffect old (command.SourcesRemove target names) new = SourcesGo old target names new
HasEffect old (command.SourcesRename target was now) new = SourcesRenamed old target was now new
HasEffect old (command.FollowedSources target change shared) new = SourcesFollow old target change shared new
HasEffect old (command.ExtraAdd target names) new = ExtrasCome old target names new
HasEffect old (command.ExtraRemove target names) new = ExtrasGo old target names new
HasEffect old (command.TargetRemove target) new = TargetGoes old target new
HasEffect old (command.TargetAdd name kind folder sources) new = IsUtf8 name → TargetComes old name kind folder sources new
HasEffect old (command.KwargsSet r name pairs) new = LeavesOf old r name (to_set pairs) new
HasEffect old (command.KwargsAdd r name pairs) new = LeavesOf old r name (to_add pairs) new
HasEffect old (command.KwargsRemove r name pairs) new = LeavesOf old r name (to_remove pairs) new
HasEffect old (command.KwargsDelete r name keys) new = LeavesOf old r name (to_delete keys) new
HasEffect old (command.OptionsSet pairs) new = LeavesOf old role.Project (anywhere (codes "/")) (to_set_options pairs) new
HasEffect old (command.OptionsDelete names) new = LeavesOf old role.Project (anywhere (codes "/")) (to_delete_options names) new
HasEffect old (command.Argument name change) new = ValueLeft old name change (plain_trees old) (plain_trees new)
HasEffect old (command.CodeInsert place code blank) new = CodeComes old place code new
HasEffect old (command.CodeRemove statement unused) new = CodeGoes old statement unused (plain_trees new)
HasEffect old _ new = Unit {0}

-- the law: what a command that is performed leaves of the call that it changes
abbrev pub CommandsLeave : Type 0
CommandsLeave = (old new : Loaded) (c : Command) (done : Done) → IsProject old → Performs old c done new → HasEffect old c new
