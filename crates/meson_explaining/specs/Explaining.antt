-- Why a command is refused, in words for people.
use Rattle.std.specs.Prelude.{ℕ, List, [], ◌∷◌, ◌++◌, codes, Option, Some, None}
use Rattle.meson_calls.specs.declared.call.Reading.{Reading}
use Rattle.meson_calls.specs.declared.call.Role.{Role}
use Rattle.meson_calls.specs.declared.call.Role.TheVariants as role
use Rattle.meson_calls.specs.declared.refusal.Refusal.{Refusal}
use Rattle.meson_calls.specs.declared.refusal.Refusal.TheVariants as refusal
use Rattle.meson_calls.specs.Loading.{Loaded}
use Rattle.meson_steps.specs.declared.command.Command.{Command}
use Rattle.meson_steps.specs.declared.command.Command.TheVariants as command
use Rattle.meson_inventory.specs.Holdings.{calls_named}
use Rattle.meson_explaining.specs.declared.explanation.Explanation.{Explanation}
use Rattle.meson_explaining.specs.declared.explanation.Note.{Note}
use Rattle.meson_explaining.specs.Arguments.{value_explanation}
use Rattle.meson_explaining.specs.ArgumentPlaces.{and_help, folder_lines}
use Rattle.meson_explaining.specs.BadNames.{bad_help, bad_notes}
use Rattle.meson_explaining.specs.Followed.{followed_not_there, shared_list, sought_names}
use Rattle.meson_explaining.specs.Insertions.{code_explanation, removal_explanation}
use Rattle.meson_explaining.specs.Keys.{keys, nearest_key, unknown_notes, wrong_notes}
use Rattle.meson_explaining.specs.NotFound.{not_found}
use Rattle.meson_explaining.specs.Notes.{few_notes}
use Rattle.meson_explaining.specs.Removals.{not_removable, unresolved}
use Rattle.meson_explaining.specs.Sources.{extras_at, sources_at, source_notes}
use Rattle.meson_explaining.specs.Stated.{no_project, no_such_value, other_kind, shared, there_already, too_deep, too_large}
use Rattle.meson_explaining.specs.Targets.{in_use, no_file}
use Rattle.meson_explaining.specs.Values.{value_notes}
use Rattle.meson_explaining.specs.Ways.{ways}
use Rattle.meson_calls.specs.declared.call.CallName.{CallName}
use Rattle.meson_calls.specs.Searching.{anywhere}

-- the kind of the call that a command is about, and what is to name it; a change of a value is about none
abbrev pub subject : Command → Role × CallName
subject (command.SourcesAdd target sources) = (role.Target, target)
subject (command.SourcesAddSorted target sources) = (role.Target, target)
subject (command.SourcesRemove target sources) = (role.Target, target)
subject (command.SourcesRename target old new) = (role.Target, target)
subject (command.FollowedSources target change lists) = (role.Target, target)
subject (command.ExtraAdd target sources) = (role.Target, target)
subject (command.ExtraRemove target sources) = (role.Target, target)
subject (command.TargetAdd target kind subdir sources) = (role.Target, anywhere target)
subject (command.TargetRemove target) = (role.Target, target)
subject (command.TargetInfo target reading) = (role.Target, target)
subject (command.KwargsSet r id pairs) = (r, id)
subject (command.KwargsAdd r id pairs) = (r, id)
subject (command.KwargsRemove r id pairs) = (r, id)
subject (command.KwargsDelete r id keys) = (r, id)
subject (command.KwargsInfo r id) = (r, id)
subject (command.OptionsSet pairs) = (role.Project, anywhere (codes "/"))
subject (command.OptionsDelete names) = (role.Project, anywhere (codes "/"))
subject (command.Argument name change) = (role.Project, anywhere (codes "/"))
subject (command.CodeInsert place code blank) = (role.Project, anywhere (codes "/"))
subject (command.CodeRemove statement unused) = (role.Project, anywhere (codes "/"))
subject (command.ArgumentInfo name) = (role.Project, anywhere (codes "/"))

-- ---- the id names more than one call

-- where all build files are searched
abbrev pub folders_help : Role → List ℕ
folders_help role.Project = codes "use --sourcedir FOLDER with the folder of one of them"
folders_help _ = codes "use --in FOLDER with the folder of one of them, or a variable as the id; arg at FILE:LINE names the call on a line"

-- where they are in the build file of the one folder that is searched
abbrev pub one_file_help : Role → List ℕ
one_file_help role.Project = codes "arg at FILE:LINE names the call on a line"
one_file_help _ = codes "use a variable as the id; arg at FILE:LINE names the call on a line"

abbrev pub ambiguous_help : Role → Option (List ℕ) → List ℕ
ambiguous_help r None = folders_help r
ambiguous_help r (Some folder) = one_file_help r

abbrev pub ambiguous : Loaded → Role → CallName → Explanation
ambiguous l r name = record {
  notes = few_notes 5 [] (codes "further calls that the id names") (calls_named l r name);
  help = ambiguous_help r name.folder ∷ [];
}

-- ---- the key is not one that commands change

abbrev pub unknown_help : Option (List ℕ) → List (List ℕ)
unknown_help None = []
unknown_help (Some key) = (codes "the nearest key is " ++ key) ∷ []

abbrev pub unknown_key : Command → List ℕ → Explanation
unknown_key c key = record {
  notes = unknown_notes (subject c).0 key;
  help = unknown_help (nearest_key key (keys (subject c).0)) ++ ways c (subject c).0 (subject c).1 key;
}

-- ---- the value is not of the kind that the key takes

-- help for commands that change lists; none for others
abbrev pub list_help : List ℕ → Command → List (List ℕ)
list_help help (command.KwargsAdd r id pairs) = help ∷ []
list_help help (command.KwargsRemove r id pairs) = help ∷ []
list_help help _ = []

abbrev pub wrong_kind : Command → List ℕ → Explanation
wrong_kind c key = record { notes = wrong_notes (subject c).0 key; help = list_help (codes "add and remove change lists; set replaces a value") c }

-- ---- the value of the key is not a literal that can be changed

abbrev pub not_literal : Loaded → Command → List ℕ → Explanation
not_literal l c key = record { notes = value_notes l (subject c).0 (subject c).1 key; help = list_help (codes "set replaces the value") c }

-- ---- the target does not have a source or an extra file

abbrev pub with_info : List Note → Explanation
with_info notes = record { notes = notes; help = codes "info lists the sources and extra files of a target" ∷ [] }

abbrev pub not_there : Loaded → Command → Explanation
not_there l (command.SourcesRemove target names) = with_info (source_notes (sources_at l target) names)
not_there l (command.SourcesRename target old new) = with_info (source_notes (sources_at l target) (old ∷ []))
not_there l (command.ExtraRemove target names) = with_info (source_notes (extras_at l target) names)
not_there l (command.FollowedSources target change lists) = followed_not_there l target (sought_names change)
not_there l _ = record { notes = []; help = [] }

-- ---- a name is not valid

abbrev pub not_valid : Command → Explanation
not_valid c = record { notes = bad_notes c; help = bad_help c }

-- ---- the call has a keyword twice, or `kwargs:`

abbrev pub keyword_there : Loaded → Command → List ℕ → List ℕ → Explanation
keyword_there l c key help = record { notes = value_notes l (subject c).0 (subject c).1 key; help = help ∷ [] }

abbrev pub hidden : Loaded → Command → Explanation
hidden l c = keyword_there l c (codes "kwargs") (codes "kwargs: may hold any keyword; change its dictionary by hand")

abbrev pub duplicate : Loaded → Command → List ℕ → Explanation
duplicate l c key = keyword_there l c key (codes "remove one of them by hand")

-- ---- something else reads the variable

abbrev pub not_alone : Command → List ℕ → Explanation
not_alone (command.FollowedSources target change lists) name = shared_list name
not_alone _ name = shared

-- ---- what is said of the calls that the command names

abbrev pub calls_there : Loaded → Command → ℕ → List ℕ → List ℕ → List ℕ → Explanation
calls_there l c most more others help = record { notes = few_notes most more others (calls_named l (subject c).0 (subject c).1); help = help ∷ [] }

abbrev pub name_taken : Loaded → Command → Explanation
name_taken l c = calls_there l c 5 [] (codes "further targets of that name") (codes "use another name, or remove that target first with rm_target")

abbrev pub not_statement : Loaded → Command → Explanation
not_statement l c =
    calls_there l c 1 (codes ", inside a larger expression") (codes "further calls that the id names") (codes "set a variable to it alone, or remove it by hand")

-- ---- each refusal, where build files are read so

abbrev pub call_explanation : Reading → Loaded → Command → Refusal → Explanation
call_explanation reading l c refusal.NoProject = no_project l
call_explanation reading l c refusal.NotFound = and_help (not_found reading l (subject c).0 (subject c).1.id) (folder_lines (subject c).1.folder)
call_explanation reading l c refusal.Ambiguous = ambiguous l (subject c).0 (subject c).1
call_explanation reading l c (refusal.UnknownKey key) = unknown_key c key
call_explanation reading l c (refusal.WrongKind key) = wrong_kind c key
call_explanation reading l c refusal.BadName = not_valid c
call_explanation reading l c refusal.HiddenKeywords = hidden l c
call_explanation reading l c (refusal.DuplicateKeyword key) = duplicate l c key
call_explanation reading l c (refusal.NotLiteral key) = not_literal l c key
call_explanation reading l c (refusal.Shared name) = not_alone c name
call_explanation reading l c (refusal.OtherKind key) = other_kind
call_explanation reading l c refusal.ThereAlready = there_already
call_explanation reading l c (refusal.NoSuchValue key) = no_such_value
call_explanation reading l c refusal.SourceNotFound = not_there l c
call_explanation reading l c refusal.Unresolved = unresolved l c
call_explanation reading l c refusal.NotRemovable = not_removable l c
call_explanation reading l c refusal.NameTaken = name_taken l c
call_explanation reading l c refusal.NoFile = no_file l (subject c).1.folder c
call_explanation reading l c refusal.NotStatement = not_statement l c
call_explanation reading l c (refusal.InUse name) = in_use l c name
call_explanation reading l c refusal.TooDeep = too_deep
call_explanation reading l c refusal.TooLarge = too_large
call_explanation reading l c refusal.OutOfMemory = record { notes = []; help = [] }

abbrev pub explanation : Reading → Loaded → Command → Refusal → Explanation
explanation reading l (command.Argument n change) why = value_explanation reading l n why
explanation reading l (command.ArgumentInfo n) why = value_explanation reading l n why
explanation reading l (command.CodeInsert place code blank) why = code_explanation reading l place why
explanation reading l (command.CodeRemove statement unused) why = removal_explanation reading l statement why
explanation reading l c why = call_explanation reading l c why
