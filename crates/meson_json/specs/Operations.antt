-- The words for operations and functions, and those of a script alone: types of entries, operations on targets.
use Rattle.std.specs.Prelude.{ℕ, List, [], ◌∷◌, codes, bytes_eq, if◌then◌else◌, Option, Some, None}
use Rattle.meson_calls.specs.declared.call.Role.{Role}
use Rattle.meson_calls.specs.declared.call.Role.TheVariants as role
use Rattle.meson_json.specs.declared.names.ArgumentOperation.{ArgumentOperation}
use Rattle.meson_json.specs.declared.names.ArgumentOperation.TheVariants as argument
use Rattle.meson_json.specs.declared.names.CodeOperation.{CodeOperation}
use Rattle.meson_json.specs.declared.names.CodeOperation.TheVariants as code
use Rattle.meson_json.specs.declared.names.EntryType.{EntryType}
use Rattle.meson_json.specs.declared.names.EntryType.TheVariants as entry
use Rattle.meson_json.specs.declared.names.KwargsOperation.{KwargsOperation}
use Rattle.meson_json.specs.declared.names.KwargsOperation.TheVariants as kwargs
use Rattle.meson_json.specs.declared.names.OptionsOperation.{OptionsOperation}
use Rattle.meson_json.specs.declared.names.OptionsOperation.TheVariants as options
use Rattle.meson_json.specs.declared.target.TargetOperation.{TargetOperation}
use Rattle.meson_json.specs.declared.target.TargetOperation.TheVariants as target

-- the meaning of a word in a table of words, each with its meaning
abbrev pub among : {A : Type 0} → List (List ℕ × A) → List ℕ → Option A
among [] s = None
among (row ∷ rows) s = if bytes_eq s row.0 then Some row.1 else among rows s

abbrev pub entry_type : List ℕ → Option EntryType
entry_type s =
    among ((codes "target", entry.Target) ∷ (codes "kwargs", entry.Kwargs) ∷ (codes "default_options", entry.DefaultOptions) ∷ (codes "arg", entry.Argument)
    ∷ (codes "code", entry.Code) ∷ []) s

abbrev pub target_operation : List ℕ → Option TargetOperation
target_operation s =
    among ((codes "src_add", target.SourcesAdd) ∷ (codes "src_rm", target.SourcesRemove) ∷ (codes "target_rm", target.TargetRemove)
    ∷ (codes "target_add", target.TargetAdd)
    ∷ (codes "extra_files_add", target.ExtraAdd) ∷ (codes "extra_files_rm", target.ExtraRemove) ∷ (codes "info", target.Info) ∷ []) s

-- `remove_regex` is known, but not supported here
abbrev pub kwargs_operation : List ℕ → Option KwargsOperation
kwargs_operation s =
    among ((codes "set", kwargs.Set) ∷ (codes "delete", kwargs.Delete) ∷ (codes "add", kwargs.Add) ∷ (codes "remove", kwargs.Remove)
    ∷ (codes "remove_regex", kwargs.RemoveRegex) ∷ (codes "info", kwargs.Info) ∷ []) s

abbrev pub options_operation : List ℕ → Option OptionsOperation
options_operation s = among ((codes "set", options.Set) ∷ (codes "delete", options.Delete) ∷ []) s

abbrev pub argument_operation : List ℕ → Option ArgumentOperation
argument_operation s =
    among ((codes "set", argument.Set) ∷ (codes "add", argument.Add) ∷ (codes "remove", argument.Remove) ∷ (codes "replace", argument.Replace)
    ∷ (codes "delete", argument.Delete) ∷ (codes "info", argument.Info) ∷ []) s

abbrev pub code_operation : List ℕ → Option CodeOperation
code_operation s = among ((codes "after", code.After) ∷ (codes "before", code.Before) ∷ (codes "append", code.Append) ∷ []) s

abbrev pub role_of : List ℕ → Option Role
role_of s = among ((codes "dependency", role.Dependency) ∷ (codes "target", role.Target) ∷ (codes "project", role.Project) ∷ []) s
