-- The words for operations that the command line has and scripts do not.
use Rattle.std.specs.Prelude.{ℕ, List, [], ◌∷◌, codes, Option}
use Rattle.meson_json.specs.Operations.{among}
use Rattle.meson_command.specs.declared.operations.OptionsWord.{OptionsWord}
use Rattle.meson_command.specs.declared.operations.OptionsWord.TheVariants as options
use Rattle.meson_json.specs.declared.target.TargetOperation.{TargetOperation}
use Rattle.meson_json.specs.declared.target.TargetOperation.TheVariants as target

abbrev pub operation_of_word : List ℕ → Option TargetOperation
operation_of_word word =
    among ((codes "add", target.SourcesAdd) ∷ (codes "rm", target.SourcesRemove) ∷ (codes "add_target", target.TargetAdd)
    ∷ (codes "rm_target", target.TargetRemove)
    ∷ (codes "add_extra_files", target.ExtraAdd) ∷ (codes "rm_extra_files", target.ExtraRemove) ∷ (codes "info", target.Info) ∷ []) word

-- what is done to options, and by which words; `unset` takes names without values
abbrev pub options_word : List ℕ → Option OptionsWord
options_word word = among ((codes "set", options.Set) ∷ (codes "delete", options.Delete) ∷ (codes "unset", options.Unset) ∷ []) word
