-- What the definitions promise.
use Rattle.std.specs.Prelude.{◌≡◌, ℕ, List, [], Some}
use Rattle.std.specs.List.{Contains, cons_option}
use Rattle.meson_lex.specs.declared.kinds.Span.{Span}
use Rattle.meson_calls.specs.declared.call.Reading.{Reading}
use Rattle.meson_calls.specs.declared.call.Reading.TheVariants.{Written, Followed}
use Rattle.meson_calls.specs.Calls.{Call, first_literal}
use Rattle.meson_calls.specs.Entering.{folder_file, meant_as}
use Rattle.meson_calls.specs.Project.{BuildFile}
use Rattle.meson_entering.specs.Entering.{files_entered, files_meant}

-- a literal means at most one file, in a loop or not
abbrev pub LiteralsMeanOne : Type 0
LiteralsMeanOne = (reading : Reading) (f : BuildFile Span) (path : List ℕ) (c : Call Span) (folder : List ℕ) → first_literal c ≡ Some folder
    → files_meant reading f path c ≡ cons_option (folder_file reading f.name folder) []

-- as files are written, nothing else means any
abbrev pub WrittenAreLiterals : Type 0
WrittenAreLiterals = (f : BuildFile Span) (path : List ℕ) (c : Call Span) → files_meant Written f path c ≡ cons_option (meant_as Written f.name c) []

-- what is entered as it is written is entered where files are followed
abbrev pub FollowedEntersMore : Type 0
FollowedEntersMore = (f : BuildFile Span) (file : List ℕ) → Contains (files_entered Written f) file → Contains (files_entered Followed f) file
