-- Command lines, each with its request.
use Rattle.std.specs.Prelude.{◌≡◌, ℕ, ◌==◌, Bool, false, true, List, [], ◌∷◌, ◌++◌, codes, if◌then◌else◌, Some, None, Result, Ok, Err}
use Rattle.meson_calls.specs.declared.call.Reading.TheVariants.{Written}
use Rattle.meson_calls.specs.declared.call.Role.TheVariants as role
use Rattle.meson_steps.specs.declared.command.Command.TheVariants as command
use Rattle.meson_steps.specs.declared.command.Setting.TheVariants as setting
use Rattle.meson_json.specs.declared.member_check.UnknownMembers.TheVariants as unknown
use Rattle.meson_command.specs.Actions.{run}
use Rattle.meson_command.specs.Asking.{asked_by, help, no_flags, version, wants_json}
use Rattle.meson_command.specs.declared.asked.Action.{Action}
use Rattle.meson_command.specs.declared.asked.Action.TheVariants as action
use Rattle.meson_command.specs.declared.asked.Action.TheVariants.{Info, ScriptText, ScriptFile, Undo, UndoTo, UndoChecked, Redo, History, ForgetOldest, ForgetAll, Sums}
use Rattle.meson_command.specs.declared.asked.Asked.{Asked}
use Rattle.meson_command.specs.declared.asked.Flags.{Flags}
use Rattle.meson_command.specs.declared.fault.UsageFault.{UsageFault}
use Rattle.meson_command.specs.declared.fault.UsageFault.TheVariants.{Usage, OddWords, RepeatedKey, Unsupported, BadTitle}
use Rattle.meson_calls.specs.Searching.{anywhere}

-- a byte before the first of some words
abbrev pub onto : ℕ → List (List ℕ) → List (List ℕ)
onto b [] = (b ∷ []) ∷ []
onto b (word ∷ words) = (b ∷ word) ∷ words

-- the words between single spaces (32)
abbrev pub words_in : List ℕ → List (List ℕ)
words_in [] = [] ∷ []
words_in (b ∷ bytes) = if b == 32 then [] ∷ words_in bytes else onto b (words_in bytes)

abbrev pub in_place : Action → Result Asked UsageFault
in_place action = Ok (record { dir = None; title = []; flags = no_flags; texts = None; action = action })

abbrev pub there : List ℕ → Action → Result Asked UsageFault
there dir action = Ok (record { dir = Some dir; title = []; flags = no_flags; texts = None; action = action })

abbrev named : List ℕ → Action → Result Asked UsageFault
named title action = Ok (record { dir = None; title = title; flags = no_flags; texts = None; action = action })

-- in place, with these flags
abbrev pub flagged : Flags → Action → Result Asked UsageFault
flagged flags action = Ok (record { dir = None; title = []; flags = flags; texts = None; action = action })

-- shown and not done
abbrev pub dry : Flags
dry = record no_flags { dry_run = true }

abbrev shown : Action → Result Asked UsageFault
shown = flagged dry

-- answered in JSON
abbrev in_json : Action → Result Asked UsageFault
in_json = flagged (record no_flags { json = true })

-- with the texts of a file of that name, and these flags
abbrev pub texted : Flags → List ℕ → Action → Result Asked UsageFault
texted flags texts action = Ok (record { dir = None; title = []; flags = flags; texts = Some texts; action = action })

-- a line after the program's name has this request
abbrev pub asks : List ℕ → Result Asked UsageFault → Type 0
asks line asked = asked_by (codes "T" ∷ words_in line) ≡ asked

-- the same for `undo` after a title, which may have blanks or be empty
abbrev asks_titled : List ℕ → Result Asked UsageFault → Type 0
asks_titled title asked = asked_by (codes "T" ∷ codes "--title" ∷ title ∷ codes "undo" ∷ []) ≡ asked

-- what is to be done
abbrev pub Done : Type 0
Done =
    asks (codes "target e add a.c b.c") (in_place (run (command.SourcesAdd (anywhere (codes "e")) (codes "a.c" ∷ codes "b.c" ∷ []))))
    × asks (codes "target e rm a.c") (in_place (run (command.SourcesRemove (anywhere (codes "e")) (codes "a.c" ∷ []))))
    × asks (codes "target e add_extra_files x.h") (in_place (run (command.ExtraAdd (anywhere (codes "e")) (codes "x.h" ∷ []))))
    × asks (codes "target e rm_extra_files x.h") (in_place (run (command.ExtraRemove (anywhere (codes "e")) (codes "x.h" ∷ []))))
    × asks (codes "target e rename a.c b.c") (in_place (run (command.SourcesRename (anywhere (codes "e")) (codes "a.c") (codes "b.c"))))
    × asks (codes "--in s target e rm a.c") (in_place (run (command.SourcesRemove (record { id = codes "e"; folder = Some (codes "s") }) (codes "a.c" ∷ []))))
    × asks (codes "--in . kwargs info target e") (in_place (Info (command.KwargsInfo role.Target (record { id = codes "e"; folder = Some (codes ".") }))))
    × asks (codes "target l add_target a.c --subdir sub --type jar")
    (in_place (run (command.TargetAdd (codes "l") (codes "jar") (codes "sub") (codes "a.c" ∷ []))))
    × asks (codes "target l add_target") (in_place (run (command.TargetAdd (codes "l") (codes "executable") [] [])))
    × asks (codes "target l rm_target a.c") (in_place (run (command.TargetRemove (anywhere (codes "l")))))
    × asks (codes "kwargs set project / version 1.0.0") (in_place
    (run (command.KwargsSet role.Project (anywhere (codes "/")) ((codes "version", setting.Text (codes "1.0.0")) ∷ []))))
    × asks (codes "kwargs add dependency zlib version <2") (in_place
    (run (command.KwargsAdd role.Dependency (anywhere (codes "zlib")) ((codes "version", setting.Text (codes "<2")) ∷ []))))
    × asks (codes "kwargs remove target e link_with l") (in_place
    (run (command.KwargsRemove role.Target (anywhere (codes "e")) ((codes "link_with", setting.Text (codes "l")) ∷ []))))
    × asks (codes "kwargs delete target e install true") (in_place (run (command.KwargsDelete role.Target (anywhere (codes "e")) (codes "install" ∷ []))))
    × asks (codes "default-options set cpp_std c++20") (in_place (run (command.OptionsSet ((codes "cpp_std", codes "c++20") ∷ []))))
    × asks (codes "default-options delete cpp_std c++20") (in_place (run (command.OptionsDelete (codes "cpp_std" ∷ []))))
    × asks (codes "default-options unset cpp_std werror") (in_place (run (command.OptionsDelete (codes "cpp_std" ∷ codes "werror" ∷ []))))
    × asks (codes "default-options unset") (in_place (run (command.OptionsDelete [])))
    × asks (codes "default-options delete") (in_place (run (command.OptionsDelete [])))
    × asks (codes "--sourcedir d undo") (there (codes "d") Undo)
    × asks (codes "-s d undo") (there (codes "d") Undo)
    × asks (codes "-sd undo") (there (codes "d") Undo)
    × asks (codes "-s=d undo") (there (codes "d") Undo)
    × asks (codes "-s d target l add_target a.c -s sub --type jar")
    (there (codes "d") (run (command.TargetAdd (codes "l") (codes "jar") (codes "sub") (codes "a.c" ∷ []))))
    × asks (codes "tgt e rm -s sub a.c") (in_place (run (command.SourcesRemove (anywhere (codes "e")) (codes "a.c" ∷ []))))
    × asks (codes "def delete cpp_std c++20") (in_place (run (command.OptionsDelete (codes "cpp_std" ∷ []))))
    × asks (codes "cmd -") (in_place (ScriptFile (codes "-") unknown.Ignored))
    × asks (codes "-V undo") (in_place Undo)
    × asks (codes "--verbose undo") (in_place Undo)
    × asks (codes "-Vs d undo") (there (codes "d") Undo)
    × asks (codes "redo") (in_place Redo)
    × asks (codes "--sourcedir d undo --to 3") (there (codes "d") (UndoTo 3))
    × asks (codes "undo --to=007") (in_place (UndoTo 7))
    × asks (codes "undo --to 18446744073709551615") (in_place (UndoTo 18446744073709551615))
    × asks (codes "undo --check sums") (in_place (UndoChecked 1 (codes "sums")))
    × asks (codes "--sourcedir d undo --to 3 --check -") (there (codes "d") (UndoChecked 3 (codes "-")))
    × asks (codes "undo --check=now --to=1") (in_place (UndoChecked 1 (codes "now")))
    × asks (codes "undo --check=") (in_place (UndoChecked 1 []))
    × asks (codes "history --forget 2") (in_place (ForgetOldest 2))
    × asks (codes "--sourcedir d history --forget all") (there (codes "d") ForgetAll)

-- what it is for
abbrev pub Titled : Type 0
Titled =
    asks (codes "--title more target e rm a.c") (named (codes "more") (run (command.SourcesRemove (anywhere (codes "e")) (codes "a.c" ∷ []))))
    × asks (codes "--title a --sourcedir d redo") (Ok (record { dir = Some (codes "d"); title = codes "a"; flags = no_flags; texts = None; action = Redo }))
    × asks_titled (codes "add B") (named (codes "add B") Undo)
    × asks_titled [] (in_place Undo)
    × asks_titled (codes "a\tb") (Err BadTitle)
    × asks_titled (codes "a" ++ 127 ∷ []) (Err BadTitle)
    × asks (codes "--title a --title b undo") (Err Usage)
    × asks (codes "undo --title a") (Err Usage)
    × (asked_by (codes "T" ∷ codes "--title" ∷ codes "\t" ∷ codes "kwargs" ∷ codes "remove_regex" ∷ codes "target" ∷ codes "e" ∷ []) ≡ Err Unsupported)

-- what is shown, and not done
abbrev pub Shown : Type 0
Shown =
    asks (codes "--dry-run undo") (shown Undo)
    × asks (codes "--dry-run target e rm a.c") (shown (run (command.SourcesRemove (anywhere (codes "e")) (codes "a.c" ∷ []))))
    × asks (codes "--sourcedir d --dry-run --title a redo")
    (Ok (record { dir = Some (codes "d"); title = codes "a"; flags = dry; texts = None; action = Redo }))
    × asks (codes "--dry-run undo --to 2") (shown (UndoTo 2))
    × asks (codes "--dry-run undo --check sums") (shown (UndoChecked 1 (codes "sums")))
    × asks (codes "--dry-run list --json") (shown (action.List true))
    × asks (codes "undo --dry-run") (Err Usage)
    × asks (codes "--dry-run --dry-run undo") (Err Usage)
    × asks (codes "--dry-run=true undo") (Err Usage)

-- a line after the program's name is answered in JSON, or is not
abbrev wants : List ℕ → Bool → Type 0
wants line json = wants_json (codes "T" ∷ words_in line) ≡ json

-- what is answered in JSON, the faults of words that clap takes too
abbrev pub Json : Type 0
Json =
    asks (codes "--json undo") (in_json Undo)
    × asks (codes "--json list") (in_json (action.List false))
    × asks (codes "--json list --json") (in_json (action.List true))
    × asks (codes "--sourcedir d --json --dry-run --title a redo")
    (Ok (record { dir = Some (codes "d"); title = codes "a"; flags = record dry { json = true }; texts = None; action = Redo }))
    × asks (codes "undo --json") (Err Usage)
    × asks (codes "--json --json undo") (Err Usage)
    × asks (codes "--json=true undo") (Err Usage)
    × asks (codes "--json --help") (Ok help)
    × asks (codes "--json --version") (Ok version)
    × wants (codes "--json list") true
    × wants (codes "list --json") false
    × wants (codes "--json undo --to 0") true
    × wants (codes "--json kwargs set project / version") true
    × wants (codes "--json --sourcedir= undo") true
    × wants (codes "--json undo now") false
    × wants (codes "--json --help") false
    × wants (codes "--json") false
    × wants (codes "undo") false

-- how the status counts, and whether the log is used
abbrev pub Flagged : Type 0
Flagged =
    asks (codes "--exit-code undo") (flagged (record no_flags { exit_code = true }) Undo)
    × asks (codes "--no-log undo") (flagged (record no_flags { no_log = true }) Undo)
    × asks (codes "--explain undo") (flagged (record no_flags { explain = true }) Undo)
    × asks (codes "--no-log --exit-code --explain --json --dry-run redo")
    (flagged (record { dry_run = true; json = true; explain = true; exit_code = true; no_log = true; reading = Written }) Redo)
    × asks (codes "--exit-code list") (flagged (record no_flags { exit_code = true }) (action.List false))
    × asks (codes "undo --exit-code") (Err Usage)
    × asks (codes "undo --no-log") (Err Usage)
    × asks (codes "undo --explain") (Err Usage)
    × asks (codes "--exit-code --exit-code undo") (Err Usage)
    × asks (codes "--no-log=true undo") (Err Usage)

-- what has texts
abbrev pub Texts : Type 0
Texts =
    asks (codes "--texts t.json list") (texted no_flags (codes "t.json") (action.List false))
    × asks (codes "--texts - list --sums") (texted no_flags (codes "-") Sums)
    × asks (codes "--texts - history") (texted no_flags (codes "-") History)
    × asks (codes "--texts=t target e info") (texted no_flags (codes "t") (Info (command.TargetInfo (anywhere (codes "e")) Written)))
    × asks (codes "--texts t --dry-run target e rm a.c") (texted dry (codes "t") (run (command.SourcesRemove (anywhere (codes "e")) (codes "a.c" ∷ []))))
    × asks (codes "--texts - --dry-run undo") (texted dry (codes "-") Undo)
    × asks (codes "--dry-run --texts t command -") (texted dry (codes "t") (ScriptFile (codes "-") unknown.Ignored))
    × asks (codes "--dry-run --texts - command s") (texted dry (codes "-") (ScriptFile (codes "s") unknown.Ignored))
    × asks (codes "--texts t target e rm a.c") (Err Usage)
    × asks (codes "--texts t undo") (Err Usage)
    × asks (codes "--texts t history --forget 1") (Err Usage)
    × asks (codes "--texts t command [1]") (Err Usage)
    × asks (codes "--dry-run --texts - command -") (Err Usage)
    × asks (codes "--dry-run --texts - undo --check -") (Err Usage)
    × asks (codes "--texts a --texts b list") (Err Usage)
    × asks (codes "--texts") (Err Usage)
    × asks (codes "list --texts t") (Err Usage)
    × asks (codes "--texts t kwargs set project / version") (Err OddWords)
    × (asked_by (codes "T" ∷ codes "--title" ∷ codes "\t" ∷ codes "--texts" ∷ codes "t" ∷ codes "undo" ∷ []) ≡ Err Usage)

-- what is listed of a function, or of variables
abbrev pub Listed : Type 0
Listed =
    asks (codes "list --of dependency") (in_place (action.ListCalls (codes "dependency") false))
    × asks (codes "list --of=test --json") (in_place (action.ListCalls (codes "test") true))
    × asks (codes "list --json --of subdir") (in_place (action.ListCalls (codes "subdir") true))
    × asks (codes "--sourcedir d list --of variables") (there (codes "d") (action.ListCalls (codes "variables") false))
    × asks (codes "list --of variable") (in_place (action.ListAssignments false))
    × asks (codes "list --json --of variable") (in_place (action.ListAssignments true))
    × asks (codes "--json list --of project") (in_json (action.ListCalls (codes "project") false))
    × asks (codes "--json list --of variable") (in_json (action.ListAssignments false))
    × asks (codes "--texts t list --of test") (texted no_flags (codes "t") (action.ListCalls (codes "test") false))
    × asks (codes "--texts - list --of variable") (texted no_flags (codes "-") (action.ListAssignments false))
    × asks (codes "list --of") (Err Usage)
    × asks (codes "list --of=") (Err Usage)
    × asks (codes "list --of test test") (Err Usage)
    × asks (codes "list --of test --of test") (Err Usage)
    × asks (codes "list --of test --sums") (Err Usage)
    × asks (codes "list --sums --of variable") (Err Usage)
    × asks (codes "list --of test --json --sums") (Err Usage)
    × asks (codes "--of test list") (Err Usage)
    × asks (codes "history --of test") (Err Usage)
    × wants (codes "--json list --of=") true
    × wants (codes "list --of test --json") false

-- what is listed, which scripts are meant, help and the version
abbrev pub Other : Type 0
Other =
    asks (codes "target e info a.c") (in_place (Info (command.TargetInfo (anywhere (codes "e")) Written)))
    × asks (codes "kwargs info project / version") (in_place (Info (command.KwargsInfo role.Project (anywhere (codes "/")))))
    × asks (codes "--sourcedir d history") (there (codes "d") History)
    × asks (codes "list") (in_place (action.List false))
    × asks (codes "--sourcedir d list --json") (there (codes "d") (action.List true))
    × asks (codes "--sourcedir d list --sums") (there (codes "d") Sums)
    × asks (codes "command [1]") (in_place (ScriptText (codes "[1]") unknown.Ignored))
    × (asked_by (codes "T" ∷ codes "command" ∷ codes " \t{" ∷ []) ≡ in_place (ScriptText (codes " \t{") unknown.Ignored))
    × asks (codes "command changes.json") (in_place (ScriptFile (codes "changes.json") unknown.Ignored))
    × asks (codes "command -") (in_place (ScriptFile (codes "-") unknown.Ignored))
    × asks (codes "command --strict [1]") (in_place (ScriptText (codes "[1]") unknown.Refused))
    × asks (codes "command - --strict") (in_place (ScriptFile (codes "-") unknown.Refused))
    × asks (codes "--help") (Ok help)
    × asks (codes "target e add --help") (Ok help)
    × asks (codes "def --help") (Ok help)
    × asks (codes "--version") (Ok version)
    × asks (codes "--title a --version undo") (Ok version)
    × asks (codes "--version now") (Ok version)
    × asks (codes "--help --version") (Ok help)

-- what is refused, and by which fault
abbrev pub Refused : Type 0
Refused =
    (asked_by [] ≡ Err Usage)
    × (asked_by (codes "T" ∷ []) ≡ Err Usage)
    × asks (codes "target e") (Err Usage)
    × asks (codes "target e grow") (Err Usage)
    × asks (codes "kwargs set variable x a 1") (Err Usage)
    × asks (codes "undo now") (Err Usage)
    × asks (codes "history 1") (Err Usage)
    × asks (codes "undo --to") (Err Usage)
    × asks (codes "undo --to 0") (Err Usage)
    × asks (codes "undo --to +1") (Err Usage)
    × asks (codes "undo --to=-1") (Err Usage)
    × asks (codes "undo --to 1a") (Err Usage)
    × asks (codes "undo --to all") (Err Usage)
    × asks (codes "undo --to 18446744073709551616") (Err Usage)
    × asks (codes "undo --to 1 --to 1") (Err Usage)
    × asks (codes "undo --check") (Err Usage)
    × asks (codes "undo --check a --check a") (Err Usage)
    × asks (codes "undo --to 0 --check a") (Err Usage)
    × asks (codes "redo --to 1") (Err Usage)
    × asks (codes "redo --check a") (Err Usage)
    × asks (codes "history --forget=") (Err Usage)
    × asks (codes "history --forget 0") (Err Usage)
    × asks (codes "history --forget All") (Err Usage)
    × asks (codes "list tide") (Err Usage)
    × asks (codes "list --json --json") (Err Usage)
    × asks (codes "list --json --sums") (Err Usage)
    × asks (codes "list --sums --json") (Err Usage)
    × asks (codes "list --sums sums") (Err Usage)
    × asks (codes "list --sums=sums") (Err Usage)
    × asks (codes "command --strict") (Err Usage)
    × asks (codes "command --strict --strict -") (Err Usage)
    × asks (codes "command --strict=true -") (Err Usage)
    × asks (codes "--strict command -") (Err Usage)
    × asks (codes "target e add --strict") (Err Usage)
    × asks (codes "help") (Err Usage)
    × asks (codes "-h") (Err Usage)
    × asks (codes "-V") (Err Usage)
    × asks (codes "-V -V undo") (Err Usage)
    × asks (codes "-V --verbose undo") (Err Usage)
    × asks (codes "--verbose=true undo") (Err Usage)
    × asks (codes "undo -V") (Err Usage)
    × asks (codes "undo --verbose") (Err Usage)
    × asks (codes "target") (Err Usage)
    × asks (codes "tgt") (Err Usage)
    × asks (codes "tg e rm a.c") (Err Usage)
    × asks (codes "-S undo") (Err Usage)
    × asks (codes "undo --version") (Err Usage)
    × asks (codes "target e add -x") (Err Usage)
    × asks (codes "--sourcedir a --sourcedir b undo") (Err Usage)
    × asks (codes "--sourcedir a -s b undo") (Err Usage)
    × asks (codes "-s a -s b undo") (Err Usage)
    × asks (codes "-s b") (Err Usage)
    × asks (codes "-s= undo") (Err Usage)
    × asks (codes "undo -s b") (Err Usage)
    × asks (codes "target l add_target -s a --subdir a") (Err Usage)
    × (asked_by (codes "T" ∷ codes "--sourcedir" ∷ [] ∷ codes "undo" ∷ []) ≡ Err Usage)
    × asks (codes "undo --sourcedir d") (Err Usage)
    × asks (codes "kwargs set project / version") (Err OddWords)
    × asks (codes "default-options set a 1 a 2") (Err RepeatedKey)
    × asks (codes "default-options unset a b a") (Err RepeatedKey)
    × asks (codes "default-options delete a") (Err OddWords)
    × asks (codes "default-options unset -x") (Err Usage)
    × asks (codes "kwargs remove_regex target e") (Err Unsupported)
    × asks (codes "kwargs remove_regex target e a") (Err OddWords)
    × asks (codes "kwargs grow target e a") (Err Usage)
