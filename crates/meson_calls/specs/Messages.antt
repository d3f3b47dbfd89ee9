-- What is reported of files that are not a project, and of a command that is refused.
use Rattle.std.specs.Prelude.{ℕ, List, [], ◌++◌, codes, decimal}
use Rattle.meson_syntax.specs.Messages.{parse_fault_text}
use Rattle.meson_calls.specs.declared.load_fault.LoadFault.{LoadFault}
use Rattle.meson_calls.specs.declared.load_fault.LoadFault.TheVariants as load
use Rattle.meson_calls.specs.declared.refusal.Refusal.{Refusal}
use Rattle.meson_calls.specs.declared.refusal.Refusal.TheVariants as refusal

abbrev pub load_fault_text : LoadFault → List ℕ
load_fault_text load.TooManyFiles = codes "M1 too many files"
load_fault_text (load.BadFileName index) = codes "M2 bad file name " ++ decimal index
load_fault_text (load.Parse index fault) = parse_fault_text fault
load_fault_text load.OutOfMemory = codes "out of memory"

-- the code of a refusal, and what it means
abbrev pub refusal_words : Refusal → List ℕ
refusal_words refusal.NoProject = codes "C1 no project"
refusal_words refusal.NotFound = codes "C2 not found"
refusal_words refusal.Ambiguous = codes "C3 ambiguous"
refusal_words (refusal.UnknownKey name) = codes "C4 unknown key"
refusal_words (refusal.WrongKind name) = codes "C5 wrong kind"
refusal_words refusal.BadName = codes "C6 bad name"
refusal_words refusal.HiddenKeywords = codes "C7 hidden keywords"
refusal_words (refusal.DuplicateKeyword name) = codes "C8 duplicate keyword: "
refusal_words (refusal.NotLiteral name) = codes "C9 not literal: "
refusal_words (refusal.Shared name) = codes "C20 shared: "
refusal_words (refusal.OtherKind key) = codes "C21 other kind: "
refusal_words refusal.ThereAlready = codes "C22 there already"
refusal_words (refusal.NoSuchValue key) = codes "C23 no such value: "
refusal_words refusal.SourceNotFound = codes "C10 source not found"
refusal_words refusal.Unresolved = codes "C11 unresolved"
refusal_words refusal.NotRemovable = codes "C12 not removable"
refusal_words refusal.NameTaken = codes "C13 name taken"
refusal_words refusal.NoFile = codes "C14 no file"
refusal_words refusal.NotStatement = codes "C15 not a statement"
refusal_words (refusal.InUse name) = codes "C16 in use: "
refusal_words refusal.TooDeep = codes "C17 too deep"
refusal_words refusal.TooLarge = codes "C18 too large"
refusal_words refusal.OutOfMemory = codes "out of memory"

-- the name that is printed after the words
abbrev pub refusal_name : Refusal → List ℕ
refusal_name (refusal.DuplicateKeyword name) = name
refusal_name (refusal.NotLiteral name) = name
refusal_name (refusal.Shared name) = name
refusal_name (refusal.OtherKind key) = key
refusal_name (refusal.NoSuchValue key) = key
refusal_name (refusal.InUse name) = name
refusal_name _ = []

abbrev pub refusal_text : Refusal → List ℕ
refusal_text why = refusal_words why ++ refusal_name why
