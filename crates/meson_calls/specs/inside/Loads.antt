-- What the loop over files answers.
use Rattle.std.specs.Prelude.{◌≡◌, ◌≢◌, ℕ, List}
use Rattle.meson_splice.specs.declared.file_set.File.{File}
use Rattle.meson_syntax.specs.declared.fault.ParseFault.{ParseFault}
use Rattle.meson_syntax.specs.declared.fault.ParseFault.TheVariants as parse
use Rattle.meson_calls.specs.declared.load_fault.LoadFault.{LoadFault}
use Rattle.meson_calls.specs.declared.load_fault.LoadFault.TheVariants.{TooManyFiles, BadFileName, Parse, OutOfMemory}
use Rattle.meson_calls.specs.Loading.{IsFirstUnread}

-- the fault of the file with this number, or out of memory
abbrev pub TellsFault : ℕ → ParseFault → LoadFault → Type 0
TellsFault index fault TooManyFiles = ⊥
TellsFault index fault (BadFileName i) = ⊥
TellsFault index fault (Parse i f) = (i ≡ index) × (f ≡ fault) × (fault ≢ parse.OutOfMemory)
TellsFault index fault OutOfMemory = Unit {0}

-- a fault of a file's tree
abbrev pub MayNotParse : List File → LoadFault → Type 0
MayNotParse files TooManyFiles = ⊥
MayNotParse files (BadFileName i) = ⊥
MayNotParse files (Parse i fault) = IsFirstUnread files i fault
MayNotParse files OutOfMemory = Unit {0}
