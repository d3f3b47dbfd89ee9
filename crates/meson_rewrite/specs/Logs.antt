-- The undo log of a project: a file beside its root file.
use Rattle.std.specs.Prelude.{◌≡◌, ℕ, Bool, true, false, List, [], ◌∷◌, ◌++◌, codes, Option, Some, None}
use Rattle.meson_splice.specs.declared.file_set.File.{File}
use Rattle.meson_splice.specs.declared.history.History.{History}
use Rattle.meson_json.specs.Log.{logged}
use Rattle.meson_gathering.specs.Gathering.{Told, file_of, held_bytes}
use Rattle.meson_store.specs.Content.{Content}
use Rattle.meson_rewrite.specs.declared.opening.LogUse.{LogUse}
use Rattle.meson_rewrite.specs.declared.opening.LogUse.TheVariants.{Kept, Ignored}

-- by whether the words leave the log alone
abbrev pub log_use : Bool → LogUse
log_use true = Ignored
log_use false = Kept

abbrev pub log_name : List ℕ
log_name = codes "meson.rewrite-log"

-- the log of a history without changes
abbrev pub empty_log : List ℕ
empty_log = codes "{\"future\":[],\"past\":[],\"version\":2}\n"

-- What the store holds as the log is this text, of this history; if it holds none, that is the log of no changes.
abbrev pub IsLog : Option (List ℕ) → List ℕ → History → Type 0
IsLog None text history = (text ≡ empty_log) × (history ≡ record { past = []; future = [] })
IsLog (Some bytes) text history = (text ≡ bytes) × (logged bytes ≡ Some history)

-- it holds a log, of no history
abbrev pub IsBadLog : Option (List ℕ) → Type 0
IsBadLog None = ⊥
IsBadLog (Some bytes) = logged bytes ≡ None

-- A log that is kept is what the store of this content holds in that folder. One that is ignored is the log of no changes, whatever the store holds.
abbrev pub IsLogFor : LogUse → Option Content → Option (List ℕ) → List ℕ → History → Type 0
IsLogFor Kept before dir text history = Told before (λ content. IsLog (held_bytes content dir log_name) text history)
IsLogFor Ignored before dir text history = IsLog None text history

-- the files of a project, with the log after them if it is kept
abbrev pub with_log : LogUse → List File → List ℕ → List File
with_log Kept files text = files ++ file_of log_name text ∷ []
with_log Ignored files text = files
