-- What undo and redo do to a history and the files.
use Rattle.std.specs.Prelude.{◌≡◌, ℕ, zero, suc, List, [], ◌∷◌, ◌++◌, length, reverse, Result, Ok, Err}
use Rattle.meson_splice.specs.Patch.{inverses_of, patched_all, then_ok}
use Rattle.meson_splice.specs.declared.change.Change.{Change}
use Rattle.meson_splice.specs.declared.fault.SpliceFault.{SpliceFault}
use Rattle.meson_splice.specs.declared.fault.SpliceFault.TheVariants.{NothingToRedo, NothingToUndo}
use Rattle.meson_splice.specs.declared.file_set.File.{File}
use Rattle.meson_splice.specs.declared.history.History.{History}

-- the newest change is first: it is taken back, and is the next to redo
abbrev pub undone_from : List Change → List Change → List File → Result (History × List File) SpliceFault
undone_from [] future files = Err NothingToUndo
undone_from (c ∷ older) future files =
    then_ok (patched_all files (inverses_of c.splices)) (λ before. Ok (record { past = reverse older; future = future ++ c ∷ [] }, before))

abbrev pub undone : History → List File → Result (History × List File) SpliceFault
undone h files = undone_from (reverse h.past) h.future files

-- a number of undos, one after another
abbrev pub undone_times : ℕ → History → List File → Result (History × List File) SpliceFault
undone_times zero h files = Ok (h, files)
undone_times (suc n) h files = then_ok (undone_times n h files) (λ s. undone s.0 s.1)

-- the next to redo is first: it is done again, and is the newest
abbrev pub redone_from : List Change → List Change → List File → Result (History × List File) SpliceFault
redone_from [] past files = Err NothingToRedo
redone_from (c ∷ later) past files =
    then_ok (patched_all files c.splices) (λ after. Ok (record { past = past ++ c ∷ []; future = reverse later }, after))

abbrev pub redone : History → List File → Result (History × List File) SpliceFault
redone h files = redone_from (reverse h.future) h.past files

-- This number of the oldest changes is dropped: they were first, and what is left is as it was.
pub record Forgets (count : ℕ) (old new : History) : Type 0 where
  pub gone : List Change
  pub many : length gone ≡ count
  pub past : old.past ≡ gone ++ new.past
  pub future : new.future ≡ old.future
