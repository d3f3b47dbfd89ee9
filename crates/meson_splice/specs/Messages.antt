-- What is reported of a fault of a splice or of a step of the history.
use Rattle.std.specs.Prelude.{ℕ, List, ◌++◌, codes, decimal}
use Rattle.meson_splice.specs.declared.fault.SpliceFault.{SpliceFault}
use Rattle.meson_splice.specs.declared.fault.SpliceFault.TheVariants.{NoFile, OutOfRange, Stale, NothingToUndo, NothingToRedo, OutOfMemory}

abbrev pub splice_fault_text : SpliceFault → List ℕ
splice_fault_text (NoFile file) = codes "P1 no file " ++ file
splice_fault_text (OutOfRange file at) = codes "P2 out of range in " ++ (file ++ (codes " at " ++ decimal at))
splice_fault_text (Stale file at) = codes "P3 stale " ++ (file ++ (codes " at " ++ decimal at))
splice_fault_text NothingToUndo = codes "P4 nothing to undo"
splice_fault_text NothingToRedo = codes "P5 nothing to redo"
splice_fault_text OutOfMemory = codes "out of memory"
