-- What is reported of a fault of a store or of a writer.
use Rattle.std.specs.Prelude.{ℕ, List, ◌++◌, codes}
use Rattle.meson_store.specs.declared.store_fault.StoreFault.{StoreFault}
use Rattle.meson_store.specs.declared.store_fault.StoreFault.TheVariants.{ReadFailed, WriteFailed, NoFile, OutputFailed, OutOfMemory}

abbrev pub store_fault_text : StoreFault → List ℕ
store_fault_text (ReadFailed name) = codes "W1 cannot read " ++ name
store_fault_text (WriteFailed name still_new) = codes "W2 cannot write " ++ name
store_fault_text (NoFile name) = codes "W3 no file " ++ name
store_fault_text OutputFailed = codes "W4 output failed"
store_fault_text OutOfMemory = codes "out of memory"
