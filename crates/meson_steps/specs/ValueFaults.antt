-- What is printed of a word that stands for no value.
use Rattle.std.specs.Prelude.{ℕ, List, codes}
use Rattle.meson_steps.specs.declared.value_fault.ValueFault.{ValueFault}
use Rattle.meson_steps.specs.declared.value_fault.ValueFault.TheVariants as fault

abbrev pub value_fault_text : ValueFault → List ℕ
value_fault_text fault.NotCode = codes "U7 not code"
value_fault_text fault.OutOfMemory = codes "out of memory"
