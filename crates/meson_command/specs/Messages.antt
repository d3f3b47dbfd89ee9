-- What is printed for words that are refused.
use Rattle.std.specs.Prelude.{ℕ, List, codes}
use Rattle.meson_steps.specs.declared.value_fault.ValueFault.{ValueFault}
use Rattle.meson_steps.specs.declared.value_fault.ValueFault.TheVariants as value
use Rattle.meson_command.specs.declared.fault.UsageFault.{UsageFault}
use Rattle.meson_command.specs.declared.fault.UsageFault.TheVariants.{Usage, OddWords, RepeatedKey, Unsupported, BadTitle, NotCode, OutOfMemory}

abbrev pub usage_fault_text : UsageFault → List ℕ
usage_fault_text Usage = codes "U1 usage"
usage_fault_text OddWords = codes "U2 odd words"
usage_fault_text RepeatedKey = codes "U3 repeated key"
usage_fault_text Unsupported = codes "U4 unsupported"
usage_fault_text BadTitle = codes "U6 bad title"
usage_fault_text NotCode = codes "U7 not code"
usage_fault_text OutOfMemory = codes "out of memory"

-- the fault of words of which one is no value
abbrev pub usage_by_value : ValueFault → UsageFault
usage_by_value value.NotCode = NotCode
usage_by_value value.OutOfMemory = OutOfMemory
