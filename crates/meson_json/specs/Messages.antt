-- What is reported of a text that is not a valid script or log.
use Rattle.std.specs.Prelude.{ℕ, List, ◌++◌, codes, decimal}
use Rattle.meson_json.specs.declared.fault.ScriptFault.{ScriptFault}
use Rattle.meson_json.specs.declared.fault.ScriptFault.TheVariants.{NotJson, NotArray, TooMany, NotObject, UnknownType, BadField}
use Rattle.meson_json.specs.declared.fault.ScriptFault.TheVariants.{UnknownOperation, Unsupported, UnknownMember, BadLog, OutOfMemory}

-- of the entry with that number
abbrev pub entry_prefix : ℕ → List ℕ → List ℕ
entry_prefix index text = codes "entry " ++ (decimal index ++ text)

abbrev pub script_fault_text : ScriptFault → List ℕ
script_fault_text NotJson = codes "J1 not json"
script_fault_text NotArray = codes "J2 not an array"
script_fault_text TooMany = codes "J3 too many"
script_fault_text (NotObject index) = entry_prefix index (codes ": J4 not an object")
script_fault_text (UnknownType index) = entry_prefix index (codes ": J5 unknown type")
script_fault_text (BadField index member) = entry_prefix index (codes ": J6 bad field " ++ member)
script_fault_text (UnknownOperation index) = entry_prefix index (codes ": J7 unknown operation")
script_fault_text (Unsupported index) = entry_prefix index (codes ": J8 unsupported")
script_fault_text (UnknownMember index member) = entry_prefix index (codes ": J12 unknown member " ++ member)
script_fault_text BadLog = codes "J9 bad log"
script_fault_text OutOfMemory = codes "out of memory"
