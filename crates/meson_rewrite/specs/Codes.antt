-- The code of each reason for which a run is stopped.
use Rattle.std.specs.Prelude.{ℕ, List, codes}
use Rattle.meson_lex.specs.declared.fault.LexFault.{LexFault}
use Rattle.meson_lex.specs.declared.fault.LexFault.TheVariants as lex
use Rattle.meson_syntax.specs.declared.fault.ParseFault.{ParseFault}
use Rattle.meson_syntax.specs.declared.fault.ParseFault.TheVariants as parse
use Rattle.meson_splice.specs.declared.fault.SpliceFault.{SpliceFault}
use Rattle.meson_splice.specs.declared.fault.SpliceFault.TheVariants as splice
use Rattle.meson_calls.specs.declared.refusal.Refusal.{Refusal}
use Rattle.meson_calls.specs.declared.refusal.Refusal.TheVariants as refusal
use Rattle.meson_json.specs.declared.fault.ScriptFault.{ScriptFault}
use Rattle.meson_json.specs.declared.fault.ScriptFault.TheVariants as script
use Rattle.meson_command.specs.declared.fault.UsageFault.{UsageFault}
use Rattle.meson_command.specs.declared.fault.UsageFault.TheVariants as usage
use Rattle.meson_store.specs.declared.store_fault.StoreFault.{StoreFault}
use Rattle.meson_store.specs.declared.store_fault.StoreFault.TheVariants as store
use Rattle.meson_rewrite.specs.declared.stop.Stop.{Stop}
use Rattle.meson_rewrite.specs.declared.stop.Stop.TheVariants.{Usage, Script, Parse, TooManyFiles, BadFileName, Refused, Splice, OtherFiles, BadTexts, Store}

-- out of memory
abbrev pub memory_code : List ℕ
memory_code = codes "memory"

abbrev pub usage_code : UsageFault → List ℕ
usage_code usage.Usage = codes "U1"
usage_code usage.OddWords = codes "U2"
usage_code usage.RepeatedKey = codes "U3"
usage_code usage.Unsupported = codes "U4"
usage_code usage.BadTitle = codes "U6"
usage_code usage.NotCode = codes "U7"
usage_code usage.OutOfMemory = memory_code

abbrev pub script_code : ScriptFault → List ℕ
script_code script.NotJson = codes "J1"
script_code script.NotArray = codes "J2"
script_code script.TooMany = codes "J3"
script_code (script.NotObject index) = codes "J4"
script_code (script.UnknownType index) = codes "J5"
script_code (script.BadField index member) = codes "J6"
script_code (script.UnknownOperation index) = codes "J7"
script_code (script.Unsupported index) = codes "J8"
script_code (script.UnknownMember index member_) = codes "J12"
script_code script.BadLog = codes "J9"
script_code script.OutOfMemory = memory_code

abbrev pub lex_code : LexFault → List ℕ
lex_code (lex.StrayByte at) = codes "L1"
lex_code (lex.OpenString at) = codes "L2"
lex_code (lex.BadNumber at) = codes "L3"
lex_code (lex.BareCarriageReturn at) = codes "L4"

abbrev pub file_fault_code : ParseFault → List ℕ
file_fault_code parse.TooLarge = codes "S1"
file_fault_code parse.NotUtf8 = codes "S2"
file_fault_code parse.ByteOrderMark = codes "S3"
file_fault_code (parse.Lex fault) = lex_code fault
file_fault_code (parse.Unexpected at) = codes "S5"
file_fault_code (parse.TooDeep at) = codes "S6"
file_fault_code parse.OutOfMemory = memory_code

abbrev pub refusal_code : Refusal → List ℕ
refusal_code refusal.NoProject = codes "C1"
refusal_code refusal.NotFound = codes "C2"
refusal_code refusal.Ambiguous = codes "C3"
refusal_code (refusal.UnknownKey name) = codes "C4"
refusal_code (refusal.WrongKind name) = codes "C5"
refusal_code refusal.BadName = codes "C6"
refusal_code refusal.HiddenKeywords = codes "C7"
refusal_code (refusal.DuplicateKeyword name) = codes "C8"
refusal_code (refusal.NotLiteral name) = codes "C9"
refusal_code (refusal.Shared name) = codes "C20"
refusal_code (refusal.OtherKind key) = codes "C21"
refusal_code refusal.ThereAlready = codes "C22"
refusal_code (refusal.NoSuchValue key) = codes "C23"
refusal_code refusal.SourceNotFound = codes "C10"
refusal_code refusal.Unresolved = codes "C11"
refusal_code refusal.NotRemovable = codes "C12"
refusal_code refusal.NameTaken = codes "C13"
refusal_code refusal.NoFile = codes "C14"
refusal_code refusal.NotStatement = codes "C15"
refusal_code (refusal.InUse name) = codes "C16"
refusal_code refusal.TooDeep = codes "C17"
refusal_code refusal.TooLarge = codes "C18"
refusal_code refusal.OutOfMemory = memory_code

abbrev pub splice_code : SpliceFault → List ℕ
splice_code (splice.NoFile file) = codes "P1"
splice_code (splice.OutOfRange file at) = codes "P2"
splice_code (splice.Stale file at) = codes "P3"
splice_code splice.NothingToUndo = codes "P4"
splice_code splice.NothingToRedo = codes "P5"
splice_code splice.OutOfMemory = memory_code

abbrev pub store_code : StoreFault → List ℕ
store_code (store.ReadFailed name) = codes "W1"
store_code (store.WriteFailed name still_new) = codes "W2"
store_code (store.NoFile name) = codes "W3"
store_code store.OutputFailed = codes "W4"
store_code store.OutOfMemory = memory_code

abbrev pub stop_code : Stop → List ℕ
stop_code (Usage fault advice) = usage_code fault
stop_code (Script fault advice) = script_code fault
stop_code (Parse name text fault advice) = file_fault_code fault
stop_code (TooManyFiles advice) = codes "M1"
stop_code (BadFileName place) = codes "M2"
stop_code (Refused fault subject advice) = refusal_code fault.refusal
stop_code (Splice fault run advice) = splice_code fault
stop_code (OtherFiles name advice) = codes "P6"
stop_code (BadTexts advice) = codes "J11"
stop_code (Store fault advice) = store_code fault
