-- What is reported of a fault of items.
use Rattle.std.specs.Prelude.{ℕ, List, ◌++◌, codes, decimal}
use Rattle.meson_lex.specs.declared.fault.LexFault.{LexFault}
use Rattle.meson_lex.specs.declared.fault.LexFault.TheVariants.{StrayByte, OpenString, BadNumber, BareCarriageReturn}

abbrev pub lex_fault_text : LexFault → List ℕ
lex_fault_text (StrayByte at) = codes "L1 stray byte at " ++ decimal at
lex_fault_text (OpenString at) = codes "L2 open string at " ++ decimal at
lex_fault_text (BadNumber at) = codes "L3 bad number at " ++ decimal at
lex_fault_text (BareCarriageReturn at) = codes "L4 bare carriage return at " ++ decimal at
