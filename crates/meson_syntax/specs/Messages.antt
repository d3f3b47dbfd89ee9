-- What is reported of a text that is not a valid build file.
use Rattle.std.specs.Prelude.{ℕ, List, ◌++◌, codes, decimal}
use Rattle.meson_lex.specs.Messages.{lex_fault_text}
use Rattle.meson_syntax.specs.declared.fault.ParseFault.{ParseFault}
use Rattle.meson_syntax.specs.declared.fault.ParseFault.TheVariants.{TooLarge, NotUtf8, ByteOrderMark, Lex, Unexpected, TooDeep, OutOfMemory}

abbrev pub parse_fault_text : ParseFault → List ℕ
parse_fault_text TooLarge = codes "S1 too large"
parse_fault_text NotUtf8 = codes "S2 not utf-8"
parse_fault_text ByteOrderMark = codes "S3 byte order mark"
parse_fault_text (Lex fault) = lex_fault_text fault
parse_fault_text (Unexpected at) = codes "S5 unexpected at " ++ decimal at
parse_fault_text (TooDeep at) = codes "S6 too deep at " ++ decimal at
parse_fault_text OutOfMemory = codes "out of memory"
