use Rattle.std.proofs.Common.{◌≡◌, ◌++◌}
use Rattle.std.specs.Prelude.{encode_utf8_all, string_bytes}
use Rattle.std.specs.Char.Escape.{escape_unicode}
use Rattle.std.specs.Char.Iter.{escape_rest}
use Rattle.meson_explaining.proofs.printable.push_escape.Given as goal

abbrev pub invariant-loop-letter : goal.invariant-loop-letter
invariant-loop-letter l = string_bytes l.text ++ encode_utf8_all (escape_rest l.letter-iterator) ≡ string_bytes l.initial.text ++ encode_utf8_all (escape_unicode l.fn.c)
