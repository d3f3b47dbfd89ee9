use Rattle.std.proofs.Common.{◌≡◌, take}
use Rattle.std.specs.Str.Parse.{digits_value}
use Rattle.meson_lex.proofs.escapes.digits_value.Given as goal

-- the number of the digits so far
abbrev pub invariant-loop-b : goal.invariant-loop-b
invariant-loop-b l = l.value ≡ digits_value l.base (take l.b-index l.digits)
