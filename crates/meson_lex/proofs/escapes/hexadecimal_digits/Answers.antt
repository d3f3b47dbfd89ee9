use Rattle.std.proofs.Common.{sym, subst, take}
use Rattle.std.specs.Str.Parse.{AllDigits}
use Rattle.meson_lex.proofs.Digits.{hexadecimal_digits}
use Rattle.meson_lex.proofs.escapes.hexadecimal_digits.Goals as goal

pub returns-clause-each : goal.returns-clause-each
returns-clause-each c = subst (λ n. AllDigits 16 (take n c.args.bytes.now)) (sym c.hexadecimal_len.ensures.value) (hexadecimal_digits c.args.bytes.now)
