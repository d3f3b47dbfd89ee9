use Rattle.std.proofs.Common.{sym, subst, take}
use Rattle.std.specs.Str.Parse.{AllDigits}
use Rattle.meson_lex.proofs.Digits.{octal_digits}
use Rattle.meson_lex.proofs.escapes.octal_digits.Goals as goal

pub returns-clause-each : goal.returns-clause-each
returns-clause-each c = subst (λ n. AllDigits 8 (take n c.args.bytes.now)) (sym c.octal_len.ensures.value) (octal_digits c.args.bytes.now)
