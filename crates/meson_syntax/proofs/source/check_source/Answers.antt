use Rattle.std.proofs.Common.{rules, arith, refl}
use Rattle.meson_syntax.proofs.Slices.{take-three}
use Rattle.meson_syntax.specs.Reads.{too_large, not_utf8, marked}
use Rattle.meson_syntax.proofs.source.check_source.Goals as goal

pub returns-then-is_too_long-clause-err : goal.returns-then-is_too_long-clause-err
returns-then-is_too_long-clause-err c = too_large (c.if-is_too_long.ensures.long refl)

pub returns-in-Err-clause-err : goal.returns-in-Err-clause-err
returns-in-Err-clause-err c = not_utf8 (c.if-is_too_long.ensures.short refl) (search rules)

pub returns-in-239-clause-err : goal.returns-in-239-clause-err
returns-in-239-clause-err c = marked (c.if-is_too_long.ensures.short refl) (search rules) (take-three c.args.source.now 239 187 191 (omega arith) (search rules) (search rules) (search rules))
