use Rattle.meson_statements.proofs.Placed.{placed-lines, placed-utf8}
use Rattle.meson_statements.proofs.laws.placed.Goals as goal

pub returns-clause-lines : goal.returns-clause-lines
returns-clause-lines c = λ source xs list code t s ys are blank at_. placed-lines source xs list code ys are blank t s at_

pub returns-clause-utf8 : goal.returns-clause-utf8
returns-clause-utf8 c = λ source xs list code u ys are blank at_. placed-utf8 source xs list code ys are blank u at_
