use Rattle.meson_lex.proofs.SimpleStrings.{simple_closes, simple_no_return}
use Rattle.meson_lex.proofs.strings.simple_len.Goals as goal

pub returns-then-bytes-i-eq39-clause-value : goal.returns-then-bytes-i-eq39-clause-value
returns-then-bytes-i-eq39-clause-value c = simple_closes c.args.bytes.now c.in_ok-i.i c.in_ok-i.ensures.0 c.if-bytes-i-eq39.true

pub returns-then-bytes-i-eq39-clause-no_return : goal.returns-then-bytes-i-eq39-clause-no_return
returns-then-bytes-i-eq39-clause-no_return c = simple_no_return c.args.bytes.now c.in_ok-i.i c.in_ok-i.ensures.0 c.if-bytes-i-eq39.true
