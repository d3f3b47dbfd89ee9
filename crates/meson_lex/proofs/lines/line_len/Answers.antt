use Rattle.meson_lex.proofs.ByteSearch.{line_found, line_not_found}
use Rattle.meson_lex.proofs.lines.line_len.Goals as goal

pub returns-in-Some-clause-value : goal.returns-in-Some-clause-value
returns-in-Some-clause-value c = line_found c.args.bytes.now c.in-Some.len c.in-Some.ensures.0 c.in-Some.ensures.1

pub returns-in-None-clause-value : goal.returns-in-None-clause-value
returns-in-None-clause-value c = line_not_found c.args.bytes.now (λ k low high. c.in-None.ensures k low high)
