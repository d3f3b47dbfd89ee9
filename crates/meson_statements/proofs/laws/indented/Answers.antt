use Rattle.std.proofs.Common.{true, sym, subst}
use Rattle.std.specs.Str.{IsUtf8}
use Rattle.meson_statements.proofs.Lines.{indented-lines}
use Rattle.meson_statements.proofs.Utf8.{all-utf8}
use Rattle.meson_statements.proofs.Words.{said-same}
use Rattle.meson_statements.proofs.laws.indented.Goals as goal

pub returns-clause-lines : goal.returns-clause-lines
returns-clause-lines c = indented-lines

pub returns-clause-utf8 : goal.returns-clause-utf8
returns-clause-utf8 c = λ text u items are indent end blank is_end. all-utf8 indent end blank is_end items are.each (subst IsUtf8 (sym are.joins) u) true

pub returns-clause-said : goal.returns-clause-said
returns-clause-said c = said-same
