use Rattle.meson_statements.proofs.CodeTexts.{code-is-statements, lexemes-are-items, trees-are-read}
use Rattle.meson_statements.proofs.laws.texts.Goals as goal

pub returns-clause-items : goal.returns-clause-items
returns-clause-items c = lexemes-are-items

pub returns-clause-trees : goal.returns-clause-trees
returns-clause-trees c = trees-are-read

pub returns-clause-code : goal.returns-clause-code
returns-clause-code c = code-is-statements
