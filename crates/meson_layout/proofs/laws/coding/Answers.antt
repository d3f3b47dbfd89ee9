use Rattle.meson_layout.proofs.Coding.{coding-law, texts-law}
use Rattle.meson_layout.proofs.laws.coding.Goals as goal

pub returns-clause-whole : goal.returns-clause-whole
returns-clause-whole c = coding-law

pub returns-clause-splices : goal.returns-clause-splices
returns-clause-splices c = texts-law
