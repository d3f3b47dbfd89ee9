use Rattle.meson_command.proofs.Usages.{help-law, version-law}
use Rattle.meson_command.proofs.laws.help_where_asked.Goals as goal

pub returns-clause-help : goal.returns-clause-help
returns-clause-help c = help-law

pub returns-clause-version : goal.returns-clause-version
returns-clause-version c = version-law
