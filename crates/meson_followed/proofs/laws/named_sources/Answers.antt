use Rattle.meson_followed.proofs.EditLaws.{missing_are_added, named_are_removed, sure_are_not_added}
use Rattle.meson_followed.proofs.laws.named_sources.Goals as goal

pub returns-clause-missing_are_added : goal.returns-clause-missing_are_added
returns-clause-missing_are_added c = missing_are_added

pub returns-clause-sure_are_not_added : goal.returns-clause-sure_are_not_added
returns-clause-sure_are_not_added c = sure_are_not_added

pub returns-clause-named_are_removed : goal.returns-clause-named_are_removed
returns-clause-named_are_removed c = named_are_removed
