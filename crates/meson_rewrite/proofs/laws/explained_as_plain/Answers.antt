use Rattle.meson_rewrite.proofs.PlainEnds.{answers_are_plain, explained_ends_as_plain, explained_runs_as_plain, lines_are_plain, members_are_plain, status_is_plain}
use Rattle.meson_rewrite.proofs.laws.explained_as_plain.Goals as goal

pub returns-clause-ends : goal.returns-clause-ends
returns-clause-ends c = explained_ends_as_plain

pub returns-clause-runs : goal.returns-clause-runs
returns-clause-runs c = explained_runs_as_plain

pub returns-clause-status : goal.returns-clause-status
returns-clause-status c = status_is_plain

pub returns-clause-lines : goal.returns-clause-lines
returns-clause-lines c = lines_are_plain

pub returns-clause-members : goal.returns-clause-members
returns-clause-members c = members_are_plain

pub returns-clause-answers : goal.returns-clause-answers
returns-clause-answers c = answers_are_plain
