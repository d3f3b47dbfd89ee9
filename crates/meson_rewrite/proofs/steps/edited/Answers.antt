use Rattle.std.proofs.Common.{refl, subst}
use Rattle.meson_rewrite.proofs.Gathered.{said-warns}
use Rattle.meson_rewrite.specs.Warnings.{IsWarned}
use Rattle.meson_rewrite.proofs.steps.edited.Goals as goal

pub returns-clause-edited : goal.returns-clause-edited
returns-clause-edited c =
    let flags = c.args.flags in
    let old = c.args.opened.session.project in
    let step = c.args.step.now in
    let found = c.warnings_for-warnings.result in
    let are = subst (λ l. IsWarned flags l step found) c.project.ensures c.warnings_for-warnings.ensures in
    record {
      plain = c.in_ok-edit.edit;
      edited = c.in_ok-edit.ensures.edited;
      before = refl;
      after = refl;
      warns = said-warns flags old step c.in_ok-edit.edit.said c.warned.result found are c.warned.ensures;
    }

pub returns-clause-same_names : goal.returns-clause-same_names
returns-clause-same_names c = c.in_ok-edit.ensures.same_names
