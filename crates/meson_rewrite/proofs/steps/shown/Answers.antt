use Rattle.std.proofs.Common.{subst}
use Rattle.meson_rewrite.proofs.Gathered.{said-warns}
use Rattle.meson_rewrite.specs.Warnings.{IsWarned}
use Rattle.meson_rewrite.proofs.steps.shown.Goals as goal

pub returns-clause-shown : goal.returns-clause-shown
returns-clause-shown c =
    let flags = c.args.flags in
    let old = c.args.opened.session.project in
    let step = c.args.step.now in
    let found = c.warnings_for-warnings.result in
    let are = subst (λ l. IsWarned flags l step found) c.project.ensures c.warnings_for-warnings.ensures in
    record {
      plain = c.in_ok-said.said;
      shown = c.in_ok-said.ensures.shown;
      warns = said-warns flags old step c.in_ok-said.said c.warned.result found are c.warned.ensures;
    }
