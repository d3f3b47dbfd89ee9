use Rattle.std.proofs.Common.{◌∙◌, ap, subst, sym}
use Rattle.std.proofs.lemmas.Result.{err_from_is_err_and}
use Rattle.std.specs.List.{All}
use Rattle.meson_calls.specs.Loading.{HasFileName}
use Rattle.meson_script.proofs.RunFacts.{names}
use Rattle.meson_rewrite.proofs.Listings.{does-list}
use Rattle.meson_rewrite.proofs.Names.{logged-names, step-names}
use Rattle.meson_rewrite.proofs.PlainObjects.{IsText, project-text}
use Rattle.meson_rewrite.specs.Logs.{with_log}
use Rattle.meson_rewrite.specs.Steps.{SaysStep}
use Rattle.meson_rewrite.proofs.steps.edit_of.Goals as goal

pub said_of-requires : goal.said_of-requires
said_of-requires c =
    let old = c.args.session.now in
    let new = c.act.new.session in
    let same = c.in_ok-old.ensures.cases ∙ c.files.ensures in
    record {
      same_files = ap names same ∙ step-names c.args.flags.json c.args.step.now old new c.in_ok-report.report c.in_ok-report.ensures.does;
      old_text = subst (All IsText) (sym same) (project-text old.project c.reads.ensures);
      listed = does-list c.args.flags.json c.args.step.now old new c.in_ok-report.report c.in_ok-report.ensures.does;
    }

pub with_log-requires : goal.with_log-requires
with_log-requires c = subst (All HasFileName) (sym (c.in_ok-old.ensures.cases ∙ c.files.ensures)) c.reads.ensures.named

pub returns-clause-same_names : goal.returns-clause-same_names
returns-clause-same_names c =
    let old = c.args.session.now in
    let new = c.act.new.session in
    let same = c.in_ok-old.ensures.cases ∙ c.files.ensures in
    ap names c.in_ok-before.ensures
    ∙ logged-names c.of-log_use.result _ _ _ _ (ap names same ∙ step-names c.args.flags.json c.args.step.now old new c.in_ok-report.report c.in_ok-report.ensures.does)
    ∙ ap names (sym c.in_ok-after.ensures.files.2)

pub returns-clause-edited : goal.returns-clause-edited
returns-clause-edited c =
    let old = c.args.session.now in
    let new = c.act.new.session in
    let same = c.in_ok-old.ensures.cases ∙ c.files.ensures in
    record {
      new = new;
      is_project = c.in_ok-report.ensures.project;
      report = c.in_ok-report.report;
      does = c.in_ok-report.ensures.does;
      new_log = c.in_ok-after.ensures.files.0;
      is_log = c.in_ok-after.ensures.files.1;
      before = c.in_ok-before.ensures ∙ ap (λ fs. with_log c.of-log_use.result fs c.args.log.items) same ∙ ap (λ how. with_log how old.project.files c.args.log.items) c.of-log_use.ensures;
      after = c.in_ok-after.ensures.files.2 ∙ ap (λ how. with_log how new.project.files c.in_ok-after.ensures.files.0) c.of-log_use.ensures;
      says = subst (λ fs. SaysStep c.args.flags.json c.args.step.now fs new.project.files c.in_ok-report.report c.in_ok-said.said) same c.in_ok-said.ensures;
    }

pub returns-in_err-report-clause-refused : goal.returns-in_err-report-clause-refused
returns-in_err-report-clause-refused c =
    let error = err_from_is_err_and c.from_residual-in_err-report.result c.from_residual-in_err-report.ensures.1 in
    rw (error.1, error.2) c.in_err-report.ensures.refused
