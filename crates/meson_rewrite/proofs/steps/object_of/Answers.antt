use Rattle.std.proofs.Common.{◌∙◌, ap, subst, sym}
use Rattle.std.proofs.lemmas.Result.{err_from_is_err_and}
use Rattle.std.specs.List.{All}
use Rattle.meson_script.proofs.RunFacts.{names}
use Rattle.meson_rewrite.proofs.Listings.{does-list}
use Rattle.meson_rewrite.proofs.Names.{step-names}
use Rattle.meson_rewrite.proofs.PlainObjects.{IsText, project-text}
use Rattle.meson_rewrite.specs.Objects.{SaysObject}
use Rattle.meson_rewrite.proofs.steps.object_of.Goals as goal

pub object-requires : goal.object-requires
object-requires c =
    let old = c.args.session.now in
    let new = c.act.new.session in
    let same = c.in_ok-old.ensures.cases ∙ c.files.ensures in
    record {
      same_files = ap names same ∙ step-names c.args.flags.json c.args.step.now old new c.in_ok-report.report c.in_ok-report.ensures.does ∙ ap names (sym c.files-2.ensures);
      old_text = subst (All IsText) (sym same) (project-text old.project c.reads.ensures);
      new_text = subst (All IsText) (sym c.files-2.ensures) (project-text new.project c.reads-2.ensures);
      listed = does-list c.args.flags.json c.args.step.now old new c.in_ok-report.report c.in_ok-report.ensures.does;
    }

pub returns-clause-object : goal.returns-clause-object
returns-clause-object c =
    let old = c.args.session.now in
    let new = c.act.new.session in
    let same = c.in_ok-old.ensures.cases ∙ c.files.ensures in
    let report = c.in_ok-report.report in
    record {
      new = new;
      report = report;
      does = c.in_ok-report.ensures.does;
      says = subst (λ fs. SaysObject c.args.step.now fs new.project.files report c.in_ok-object.field-0) same
          (subst (λ fs. SaysObject c.args.step.now c.in_ok-old.old fs report c.in_ok-object.field-0) c.files-2.ensures c.in_ok-object.ensures);
    }

pub returns-in_err-report-clause-refused : goal.returns-in_err-report-clause-refused
returns-in_err-report-clause-refused c =
    let error = err_from_is_err_and c.from_residual-in_err-report.result c.from_residual-in_err-report.ensures.1 in
    rw (error.1, error.2) c.in_err-report.ensures.refused
