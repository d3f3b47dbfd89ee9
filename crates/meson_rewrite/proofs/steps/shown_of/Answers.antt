use Rattle.std.proofs.Common.{◌∙◌, ap, sym, subst}
use Rattle.std.proofs.lemmas.Result.{IfOk-weaker}
use Rattle.meson_diff.specs.Diff.{IsDiff}
use Rattle.meson_script.proofs.RunFacts.{names}
use Rattle.meson_rewrite.proofs.Names.{step-names}
use Rattle.meson_rewrite.specs.declared.said.Said.{Said}
use Rattle.meson_rewrite.proofs.steps.shown_of.Goals as goal

pub diff-requires : goal.diff-requires
diff-requires c =
    let old = c.args.session.now in
    let new = c.act.new.session in
    record {
      same_files = ap names (c.in_ok-before.ensures.cases ∙ c.files.ensures)
          ∙ step-names c.args.flags.json c.args.step.now old new c.in_ok-report.report c.in_ok-report.ensures.does
          ∙ ap names (sym c.files-2.ensures);
    }

pub returns-clause-shown : goal.returns-clause-shown
returns-clause-shown c =
    let new = c.act.new.session in
    let made = subst (λ fs. IsDiff c.in_ok-before.before fs c.in_ok-changes.changes.items) c.files-2.ensures c.in_ok-changes.ensures in
    let read = subst (λ fs. IsDiff fs new.project.files c.in_ok-changes.changes.items) (c.in_ok-before.ensures.cases ∙ c.files.ensures) made in
    record {
      new = new;
      report = c.in_ok-report.report;
      does = c.in_ok-report.ensures.does;
      shows = rw (c.if-flags.false) (record {
        is_diff = subst (IsDiff c.args.session.now.project.files new.project.files) (sym (ap (λ (said : Said). said.out) c.in_ok-shown.ensures)) read;
        is_listing = ap (λ (said : Said). said.err) c.in_ok-shown.ensures;
        is_changed = ap (λ (said : Said). said.changed) c.in_ok-shown.ensures;
      });
    }

pub returns-then-flags-clause-shown : goal.returns-then-flags-clause-shown
returns-then-flags-clause-shown c =
    IfOk-weaker c.object_of.result _ _ (λ said o. record { new = o.new; report = o.report; does = o.does; shows = rw (c.if-flags.true) o.says }) c.object_of.ensures.object
