use Rattle.std.proofs.lemmas.Result.{IfOk-weaker}
use Rattle.meson_rewrite.proofs.reports.told_of.Goals as goal

pub returns-then-flags-clause-told : goal.returns-then-flags-clause-told
returns-then-flags-clause-told c =
    IfOk-weaker c.object_of.result _ _ (λ said o. record { new = o.new; report = o.report; does = o.does; says = rw (c.if-flags.true) o.says }) c.object_of.ensures.object

pub returns-clause-told : goal.returns-clause-told
returns-clause-told c = record {
  new = c.act.new.session;
  report = c.in_ok-report.report;
  does = c.in_ok-report.ensures.does;
  says = rw (c.if-flags.false) c.in_ok-of.ensures;
}
