use Rattle.std.proofs.Common.{◌∙◌, ap, subst, sym}
use Rattle.std.specs.List.{All}
use Rattle.meson_calls.specs.Loading.{HasFileName}
use Rattle.meson_rewrite.specs.Logs.{with_log}
use Rattle.meson_rewrite.proofs.steps.logged.Goals as goal

pub with_log-requires : goal.with_log-requires
with_log-requires c = subst (All HasFileName) (sym (c.in_ok-files.ensures.cases ∙ c.files.ensures)) c.reads.ensures.named

pub returns-clause-files : goal.returns-clause-files
returns-clause-files c =
    let text = c.in_ok-text.text.items in
    (text, c.in_ok-text.ensures.log, c.in_ok-all.ensures ∙ ap (λ fs. with_log c.args.log_use fs text) (c.in_ok-files.ensures.cases ∙ c.files.ensures))
