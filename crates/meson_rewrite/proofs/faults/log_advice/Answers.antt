use Rattle.std.proofs.Common.{◌∙◌, ℕ, List, None, Some, ap, codes, sym}
use Rattle.meson_rewrite.specs.Faults.{log_advice, plain_advice}
use Rattle.meson_rewrite.specs.declared.advice.Advice.{Advice}
use Rattle.meson_rewrite.proofs.faults.log_advice.Goals as goal

pub returns-in_ok-advice-in-BadLog : goal.returns-in_ok-advice-in-BadLog
returns-in_ok-advice-in-BadLog c =
    let help = codes "move it away: its runs cannot be undone then; or run with --no-log" in
    ap (λ (a : Advice). Some a)
    (c.in_ok-advice-in-BadLog.ensures ∙ ap (λ (note : List ℕ). plain_advice c.args.json note None help) c.in_ok-note-in-BadLog.ensures.ok)
    ∙ ap (log_advice c.args.json) (sym c.in-BadLog.is)
