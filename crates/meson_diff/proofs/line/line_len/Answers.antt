use Rattle.std.proofs.Common.{◌∙◌, sym}
use Rattle.meson_diff.proofs.Cuts.{len_fed, len_unfed}
use Rattle.meson_diff.proofs.line.line_len.Goals as goal

pub returns-in-Some-clause-value : goal.returns-in-Some-clause-value
returns-in-Some-clause-value c = len_fed c.args.text.now c.in-Some.at (sym c.line_feed.ensures ∙ c.in-Some.is)

pub returns-in-None-clause-value : goal.returns-in-None-clause-value
returns-in-None-clause-value c = len_unfed c.args.text.now (sym c.line_feed.ensures ∙ c.in-None.is)
