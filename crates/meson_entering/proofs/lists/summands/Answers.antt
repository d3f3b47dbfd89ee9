use Rattle.std.proofs.Common.{◌++◌, ap, ◌∙◌}
use Rattle.meson_syntax.specs.View.{expr_view}
use Rattle.meson_entering.specs.Lists.{summands}
use Rattle.meson_entering.proofs.Sums.{views}
use Rattle.meson_entering.proofs.lists.summands.Goals as goal

pub returns : goal.returns
returns c = λ source. c.in_ok-add_summands.ensures source ∙ ap (λ es. views source es ++ summands (expr_view source c.args.expr.now)) c.new-found.ensures.items
