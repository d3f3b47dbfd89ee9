use Rattle.std.proofs.Common.{length}
use Rattle.meson_places.proofs.lines.+leads_into.Given as goal

abbrev pub decreases-leads_into : goal.decreases-leads_into
decreases-leads_into l = length l.path.now
