use Rattle.std.proofs.Common.{◌-◌, ◌≤◌, drop, length}
use Rattle.meson_splice.specs.inside.Gap.{LeadsTo, gap_text}
use Rattle.meson_splice.specs.inside.Ordered.{ordered}
use Rattle.meson_splice.proofs.change.patched_on.Given as goal

-- the splices do what those that are left do where the file has the text
abbrev pub invariant-loop-next : goal.invariant-loop-next
invariant-loop-next l = record {
  ahead : l.done ≤ l.next;
  alike : LeadsTo l.file l.fn.bytes (drop l.done (ordered l.way l.splices)) (gap_text l.text) (drop l.next (ordered l.way l.splices));
}

abbrev pub decreases-loop-next : goal.decreases-loop-next
decreases-loop-next l = length l.splices - l.next
