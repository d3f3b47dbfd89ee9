use Rattle.std.proofs.Common.{◌≡◌, ◌≤◌, ◌+◌, ◌++◌, drop}
use Rattle.meson_calls.specs.Project.{place}
use Rattle.meson_calls.proofs.WalkedWords.{tails_width}
use Rattle.meson_sharing.proofs.UseTurns.{tails_uses}
use Rattle.meson_sharing.proofs.ways.Ways.in_tails.Given as goal

abbrev pub invariant-loop-i : goal.invariant-loop-i
invariant-loop-i l =
    let source = l.self.source.now in
    let q = place l.self.file l.fn.path.items in
    (l.path.items ≡ l.fn.path.items)
    × (l.found.items ++ tails_uses source q l.number (drop l.i l.tails) ≡ l.fn.found.items ++ tails_uses source q 1 l.tails)
    × (l.number + tails_width source (drop l.i l.tails) ≤ 1 + tails_width source l.tails)
