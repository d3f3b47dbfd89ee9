use Rattle.std.proofs.Common.{◌≡◌, ◌≤◌, ◌+◌, ◌++◌, drop}
use Rattle.meson_calls.specs.Project.{place}
use Rattle.meson_calls.proofs.ListTurns.{args_count}
use Rattle.meson_calls.proofs.WalkedWords.{args_width}
use Rattle.meson_sharing.proofs.UseTurns.{args_uses}
use Rattle.meson_sharing.proofs.ways.Ways.in_all_given.Given as goal

abbrev pub invariant-loop-i : goal.invariant-loop-i
invariant-loop-i l =
    let source = l.self.source.now in
    let q = place l.self.file l.fn.path.items in
    (l.path.items ≡ l.fn.path.items)
    × (l.found.items ++ args_uses source q l.number (drop l.i l.args) ≡ l.fn.found.items ++ args_uses source q l.first l.args)
    × (l.number + args_count source (drop l.i l.args) ≡ l.first + args_count source l.args)
    × (l.number + args_width source (drop l.i l.args) ≤ l.first + args_width source l.args)
