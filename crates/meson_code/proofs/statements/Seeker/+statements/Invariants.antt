use Rattle.std.proofs.Common.{◌≡◌, ◌*◌, drop}
use Rattle.meson_calls.specs.Project.{place}
use Rattle.meson_code.proofs.Searches.{branched, first, listed}
use Rattle.meson_code.proofs.statements.Seeker.+statements.Given as goal

-- what is left to search finds what the whole finds
abbrev pub invariant-in_stmts-loop-i : goal.invariant-in_stmts-loop-i
invariant-in_stmts-loop-i l =
    (l.path.items ≡ l.fn.path.items)
    × (first l.self.line.source.now l.self.line.number (listed l.self.line.source.now (place l.self.file l.fn.path.items) l.i (drop l.i l.stmts))
    ≡ first l.self.line.source.now l.self.line.number (listed l.self.line.source.now (place l.self.file l.fn.path.items) 0 l.stmts))

abbrev pub invariant-in_branches-loop-i : goal.invariant-in_branches-loop-i
invariant-in_branches-loop-i l =
    (l.path.items ≡ l.fn.path.items)
    × (first l.self.line.source.now l.self.line.number (branched l.self.line.source.now (place l.self.file l.fn.path.items) (2 * l.i) (drop l.i l.branches))
    ≡ first l.self.line.source.now l.self.line.number (branched l.self.line.source.now (place l.self.file l.fn.path.items) 0 l.branches))
