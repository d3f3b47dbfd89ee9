use Rattle.std.proofs.Common.{◌≡◌, ◌≤◌, ◌+◌, ◌++◌, drop}
use Rattle.meson_calls.specs.Project.{place}
use Rattle.meson_calls.proofs.ListTurns.{args_parts, args_count, row_parts, tail_list_parts}
use Rattle.meson_calls.proofs.WalkedWords.{args_width, tails_width}
use Rattle.meson_following.specs.CodeReads.{reads_in}
use Rattle.meson_following.proofs.reads.Reader.+reading.Given as goal

abbrev pub invariant-in_args-loop-i : goal.invariant-in_args-loop-i
invariant-in_args-loop-i l =
    (l.path.items ≡ l.fn.path.items)
    × (l.found.items ++ reads_in l.self.variable.now (args_parts l.self.source.now (place l.self.file l.fn.path.items) l.number (drop l.i l.args))
    ≡ l.fn.found.items ++ reads_in l.self.variable.now (args_parts l.self.source.now (place l.self.file l.fn.path.items) l.first l.args))
    × (l.number + args_count l.self.source.now (drop l.i l.args) ≡ l.first + args_count l.self.source.now l.args)
    × (l.number + args_width l.self.source.now (drop l.i l.args) ≤ l.first + args_width l.self.source.now l.args)

abbrev pub invariant-in_operands-loop-i : goal.invariant-in_operands-loop-i
invariant-in_operands-loop-i l =
    (l.path.items ≡ l.fn.path.items)
    × (l.found.items ++ reads_in l.self.variable.now (row_parts l.self.source.now (place l.self.file l.fn.path.items) (l.i + 1) (drop l.i l.operands))
    ≡ l.fn.found.items ++ reads_in l.self.variable.now (row_parts l.self.source.now (place l.self.file l.fn.path.items) 1 l.operands))

abbrev pub invariant-in_tails-loop-i : goal.invariant-in_tails-loop-i
invariant-in_tails-loop-i l =
    (l.path.items ≡ l.fn.path.items)
    × (l.found.items ++ reads_in l.self.variable.now (tail_list_parts l.self.source.now (place l.self.file l.fn.path.items) l.number (drop l.i l.tails))
    ≡ l.fn.found.items ++ reads_in l.self.variable.now (tail_list_parts l.self.source.now (place l.self.file l.fn.path.items) 1 l.tails))
    × (l.number + tails_width l.self.source.now (drop l.i l.tails) ≤ 1 + tails_width l.self.source.now l.tails)
