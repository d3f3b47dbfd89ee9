use Rattle.std.proofs.Common.{◌≡◌, suc, ◌-◌}
use Rattle.meson_syntax.specs.inside.Cursor.{input}
use Rattle.meson_syntax.specs.inside.Reading.{room, expression}
use Rattle.meson_syntax.specs.inside.ReadingFiles.{branches, branches_from, block_within}
use Rattle.meson_syntax.specs.View.{branches_view}
use Rattle.meson_syntax.proofs.grammar.Grammar.branches.Given as goal

abbrev pub invariant-loop-turn : goal.invariant-loop-turn
invariant-loop-turn g l =
    branches (room l.self.depth) (expression (suc l.self.depth)) (expression l.self.depth) (block_within l.self.depth) (input l.self.source.now l.fn.tokens)
    ≡ branches_from (room l.self.depth) (expression (suc l.self.depth)) (expression l.self.depth) (block_within l.self.depth) (l._turn-end - l._turn) (branches_view l.self.source.now l.found) (input l.self.source.now l.tokens)
