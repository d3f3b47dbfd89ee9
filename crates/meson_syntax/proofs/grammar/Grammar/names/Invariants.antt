use Rattle.std.proofs.Common.{◌≡◌, ◌-◌}
use Rattle.meson_syntax.specs.inside.Cursor.{input}
use Rattle.meson_syntax.specs.inside.ReadingFiles.{names, names_from}
use Rattle.meson_syntax.specs.View.{names_at}
use Rattle.meson_syntax.proofs.grammar.Grammar.names.Given as goal

abbrev pub invariant-loop-turn : goal.invariant-loop-turn
invariant-loop-turn g l =
    names (input l.self.source.now l.fn.tokens)
    ≡ names_from (l._turn-end - l._turn) (names_at l.self.source.now l.found) (input l.self.source.now l.tokens)
