use Rattle.std.proofs.Common.{◌≡◌, ◌≤◌, ℕ, length}
use Rattle.meson_lex.specs.Lexed.{Tiles}
use Rattle.meson_syntax.specs.inside.Gathering.{gathered_tokens}
use Rattle.meson_syntax.proofs.significant.tokens.Given as goal

-- what is gathered in the end stays the same, and each open bracket has a byte before the next item
abbrev pub invariant-loop-item : goal.invariant-loop-item
invariant-loop-item l = record {
  source : l.gathered.source ≡ l.source;
  folded : gathered_tokens l.initial.gathered l.initial.item-iterator ≡ gathered_tokens l.gathered l.item-iterator;
  within : (at : ℕ) × Tiles at (length l.source) l.item-iterator × (l.gathered.state.depth ≤ at);
}
