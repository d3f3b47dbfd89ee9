use Rattle.std.proofs.Common.{◌≡◌, ◌==◌, ◌+◌, ◌<◌, false, refl, arith, ◌-◌, Some}
use Rattle.std.proofs.lemmas.Grind.{common_steps}
use Rattle.meson_syntax.specs.inside.Cursor.{input}
use Rattle.meson_syntax.specs.inside.Input.{kind}
use Rattle.meson_syntax.specs.inside.Reading.{operands_from, row_at, row_of, expression, room}
use Rattle.meson_syntax.specs.inside.Rows.{operands, row_with}
use Rattle.meson_syntax.specs.View.{expr_view, operands_view}
use Rattle.meson_syntax.proofs.Rows.{row_at-with, row_with-fails, row_with-longer, row_with-none, row_with-same}
use Rattle.meson_syntax.proofs.Turns.{one_more}
use Rattle.meson_syntax.proofs.Views.{operands_view-push}
use Rattle.meson_syntax.proofs.grammar.Grammar.+row.Goals as goal
use Rattle.meson_syntax.proofs.grammar.Grammar.+row.Goals.{row_with-then-row_of-tighter+in_ok-read, row_with-else-row_of-tighter}

pub operands-loop-turn-init : goal.operands-loop-turn-init
unfolding operands
operands-loop-turn-init g t c =
    grind (arith, common_steps)

pub operands-loop-turn-preserved : goal.operands-loop-turn-preserved
unfolding operands_from
operands-loop-turn-preserved g t c =
    let e = one_more (λ n. operands_from (room c.args.self.now.depth) (expression c.args.self.now.depth) c.args.level (row_at (room c.args.self.now.depth) (expression c.args.self.now.depth) (c.args.level - 1)) n (operands_view c.args.self.now.source.now c.loop-turn.found) (input c.args.self.now.source.now c.loop-turn.tokens)) _ c.loop-turn._turn c.loop-turn-test.true c.loop-turn.invariant in
    let p = operands_view-push c.args.self.now.source.now c.loop-turn.found c.operand.result in
    grind (arith, common_steps)

pub operands-returns-in_err-operator : goal.operands-returns-in_err-operator
unfolding operands_from
operands-returns-in_err-operator g t c =
    let e = one_more (λ n. operands_from (room c.args.self.now.depth) (expression c.args.self.now.depth) c.args.level (row_at (room c.args.self.now.depth) (expression c.args.self.now.depth) (c.args.level - 1)) n (operands_view c.args.self.now.source.now c.loop-turn.found) (input c.args.self.now.source.now c.loop-turn.tokens)) _ c.loop-turn._turn c.loop-turn-test.true c.loop-turn.invariant in
    grind (arith, common_steps)

pub operands-returns-in_err-value : goal.operands-returns-in_err-value
unfolding operands_from
operands-returns-in_err-value g t c =
    let e = one_more (λ n. operands_from (room c.args.self.now.depth) (expression c.args.self.now.depth) c.args.level (row_at (room c.args.self.now.depth) (expression c.args.self.now.depth) (c.args.level - 1)) n (operands_view c.args.self.now.source.now c.loop-turn.found) (input c.args.self.now.source.now c.loop-turn.tokens)) _ c.loop-turn._turn c.loop-turn-test.true c.loop-turn.invariant in
    grind (arith, common_steps)

pub row-returns-in_err-first : goal.row-returns-in_err-first
row-returns-in_err-first g t c =
    let e = row_at-with (room c.args.self.now.depth) (expression c.args.self.now.depth) c.args.level (input c.args.self.now.source.now c.args.tokens.now) in
    grind (arith, common_steps)

pub row-returns : goal.row-returns
row-returns g t c =
    let e = row_at-with (room c.args.self.now.depth) (expression c.args.self.now.depth) c.args.level (input c.args.self.now.source.now c.args.tokens.now) in
    grind (arith, common_steps)

pub row-returns-then-row_of-eq0 : goal.row-returns-then-row_of-eq0
row-returns-then-row_of-eq0 g t c =
    let e = row_at-with (room c.args.self.now.depth) (expression c.args.self.now.depth) c.args.level (input c.args.self.now.source.now c.args.tokens.now) in
    let f = row_with-none (room c.args.self.now.depth) (expression c.args.self.now.depth) c.args.level c.from-start.result (expr_view c.args.self.now.source.now c.in_ok-first.first) (input c.args.self.now.source.now c.unaried.new.tokens) in
    grind (arith, common_steps)

pub operands-returns : goal.operands-returns
unfolding operands_from
operands-returns g t c = grind (arith, common_steps)

pub operands-returns-then-row_of-level : goal.operands-returns-then-row_of-level
unfolding operands_from
operands-returns-then-row_of-level g t c = grind (arith, common_steps)

pub row_with-loop-tighter-init : goal.row_with-loop-tighter-init
unfolding row_with
row_with-loop-tighter-init g t c = refl

pub row_with-returns-in_err-read : goal.row_with-returns-in_err-read
row_with-returns-in_err-read g t c =
    let below : c.loop-tighter.tighter < c.args.level = grind (arith, common_steps) in
    let f = row_with-fails (room c.args.self.now.depth) (expression c.args.self.now.depth) c.loop-tighter.tighter c.args.level c.args.start (expr_view c.args.self.now.source.now c.args.first) (expr_view c.args.self.now.source.now c.loop-tighter.read) (input c.args.self.now.source.now c.args.tokens.now) (input c.args.self.now.source.now c.loop-tighter.tokens) c.loop-tighter.invariant below in
    grind (arith, common_steps)

pub row_with-loop-tighter-preserved : goal.row_with-loop-tighter-preserved
row_with-loop-tighter-preserved g t c = elim c.if-row_of-tighter.branch [
  | row_with-then-row_of-tighter+in_ok-read w ↦
      row_with-longer (room c.args.self.now.depth) (expression c.args.self.now.depth) c.loop-tighter.tighter c.args.start (expr_view c.args.self.now.source.now c.args.first) (expr_view c.args.self.now.source.now c.loop-tighter.read) (input c.args.self.now.source.now c.args.tokens.now) (input c.args.self.now.source.now c.loop-tighter.tokens) (Some (expr_view c.args.self.now.source.now c.if-row_of-tighter.read, input c.args.self.now.source.now c.if-row_of-tighter.tokens)) c.loop-tighter.invariant
      (grind (arith, common_steps))
  | row_with-else-row_of-tighter w ↦
      let other : (row_of (kind (input c.args.self.now.source.now c.loop-tighter.tokens)) == c.loop-tighter.tighter + 1) ≡ false = grind (arith, common_steps) in
      let f = row_with-same (room c.args.self.now.depth) (expression c.args.self.now.depth) c.loop-tighter.tighter c.args.start (expr_view c.args.self.now.source.now c.args.first) (expr_view c.args.self.now.source.now c.loop-tighter.read) (input c.args.self.now.source.now c.args.tokens.now) (input c.args.self.now.source.now c.loop-tighter.tokens) c.loop-tighter.invariant other in
      grind (arith, common_steps)
]
