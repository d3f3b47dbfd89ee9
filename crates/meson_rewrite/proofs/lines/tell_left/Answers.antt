use Rattle.meson_rewrite.proofs.Telling.{gets_left, gets_nothing}
use Rattle.meson_rewrite.proofs.lines.tell_left.Goals as goal

pub loop-name-init : goal.loop-name-init
loop-name-init g c = gets_nothing (g.O.Output.heard c.args.to.now)

pub loop-name-preserved : goal.loop-name-preserved
loop-name-preserved g c =
    gets_left (g.O.Output.heard c.args.to.now) (g.O.Output.heard c.loop-name.to) (g.O.Output.heard c.tell_line.new.self) c.args.names.now c.loop-name.name-index c.name-item.result
    c.name-item.is c.loop-name-test.true c.loop-name.invariant c.in_ok-tell_line.ensures
