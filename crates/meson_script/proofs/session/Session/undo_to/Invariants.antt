use Rattle.meson_script.proofs.Undos.{AreBack}
use Rattle.meson_script.proofs.session.Session.undo_to.Given as goal

abbrev pub invariant-loop : goal.invariant-loop
invariant-loop l = AreBack l.counter l.initial.self l.splices l.title l.self
