use Rattle.meson_steps.proofs.Words.{◌≡◌, ◌++◌, List, into_iter_items, Loaded, Step, AreUnderWay, IsUnderWay, Restores, ListStep, MayHold, settled}
use Rattle.meson_steps.proofs.work.Work.do_steps.Given as goal

abbrev pub invariant-loop-step : goal.invariant-loop-step
invariant-loop-step l = record {
  joined : l.fn.steps.items ≡ l.yielded ++ into_iter_items l.step-iterator;
  under_way : (old : Loaded) (steps : List Step) (left : List ListStep) → IsUnderWay old steps (l.yielded ++ left) l.fn.self → AreUnderWay old steps left (settled l.held l.self);
  holds : MayHold l.self l.held;
  restores : (first : Loaded) → Restores l.fn.self first → Restores l.self first;
}
