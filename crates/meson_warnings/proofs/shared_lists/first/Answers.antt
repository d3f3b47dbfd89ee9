use Rattle.std.proofs.Common.{length, sym, arith}
use Rattle.std.proofs.lemmas.List.{length-take, take_all}
use Rattle.meson_warnings.proofs.shared_lists.first.Goals as goal

pub returns-then-calls-le-MOST_COMPARED : goal.returns-then-calls-le-MOST_COMPARED
returns-then-calls-le-MOST_COMPARED c = sym (take_all 5000 c.args.calls.now (omega arith))

pub slice_bounds-result-end : goal.slice_bounds-result-end
slice_bounds-result-end c = sym (omega (arith, length-take 5000 c.args.calls.now))
