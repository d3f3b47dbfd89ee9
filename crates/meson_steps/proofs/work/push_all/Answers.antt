use Rattle.meson_steps.proofs.Words.{◌++◌, ap, ◌∙◌, sym, rules, YieldsList-from_vec, YieldsList-end, map-id}
use Rattle.meson_steps.proofs.work.push_all.Goals as goal

pub returns : goal.returns
returns c =
    let all = YieldsList-from_vec {s = c.into_iter-splice-iterator.result} c.args.from.items (search rules) (search rules) in
    let t = YieldsList-end all c.loop-splice.yielded c.loop-splice.splice-iterator c.loop-splice.yielded_by c.next.result c.next.new.self c.in-None.is c.next.ensures.steps in
    c.loop-splice.invariant ∙ ap (λ xs. c.args.to.now.items ++ xs) (sym (map-id c.loop-splice.yielded) ∙ t.0)
