use Rattle.std.proofs.Common.{◌++◌, ap, ◌∙◌, sym, rules}
use Rattle.std.proofs.lemmas.Iterator.Adapters.{YieldsList-from_vec}
use Rattle.std.proofs.lemmas.Iterator.Consumers.{YieldsList-end}
use Rattle.std.proofs.lemmas.List.{map-id}
use Rattle.meson_code.proofs.removing.append.Goals as goal

pub returns : goal.returns
returns c =
    let all = YieldsList-from_vec {s = c.into_iter-name-iterator.result} c.args.more.items (search rules) (search rules) in
    let t = YieldsList-end all c.loop-name.yielded c.loop-name.name-iterator c.loop-name.yielded_by c.next.result c.next.new.self c.in-None.is c.next.ensures.steps in
    c.loop-name.invariant ∙ ap (λ xs. c.args.names.now.items ++ xs) (sym (map-id c.loop-name.yielded) ∙ t.0)
