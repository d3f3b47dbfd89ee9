use Rattle.meson_variables.proofs.Words.{bytes_eq, None, get_by, hash_map_updates_str}
use Rattle.meson_variables.proofs.Assignments.{removed}
use Rattle.meson_variables.proofs.values.Values.forget.Goals as goal

pub returns : goal.returns
returns c = λ x.
    let y = c.args.name.now in
    let old = c.args.self.now.by_name in
    let new = c.remove.new.self in
    removed (bytes_eq y x) (get_by (λ k. bytes_eq x k.now) old) (get_by (λ k. bytes_eq x k.now) new) (hash_map_updates_str y old new None c.remove.ensures.updates x)
