use Rattle.meson_variables.proofs.Words.{bytes_eq}
use Rattle.std.specs.HashSet.{contains_by}
use Rattle.meson_variables.proofs.FollowedNames.{has_more}
use Rattle.meson_variables.proofs.followed.Followed.put.Goals as goal

pub invariant_of-self-2 : goal.invariant_of-self-2
invariant_of-self-2 c =
    let before = c.args.self.now in
    record {
      same = λ x.
          has_more before.names.items c.reserve.new.self.items c.push_reserved.new.self.items c.args.name x (contains_by (λ k. bytes_eq x k.now) before.set) _
          c.reserve.ensures.items c.push_reserved.ensures.items (before.same x) (c.in_ok-insert.ensures.updates.0 (record { ref_ptr = (0, 0); now = x }));
    }
