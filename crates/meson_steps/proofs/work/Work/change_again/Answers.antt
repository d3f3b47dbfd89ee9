use Rattle.meson_steps.proofs.Words.{◌<◌, get_or, length, subst, sym, bytes_at, spot_at, IsHeldOf}
use Rattle.meson_steps.proofs.HeldLists.{again_of, again_spot, held_spot}
use Rattle.meson_steps.proofs.HeldWork.{again_changed, then_held}
use Rattle.meson_steps.proofs.ListChanged.{at_spot}
use Rattle.meson_steps.proofs.ListTaken.{no_tree}
use Rattle.meson_steps.proofs.work.Work.change_again.Goals as goal

pub read_list-requires-clause-read : goal.read_list-requires-clause-read
read_list-requires-clause-read c =
    let w = c.args.self.now in
    let h = c.args.held in
    let file = h.list.place.file in
    let splices = c.args.splices.items in
    let t = get_or w.trees.items file no_tree in
    let of = c.requires.held.is no_tree in
    let m = c.requires.read no_tree in
    at_spot w.files file splices (spot_at m.p) (held_spot t (bytes_at file w.files) h of) m.text (again_spot w c.args.self.now h splices t of m)

pub returns-clause-done : goal.returns-clause-done
returns-clause-done c = λ d.
    let w = c.args.self.now in
    let h = c.args.held in
    let file = h.list.place.file in
    let splices = c.args.splices.items in
    let t = get_or w.trees.items file d in
    let of = c.requires.held.is d in
    let m = c.requires.read d in
    let kept = c.in_ok-list.ensures.kept in
    let spot = held_spot t (bytes_at file w.files) h of in
    let r = c.in_ok-list.ensures.done (at_spot w.files file splices (spot_at m.p) spot m.text (again_spot w c.read_list.new.self h splices t of m)) in
    again_changed w c.read_list.new.self h splices d of m c.in_ok-list.list c.in_ok-list.now r kept.0 kept.1

pub returns-clause-holds : goal.returns-clause-holds
returns-clause-holds c =
    let w = c.args.self.now in
    let new = c.read_list.new.self in
    let h = c.args.held in
    let file = h.list.place.file in
    let splices = c.args.splices.items in
    let trees = c.in_ok-list.ensures.kept.0 in record {
      there = subst (λ ts. file < length ts) (sym trees) c.requires.held.there;
      is = λ d.
          let t = get_or w.trees.items file d in
          let of = c.requires.held.is d in
          let m = c.requires.read d in
          let spot = held_spot t (bytes_at file w.files) h of in
          let r = c.in_ok-list.ensures.done (at_spot w.files file splices (spot_at m.p) spot m.text (again_spot w new h splices t of m)) in
          subst (λ ts. IsHeldOf (get_or ts file d) (bytes_at file new.files) (then_held w new h splices d of m c.in_ok-list.list c.in_ok-list.now r trees c.in_ok-list.ensures.kept.1)) (sym trees) (again_of w new h splices t of m c.in_ok-list.list c.in_ok-list.now r);
    }
