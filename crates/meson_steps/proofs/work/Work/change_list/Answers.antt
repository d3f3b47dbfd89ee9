use Rattle.meson_steps.proofs.Words.{◌<◌, ◌∙◌, get_or, length, subst, sym, bytes_at, spot_at, IsHeldOf}
use Rattle.meson_steps.proofs.HeldLists.{first_of}
use Rattle.meson_steps.proofs.HeldWork.{first_changed, now_held}
use Rattle.meson_steps.proofs.ListChanged.{at_spot, no_spot, ordered, spot_there}
use Rattle.meson_steps.proofs.SameRead.{same_read}
use Rattle.meson_steps.proofs.work.Work.change_list.Goals as goal

pub unreachable-requires : goal.unreachable-requires
unreachable-requires c =
    let w = c.args.self.now in
    let place = c.args.place in
    let t = c.index.result.now in
    no_spot w.files place c.args.splices.items (get_or w.trees.items place.file t) (c.requires.read t) t c.index.ensures (λ source. sym c.in_default.is ∙ c.list_spot.ensures source)

pub read_list-requires-clause-read : goal.read_list-requires-clause-read
read_list-requires-clause-read c =
    let w = c.args.self.now in
    let place = c.args.place in
    let splices = c.args.splices.items in
    let t = c.index.result.now in
    let m = c.requires.read t in
    at_spot w.files place.file splices (spot_at m.p) c.in-Some.spot m.text (spot_there w.files place splices (get_or w.trees.items place.file t) m t c.index.ensures c.in-Some.spot c.in-Some.ensures)

pub overflow_sub-list : goal.overflow_sub-list
overflow_sub-list c =
    let w = c.args.self.now in
    let place = c.args.place in
    let splices = c.args.splices.items in
    let t = c.index.result.now in
    let m = c.requires.read t in
    let same = spot_there w.files place splices (get_or w.trees.items place.file t) m t c.index.ensures c.in-Some.spot c.in-Some.ensures in
    ordered w.files place.file splices c.in-Some.spot (at_spot w.files place.file splices (spot_at m.p) c.in-Some.spot m.text same)

pub returns-clause-done : goal.returns-clause-done
returns-clause-done c = λ d.
    let w = c.args.self.now in
    let place = c.args.place in
    let splices = c.args.splices.items in
    let t = c.index.result.now in
    let s = c.in-Some.spot in
    let m = c.requires.read d in
    let same = spot_there w.files place splices (get_or w.trees.items place.file d) m t (c.index.ensures ∙ same_read w.trees.items place.file t d c.requires.trees) s c.in-Some.ensures in
    let kept = c.in_ok-list.ensures.kept in
    first_changed w c.read_list.new.self place splices d m s same c.in_ok-list.list c.in_ok-list.now (c.in_ok-list.ensures.done (at_spot w.files place.file splices (spot_at m.p) s m.text same)) kept.0 kept.1

pub returns-clause-holds : goal.returns-clause-holds
returns-clause-holds c =
    let w = c.args.self.now in
    let new = c.read_list.new.self in
    let place = c.args.place in
    let splices = c.args.splices.items in
    let t = c.index.result.now in
    let s = c.in-Some.spot in
    let trees = c.in_ok-list.ensures.kept.0 in record {
      there = subst (λ ts. place.file < length ts) (sym trees) c.requires.trees;
      is = λ d.
          let m = c.requires.read d in
          let u = get_or w.trees.items place.file d in
          let same = spot_there w.files place splices u m t (c.index.ensures ∙ same_read w.trees.items place.file t d c.requires.trees) s c.in-Some.ensures in
          let r = c.in_ok-list.ensures.done (at_spot w.files place.file splices (spot_at m.p) s m.text same) in
          let held = first_of w new place splices u m s same c.in_ok-list.list c.in_ok-list.now r in
          subst (λ ts. IsHeldOf (get_or ts place.file d) (bytes_at place.file new.files) (now_held w new place splices d m s same c.in_ok-list.list c.in_ok-list.now r trees c.in_ok-list.ensures.kept.1)) (sym trees) held;
    }
