use Rattle.meson_calls.proofs.Words.{◌≡◌, ap, ◌∙◌, map, length, arith, ranged_view, Ranged}
use Rattle.meson_calls.proofs.Takings.{taken_more}
use Rattle.meson_calls.proofs.taken.Taken.take.Goals as goal

pub returns : goal.returns
returns c =
    let was = c.args.self.now in
    let steps = c.extend_from_slice.new.self.items in
    let note : Ranged = record { file = c.args.file; from = c.len-from.result; to = c.len-to.result; source = c.args.source; what = c.args.what } in
    let begins : c.len-from.result ≡ length was.steps.items = omega (arith, c.len-from.ensures) in
    let ends : c.len-to.result ≡ length steps = omega (arith, c.len-to.ensures) in
    ap (map (ranged_view steps)) c.in_ok-push.ensures.items
    ∙ taken_more was.steps.items c.args.path.now steps was.notes.items note c.in_ok-extend_from_slice.ensures.items begins ends was.inside
