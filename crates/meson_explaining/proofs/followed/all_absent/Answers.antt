use Rattle.std.proofs.Common.{◌∷◌, [], ◌++◌, sym, ap, ◌∙◌}
use Rattle.std.proofs.lemmas.List.{get_or_default}
use Rattle.meson_explaining.specs.Followed.{is_absent}
use Rattle.meson_explaining.specs.Sources.{missing_note}
use Rattle.meson_explaining.proofs.Nearby.{none_at, one_at}
use Rattle.meson_explaining.proofs.followed.all_absent.Goals as goal
use Rattle.meson_explaining.proofs.followed.all_absent.Goals.{then-branch+in_ok-missing_note+in_ok-push, else-branch}

pub loop-i-preserved : goal.loop-i-preserved
loop-i-preserved c =
    let at = is_absent c.args.project.now c.args.target.now in
    let names = c.args.names.now in
    let i = c.loop-i.i in
    let d = c.index-names-i.result in
    let so_far = c.loop-i.notes.items in
    let tested = ap at (sym c.index-names-i.is) ∙ sym c.in_ok-is_absent.ensures in
    elim c.if-branch.branch [
      | then-branch+in_ok-missing_note+in_ok-push w ↦
          let name = w.get.ensures ∙ w.index-names-i-then-branch.is ∙ get_or_default names i w.index-names-i-then-branch.result d c.loop-i-test.true in
          one_at at missing_note names i d c.loop-i-test.true so_far c.if-branch.notes.items _ (tested ∙ w.if-branch.true)
          (ap (λ v. v.items) w.notes-is ∙ w.in_ok-push.ensures.items ∙ ap (λ n. so_far ++ n ∷ []) (w.in_ok-missing_note.ensures ∙ ap missing_note name))
          c.loop-i.invariant
      | else-branch w ↦
          none_at at missing_note names i d c.loop-i-test.true so_far c.if-branch.notes.items _ (tested ∙ w.if-branch.false)
          (ap (λ v. v.items) w.notes-is)
          c.loop-i.invariant
    ]
