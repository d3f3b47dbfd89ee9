use Rattle.std.proofs.Common.{◌∷◌, [], ◌++◌, sym, ap, ◌∙◌}
use Rattle.std.proofs.lemmas.List.{get_or_default}
use Rattle.meson_explaining.specs.Sources.{is_missing, missing_note}
use Rattle.meson_explaining.proofs.Nearby.{none_at, one_at}
use Rattle.meson_explaining.proofs.sources.all_missing.Goals as goal
use Rattle.meson_explaining.proofs.sources.all_missing.Goals.{then-is_missing+in_ok-missing_note+in_ok-push, else-is_missing}

pub loop-i-preserved : goal.loop-i-preserved
loop-i-preserved c =
    let at = is_missing c.args.items.now in
    let names = c.args.names.now in
    let i = c.loop-i.i in
    let d = c.index-names-i.result in
    let so_far = c.loop-i.notes.items in
    let tested = ap at (sym c.index-names-i.is ∙ sym c.get.ensures) ∙ sym c.is_missing.ensures in
    elim c.if-is_missing.branch [
      | then-is_missing+in_ok-missing_note+in_ok-push w ↦
          let name = w.get-then-is_missing.ensures ∙ w.index-names-i-then-is_missing.is ∙ get_or_default names i w.index-names-i-then-is_missing.result d c.loop-i-test.true in
          one_at at missing_note names i d c.loop-i-test.true so_far c.if-is_missing.notes.items _ (tested ∙ w.if-is_missing.true)
          (ap (λ v. v.items) w.notes-is ∙ w.in_ok-push.ensures.items ∙ ap (λ n. so_far ++ n ∷ []) (w.in_ok-missing_note.ensures ∙ ap missing_note name))
          c.loop-i.invariant
      | else-is_missing w ↦
          none_at at missing_note names i d c.loop-i-test.true so_far c.if-is_missing.notes.items _ (tested ∙ w.if-is_missing.false)
          (ap (λ v. v.items) w.notes-is)
          c.loop-i.invariant
    ]
