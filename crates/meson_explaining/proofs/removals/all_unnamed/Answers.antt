use Rattle.std.proofs.Common.{[], ◌∷◌, ◌++◌, sym, ap, ◌∙◌}
use Rattle.std.specs.Prelude.{codes}
use Rattle.std.proofs.lemmas.List.{get_or_default}
use Rattle.meson_explaining.specs.Notes.{call_note}
use Rattle.meson_explaining.specs.Removals.{has_no_name}
use Rattle.meson_explaining.proofs.Nearby.{none_at, one_at}
use Rattle.meson_explaining.proofs.removals.all_unnamed.Goals as goal
use Rattle.meson_explaining.proofs.removals.all_unnamed.Goals.{then-has_no_name+in_ok-call_note+in_ok-push, else-has_no_name}

pub loop-i-preserved : goal.loop-i-preserved
loop-i-preserved c =
    let note = call_note (codes ": it may set any variable") in
    let calls = c.args.calls.now in
    let i = c.loop-i.i in
    let d = c.index-calls-i.result in
    let so_far = c.loop-i.notes.items in
    let tested = ap has_no_name (sym c.index-calls-i.is) ∙ sym c.has_no_name.ensures in
    elim c.if-has_no_name.branch [
      | then-has_no_name+in_ok-call_note+in_ok-push w ↦
          let call = w.index-calls-i-then-has_no_name.is ∙ get_or_default calls i w.index-calls-i-then-has_no_name.result d c.loop-i-test.true in
          one_at has_no_name note calls i d c.loop-i-test.true so_far c.if-has_no_name.notes.items _ (tested ∙ w.if-has_no_name.true)
          (ap (λ v. v.items) w.notes-is ∙ w.in_ok-push.ensures.items ∙ ap (λ n. so_far ++ n ∷ []) (w.in_ok-call_note.ensures ∙ ap note call))
          c.loop-i.invariant
      | else-has_no_name w ↦
          none_at has_no_name note calls i d c.loop-i-test.true so_far c.if-has_no_name.notes.items _ (tested ∙ w.if-has_no_name.false)
          (ap (λ v. v.items) w.notes-is)
          c.loop-i.invariant
    ]
