use Rattle.meson_calls.proofs.Words.{◌++◌, ◌∷◌, [], ◌∙◌, sym, ap, drop, note_has_role, places_with_role, note_view, note_views, place_at}
use Rattle.meson_calls.proofs.Picked.{skipped, picked}
use Rattle.meson_calls.proofs.chosen_notes.with_role.Goals as goal
use Rattle.meson_calls.proofs.chosen_notes.with_role.Goals.{then-note_has_role+in_ok-place+in_ok-push, else-note_has_role}

pub loop-i-preserved : goal.loop-i-preserved
loop-i-preserved c =
    let test = note_has_role c.args.role in
    let notes = c.args.notes.now in
    let note = c.index-notes-i.result in
    let is = ap (λ n. test (note_view n).it) (sym c.index-notes-i.is) ∙ sym c.note_has_role.ensures in
    elim c.if-note_has_role.branch [
      | then-note_has_role+in_ok-place+in_ok-push w ↦
          picked test notes c.loop-i.i note c.loop-i.found.items _ _ c.loop-i-test.true (is ∙ w.if-note_has_role.true)
          (ap (λ v. v.items) w.found-is ∙ w.in_ok-push.ensures.items ∙ ap (λ p. c.loop-i.found.items ++ p ∷ []) (w.in_ok-place.ensures ∙ ap (λ n. place_at n.place) c.index-notes-i.is))
          c.loop-i.invariant
      | else-note_has_role w ↦
          skipped test notes c.loop-i.i note _ _ c.loop-i-test.true (is ∙ w.if-note_has_role.false)
          (ap (λ v. v.items ++ places_with_role c.args.role (note_views (drop c.loop-i.i notes))) w.found-is ∙ c.loop-i.invariant)
    ]
