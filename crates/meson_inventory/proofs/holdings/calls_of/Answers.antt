use Rattle.std.proofs.Common.{◌++◌, ◌∷◌, [], ◌∙◌, sym, ap, drop}
use Rattle.meson_calls.specs.Notes.{note_view, note_views}
use Rattle.meson_calls.specs.ChosenNotes.{places_that}
use Rattle.meson_calls.specs.Project.{place_at}
use Rattle.meson_calls.proofs.Picked.{skipped, picked}
use Rattle.meson_inventory.specs.inside.Holdings.{note_calls}
use Rattle.meson_inventory.proofs.holdings.calls_of.Goals as goal
use Rattle.meson_inventory.proofs.holdings.calls_of.Goals.{then-is_call_of+in_ok-place+in_ok-push, else-is_call_of}

pub loop-i-preserved : goal.loop-i-preserved
loop-i-preserved c =
    let test = note_calls c.args.function.now in
    let notes = c.args.notes.now in
    let note = c.index-notes-i.result in
    let is = ap (λ n. test (note_view n).it) (sym c.index-notes-i.is) ∙ sym c.is_call_of.ensures in
    elim c.if-is_call_of.branch [
      | then-is_call_of+in_ok-place+in_ok-push w ↦
          picked test notes c.loop-i.i note c.loop-i.found.items _ _ c.loop-i-test.true (is ∙ w.if-is_call_of.true)
          (ap (λ v. v.items) w.found-is ∙ w.in_ok-push.ensures.items ∙ ap (λ p. c.loop-i.found.items ++ p ∷ []) (w.in_ok-place.ensures ∙ ap (λ n. place_at n.place) c.index-notes-i.is))
          c.loop-i.invariant
      | else-is_call_of w ↦
          skipped test notes c.loop-i.i note _ _ c.loop-i-test.true (is ∙ w.if-is_call_of.false)
          (ap (λ v. v.items ++ places_that test (note_views (drop c.loop-i.i notes))) w.found-is ∙ c.loop-i.invariant)
    ]
