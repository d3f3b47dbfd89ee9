use Rattle.std.proofs.Common.{◌≡◌, [], ◌∷◌, ◌++◌, get_or, map, sym, ap, ◌∙◌}
use Rattle.std.specs.Prelude.{None, false}
use Rattle.std.proofs.lemmas.List.{get_or-map}
use Rattle.meson_inventory.specs.declared.holdings.HeldCall.{HeldCall}
use Rattle.meson_explaining.specs.Nearest.{far, is_far, is_number}
use Rattle.meson_explaining.specs.Notes.{call_note}
use Rattle.meson_explaining.proofs.Nearby.{one_at, none_at}
use Rattle.meson_explaining.proofs.nearest.Compared.add_at.Goals as goal
use Rattle.meson_explaining.proofs.nearest.Compared.add_at.Goals.{then-is_number+in_ok-call_note+in_ok-push, else-is_number}

nobody : HeldCall
nobody = record { file = 0; head = record { at = 0; function = []; hidden = false; name = None }; variable = None; end = 0 }

tested : (c : goal.Joined-is_number) (d : HeldCall) → is_far c.args.self.now.id.now c.args.distance (get_or c.args.self.now.calls.now c.loop-i.i d) ≡ c.is_number.result
tested c d =
    let id = c.args.self.now.id.now in
    let calls = c.args.self.now.calls.now in
    let measured : c.args.self.now.distances.items ≡ map (far id) calls = c.args.self.now.measured in
    let at = c.index.ensures ∙ ap (λ ns. get_or ns c.loop-i.i c.index.result.now) measured ∙ get_or-map (far id) calls c.loop-i.i d c.index.result.now c.loop-i-test.true in
    sym (c.is_number.ensures ∙ ap (is_number c.args.distance) at)

pub loop-i-preserved : goal.loop-i-preserved
loop-i-preserved c =
    let at = is_far c.args.self.now.id.now c.args.distance in
    let calls = c.args.self.now.calls.now in
    let so_far = c.loop-i.notes.items in
    elim c.if-is_number.branch [
      | then-is_number+in_ok-call_note+in_ok-push w ↦
          let call = w.index-self-i.result in
          one_at at (call_note []) calls c.loop-i.i call c.loop-i-test.true so_far c.if-is_number.notes.items _ (tested c call ∙ w.if-is_number.true)
          (ap (λ v. v.items) w.notes-is ∙ w.in_ok-push.ensures.items ∙ ap (λ n. so_far ++ n ∷ []) w.in_ok-call_note.ensures)
          c.loop-i.invariant
      | else-is_number w ↦
          none_at at (call_note []) calls c.loop-i.i nobody c.loop-i-test.true so_far c.if-is_number.notes.items _ (tested c nobody ∙ w.if-is_number.false)
          (ap (λ v. v.items) w.notes-is)
          c.loop-i.invariant
    ]
