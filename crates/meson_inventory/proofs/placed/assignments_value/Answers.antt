use Rattle.std.proofs.Common.{[], ◌∷◌, ◌++◌, map, sym, ap, ap₂, ◌∙◌, append_assoc}
use Rattle.std.specs.Vec.Iter.{into_iter_items}
use Rattle.std.proofs.lemmas.List.{map-append}
use Rattle.serde_json.specs.View.{view}
use Rattle.meson_inventory.specs.Placed.{placed_assignment_data}
use Rattle.meson_inventory.proofs.placed.assignments_value.Goals as goal

pub loop-assignment-preserved : goal.loop-assignment-preserved
loop-assignment-preserved c =
    let held = c.loop-assignment.invariant in
    let assignment = c.in-Some.assignment in
    let seen_as = placed_assignment_data c.args.files.now in
    record {
      files = c.assignment_value.ensures.files ∙ held.files;
      joined = held.joined ∙ ap (λ xs. c.loop-assignment.yielded ++ xs) c.in-Some.ensures.steps.0 ∙ sym (append_assoc c.loop-assignment.yielded (assignment ∷ []) (into_iter_items c.next.new.self));
      seen = ap (map view) c.in_ok-push.ensures.items ∙ map-append view c.loop-assignment.list.items (c.in_ok-assignment_value.field-0 ∷ [])
          ∙ ap₂ (λ xs y. xs ++ y ∷ []) held.seen c.in_ok-assignment_value.ensures.value
          ∙ sym (map-append seen_as c.loop-assignment.yielded (assignment ∷ []));
    }
