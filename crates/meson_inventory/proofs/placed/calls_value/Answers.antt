use Rattle.std.proofs.Common.{[], ◌∷◌, ◌++◌, map, sym, ap, ap₂, ◌∙◌, append_assoc}
use Rattle.std.specs.Vec.Iter.{into_iter_items}
use Rattle.std.proofs.lemmas.List.{map-append}
use Rattle.serde_json.specs.View.{view}
use Rattle.meson_inventory.specs.Placed.{placed_call_data}
use Rattle.meson_inventory.proofs.placed.calls_value.Goals as goal

pub loop-call-preserved : goal.loop-call-preserved
loop-call-preserved c =
    let held = c.loop-call.invariant in
    let call = c.in-Some.call in
    let seen_as = placed_call_data c.args.files.now in
    record {
      files = c.call_value.ensures.files ∙ held.files;
      joined = held.joined ∙ ap (λ xs. c.loop-call.yielded ++ xs) c.in-Some.ensures.steps.0 ∙ sym (append_assoc c.loop-call.yielded (call ∷ []) (into_iter_items c.next.new.self));
      seen = ap (map view) c.in_ok-push.ensures.items ∙ map-append view c.loop-call.list.items (c.in_ok-call_value.field-0 ∷ [])
          ∙ ap₂ (λ xs y. xs ++ y ∷ []) held.seen c.in_ok-call_value.ensures.value
          ∙ sym (map-append seen_as c.loop-call.yielded (call ∷ []));
    }
