use Rattle.std.proofs.Common.{append_assoc, [], ◌∷◌, ◌++◌, map, ap, ap₂, sym, ◌∙◌}
use Rattle.std.specs.Vec.Iter.{into_iter_items}
use Rattle.std.proofs.lemmas.List.{map-append}
use Rattle.serde_json.specs.View.{view}
use Rattle.meson_sharing.specs.CodeTold.{told_item_view}
use Rattle.meson_inventory.specs.Info.{placed_told_data}
use Rattle.meson_inventory.proofs.followed.tolds_value.Goals as goal

pub loop-item-preserved : goal.loop-item-preserved
loop-item-preserved c =
    let held = c.loop-item.invariant in
    let before = c.loop-item.yielded in
    let item = c.in-Some.item in
    let data_of = placed_told_data c.args.files.now in
    record {
      joined = held.joined ∙ ap (λ xs. before ++ xs) c.in-Some.ensures.steps.0 ∙ sym (append_assoc before (item ∷ []) (into_iter_items c.next.new.self));
      files = c.told_value.ensures.files ∙ held.files;
      seen = ap (map view) c.in_ok-push.ensures.items ∙ map-append view c.loop-item.list.items (c.in_ok-told_value.field-0 ∷ [])
          ∙ ap₂ (λ xs y. xs ++ y ∷ []) held.seen c.in_ok-told_value.ensures.value
          ∙ sym (ap (map data_of) (map-append told_item_view before (item ∷ [])) ∙ map-append data_of (map told_item_view before) (told_item_view item ∷ []));
    }
