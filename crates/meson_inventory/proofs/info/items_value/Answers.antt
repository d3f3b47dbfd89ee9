use Rattle.std.proofs.Common.{◌≡◌, ℕ, ◌+◌, ◌<◌, List, [], ◌∷◌, ◌++◌, get_or, length, map, take, sym, ap, ap₂, ◌∙◌}
use Rattle.std.proofs.lemmas.List.{map-append, take_all, take_more}
use Rattle.serde_json.proofs.Views.{view-Array}
use Rattle.serde_json.specs.Data.{array}
use Rattle.serde_json.specs.View.{items_of, view}
use Rattle.meson_inventory.specs.Info.{placed_item_data}
use Rattle.meson_inventory.proofs.info.items_value.Goals as goal

one_more : {X Y : Type 0} (f : X → Y) (xs : List X) (i : ℕ) (x : X) → i < length xs → x ≡ get_or xs i x → map f (take i xs) ++ f x ∷ [] ≡ map f (take (i + 1) xs)
one_more f xs i x within is =
    ap (λ y. map f (take i xs) ++ f y ∷ []) is ∙ sym (ap (map f) (take_more xs i x within) ∙ map-append f (take i xs) (get_or xs i x ∷ []))

pub loop-item-preserved : goal.loop-item-preserved
loop-item-preserved c =
    let held = c.loop-item.invariant in
    record {
      files = c.item_value.ensures.files ∙ held.files;
      seen = ap (map view) c.in_ok-push.ensures.items ∙ map-append view c.loop-item.list.items (c.in_ok-item_value.field-0 ∷ [])
          ∙ ap₂ (λ xs y. xs ++ y ∷ []) held.seen c.in_ok-item_value.ensures.value
          ∙ one_more (placed_item_data c.args.files.now) c.args.items.now c.loop-item.item-index c.item-item.result c.loop-item-test.true c.item-item.is;
    }

pub returns : goal.returns
returns c =
    view-Array c.loop-item.list ∙ ap (λ ds. array (items_of ds))
    (c.loop-item.invariant.seen ∙ ap (map (placed_item_data c.args.files.now)) (take_all c.loop-item.item-index c.args.items.now c.loop-item-test.false))
