use Rattle.std.proofs.Common.{◌≡◌, ◌∙◌, Some, ap, ap₂, codes, sym}
use Rattle.std.specs.Option.{option_map_or}
use Rattle.serde_json.specs.Data.{Members, object, put}
use Rattle.serde_json.specs.Find.{as_object}
use Rattle.serde_json.specs.View.{members_view}
use Rattle.serde_json.proofs.Views.{view-Object}
use Rattle.meson_listing.specs.Entries.{target_data}
use Rattle.meson_inventory.specs.Info.{placed_items_data, with_position}
use Rattle.meson_inventory.proofs.info.target_value.Goals as goal

pub returns : goal.returns
returns c =
    let files = c.args.files.now in
    let span = c.args.span in
    let t = c.args.details in
    let sources = placed_items_data files t.sources.items in
    let extra = placed_items_data files t.extra_files.items in
    let listing = target_data files t.place.file t.head t.sources t.extra_files in
    let with_items : Members → Members = λ ms. put (codes "sources") sources (put (codes "extra_files") extra ms) in
    let before = members_view c.in-Ok.members.entries in
    let are : as_object listing ≡ Some before = sym (ap as_object c.in_ok-listing.ensures) ∙ c.in-Ok.ensures.members in
    view-Object c.put_position.new.members
    ∙ ap object (c.in_ok-put_position.ensures.put
    ∙ ap₂ (λ fs ms. with_position fs t.place.file span ms) c.new-positions.ensures
    (c.in_ok-put-2.ensures.ok ∙ ap₂ (λ d ms. put (codes "sources") d ms) (c.in_ok-placed_sources.ensures ∙ ap (placed_items_data files) c.get.ensures)
    (c.in_ok-put.ensures.ok ∙ ap (λ d. put (codes "extra_files") d before) (c.in_ok-placed_extra.ensures ∙ ap (placed_items_data files) c.get-2.ensures))))
    ∙ sym (ap (λ o. option_map_or (λ ms. object (with_position files t.place.file span (with_items ms))) o listing) are)
