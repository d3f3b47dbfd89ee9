use Rattle.std.proofs.Common.{◌≡◌, ◌∙◌, Some, ap, ap₂, codes, sym}
use Rattle.std.specs.Option.{option_map_or}
use Rattle.serde_json.specs.Data.{object, put}
use Rattle.serde_json.specs.Find.{as_object}
use Rattle.serde_json.specs.View.{members_view}
use Rattle.serde_json.proofs.Views.{view-Object}
use Rattle.meson_sharing.specs.CodeTold.{told_view}
use Rattle.meson_listing.specs.Followed.{target_with}
use Rattle.meson_inventory.specs.Info.{placed_items_data, placed_tolds_data, with_position}
use Rattle.meson_inventory.proofs.followed.followed_value.Goals as goal

pub returns : goal.returns
returns c =
    let files = c.args.files.now in
    let span = c.args.span in
    let t = c.args.details in
    let told = told_view c.args.told in
    let extra = placed_items_data files t.extra_files.items in
    let listing = target_with files t.place.file t.head (placed_tolds_data files told.items) told.unknown t.extra_files in
    let before = members_view c.in-Ok.members.entries in
    let is = c.in_ok-listing.ensures ∙ ap (λ d. target_with files t.place.file t.head d told.unknown t.extra_files) c.in_ok-sources.ensures in
    let are : as_object listing ≡ Some before = sym (ap as_object is) ∙ c.in-Ok.ensures.members in
    view-Object c.put_position.new.members
    ∙ ap object (c.in_ok-put_position.ensures.put
    ∙ ap₂ (λ fs ms. with_position fs t.place.file span ms) c.new-positions.ensures
    (c.in_ok-put.ensures.ok ∙ ap (λ d. put (codes "extra_files") d before) (c.in_ok-placed_extra.ensures ∙ ap (placed_items_data files) c.get.ensures)))
    ∙ sym (ap (λ o. option_map_or (λ ms. object (with_position files t.place.file span (put (codes "extra_files") extra ms))) o listing) are)
