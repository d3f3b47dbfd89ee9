use Rattle.std.proofs.Common.{ap, ◌∙◌}
use Rattle.meson_inventory.specs.Info.{placed_value_data, with_members, with_position}
use Rattle.meson_inventory.proofs.info.placed_info_argument.Goals as goal

pub returns-clause-listed : goal.returns-clause-listed
returns-clause-listed c =
    let v = c.in_ok-value.value in
    let files = c.files-files.result.now in
    record {
      value = v;
      is_value = c.in_ok-value.ensures.found;
      is = c.in_ok-positioned.ensures ∙ ap (with_members (with_position files v.file v.span)) c.in_ok-listing.ensures ∙ ap (λ fs. placed_value_data fs v) c.files-files.ensures;
    }
