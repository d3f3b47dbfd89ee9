use Rattle.std.proofs.Common.{◌∙◌, ap, sym}
use Rattle.meson_inventory.specs.Info.{call_span, placed_by}
use Rattle.meson_inventory.proofs.CallSpans.{call_read}
use Rattle.meson_inventory.proofs.info.placed_info_target.Goals as goal

pub returns-clause-listed : goal.returns-clause-listed
returns-clause-listed c =
    let l = c.args.project.now in
    let told = c.in_ok-details.details in
    let at = call_read l c.files.result.now c.trees.result.now told.place c.call_at-called.result c.files.ensures c.trees.ensures c.call_at-called.ensures.at in
    record {
      told = told;
      is_place = c.in_ok-details.ensures.told.0;
      are_details = c.in_ok-details.ensures.told.1;
      is = c.in_ok-info.ensures ∙ ap (λ span. placed_by l c.args.reading span told) (sym (ap call_span at));
    }
