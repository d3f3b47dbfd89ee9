use Rattle.std.proofs.Common.{ap, ◌∙◌}
use Rattle.serde_json.specs.Data.{put}
use Rattle.serde_json.specs.View.{members_view, view}
use Rattle.serde_json.proofs.Views.{members_view-insert_entry}
use Rattle.meson_inventory.proofs.info.put_keyword_place.Goals as goal

pub returns-clause-put : goal.returns-clause-put
returns-clause-put c =
    let old = c.args.members.now.entries in
    ap members_view c.in_ok-_none.ensures.entries
    ∙ members_view-insert_entry old c.take.result c.in_ok-value.value
    ∙ ap (λ k. put k (view c.in_ok-value.value) (members_view old)) c.take.ensures
    ∙ ap (λ d. put c.args.place.key d (members_view old)) c.in_ok-value.ensures.value
