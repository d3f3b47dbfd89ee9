use Rattle.std.proofs.Common.{◌∙◌, ap, ap₂}
use Rattle.meson_calls.specs.Loading.{named_trees, views}
use Rattle.meson_calls.specs.Notes.{note_views, notes}
use Rattle.meson_inventory.proofs.holdings.calls_held.Goals as goal

pub calls_among-requires : goal.calls_among-requires
calls_among-requires c =
    ap note_views c.as_slice.ensures.value ∙ c.in_ok-notes.ensures ∙ c.in_ok-taken.ensures ∙ ap₂ (λ fs ts. notes (named_trees fs (views fs ts))) c.files.ensures c.trees.ensures
