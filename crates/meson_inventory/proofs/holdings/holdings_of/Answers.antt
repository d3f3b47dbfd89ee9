use Rattle.std.proofs.Common.{◌∙◌, ap, ap₂}
use Rattle.meson_calls.specs.Loading.{named_trees, views}
use Rattle.meson_calls.specs.Notes.{note_views, notes}
use Rattle.meson_inventory.proofs.holdings.holdings_of.Goals as goal

pub targets_held-requires : goal.targets_held-requires
targets_held-requires c =
    ap note_views c.as_slice.ensures.value ∙ c.in_ok-notes.ensures ∙ c.in_ok-taken.ensures ∙ ap₂ (λ fs ts. notes (named_trees fs (views fs ts))) c.files.ensures c.trees.ensures

pub subdirs_held-requires : goal.subdirs_held-requires
subdirs_held-requires c =
    ap note_views c.as_slice-2.ensures.value ∙ c.in_ok-notes.ensures ∙ c.in_ok-taken.ensures ∙ ap₂ (λ fs ts. notes (named_trees fs (views fs ts))) c.files.ensures c.trees.ensures
