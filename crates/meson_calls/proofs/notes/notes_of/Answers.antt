use Rattle.meson_calls.proofs.Words.{◌≡◌, None, Some, ◌∙◌, ap, some-injective, named_trees, views, noted, taken_view, parts, notes_kept, keeper_view}
use Rattle.meson_calls.proofs.Words.{with_parts}
use Rattle.meson_calls.proofs.Visits.{all_noted}
use Rattle.meson_calls.proofs.notes.notes_of.Goals as goal

pub unreachable-requires : goal.unreachable-requires
unreachable-requires c =
    let ps = parts (named_trees c.args.files.now (views c.args.files.now c.args.trees.now)) in
    let none : None ≡ Some (noted ps) =
    all_noted None (keeper_view c.walk_files.new.keeper) ps c.in-None.ensures (c.in_ok-walk_files.ensures ∙ ap (λ ns. with_parts (notes_kept ns) ps) c.new.ensures) in
    absurd cc

pub returns : goal.returns
returns c =
    let ps = parts (named_trees c.args.files.now (views c.args.files.now c.args.trees.now)) in
    some-injective _ _
    (all_noted (Some (taken_view c.in-Some.found)) (keeper_view c.walk_files.new.keeper) ps c.in-Some.ensures
    (c.in_ok-walk_files.ensures ∙ ap (λ ns. with_parts (notes_kept ns) ps) c.new.ensures))
