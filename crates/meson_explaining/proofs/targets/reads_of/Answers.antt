use Rattle.std.proofs.Common.{◌≡◌, [], None, Some, ap₂, ◌∙◌}
use Rattle.meson_syntax.proofs.parsing.Steps.{some-injective}
use Rattle.meson_calls.specs.Loading.{named_trees, project, views}
use Rattle.meson_calls.specs.Parts.{parts}
use Rattle.meson_calls.specs.Walks.{keeper_view, read_in, reads_kept, with_parts}
use Rattle.meson_calls.proofs.Visits.{all_read}
use Rattle.meson_explaining.proofs.targets.reads_of.Goals as goal

pub unreachable-requires : goal.unreachable-requires
unreachable-requires c =
    let name = c.args.name.now in
    let ps = parts (project c.args.project.now) in
    let there = parts (named_trees c.files.result.now (views c.files.result.now c.trees.result.now)) in
    let kept : keeper_view c.walk_files.new.keeper ≡ with_parts (reads_kept name []) ps =
    c.in_ok-walk_files.ensures ∙ ap₂ (λ x cs. with_parts (reads_kept x cs) there) c.as_bytes.ensures.value c.new.ensures.items
    ∙ ap₂ (λ fs ts. with_parts (reads_kept name []) (parts (named_trees fs (views fs ts)))) c.files.ensures c.trees.ensures in
    let none : None ≡ Some (read_in name ps) = all_read name None (keeper_view c.walk_files.new.keeper) ps c.in-None.ensures kept in
    absurd cc

pub returns : goal.returns
returns c =
    let name = c.args.name.now in
    let ps = parts (project c.args.project.now) in
    let there = parts (named_trees c.files.result.now (views c.files.result.now c.trees.result.now)) in
    let kept : keeper_view c.walk_files.new.keeper ≡ with_parts (reads_kept name []) ps =
    c.in_ok-walk_files.ensures ∙ ap₂ (λ x cs. with_parts (reads_kept x cs) there) c.as_bytes.ensures.value c.new.ensures.items
    ∙ ap₂ (λ fs ts. with_parts (reads_kept name []) (parts (named_trees fs (views fs ts)))) c.files.ensures c.trees.ensures in
    some-injective _ _ (all_read name (Some c.in-Some.found.items) (keeper_view c.walk_files.new.keeper) ps c.in-Some.ensures kept)
