use Rattle.std.proofs.Common.{◌≡◌, None, Some, ◌∙◌, ap}
use Rattle.meson_syntax.specs.View.{view}
use Rattle.meson_syntax.proofs.parsing.Steps.{some-injective}
use Rattle.meson_calls.specs.Parts.{parts_of_file}
use Rattle.meson_calls.specs.Walks.{keeper_view, lists_kept, lists_opened, with_parts}
use Rattle.meson_calls.proofs.Visits.{all_opened}
use Rattle.meson_calls.proofs.lists.lists_of.Goals as goal

pub unreachable-requires : goal.unreachable-requires
unreachable-requires c =
    let ps = parts_of_file c.args.file (view c.args.source.now c.args.parsed.now) in
    let none : None ≡ Some (lists_opened ps) =
    all_opened None (keeper_view c.walk_file.new.keeper) ps c.in-None.ensures (c.in_ok-walk_file.ensures ∙ ap (λ ls. with_parts (lists_kept ls) ps) c.new.ensures.items) in
    absurd cc

pub returns : goal.returns
returns c =
    let ps = parts_of_file c.args.file (view c.args.source.now c.args.parsed.now) in
    some-injective _ _
    (all_opened (Some c.in-Some.found.items) (keeper_view c.walk_file.new.keeper) ps c.in-Some.ensures
    (c.in_ok-walk_file.ensures ∙ ap (λ ls. with_parts (lists_kept ls) ps) c.new.ensures.items))
