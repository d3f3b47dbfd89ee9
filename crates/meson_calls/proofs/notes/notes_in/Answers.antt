use Rattle.meson_calls.proofs.Words.{◌≡◌, None, Some, ◌∙◌, ap, view, some-injective, noted, taken_view, parts_of_file, notes_kept, keeper_view, with_parts}
use Rattle.meson_calls.proofs.Visits.{all_noted}
use Rattle.meson_calls.proofs.notes.notes_in.Goals as goal

pub unreachable-requires : goal.unreachable-requires
unreachable-requires c =
    let ps = parts_of_file c.args.file (view c.args.source.now c.args.parsed.now) in
    let none : None ≡ Some (noted ps) =
    all_noted None (keeper_view c.walk_file.new.keeper) ps c.in-None.ensures (c.in_ok-walk_file.ensures ∙ ap (λ ns. with_parts (notes_kept ns) ps) c.new.ensures) in
    absurd cc

pub returns : goal.returns
returns c =
    let ps = parts_of_file c.args.file (view c.args.source.now c.args.parsed.now) in
    some-injective _ _
    (all_noted (Some (taken_view c.in-Some.found)) (keeper_view c.walk_file.new.keeper) ps c.in-Some.ensures
    (c.in_ok-walk_file.ensures ∙ ap (λ ns. with_parts (notes_kept ns) ps) c.new.ensures))
