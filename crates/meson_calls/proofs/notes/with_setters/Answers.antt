use Rattle.meson_calls.proofs.Words.{◌≡◌, ◌++◌, None, Some, subst, view, some-injective, taken_view, parts_of_file, notes_asked, keeper_view, with_parts}
use Rattle.meson_calls.proofs.Visits.{more_asked}
use Rattle.meson_calls.proofs.notes.with_setters.Goals as goal

pub unreachable-requires : goal.unreachable-requires
unreachable-requires c =
    let names = c.args.names.now in
    let so_far = taken_view c.args.taken in
    let ps = parts_of_file c.args.file (view c.args.source.now c.args.parsed.now) in
    let kept = keeper_view c.walk_file.new.keeper in
    let none : None ≡ Some (so_far ++ notes_asked names c.args.all c.args.file c.args.source.now c.args.parsed.now) =
    more_asked names c.args.all so_far None kept ps c.in-None.ensures (subst (λ k. kept ≡ with_parts k ps) c.asked-keeper.ensures c.in_ok-walk_file.ensures) in
    absurd cc

pub returns : goal.returns
returns c =
    let names = c.args.names.now in
    let so_far = taken_view c.args.taken in
    let ps = parts_of_file c.args.file (view c.args.source.now c.args.parsed.now) in
    let kept = keeper_view c.walk_file.new.keeper in
    some-injective _ _ (more_asked names c.args.all so_far (Some (taken_view c.in-Some.found)) kept ps c.in-Some.ensures (subst (λ k. kept ≡ with_parts k ps) c.asked-keeper.ensures c.in_ok-walk_file.ensures))
