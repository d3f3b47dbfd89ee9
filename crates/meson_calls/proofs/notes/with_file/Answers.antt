use Rattle.meson_calls.proofs.Words.{if◌then◌else◌, ◌≡◌, ◌++◌, None, Some, ◌∙◌, sym, ap, view, some-injective, noted, taken_view, parts_of_file, keeper_view}
use Rattle.meson_calls.proofs.Visits.{more_noted}
use Rattle.meson_calls.proofs.notes.with_file.Goals as goal

pub unreachable-requires : goal.unreachable-requires
unreachable-requires c =
    let ps = parts_of_file c.args.file (view c.args.source.now c.args.parsed.now) in
    let so_far = taken_view c.args.taken in
    let none : None ≡ Some (so_far ++ noted ps) = more_noted so_far None (keeper_view c.walk_file.new.keeper) ps c.in-None.ensures c.in_ok-walk_file.ensures in
    absurd cc

pub returns : goal.returns
returns c =
    let here = noted (parts_of_file c.args.file (view c.args.source.now c.args.parsed.now)) in
    let so_far = taken_view c.args.taken in
    some-injective _ _
    (more_noted so_far (Some (taken_view c.in-Some.found)) (keeper_view c.walk_file.new.keeper) (parts_of_file c.args.file (view c.args.source.now c.args.parsed.now)) c.in-Some.ensures c.in_ok-walk_file.ensures)
    ∙ ap (λ b. if b then so_far ++ here else so_far) (sym c.if-not-asked.false)
