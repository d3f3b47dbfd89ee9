use Rattle.meson_targets.proofs.Words.{◌≡◌, None, Some, ◌∙◌, ap, some-injective, project_in, parts, reads_kept, keeper_view, with_parts, read_in}
use Rattle.meson_calls.proofs.Visits.{all_read}
use Rattle.meson_targets.proofs.uses.reads_of.Goals as goal

pub unreachable-requires : goal.unreachable-requires
unreachable-requires c =
    let ps = parts (project_in c.args.noted.now) in
    let none : None ≡ Some (read_in c.args.name.now ps) =
    all_read c.args.name.now None (keeper_view c.walk_files.new.keeper) ps c.in-None.ensures (c.in_ok-walk_files.ensures ∙ ap (λ cs. with_parts (reads_kept c.args.name.now cs) ps) c.new.ensures.items) in
    absurd cc

pub returns : goal.returns
returns c =
    let ps = parts (project_in c.args.noted.now) in
    some-injective _ _
    (all_read c.args.name.now (Some c.in-Some.found.items) (keeper_view c.walk_files.new.keeper) ps c.in-Some.ensures
    (c.in_ok-walk_files.ensures ∙ ap (λ cs. with_parts (reads_kept c.args.name.now cs) ps) c.new.ensures.items))
