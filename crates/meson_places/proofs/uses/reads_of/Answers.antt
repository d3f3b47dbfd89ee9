use Rattle.std.proofs.Common.{◌≡◌, Some, None, ap, ◌∙◌}
use Rattle.meson_syntax.proofs.parsing.Steps.{some-injective}
use Rattle.meson_calls.specs.Loading.{project}
use Rattle.meson_calls.specs.Parts.{parts}
use Rattle.meson_calls.specs.Walks.{keeper_view, read_in, reads_kept, with_parts}
use Rattle.meson_calls.proofs.Visits.{all_read}
use Rattle.meson_places.specs.Names.{loaded_in}
use Rattle.meson_places.proofs.uses.reads_of.Goals as goal

pub unreachable-requires : goal.unreachable-requires
unreachable-requires c =
    let ps = parts (project (loaded_in c.args.sources)) in
    let none : None ≡ Some (read_in c.args.name.now ps) =
    all_read c.args.name.now None (keeper_view c.walk_files.new.keeper) ps c.in-None.ensures (c.in_ok-walk_files.ensures ∙ ap (λ cs. with_parts (reads_kept c.args.name.now cs) ps) c.new.ensures.items) in
    absurd cc

pub returns : goal.returns
returns c =
    let ps = parts (project (loaded_in c.args.sources)) in
    some-injective _ _
    (all_read c.args.name.now (Some c.in-Some.found.items) (keeper_view c.walk_files.new.keeper) ps c.in-Some.ensures
    (c.in_ok-walk_files.ensures ∙ ap (λ cs. with_parts (reads_kept c.args.name.now cs) ps) c.new.ensures.items))
