use Rattle.std.proofs.Common.{◌≡◌, None, Some, ◌∙◌, ap}
use Rattle.std.specs.Prelude.{false}
use Rattle.meson_syntax.specs.View.{view}
use Rattle.meson_syntax.proofs.parsing.Steps.{some-injective}
use Rattle.meson_calls.specs.Parts.{parts_of_file}
use Rattle.meson_calls.specs.Setters.{assignments_in}
use Rattle.meson_calls.specs.Walks.{assignments_kept, with_parts}
use Rattle.meson_inventory.proofs.assignments.places_in.Goals as goal

pub unreachable-requires : goal.unreachable-requires
unreachable-requires c =
    let ps = parts_of_file c.args.file (view c.args.source.now c.args.parsed.now) in
    let none : None ≡ Some (assignments_in ps) = c.in-None.ensures ps (c.in_ok-walk_file.ensures ∙ ap (λ ks. with_parts (assignments_kept false ks) ps) c.new.ensures.items) in
    absurd cc

pub returns : goal.returns
returns c =
    let ps = parts_of_file c.args.file (view c.args.source.now c.args.parsed.now) in
    some-injective _ _ (c.in-Some.ensures ps (c.in_ok-walk_file.ensures ∙ ap (λ ks. with_parts (assignments_kept false ks) ps) c.new.ensures.items))
