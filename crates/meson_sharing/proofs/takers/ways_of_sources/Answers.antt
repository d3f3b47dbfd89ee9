use Rattle.std.proofs.Common.{◌++◌, sym, ap, ◌∙◌}
use Rattle.meson_calls.specs.Calls.{value_with_name}
use Rattle.meson_calls.specs.NamedArguments.{kept_args}
use Rattle.meson_calls.specs.Project.{place}
use Rattle.meson_sharing.specs.CodeWays.{target_ways}
use Rattle.meson_sharing.specs.Sharing.{ways_of_values}
use Rattle.meson_sharing.proofs.WayTurns.{both_ways, target_is}
use Rattle.meson_sharing.proofs.takers.ways_of_sources.Goals as goal

pub returns : goal.returns
returns c = λ function.
    let source = c.args.source.now in
    let args = c.get-args.result.now in
    let call = c.args.call.now in
    let steps = c.in_ok-path.path.items in
    let here = ap (place call.file) (c.in_ok-path.ensures.items ∙ c.get.ensures) in
    let g = c.in_arguments.new.found.items in
    let nameds =
    c.in_ok-in_arguments-2.ensures.all
    ∙ ap (λ at_. g ++ ways_of_values (place call.file at_) 0 (kept_args source (value_with_name c.as_slice.result.now) 0 args)) c.in_ok-in_arguments.ensures.back
    ∙ ap (λ key. g ++ ways_of_values (place call.file steps) 0 (kept_args source (value_with_name key) 0 args)) c.as_slice.ensures in
    both_ways call steps source args c.behind_first.result c.new-found.result.items g c.in_arguments-2.new.found.items here c.new-found.ensures.items
    c.in_ok-in_arguments.ensures.all (c.behind_first.ensures.others source) nameds
    ∙ ap (target_ways call source) c.get-args.ensures ∙ sym (target_is call function source c.args.arguments.now)
