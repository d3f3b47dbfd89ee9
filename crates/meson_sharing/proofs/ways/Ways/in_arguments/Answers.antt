use Rattle.std.proofs.Common.{◌++◌, ap, ◌∙◌}
use Rattle.std.specs.Prelude.{option_map}
use Rattle.meson_calls.specs.NamedArguments.{kept_arg}
use Rattle.meson_calls.specs.Project.{place}
use Rattle.meson_following.specs.CodeArguments.{value_by}
use Rattle.meson_sharing.specs.CodeWays.{value_ways}
use Rattle.meson_sharing.proofs.WayTurns.{value_turn}
use Rattle.meson_sharing.proofs.ways.Ways.in_arguments.Goals as goal

pub loop-i-preserved : goal.loop-i-preserved
loop-i-preserved c =
    let source = c.args.self.now.source.now in
    let file = c.args.self.now.file in
    let k = option_map (λ k. k.now) c.args.key in
    let q = place file c.args.path.now.items in
    let before = c.loop-i.found.items in
    let i = c.loop-i.i in
    let a = c.index-args-i.result in (
      c.in_ok-in_argument.ensures.back ∙ c.loop-i.invariant.0,
      value_turn source q k c.args.args.now i a before c.in_argument.new.found.items _ c.loop-i-test.true
          (c.in_ok-in_argument.ensures.all
          ∙ ap (λ steps. before ++ value_ways (place file steps) (kept_arg source (value_by k) i a)) c.loop-i.invariant.0
          ∙ ap (λ x. before ++ value_ways q (kept_arg source (value_by k) i x)) c.index-args-i.is)
          c.loop-i.invariant.1,
    )
