use Rattle.std.proofs.Common.{sym, ap, subst, ◌∙◌}
use Rattle.std.specs.Prelude.{option_map}
use Rattle.meson_syntax.specs.Grammar.{argument_words}
use Rattle.meson_syntax.specs.View.{arg_view}
use Rattle.meson_calls.specs.NamedArguments.{kept_arg}
use Rattle.meson_calls.specs.Project.{place}
use Rattle.meson_calls.specs.Strings.{AreGood}
use Rattle.meson_calls.proofs.Nested.{good_arg}
use Rattle.meson_following.specs.CodeArguments.{value_by, value_met}
use Rattle.meson_following.specs.CodeFollowing.{following_view}
use Rattle.meson_following.specs.Following.{then_follow}
use Rattle.meson_following.proofs.MetArguments.{value_turn}
use Rattle.meson_following.proofs.site.Site.meet_arguments.Goals as goal

pub meet_argument-requires-clause-good : goal.meet_argument-requires-clause-good
meet_argument-requires-clause-good c =
    let source = c.args.self.now.source.now in
    subst (λ a. AreGood (argument_words (arg_view source a))) (sym c.index-args-i.is) (good_arg source c.args.args.now c.loop-i.i c.index-args-i.result c.loop-i-test.true c.requires.good)

pub loop-i-preserved : goal.loop-i-preserved
loop-i-preserved c =
    let s = c.args.self.now in
    let source = s.source.now in
    let k = option_map (λ k. k.now) c.args.key in
    let q = place s.file c.args.path.now.items in
    let before = following_view c.loop-i.found in
    let i = c.loop-i.i in
    let x = c.index-args-i.result in (
      c.in_ok-meet_argument.ensures.back ∙ c.loop-i.invariant.0,
      value_turn s q k source c.args.args.now i x before (following_view c.meet_argument.new.found) _ c.loop-i-test.true
          (c.in_ok-meet_argument.ensures.all
          ∙ ap (λ steps. then_follow before (value_met s (place s.file steps) k (kept_arg source (value_by k) i x))) c.loop-i.invariant.0
          ∙ ap (λ a. then_follow before (value_met s q k (kept_arg source (value_by k) i a))) c.index-args-i.is)
          c.loop-i.invariant.1,
    )
