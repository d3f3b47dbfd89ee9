use Rattle.std.proofs.Common.{◌+◌, refl, ap, ◌∙◌}
use Rattle.meson_calls.specs.Project.{place}
use Rattle.meson_calls.proofs.ListTurns.{args_count, args_size}
use Rattle.meson_calls.proofs.Visits.{count_ended, count_turn}
use Rattle.meson_calls.proofs.WalkedWords.{arg_count, arg_size_fits, args_more, args_width, next_turn}
use Rattle.meson_following.proofs.ReadTurns.{arg_fits}
use Rattle.meson_sharing.proofs.UseTurns.{arg_turn, arg_uses}
use Rattle.meson_sharing.proofs.ways.Ways.in_all_given.Goals as goal

pub in_given-requires : goal.in_given-requires
in_given-requires c =
    arg_fits c.args.self.now.source.now c.args.args.now c.loop-i.i c.index-args-i.result _ _ _ c.loop-i-test.true c.index-args-i.is c.loop-i.invariant.3 c.requires

pub loop-i-preserved : goal.loop-i-preserved
loop-i-preserved c =
    let source = c.args.self.now.source.now in
    let file = c.args.self.now.file in
    let q = place file c.args.path.now.items in
    let args = c.args.args.now in
    let i = c.loop-i.i in
    let a = c.index-args-i.result in
    let n = c.loop-i.number in
    let next = c.in_ok-number.ensures.after ∙ ap (λ x. n + args_size source x) c.index-args-i.is in (
      c.in_ok-number.ensures.back ∙ c.loop-i.invariant.0,
      arg_turn source q args i a n c.in_ok-number.number c.loop-i.found.items c.in_given.new.found.items _ (arg_uses source (place file c.loop-i.path.items) n a)
          c.loop-i-test.true c.in_ok-number.ensures.all
          (ap (λ steps. arg_uses source (place file steps) n a) c.loop-i.invariant.0 ∙ ap (arg_uses source q n) c.index-args-i.is) next c.loop-i.invariant.1,
      count_turn (args_count source) (args_size source) (λ x xs. refl) args i a n c.in_ok-number.number _ c.loop-i-test.true next c.loop-i.invariant.2,
      next_turn (args_width source) (arg_count source) (args_more source) (args_size source) (arg_size_fits source) args i a n c.in_ok-number.number _
          c.loop-i-test.true next c.loop-i.invariant.3,
    )

pub returns-clause-after : goal.returns-clause-after
returns-clause-after c =
    count_ended (args_count c.args.self.now.source.now) (args_size c.args.self.now.source.now) (λ x xs. refl) c.args.args.now c.loop-i.i c.loop-i.number _ refl
    c.loop-i-test.false c.loop-i.invariant.2
