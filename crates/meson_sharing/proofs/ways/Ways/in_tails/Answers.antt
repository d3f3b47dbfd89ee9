use Rattle.std.proofs.Common.{◌+◌, ap, ◌∙◌}
use Rattle.meson_calls.specs.Project.{place}
use Rattle.meson_calls.proofs.ListTurns.{tail_size}
use Rattle.meson_calls.proofs.WalkedWords.{next_turn, tail_count, tail_size_fits, tails_more, tails_width}
use Rattle.meson_following.proofs.ReadTurns.{tail_fits}
use Rattle.meson_sharing.proofs.UseTurns.{tail_turn, tail_uses}
use Rattle.meson_sharing.proofs.ways.Ways.in_tails.Goals as goal

pub in_tail-requires : goal.in_tail-requires
in_tail-requires c =
    tail_fits c.args.self.now.source.now c.args.tails.now c.loop-i.i c.index-tails-i.result _ _ _ c.loop-i-test.true c.index-tails-i.is c.loop-i.invariant.2 c.requires

pub loop-i-preserved : goal.loop-i-preserved
loop-i-preserved c =
    let source = c.args.self.now.source.now in
    let file = c.args.self.now.file in
    let q = place file c.args.path.now.items in
    let ts = c.args.tails.now in
    let i = c.loop-i.i in
    let t = c.index-tails-i.result in
    let n = c.loop-i.number in
    let next = c.in_ok-number.ensures.after ∙ ap (λ x. n + tail_size source x) c.index-tails-i.is in (
      c.in_ok-number.ensures.back ∙ c.loop-i.invariant.0,
      tail_turn source q ts i t n c.in_ok-number.number c.loop-i.found.items c.in_tail.new.found.items _ (tail_uses source (place file c.loop-i.path.items) n t)
          c.loop-i-test.true c.in_ok-number.ensures.all
          (ap (λ steps. tail_uses source (place file steps) n t) c.loop-i.invariant.0 ∙ ap (tail_uses source q n) c.index-tails-i.is) next c.loop-i.invariant.1,
      next_turn (tails_width source) (tail_count source) (tails_more source) (tail_size source) (tail_size_fits source) ts i t n c.in_ok-number.number _
          c.loop-i-test.true next c.loop-i.invariant.2,
    )
