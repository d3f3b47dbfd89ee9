use Rattle.meson_targets.proofs.Words.{◌++◌, ap, ◌∙◌, literal}
use Rattle.meson_targets.proofs.NewTargets.{next_source}
use Rattle.meson_targets.proofs.target_adding.written_target.Goals as goal

pub loop-i-preserved : goal.loop-i-preserved
loop-i-preserved c =
    let mid = c.extend_from_slice-in-loop-i.new.self.items in
    next_source (λ x. x.now) c.args.kind.now c.args.name.now c.args.sources.now c.loop-i.i c.index-sources-i.result c.loop-i.out.items mid c.push_literal-in-loop-i.new.to.items
    c.loop-i-test.true c.loop-i.invariant c.in_ok-extend_from_slice-3.ensures.items
    (c.in_ok-push_literal-2.ensures.done ∙ ap (λ t. mid ++ literal t) (c.get-in-loop-i.ensures ∙ ap (λ x. x.now) c.index-sources-i.is))
