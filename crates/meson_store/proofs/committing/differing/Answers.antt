use Rattle.std.proofs.Common.{◌≡◌, ◌<◌, ◌∙◌, length, map, ap, sym, arith}
use Rattle.std.proofs.lemmas.List.{length-map, map-append}
use Rattle.meson_store.specs.inside.Planned.{put_of}
use Rattle.meson_store.proofs.Commits.{plan-more, plan-kept}
use Rattle.meson_store.proofs.committing.differing.Goals.{then-ne+in_ok-path+in_ok-push, else-ne}
use Rattle.meson_store.proofs.committing.differing.Goals as goal

pub loop-i-preserved : goal.loop-i-preserved
loop-i-preserved c =
    let after_has : c.loop-i.i < length c.args.after.now = omega (arith, c.loop-i-test.true, c.len-i-end.ensures) in
    let as_many : length c.args.before.now ≡ length c.args.after.now = sym (length-map c.args.before.now (λ f. f.name)) ∙ ap length c.requires ∙ length-map c.args.after.now (λ f. f.name) in
    let before_has : c.loop-i.i < length c.args.before.now = omega (arith, after_has, as_many) in
    elim c.if-ne.branch [
      | then-ne+in_ok-path+in_ok-push w ↦
          plan-more _ c.args.before.now c.args.after.now c.loop-i.i c.bytes-was.result.now c.bytes-bytes.result.now c.ne.result _ _ before_has after_has c.bytes-was.ensures c.bytes-bytes.ensures c.ne.ensures c.loop-i.invariant
          _ _ _ w.if-ne.true w.in_ok-path.ensures w.name-name.ensures
          (ap (λ v. map put_of v.items) w.plan-is ∙ ap (map put_of) w.in_ok-push.ensures.items ∙ map-append put_of c.loop-i.plan.items _)
      | else-ne w ↦
          plan-kept _ c.args.before.now c.args.after.now c.loop-i.i c.bytes-was.result.now c.bytes-bytes.result.now c.ne.result _ _ before_has after_has c.bytes-was.ensures c.bytes-bytes.ensures c.ne.ensures c.loop-i.invariant
          _ w.if-ne.false (ap (λ v. map put_of v.items) w.plan-is)
    ]
