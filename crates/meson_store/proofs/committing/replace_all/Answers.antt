use Rattle.std.proofs.Common.{◌∙◌, map, take, drop, suc, ap, sym, subst, List, ℕ, arith}
use Rattle.meson_store.specs.Content.{content_with}
use Rattle.meson_store.specs.Commit.{put_all}
use Rattle.meson_store.specs.inside.Planned.{put_of}
use Rattle.meson_store.specs.Seen.{IsNotReplaced, seen}
use Rattle.meson_store.proofs.Commits.{count_one, cut-at, put-more}
use Rattle.meson_store.proofs.committing.replace_all.Goals as goal

pub returns-in-Err-clause-halted : goal.returns-in-Err-clause-halted
returns-in-Err-clause-halted g c =
    let plan = c.args.plan.now in
    let cut = cut-at plan c.loop-done.done c.index-plan-done.result c.index-plan-done.is c.loop-done-test.true in
    let P : List ℕ → Type 0 = λ p.
    IsNotReplaced c.in-Err.error p c.index-plan-done.result.bytes.now
    (seen (g.S.Store.content c.loop-done.store) (g.S.Store.failures c.loop-done.store) (g.S.Store.replaces c.loop-done.store))
    (seen (g.S.Store.content c.replace.new.self) (g.S.Store.failures c.replace.new.self) (g.S.Store.replaces c.replace.new.self)) in (
      record {
        done = map put_of (take c.loop-done.done plan);
        failed = put_of c.index-plan-done.result;
        rest = map put_of (drop (suc c.loop-done.done) plan);
        all = cut.0;
        reached = seen (g.S.Store.content c.loop-done.store) (g.S.Store.failures c.loop-done.store) (g.S.Store.replaces c.loop-done.store);
        are = c.loop-done.invariant.are;
        fails = subst P c.as_str.ensures.value (record {
          left = c.in-Err.ensures.err;
          failed = c.in-Err.ensures.failed;
          counts = c.in-Err.ensures.counts;
          counted = c.in-Err.ensures.counted;
        });
      },
      cut.1,
    )

pub loop-done-preserved : goal.loop-done-preserved
loop-done-preserved g c =
    let plan = c.args.plan.now in record {
      are = record {
        put =
            c.in-Ok.ensures.ok
            ∙ ap (λ m. content_with m c.as_str.result.now c.index-plan-done.result.bytes.now) c.loop-done.invariant.are.put
            ∙ ap (λ p. content_with (put_all (map put_of (take c.loop-done.done plan)) (g.S.Store.content c.args.store.now)) p c.index-plan-done.result.bytes.now) c.as_str.ensures.value
            ∙ sym (put-more plan c.loop-done.done c.index-plan-done.result c.index-plan-done.is c.loop-done-test.true (g.S.Store.content c.args.store.now));
        counts = omega (arith, c.loop-done.invariant.are.counts, c.replace.ensures.counts);
        counted = count_one plan c.loop-done.done c.loop-done-test.true _ _ _ c.loop-done.invariant.are.counted c.in-Ok.ensures.counted;
      };
      no_read = c.in-Ok.ensures.no_read ∙ c.loop-done.invariant.no_read;
    }
