use Rattle.std.proofs.Common.{◌∙◌, map, ap, inr, subst}
use Rattle.meson_store.specs.Commit.{CommitFails}
use Rattle.meson_store.specs.inside.Planned.{put_of}
use Rattle.meson_store.specs.Seen.{seen}
use Rattle.meson_store.proofs.Returns.{stopped-counts}
use Rattle.meson_store.proofs.committing.commit.Goals as goal

pub returns-clause-failed : goal.returns-clause-failed
returns-clause-failed g c =
    let stops = c.in-Err.ensures.halted.0 in
    let back = c.taken_back.ensures.gone_back stops.done stops.rest stops.failed stops.all c.in-Err.ensures.halted.1 in
    let before = seen (g.S.Store.content c.args.store.now) (g.S.Store.failures c.args.store.now) (g.S.Store.replaces c.args.store.now) in
    let after = seen (g.S.Store.content c.taken_back.new.store) (g.S.Store.failures c.taken_back.new.store) (g.S.Store.replaces c.taken_back.new.store) in
    subst (λ files. CommitFails files before after c.taken_back.result) (ap (map put_of) c.as_slice-files.ensures.value ∙ c.in_ok-plan.ensures)
    (inr (record {
      why = c.in-Err.halt.error;
      stopped = seen (g.S.Store.content c.replace_all.new.store) (g.S.Store.failures c.replace_all.new.store) (g.S.Store.replaces c.replace_all.new.store);
      stops = stops;
      still = back.0;
      back = back.1;
      told = back.2;
    }))

pub returns-clause-counts : goal.returns-clause-counts
returns-clause-counts g c =
    let stops = c.in-Err.ensures.halted.0 in
    let back = c.taken_back.ensures.gone_back stops.done stops.rest stops.failed stops.all c.in-Err.ensures.halted.1 in
    stopped-counts _ _ _ _ _ _ _ stops back.1

pub returns-clause-no_read : goal.returns-clause-no_read
returns-clause-no_read g c = c.taken_back.ensures.no_read ∙ c.in-Err.ensures.no_read
