use Rattle.std.proofs.Common.{◌≡◌, map, take}
use Rattle.meson_store.specs.Commit.{AreReplaced}
use Rattle.meson_store.specs.inside.Planned.{put_of}
use Rattle.meson_store.specs.Seen.{seen}
use Rattle.meson_store.proofs.committing.replace_all.Given as goal

abbrev pub invariant-loop-done : goal.invariant-loop-done
invariant-loop-done g l = record {
  are : AreReplaced (map put_of (take l.done l.plan))
      (seen (g.S.Store.content l.initial.store) (g.S.Store.failures l.initial.store) (g.S.Store.replaces l.initial.store))
      (seen (g.S.Store.content l.store) (g.S.Store.failures l.store) (g.S.Store.replaces l.store));
  no_read : g.S.Store.reads l.store ≡ g.S.Store.reads l.initial.store;
}
