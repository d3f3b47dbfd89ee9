use Rattle.std.proofs.Common.{◌≡◌, ◌≤◌, ◌+◌, ◌++◌, ℕ, List, length, map, take, drop, reverse, vec_len}
use Rattle.std.specs.Prelude.{vec_capacity}
use Rattle.meson_store.specs.Commit.{GoBack}
use Rattle.meson_store.specs.inside.Commit.{names_of}
use Rattle.meson_store.specs.inside.Planned.{put_of}
use Rattle.meson_store.specs.Seen.{seen}
use Rattle.meson_store.proofs.committing.put_back.Given as goal

-- the files whose names are no more there got their old bytes again, or are listed
abbrev pub invariant-loop-name : goal.invariant-loop-name
invariant-loop-name g l = record {
  few : vec_len l.names ≤ length l.files;
  named : l.names.items ≡ names_of (map put_of (take (vec_len l.names) l.files));
  no_read : g.S.Store.reads l.store ≡ g.S.Store.reads l.initial.store;
  room : vec_len l.lost + vec_len l.names ≤ vec_capacity l.lost;
  gone : (still : List (List ℕ)) × GoBack (reverse (map put_of (drop (vec_len l.names) l.files)))
      (seen (g.S.Store.content l.initial.store) (g.S.Store.failures l.initial.store) (g.S.Store.replaces l.initial.store))
      (seen (g.S.Store.content l.store) (g.S.Store.failures l.store) (g.S.Store.replaces l.store)) still
      × (l.lost.items ≡ l.initial.lost.items ++ still);
}

abbrev pub decreases-loop-name : goal.decreases-loop-name
decreases-loop-name g l = vec_len l.names
