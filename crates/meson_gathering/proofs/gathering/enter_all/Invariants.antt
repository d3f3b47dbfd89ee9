use Rattle.std.proofs.Common.{◌≡◌, ◌≤◌, map, take, option_map}
use Rattle.std.specs.Prelude.{Some, string_bytes}
use Rattle.meson_gathering.specs.Gathering.{Told, files_entered}
use Rattle.meson_gathering.specs.inside.Gathered.{Grows}
use Rattle.meson_gathering.specs.ReadCounts.{EntersEach}
use Rattle.meson_gathering.proofs.gathering.enter_all.Given as goal

-- the names so far were entered
abbrev pub invariant-loop-i : goal.invariant-loop-i
invariant-loop-i g l = record {
  kept : g.S.Store.content l.store ≡ g.S.Store.content l.initial.store;
  counts : g.S.Store.failures l.initial.store ≤ g.S.Store.failures l.store;
  no_replace : g.S.Store.replaces l.store ≡ g.S.Store.replaces l.initial.store;
  so_far : Told (g.S.Store.content l.initial.store) (λ content. files_entered content (option_map (λ f. f.now) l.folder) (map string_bytes (take l.i l.names)) l.initial.files ≡ Some l.files);
  grows : Grows l.initial.files l.files;
  asks : EntersEach (g.S.Store.content l.initial.store) (option_map (λ f. f.now) l.folder) l.initial.files (g.S.Store.reads l.initial.store) (map string_bytes (take l.i l.names)) l.files (g.S.Store.reads l.store);
}
