use Rattle.std.proofs.Common.{◌≡◌, ◌≤◌, ◌-◌, length, take, drop, option_map}
use Rattle.std.specs.Prelude.{All}
use Rattle.meson_calls.specs.Loading.{max_files, HasFileName, AreParsed}
use Rattle.meson_gathering.specs.Gathering.{Told, Ending, Gathers, Collects}
use Rattle.meson_gathering.specs.ReadCounts.{Looks}
use Rattle.meson_gathering.proofs.gathering.gather.Given as goal

-- however the files end that are left, the project's files end so
abbrev pub invariant-looking : goal.invariant-looking
invariant-looking g l = record {
  kept : g.S.Store.content l.store ≡ g.S.Store.content l.fn.store;
  counts : g.S.Store.failures l.fn.store ≤ g.S.Store.failures l.store;
  no_replace : g.S.Store.replaces l.store ≡ g.S.Store.replaces l.fn.store;
  few : length l.files ≤ max_files;
  named : All HasFileName l.files;
  many : length l.trees.items ≡ l.looked;
  parsed : AreParsed (take l.looked l.files) l.trees.items;
  ends : Told (g.S.Store.content l.fn.store) (λ content. (end : Ending) → Gathers l.fn.reading content (option_map (λ f. f.now) l.folder) (take l.looked l.files) (drop l.looked l.files) end → Collects l.fn.reading content (option_map (λ f. f.now) l.folder) end);
  asks : Looks l.fn.reading (g.S.Store.content l.fn.store) (option_map (λ f. f.now) l.folder) (g.S.Store.reads l.fn.store) l.files l.looked (g.S.Store.reads l.store);
}

abbrev pub decreases-looking : goal.decreases-looking
decreases-looking g l = max_files - l.looked
