use Rattle.std.proofs.Common.{◌≡◌, ◌++◌, map, drop}
use Rattle.meson_store.specs.inside.Commit.{names_of}
use Rattle.meson_store.specs.inside.Planned.{put_of}
use Rattle.meson_store.proofs.committing.names_of.Given as goal

abbrev pub invariant-loop-file : goal.invariant-loop-file
invariant-loop-file l = l.names.items ++ names_of (map put_of (drop l.file-index l.plan)) ≡ names_of (map put_of l.plan)
