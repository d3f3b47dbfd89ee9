use Rattle.std.proofs.Common.{◌≡◌, ◌++◌, map, option_map, drop}
use Rattle.meson_store.specs.Commit.{puts}
use Rattle.meson_store.specs.inside.Planned.{put_of}
use Rattle.meson_store.proofs.committing.differing.Given as goal

-- the plan so far, and what the files that are left come to
abbrev pub invariant-loop-i : goal.invariant-loop-i
invariant-loop-i l =
    map put_of l.plan.items ++ puts (option_map (λ f. f.now) l.folder) (drop l.i l.before) (drop l.i l.after)
    ≡ puts (option_map (λ f. f.now) l.folder) l.before l.after
