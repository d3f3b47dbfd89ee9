use Rattle.std.proofs.Common.{◌≡◌, ◌++◌, drop, map, take}
use Rattle.std.specs.Prelude.{Some}
use Rattle.std.specs.List.{All}
use Rattle.std.specs.Str.{IsUtf8}
use Rattle.meson_following.specs.CodeFollowing.{followed_project}
use Rattle.meson_steps.specs.ListSteps.{bare}
use Rattle.meson_followed.specs.CodeRemovals.{removal_view}
use Rattle.meson_followed.specs.CodeRenamings.{written_for}
use Rattle.meson_followed.specs.Renaming.{renamed_steps}
use Rattle.meson_followed.proofs.renaming.renamed_steps.Given as goal

abbrev pub invariant-loop-i : goal.invariant-loop-i
invariant-loop-i l = record {
  steps : map Some l.steps.items ++ map bare (renamed_steps (followed_project l.follower) l.number l.new (map removal_view (drop l.i l.found)))
      ≡ map bare (renamed_steps (followed_project l.follower) l.number l.new (map removal_view l.found));
  utf8 : All IsUtf8 (written_for (followed_project l.follower) l.number l.new (map removal_view (take l.i l.found)));
}
