use Rattle.std.proofs.Common.{◌≡◌, sym, ◌∙◌}
use Rattle.std.specs.Prelude.{Bool, true, false, not}
use Rattle.meson_followed.proofs.SharedParts.{parts_differ, path_ends}
use Rattle.meson_followed.proofs.ways.shared_len.Goals as goal
use Rattle.meson_followed.proofs.ways.shared_len.Goals.{then-i-path-via-then-i-path, then-i-path-via-else-i-path+then-ne}

is_not : (b : Bool) → not b ≡ true → b ≡ false
is_not true is = absurd cc
is_not false is = cc

pub returns-then-i-path-clause-way : goal.returns-then-i-path-clause-way
returns-then-i-path-clause-way c =
    let folder = c.args.folder.now in
    let path = c.args.path.now in
    let i = c.loop-i.i in
    elim c.then-i-path.branch [
      | then-i-path-via-then-i-path w ↦ sym c.loop-i.invariant.way ∙ path_ends (λ x. x.now) folder path i w.if-i-path.true
      | then-i-path-via-else-i-path+then-ne w ↦
          sym c.loop-i.invariant.way
          ∙ parts_differ (λ x. x.now) folder path i _ _ c.loop-i-test.true w.if-i-path.false (is_not _ (sym w.ne.ensures ∙ w.if-ne.true))
    ]
