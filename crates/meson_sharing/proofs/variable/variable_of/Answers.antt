use Rattle.std.proofs.Common.{◌≡◌, ◌+◌, ◌-◌, ◌<◌, length, take, get_or, sym, ap, ◌∙◌, subst, arith}
use Rattle.meson_calls.specs.Project.{place}
use Rattle.meson_following.specs.CodeFollowing.{followed_project}
use Rattle.meson_sharing.specs.CodeOwning.{name_there}
use Rattle.meson_sharing.proofs.AssignedValues.{first_child, name_there_is, other_child_not_assigned, short_not_assigned}
use Rattle.meson_sharing.proofs.variable.variable_of.Goals as goal

pub returns-then-steps-lt2 : goal.returns-then-steps-lt2
returns-then-steps-lt2 c =
    short_not_assigned (followed_project c.args.follower.now) c.args.maker.now (subst (λ path. length path < 2) c.get-steps.ensures c.if-steps-lt2.true)

pub returns-then-steps-above-ne0 : goal.returns-then-steps-above-ne0
returns-then-steps-above-ne0 c =
    let steps = c.get-steps.result.now in
    let above = length steps - 2 in
    let some = c.if-steps-lt2.false in
    let long : length steps ≡ above + 2 = omega (arith, some) in
    other_child_not_assigned (followed_project c.args.follower.now) c.args.maker.now above (subst (λ path. length path ≡ above + 2) c.get-steps.ensures long)
    (λ is. c.if-steps-above-ne0.true (ap (λ path. get_or path (above + 1) 0) c.get-steps.ensures ∙ is))

pub returns : goal.returns
returns c =
    let p = followed_project c.args.follower.now in
    let m = c.args.maker.now in
    let steps = c.get-steps.result.now in
    let above = length steps - 2 in
    let some = c.if-steps-lt2.false in
    let long : length steps ≡ above + 2 = omega (arith, some) in
    let first : get_or m.path.steps (above + 1) 0 ≡ 0 = ap (λ path. get_or path (above + 1) 0) (sym c.get-steps.ensures) ∙ c.if-steps-above-ne0.false in
    c.name_there.ensures
    ∙ ap (λ b. name_there p b (get_or steps above 0)) c.in_ok-block.ensures
    ∙ ap (λ path. name_there p (place m.file (take above path)) (get_or path above 0)) c.get-steps.ensures
    ∙ name_there_is p (place m.file (take above m.path.steps)) (get_or m.path.steps above 0) m
    (first_child m above (subst (λ path. length path ≡ above + 2) c.get-steps.ensures long) first)
