use Rattle.std.proofs.Common.{◌+◌, ◌++◌, drop, sym, ap, ◌∙◌}
use Rattle.std.specs.List.{filter_map}
use Rattle.meson_calls.specs.Loading.{project}
use Rattle.meson_followed_values.specs.Choices.{gaining_value}
use Rattle.meson_followed_values.specs.CodeFollower.{loaded_in}
use Rattle.meson_followed_values.proofs.Gathered.{with_none, with_one}
use Rattle.meson_followed_values.proofs.choices.values_of_all.Goals as goal
use Rattle.meson_followed_values.proofs.choices.values_of_all.Goals.{in-Some+in_ok-push, in_default}

pub loop-i-preserved : goal.loop-i-preserved
loop-i-preserved c =
    let l = loaded_in c.args.follower.now in
    let one = gaining_value l.files (project l) c.args.values.now in
    let vs = c.args.variables.now in
    let i = c.loop-i.i in
    let v = c.index-variables-i.result in
    let here = sym c.index-variables-i.is in
    let found = c.loop-i.found.items in
    let rest = filter_map one (drop (i + 1) vs) in
    elim c.match-branch-2.branch [
      | in-Some+in_ok-push w ↦
          ap (λ cs. cs ++ rest) (ap (λ cs. cs.items) w.found-is ∙ w.in_ok-push.ensures.items)
          ∙ with_one one vs i v c.loop-i-test.true here w.in-Some.place (sym c.in_ok-place.ensures ∙ w.in-Some.is) found
          ∙ c.loop-i.invariant
      | in_default w ↦
          ap (λ cs. cs.items ++ rest) w.found-is
          ∙ with_none one vs i v c.loop-i-test.true here (sym c.in_ok-place.ensures ∙ w.in_default.is) found
          ∙ c.loop-i.invariant
    ]
