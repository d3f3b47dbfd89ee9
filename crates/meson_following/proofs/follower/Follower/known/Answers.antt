use Rattle.std.proofs.Common.{ap, ◌∙◌}
use Rattle.meson_following.specs.CodeFollowing.{followed_project}
use Rattle.meson_following.specs.Flows.{flow_project}
use Rattle.meson_following.specs.Walks.{nothing_found}
use Rattle.meson_following.proofs.ReadAnswers.{known_met}
use Rattle.meson_following.proofs.follower.Follower.known.Goals as goal

pub returns : goal.returns
returns c =
    let x = c.args.variable.now in
    ap (λ f. f.known) c.in_ok-known.ensures ∙ known_met x c.args.place nothing_found (flow_project (followed_project c.args.self.now) x).arrivals
