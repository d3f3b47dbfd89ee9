use Rattle.std.proofs.Common.{refl, ap, ◌∙◌}
use Rattle.meson_following.specs.CodeFollowing.{followed_project}
use Rattle.meson_following.specs.Flows.{flow_project}
use Rattle.meson_following.specs.Walks.{nothing_found}
use Rattle.meson_following.proofs.ReadAnswers.{all_read}
use Rattle.meson_following.proofs.follower.Follower.reads_of_variable.Goals as goal

pub returns : goal.returns
returns c =
    let x = c.args.variable.now in
    ap (λ f. f.reads) c.in_ok-reads.ensures ∙ all_read x c.args.makers nothing_found (flow_project (followed_project c.args.self.now) x).arrivals refl
