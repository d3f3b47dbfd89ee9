use Rattle.std.proofs.Common.{ap, refl, ◌∙◌}
use Rattle.std.specs.Prelude.{true, None, Some}
use Rattle.meson_calls.specs.Calls.{value_with_name}
use Rattle.meson_calls.specs.NamedArguments.{kept_args}
use Rattle.meson_calls.specs.Project.{place}
use Rattle.meson_following.specs.declared.site.Site.{Site}
use Rattle.meson_following.specs.CodeArguments.{values_met}
use Rattle.meson_following.specs.CodeFollowing.{following_view}
use Rattle.meson_following.specs.Following.{Way, then_follow}
use Rattle.meson_following.proofs.MetArguments.{both_met}
use Rattle.meson_following.proofs.follower.Follower.meet_sources.Goals as goal

pub returns : goal.returns
returns c =
    let source = c.args.source.now in
    let args = c.args.args.now in
    let call = c.args.call.now in
    let s : Site = record {
      follower = c.args.self.now;
      left = 64;
      file = call.file;
      source = c.args.source;
      route = record { sure = true; files = None; through = c.as_slice.result };
    } in
    let steps = c.in_ok-path.path.items in
    let through = c.as_slice.ensures.value ∙ c.new-through.ensures.items in
    let on_way = ap (λ ts. let w : Way = record { sure = true; files = None; through = ts } in w) through in
    let here = ap (place call.file) (c.in_ok-path.ensures.items ∙ c.get.ensures) in
    let f = following_view c.new-found.result in
    let g = following_view c.meet_arguments.new.found in
    let nameds =
    c.in_ok-meet_arguments-2.ensures.all
    ∙ ap (λ at_. then_follow g (values_met s (place call.file at_) (Some c.as_slice-2.result.now) (kept_args source (value_with_name c.as_slice-2.result.now) 0 args)))
    c.in_ok-meet_arguments.ensures.back
    ∙ ap (λ key. then_follow g (values_met s (place call.file steps) (Some key) (kept_args source (value_with_name key) 0 args))) c.as_slice-2.ensures in
    both_met s call steps source args c.behind_first.result f g (following_view c.meet_arguments-2.new.found) refl on_way here c.new-found.ensures
    c.in_ok-meet_arguments.ensures.all (c.behind_first.ensures.others source) nameds
