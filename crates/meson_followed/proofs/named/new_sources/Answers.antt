use Rattle.std.proofs.Common.{map, ap, ◌∙◌}
use Rattle.std.specs.Prelude.{filter}
use Rattle.meson_following.specs.CodeFollowing.{followed_project}
use Rattle.meson_followed.specs.CodeEdits.{is_missing, met_view, name_now}
use Rattle.meson_followed.proofs.NamedPaths.{new_sources_are}
use Rattle.meson_followed.proofs.named.new_sources.Goals as goal

pub returns : goal.returns
returns c =
    let p = followed_project c.args.follower.now in
    let sources = map met_view c.args.sources.now in
    c.in_ok-new.ensures ∙ ap (λ xs. map name_now (filter (is_missing sources) xs)) c.as_slice.ensures.value
    ∙ new_sources_are p c.args.number sources c.args.names.now c.in_ok-named.named.items c.in_ok-named.ensures
