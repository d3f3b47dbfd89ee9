use Rattle.std.proofs.Common.{◌≡◌, ◌+◌, [], ◌∷◌, ◌++◌, drop, get_or, map, rules, sym, ap, ap₂, ◌∙◌}
use Rattle.std.specs.Prelude.{false, true}
use Rattle.std.proofs.lemmas.List.{map-append}
use Rattle.meson_calls.specs.Roles.{one_of}
use Rattle.meson_following.specs.CodeFollowing.{followed_project}
use Rattle.meson_followed.specs.CodeEdits.{name_now, path_now}
use Rattle.meson_followed.specs.Sources.{distinct_paths_by, named_path}
use Rattle.meson_followed.proofs.NamedPaths.{path_is_new, path_is_seen}
use Rattle.meson_followed.proofs.named.distinct_paths.Goals as goal
use Rattle.meson_followed.proofs.named.distinct_paths.Goals.{then-not-has_path+in_ok-push, else-not-has_path}

pub loop-i-preserved : goal.loop-i-preserved
loop-i-preserved c =
    let p = followed_project c.args.follower.now in
    let n = c.args.number in
    let names = c.args.names.now in
    let i = c.loop-i.i in
    let d = c.index-names-i.result in
    let here = get_or names i d in
    let old = c.loop-i.all.items in
    let all = map name_now old in
    let paths = map path_now old in
    let is_path : c.in_ok-path.path ≡ named_path p n here = c.in_ok-path.ensures ∙ ap (named_path p n) (c.get.ensures ∙ c.index-names-i.is) in
    let test = c.has_path.ensures ∙ ap (λ xs. one_of (map path_now xs) c.in_ok-path.path) c.as_slice.ensures.value ∙ ap (one_of paths) is_path in
    elim c.if-not-has_path.branch [
      | then-not-has_path+in_ok-push w ↦
          (let unseen : c.has_path.result ≡ false = search rules in
          let names_are = ap (λ v. map name_now v.items) w.all-is ∙ ap (map name_now) w.in_ok-push.ensures.items ∙ map-append name_now old _
          ∙ ap (λ x. all ++ x ∷ []) c.index-names-i.is in
          let paths_are = ap (λ v. map path_now v.items) w.all-is ∙ ap (map path_now) w.in_ok-push.ensures.items ∙ map-append path_now old _
          ∙ ap (λ x. paths ++ x ∷ []) is_path in (
            ap₂ (λ a q. a ++ distinct_paths_by p n q (drop (i + 1) names)) names_are paths_are
                ∙ path_is_new p n names i d c.loop-i-test.true all paths (sym test ∙ unseen) ∙ c.loop-i.invariant.0,
            paths_are ∙ ap (λ q. q ++ named_path p n here ∷ []) c.loop-i.invariant.1 ∙ sym (map-append (named_path p n) all (here ∷ []))
                ∙ sym (ap (map (named_path p n)) names_are),
          ))
      | else-not-has_path w ↦
          (let seen : c.has_path.result ≡ true = search rules in (
            ap (λ v. map name_now v.items ++ distinct_paths_by p n (map path_now v.items) (drop (i + 1) names)) w.all-is
                ∙ path_is_seen p n names i d c.loop-i-test.true all paths (sym test ∙ seen) ∙ c.loop-i.invariant.0,
            ap (λ v. map path_now v.items) w.all-is ∙ c.loop-i.invariant.1 ∙ sym (ap (λ v. map (named_path p n) (map name_now v.items)) w.all-is),
          ))
    ]
