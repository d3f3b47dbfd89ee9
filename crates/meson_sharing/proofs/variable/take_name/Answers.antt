use Rattle.std.proofs.Common.{◌≡◌, [], ◌∷◌, ◌++◌, Some, false, map, option_map, true, sym, ap, ◌∙◌}
use Rattle.std.specs.Prelude.{if◌then◌else◌}
use Rattle.std.proofs.lemmas.List.{map-append}
use Rattle.meson_calls.specs.Roles.{one_of}
use Rattle.meson_calls.specs.Setters.{is_among}
use Rattle.meson_following.specs.CodeFollowing.{followed_project}
use Rattle.meson_sharing.specs.CodeOwning.{with_name}
use Rattle.meson_sharing.specs.Sharing.{variable_of}
use Rattle.meson_sharing.proofs.OwnMakers.{among_names}
use Rattle.meson_sharing.proofs.variable.take_name.Goals as goal

pub returns-then-is_among : goal.returns-then-is_among
returns-then-is_among c =
    let p = followed_project c.args.follower.now in
    let it = c.in-Some.name.now in
    let names = map (λ x. x.now) c.args.names.now.items in
    let is : Some it ≡ variable_of p c.args.maker.now = ap (option_map (λ x. x.now)) (sym c.in-Some.is) ∙ c.in_ok-name.ensures in
    let met : one_of names it ≡ true =
    sym (c.is_among.ensures ∙ ap (λ xs. is_among xs it) c.as_slice.ensures.value ∙ among_names c.args.names.now.items it) ∙ c.if-is_among.true in
    ap (λ b. if b then names else names ++ it ∷ []) (sym met) ∙ ap (with_name names) is

pub returns : goal.returns
returns c =
    let p = followed_project c.args.follower.now in
    let it = c.in-Some.name.now in
    let names = map (λ x. x.now) c.args.names.now.items in
    let is : Some it ≡ variable_of p c.args.maker.now = ap (option_map (λ x. x.now)) (sym c.in-Some.is) ∙ c.in_ok-name.ensures in
    let new : one_of names it ≡ false =
    sym (c.is_among.ensures ∙ ap (λ xs. is_among xs it) c.as_slice.ensures.value ∙ among_names c.args.names.now.items it) ∙ c.if-is_among.false in
    ap (map (λ x. x.now)) c.in_ok-push.ensures.items
    ∙ map-append (λ x. x.now) c.args.names.now.items (c.in-Some.name ∷ [])
    ∙ ap (λ b. if b then names else names ++ it ∷ []) (sym new)
    ∙ ap (with_name names) is
