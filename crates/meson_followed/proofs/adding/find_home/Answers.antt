use Rattle.std.proofs.Common.{◌≡◌, refl, rules, sym, ap, subst, ◌∙◌}
use Rattle.std.specs.Prelude.{Bool, Option, Some, None, IfOk, false, true}
use Rattle.meson_calls.specs.declared.call.CallRef.{CallRef}
use Rattle.meson_following.specs.CodeFollowing.{followed_project}
use Rattle.meson_sharing.specs.CodeOwning.{is_closed_by}
use Rattle.meson_followed.specs.Homes.{Homes, any_home, best_home, by_maker}
use Rattle.meson_followed.proofs.AddedSources.{home_found}
use Rattle.meson_followed.proofs.adding.find_home.Goals as goal

-- the best list by a test
abbrev best : (CallRef → Bool) → Homes → Option CallRef
best test hs = best_home (λ h. by_maker test h.maker) hs

pub returns-in-Some : goal.returns-in-Some
returns-in-Some c =
    let test = λ (uses : Bool). is_closed_by (followed_project c.args.follower.now) uses c.args.followed.now c.args.ways.now in
    let own = sym c.in-Some.is ∙ c.in_ok-list.ensures ∙ ap (best (test false)) c.in_ok-homes.ensures in
    home_found (test false) (test true) c.args.shared c.args.call.now _ (Some c.in-Some.list) _ _ own refl refl

pub returns-in-Some-2 : goal.returns-in-Some-2
returns-in-Some-2 c =
    let test = λ (uses : Bool). is_closed_by (followed_project c.args.follower.now) uses c.args.followed.now c.args.ways.now in
    let missed : c.in_ok-list.field-0 ≡ None = search rules in
    let own = sym missed ∙ c.in_ok-list.ensures ∙ ap (best (test false)) c.in_ok-homes.ensures in
    let unshared = sym c.in-Some-2.is ∙ c.in_ok-list-2.ensures ∙ ap (best (test true)) c.in_ok-homes.ensures in
    home_found (test false) (test true) c.args.shared c.args.call.now _ None (Some c.in-Some-2.list) _ own unshared refl

pub returns-in-Some-3 : goal.returns-in-Some-3
returns-in-Some-3 c =
    let test = λ (uses : Bool). is_closed_by (followed_project c.args.follower.now) uses c.args.followed.now c.args.ways.now in
    let missed : c.in_ok-list.field-0 ≡ None = search rules in
    let missed_too : c.in_ok-list-2.field-0 ≡ None = search rules in
    let own = sym missed ∙ c.in_ok-list.ensures ∙ ap (best (test false)) c.in_ok-homes.ensures in
    let unshared = sym missed_too ∙ c.in_ok-list-2.ensures ∙ ap (best (test true)) c.in_ok-homes.ensures in
    let any = sym c.in-Some-3.is ∙ c.in_ok-list-3.ensures ∙ ap (any_home c.args.shared) c.in_ok-homes.ensures in
    home_found (test false) (test true) c.args.shared c.args.call.now _ None None (Some c.in-Some-3.list) own unshared any

pub returns : goal.returns
returns c =
    let test = λ (uses : Bool). is_closed_by (followed_project c.args.follower.now) uses c.args.followed.now c.args.ways.now in
    let missed : c.in_ok-list.field-0 ≡ None = search rules in
    let missed_too : c.in_ok-list-2.field-0 ≡ None = search rules in
    let missed_all : c.in_ok-list-3.field-0 ≡ None = search rules in
    let own = sym missed ∙ c.in_ok-list.ensures ∙ ap (best (test false)) c.in_ok-homes.ensures in
    let unshared = sym missed_too ∙ c.in_ok-list-2.ensures ∙ ap (best (test true)) c.in_ok-homes.ensures in
    let any = sym missed_all ∙ c.in_ok-list-3.ensures ∙ ap (any_home c.args.shared) c.in_ok-homes.ensures in
    subst (λ x. IfOk c.copy_place.result (λ list. list ≡ x))
    (home_found (test false) (test true) c.args.shared c.args.call.now _ None None None own unshared any) c.copy_place.ensures
