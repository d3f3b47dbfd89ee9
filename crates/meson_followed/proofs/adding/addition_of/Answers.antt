use Rattle.std.proofs.Common.{◌≡◌, List, [], ◌∷◌, length, map, arith, refl, ap, ◌∙◌}
use Rattle.std.specs.Prelude.{true, false}
use Rattle.meson_calls.specs.ChosenNotes.{placed_call}
use Rattle.meson_following.specs.CodeFollowing.{followed_project, mark_view}
use Rattle.meson_sharing.specs.Sharing.{is_own, is_unshared}
use Rattle.meson_sharing.proofs.OwnMakers.{closed}
use Rattle.meson_followed.specs.CodeEdits.{met_view}
use Rattle.meson_followed.specs.FollowedEdits.{new_sources}
use Rattle.meson_followed.specs.Homes.{home_by, homes_of}
use Rattle.meson_followed.specs.Sources.{sources_of}
use Rattle.meson_followed.proofs.AddedSources.{home_alike}
use Rattle.meson_followed.proofs.adding.addition_of.Goals as goal

nothing_named : {X Y : Type 0} (f : X → Y) (xs : List X) → length xs ≡ 0 → map f xs ≡ []
nothing_named f [] none = refl
nothing_named f (x ∷ xs) none = absurd (omega (arith, none))

pub returns : goal.returns
returns c = λ function.
    let p = followed_project c.args.follower.now in
    let q = c.args.call.now in
    let it = placed_call q function c.args.source.now c.args.arguments.now in
    let marks = ap (map mark_view) c.as_slice-marks.ensures.value ∙ c.in_ok-found.ensures.marks function in
    let followed = c.as_slice-followed.ensures.value ∙ c.in_ok-found.ensures.followed function in
    let ways = c.as_slice-2.ensures.value ∙ c.in_ok-ways.ensures function in
    let names = c.args.names.now in
    record {
      is_list = λ some. c.in_ok-list-2.ensures
          ∙ home_alike _ _ (is_own p it) (is_unshared p it) c.args.shared q (homes_of q.file (map mark_view c.as_slice-marks.result.now))
          (λ m. closed p it false m _ _ followed ways) (λ m. closed p it true m _ _ followed ways)
          ∙ ap (λ ms. home_by (is_own p it) (is_unshared p it) c.args.shared q (homes_of q.file ms)) marks;
      are_new = c.in_ok-new.ensures ∙ ap (λ ss. new_sources p q.file (map met_view ss) names) c.as_slice.ensures.value
          ∙ ap (λ ss. new_sources p q.file ss names) (c.in_ok-sources.ensures ∙ ap (sources_of p q.file) marks);
    }

pub returns-then-is_empty : goal.returns-then-is_empty
returns-then-is_empty c = λ function.
    let p = followed_project c.args.follower.now in
    let q = c.args.call.now in
    let marks = ap (map mark_view) c.as_slice-marks.ensures.value ∙ c.in_ok-found.ensures.marks function in
    let names = c.args.names.now in
    let none : length c.in_ok-new.new.items ≡ 0 = grind (arith, c.is_empty.ensures, c.if-is_empty.true) in
    record {
      is_list = λ some. absurd (some (nothing_named _ c.in_ok-new.new.items none));
      are_new = c.in_ok-new.ensures ∙ ap (λ ss. new_sources p q.file (map met_view ss) names) c.as_slice.ensures.value
          ∙ ap (λ ss. new_sources p q.file ss names) (c.in_ok-sources.ensures ∙ ap (sources_of p q.file) marks);
    }
