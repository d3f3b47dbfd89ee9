use Rattle.std.proofs.Common.{◌≡◌, [], ◌∷◌, ◌++◌, map, ap, sym, ◌∙◌}
use Rattle.std.specs.Prelude.{true, if◌then◌else◌}
use Rattle.std.proofs.lemmas.List.{map-append}
use Rattle.meson_syntax.specs.View.{text_at}
use Rattle.meson_calls.specs.declared.call.Role.TheVariants as role
use Rattle.meson_calls.specs.ChosenNotes.{note_has_role, placed_call}
use Rattle.meson_calls.specs.Notes.{a_call, note_view, what_view}
use Rattle.meson_calls.specs.Project.{place_at}
use Rattle.meson_calls.specs.Roles.{has_role}
use Rattle.meson_following.specs.CodeFollowing.{followed_project}
use Rattle.meson_sharing.specs.CodeTargets.{target_of, target_view, targets_at, targets_of_note}
use Rattle.meson_sharing.proofs.targets.take_target.Goals as goal

pub returns-in_ok-push-in-Call : goal.returns-in_ok-push-in-Call
returns-in_ok-push-in-Call c =
    let p = followed_project c.args.follower.now in
    let n = c.args.note.now in
    let it = c.in-Call in
    let source = n.source.now in
    let function = text_at source it.function in
    let call = placed_call (place_at n.place) function source it.arguments.now in
    let before = c.args.found.now.items in
    let target = c.in_ok-target_of-in-Call.field-0 in
    let what : what_view source n.what ≡ a_call call.it = ap (what_view source) it.is in
    let has : has_role role.Target call.it ≡ true =
    ap (note_has_role role.Target) (sym what) ∙ sym c.note_has_role.ensures ∙ c.if-not-note_has_role.false in
    let taken : targets_of_note p (note_view n) ≡ target_of p call ∷ [] =
    ap (targets_at p (place_at n.place)) what ∙ ap (λ b. if b then target_of p call ∷ [] else []) has in
    let value : target_view target ≡ target_of p call =
    c.in_ok-target_of-in-Call.ensures function ∙ ap (λ q. target_of p (placed_call q function source it.arguments.now)) c.in_ok-place-in-Call.ensures in
    ap (map target_view) c.in_ok-push-in-Call.ensures.items
    ∙ map-append target_view before (target ∷ [])
    ∙ ap (λ t. map target_view before ++ t ∷ []) value
    ∙ ap (λ ts. map target_view before ++ ts) (sym taken)
