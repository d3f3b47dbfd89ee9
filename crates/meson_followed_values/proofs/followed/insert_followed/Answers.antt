use Rattle.std.proofs.Common.{◌≡◌, sym, ap, ◌∙◌, subst}
use Rattle.std.proofs.lemmas.Result.{IfOk-weaker}
use Rattle.meson_calls.specs.Loading.{project}
use Rattle.meson_steps.specs.Meanings.{AreMeant}
use Rattle.meson_places.specs.Insertions.{insert_steps}
use Rattle.meson_places.proofs.Meant.{made_fine, made_refused}
use Rattle.meson_places.proofs.Refused.{refused_as}
use Rattle.meson_followed_values.specs.CodeFollower.{loaded_in}
use Rattle.meson_followed_values.specs.Followed.{inserted_for, losing, slot_first}
use Rattle.meson_followed_values.proofs.FollowedSteps.{inserted_is}
use Rattle.meson_followed_values.proofs.followed.insert_followed.Goals as goal

pub returns-clause-meant : goal.returns-clause-meant
returns-clause-meant c = λ may.
    let l = loaded_in c.args.follower.now in
    let key = c.args.key.now in
    let s = c.args.slot in
    let g = c.args.new.after.now in
    let gs = c.args.new.values.now in
    let found = ap (λ hs. losing l.files (project l) hs s) (sym c.from_ref.ensures.value) ∙ c.in_ok-places.ensures.found in
    let at_ = c.in_ok-slot.ensures ∙ ap (slot_first s) c.as_slice.ensures.value in
    let same : inserted_for l key g gs may s ≡ insert_steps l g gs may key c.in_ok-slot.slot =
    inserted_is l key s g gs may c.in_ok-places.places.items found ∙ ap (insert_steps l g gs may key) (sym at_) in
    IfOk-weaker c.insert_steps.result _ _ (λ steps m. subst (λ r. AreMeant r steps.items) (sym same) m) (made_fine _ _ c.insert_steps.result (c.insert_steps.ensures.made may))

pub returns-clause-refused : goal.returns-clause-refused
returns-clause-refused c = λ may.
    let l = loaded_in c.args.follower.now in
    let key = c.args.key.now in
    let s = c.args.slot in
    let g = c.args.new.after.now in
    let gs = c.args.new.values.now in
    let found = ap (λ hs. losing l.files (project l) hs s) (sym c.from_ref.ensures.value) ∙ c.in_ok-places.ensures.found in
    let at_ = c.in_ok-slot.ensures ∙ ap (slot_first s) c.as_slice.ensures.value in
    let same : inserted_for l key g gs may s ≡ insert_steps l g gs may key c.in_ok-slot.slot =
    inserted_is l key s g gs may c.in_ok-places.places.items found ∙ ap (insert_steps l g gs may key) (sym at_) in
    refused_as c.insert_steps.result (inserted_for l key g gs may s) (insert_steps l g gs may key c.in_ok-slot.slot) same
    (made_refused _ _ c.insert_steps.result (c.insert_steps.ensures.made may))
