use Rattle.std.proofs.Common.{◌≡◌, sym, ap, ◌∙◌, subst}
use Rattle.std.specs.Prelude.{All}
use Rattle.std.specs.Str.{IsUtf8}
use Rattle.std.proofs.lemmas.Result.{IfOk-weaker}
use Rattle.meson_splice.specs.Patch.{then_ok}
use Rattle.meson_calls.specs.Loading.{project}
use Rattle.meson_places.specs.Arguments.{last_key}
use Rattle.meson_places.specs.Names.{loaded_in}
use Rattle.meson_places.specs.Slots.{the_slot}
use Rattle.meson_places.proofs.Refused.{refused_as}
use Rattle.meson_followed_values.specs.Followed.{followed_steps, named_steps, steps_of}
use Rattle.meson_followed_values.proofs.Changed.{followed_steps_are_doable}
use Rattle.meson_followed_values.proofs.followed.followed_steps.Goals as goal

pub returns-clause-plan : goal.returns-clause-plan
returns-clause-plan c = λ may.
    let l = loaded_in c.args.sources in
    let n = c.args.name.now in
    let ch = c.args.change.now in
    let s = c.in_ok-slot.slot in
    let found = ap (the_slot (project l) c.in_ok-place.place) (sym c.get-keys.ensures) ∙ c.in_ok-slot.ensures.found in
    let same : followed_steps l n ch may ≡ steps_of l c.in_ok-key.key n ch may s =
    ap (λ r. then_ok r (λ p. then_ok (the_slot (project l) p n.keys) (λ t. named_steps l n (last_key n.keys) ch may t))) c.in_ok-place.ensures.found
    ∙ ap (λ r. then_ok r (λ t. named_steps l n (last_key n.keys) ch may t)) found
    ∙ ap (λ k. named_steps l n k ch may s) (ap last_key (sym c.get-keys.ensures) ∙ sym c.in_ok-key.ensures.last)
    ∙ ap (λ r. then_ok r (λ _. steps_of l c.in_ok-key.key n ch may s)) c.in_ok-checked_name.ensures.checked in
    let texts : All IsUtf8 n.keys = subst (All IsUtf8) c.get-keys.ensures c.in_ok-key.ensures.texts in
    IfOk-weaker c.steps_of.result _ _
    (λ code m. record {
      steps = m.steps;
      are_planned = same ∙ m.is;
      are_doable = record { bare = m.bare; doable = followed_steps_are_doable l c.requires n texts ch may m.steps (same ∙ m.is) };
    }) (c.steps_of.ensures.meant may)

pub returns-clause-refused : goal.returns-clause-refused
returns-clause-refused c = λ may.
    let l = loaded_in c.args.sources in
    let n = c.args.name.now in
    let ch = c.args.change.now in
    let s = c.in_ok-slot.slot in
    let found = ap (the_slot (project l) c.in_ok-place.place) (sym c.get-keys.ensures) ∙ c.in_ok-slot.ensures.found in
    let same : followed_steps l n ch may ≡ steps_of l c.in_ok-key.key n ch may s =
    ap (λ r. then_ok r (λ p. then_ok (the_slot (project l) p n.keys) (λ t. named_steps l n (last_key n.keys) ch may t))) c.in_ok-place.ensures.found
    ∙ ap (λ r. then_ok r (λ t. named_steps l n (last_key n.keys) ch may t)) found
    ∙ ap (λ k. named_steps l n k ch may s) (ap last_key (sym c.get-keys.ensures) ∙ sym c.in_ok-key.ensures.last)
    ∙ ap (λ r. then_ok r (λ _. steps_of l c.in_ok-key.key n ch may s)) c.in_ok-checked_name.ensures.checked in
    refused_as c.steps_of.result (followed_steps l n ch may) (steps_of l c.in_ok-key.key n ch may s) same (c.steps_of.ensures.refused may)
