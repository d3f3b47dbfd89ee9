use Rattle.std.proofs.Common.{◌≡◌, length, sym, ap, ◌∙◌, subst, arith}
use Rattle.std.proofs.lemmas.Result.{IfOk-weaker}
use Rattle.meson_calls.specs.Loading.{project}
use Rattle.meson_steps.specs.Meanings.{AreMeant}
use Rattle.meson_places.specs.AllAssigned.{replace_each}
use Rattle.meson_places.specs.Replacements.{exchange, exchange_steps}
use Rattle.meson_places.proofs.Meant.{made_fine, made_refused}
use Rattle.meson_places.proofs.Refused.{refused_as}
use Rattle.meson_followed_values.specs.CodeFollower.{loaded_in}
use Rattle.meson_followed_values.specs.Followed.{losing, replaced_for}
use Rattle.meson_followed_values.proofs.FollowedSteps.{replaced_alone, replaced_each}
use Rattle.meson_followed_values.proofs.followed.replace_followed.Goals as goal

pub returns-then-is_empty-clause-meant : goal.returns-then-is_empty-clause-meant
returns-then-is_empty-clause-meant c = λ may.
    let l = loaded_in c.args.follower.now in
    let key = c.args.key.now in
    let s = c.args.slot.now in
    let old = c.args.pair.old.now in
    let new = c.args.pair.new.now in
    let cs = c.in_ok-places.places.items in
    let found = ap (λ hs. losing l.files (project l) hs s) (sym c.from_ref.ensures.value) ∙ c.in_ok-places.ensures.found in
    let none : length cs ≡ 0 = grind (arith, c.is_empty.ensures, c.if-is_empty.true) in
    IfOk-weaker c.replace_steps.result _ _ (λ steps m. subst (λ r. AreMeant r steps.items) (sym (replaced_alone l key s old new may cs found none)) m)
    (made_fine _ _ c.replace_steps.result (c.replace_steps.ensures.made may))

pub returns-then-is_empty-clause-refused : goal.returns-then-is_empty-clause-refused
returns-then-is_empty-clause-refused c = λ may.
    let l = loaded_in c.args.follower.now in
    let key = c.args.key.now in
    let s = c.args.slot.now in
    let old = c.args.pair.old.now in
    let new = c.args.pair.new.now in
    let cs = c.in_ok-places.places.items in
    let found = ap (λ hs. losing l.files (project l) hs s) (sym c.from_ref.ensures.value) ∙ c.in_ok-places.ensures.found in
    let none : length cs ≡ 0 = grind (arith, c.is_empty.ensures, c.if-is_empty.true) in
    refused_as c.replace_steps.result (replaced_for l key old new may s) (exchange_steps l (exchange old new may) key s) (replaced_alone l key s old new may cs found none)
    (made_refused _ _ c.replace_steps.result (c.replace_steps.ensures.made may))

pub returns-clause-meant : goal.returns-clause-meant
returns-clause-meant c = λ may.
    let l = loaded_in c.args.follower.now in
    let key = c.args.key.now in
    let s = c.args.slot.now in
    let old = c.args.pair.old.now in
    let new = c.args.pair.new.now in
    let cs = c.in_ok-places.places.items in
    let found = ap (λ hs. losing l.files (project l) hs s) (sym c.from_ref.ensures.value) ∙ c.in_ok-places.ensures.found in
    let same : replaced_for l key old new may s ≡ replace_each l key (exchange old new may) c.as_slice.result.now =
    replaced_each l key s old new may cs found (λ none. let no : ⊥ = grind (arith, c.is_empty.ensures, c.if-is_empty.false, none) in no)
    ∙ ap (replace_each l key (exchange old new may)) (sym c.as_slice.ensures.value) in
    IfOk-weaker c.replace_each.result _ _ (λ steps m. subst (λ r. AreMeant r steps.items) (sym same) m) (made_fine _ _ c.replace_each.result (c.replace_each.ensures.made may))

pub returns-clause-refused : goal.returns-clause-refused
returns-clause-refused c = λ may.
    let l = loaded_in c.args.follower.now in
    let key = c.args.key.now in
    let s = c.args.slot.now in
    let old = c.args.pair.old.now in
    let new = c.args.pair.new.now in
    let cs = c.in_ok-places.places.items in
    let found = ap (λ hs. losing l.files (project l) hs s) (sym c.from_ref.ensures.value) ∙ c.in_ok-places.ensures.found in
    let same : replaced_for l key old new may s ≡ replace_each l key (exchange old new may) c.as_slice.result.now =
    replaced_each l key s old new may cs found (λ none. let no : ⊥ = grind (arith, c.is_empty.ensures, c.if-is_empty.false, none) in no)
    ∙ ap (replace_each l key (exchange old new may)) (sym c.as_slice.ensures.value) in
    refused_as c.replace_each.result (replaced_for l key old new may s) (replace_each l key (exchange old new may) c.as_slice.result.now) same
    (made_refused _ _ c.replace_each.result (c.replace_each.ensures.made may))
