use Rattle.std.proofs.Common.{◌≡◌, ◌+◌, ◌++◌, ◌∷◌, [], map, suc, sym, ap, ◌∙◌, add-one}
use Rattle.std.specs.Prelude.{Some}
use Rattle.std.proofs.lemmas.Result.{on_ok_weaker}
use Rattle.meson_steps.specs.ListSteps.{bare}
use Rattle.meson_steps.specs.OrderedLists.{put_after, put_steps}
use Rattle.meson_steps.proofs.ordered_list.OrderedList.push_steps.Goals as goal

pub returns-in-After : goal.returns-in-After
returns-in-After c = λ o is w same.
    let list = c.args.list.now in
    let n = c.in-After.n in
    let from = c.args.self.now.from in
    let number : (from + n) + 1 ≡ suc (o.from + n) = add-one (from + n) ∙ ap (λ f. suc (f + n)) is.from in
    let steps : put_after list ((from + n) + 1) w ∷ [] ≡ put_steps list o c.args.at w = ap (λ m. put_after list m w ∷ []) number ∙ ap (λ p. put_steps list o p w) (sym c.in-After.is) in
    on_ok_weaker c.push_after-in-After.result (λ h. h ∙ ap (λ l. map Some c.args.steps.now.items ++ map bare l) steps) (c.push_after-in-After.ensures w same)
