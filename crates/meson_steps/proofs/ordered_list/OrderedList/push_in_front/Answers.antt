use Rattle.std.proofs.Common.{◌≡◌, ◌++◌, ◌∷◌, [], map, suc, sym, ap, ◌∙◌, add-one}
use Rattle.std.specs.Prelude.{Some, option_map}
use Rattle.std.proofs.lemmas.Result.{on_ok_weaker}
use Rattle.meson_edit.specs.Edits.{Replace}
use Rattle.meson_steps.specs.ListSteps.{bare}
use Rattle.meson_steps.specs.OrderedLists.{put_after}
use Rattle.meson_steps.specs.Steps.{step_in}
use Rattle.meson_steps.proofs.OrderedKeys.{put_front}
use Rattle.meson_steps.proofs.ordered_list.OrderedList.push_in_front.Goals as goal

pub returns-in_ok-push_replacement-in-Some : goal.returns-in_ok-push_replacement-in-Some
returns-in_ok-push_replacement-in-Some c = λ o is w same.
    let list = c.args.list.now in
    let olds = c.args.steps.now.items in
    let mids = c.push_replacement.new.steps.items in
    let news = c.push_after.new.steps.items in
    let known : Some c.in-Some.first ≡ option_map (λ v. v.bytes) o.first = sym c.in-Some.is ∙ is.first in
    let one = c.in_ok-push_replacement-in-Some.ensures w same ∙ ap (λ n. map Some olds ++ map bare (step_in list (Replace list.path.steps n w) ∷ [])) is.from in
    put_front c.push_after.result list o o.first c.in-Some.first known w olds mids news one
    (λ v e. on_ok_weaker c.push_after.result (λ h. h ∙ ap (λ n. map Some mids ++ map bare (put_after list n v ∷ [])) (add-one c.args.self.now.from ∙ ap suc is.from))
    (c.push_after.ensures v (e ∙ sym c.get.ensures)))
