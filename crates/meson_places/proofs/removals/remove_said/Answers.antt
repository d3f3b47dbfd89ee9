use Rattle.std.proofs.Common.{◌≡◌, true, List, None, Ok, Err, refl, sym, ap, ◌∙◌}
use Rattle.std.specs.Prelude.{if◌then◌else◌}
use Rattle.std.specs.List.{list_all}
use Rattle.std.proofs.lemmas.Result.{IfOk-weaker}
use Rattle.meson_calls.specs.declared.refusal.Refusal.TheVariants.{NoSuchValue}
use Rattle.meson_steps.specs.Steps.{Step}
use Rattle.meson_places.specs.Equality.{lists_say}
use Rattle.meson_places.specs.Removals.{remove_said}
use Rattle.meson_places.specs.SaidElements.{lists_edited, says_one}
use Rattle.meson_places.specs.inside.Found.{found_lists}
use Rattle.meson_places.proofs.Meant.{made_unless}
use Rattle.meson_places.proofs.removals.remove_said.Goals as goal

pub returns : goal.returns
returns c = record {
  made =
      let source = c.args.source.now in
      let gs = c.args.values.now in
      let ls = found_lists source c.args.lists.now in
      let all : List Step = lists_edited None (says_one source gs) ls in
      let said : list_all (lists_say source ls) gs ≡ true = sym c.in_ok-are_known.ensures ∙ c.if-not-branch.false in
      made_unless _ (remove_said c.args.key.now source gs ls) c.edit_lists.result
      (IfOk-weaker c.edit_lists.result _ _ (λ steps made. record { steps = all; is = ap (λ b. if b then Ok all else Err (NoSuchValue c.args.key.now)) said; bare = made }) (c.edit_lists.ensures.done None refl))
      c.edit_lists.ensures.refused;
}
