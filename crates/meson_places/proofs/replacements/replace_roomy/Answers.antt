use Rattle.std.proofs.Common.{◌≡◌, true, List, [], ◌∷◌, Some, Ok, Err, refl, sym, ap, ◌∙◌, subst}
use Rattle.std.specs.Prelude.{if◌then◌else◌}
use Rattle.std.proofs.lemmas.Result.{IfOk-weaker}
use Rattle.meson_calls.specs.declared.refusal.Refusal.TheVariants.{TooDeep}
use Rattle.meson_steps.specs.ListSteps.{AreBare}
use Rattle.meson_steps.specs.Steps.{Step}
use Rattle.meson_places.specs.Names.{loaded_in}
use Rattle.meson_places.specs.Replacements.{exchange, have_room, replace_roomy}
use Rattle.meson_places.specs.SaidElements.{lists_edited, says_one}
use Rattle.meson_places.specs.inside.Found.{found_lists}
use Rattle.meson_places.proofs.Meant.{made_unless}
use Rattle.meson_places.proofs.replacements.replace_roomy.Goals as goal

pub returns : goal.returns
returns c = record {
  made = λ may.
      let l = loaded_in c.args.sources in
      let source = c.args.source.now in
      let x = exchange c.args.pair.old.now c.args.pair.new.now may in
      let ls = found_lists source c.args.lists.now in
      let all : List Step = lists_edited (Some x.written) (says_one source (x.old ∷ [])) ls in
      let room : have_room l x.written.node ls ≡ true = sym (c.in_ok-have_room.ensures source may) ∙ c.if-not-branch.false in
      made_unless _ (replace_roomy l source x ls) c.edit_lists.result
      (IfOk-weaker c.edit_lists.result _ _
      (λ steps made. record {
        steps = all;
        is = ap (λ b. if b then Ok all else Err TooDeep) room;
        bare = subst (λ vs. AreBare (lists_edited (Some x.written) (says_one source vs) ls) steps.items) c.from_ref.ensures.value made;
      })
      (c.edit_lists.ensures.done (Some x.written) refl))
      c.edit_lists.ensures.refused;
}
