use Rattle.std.proofs.Common.{◌≡◌, true, false, List, [], ◌∷◌, ◌++◌, map, sym, ap, ap₂, ◌∙◌}
use Rattle.std.specs.Prelude.{Some}
use Rattle.meson_edit.specs.Edits.{Replace}
use Rattle.meson_steps.specs.declared.step.ListEdit.TheVariants as code
use Rattle.meson_steps.specs.ResultLimits.{plain_trees}
use Rattle.meson_steps.specs.Steps.{Step, step_in}
use Rattle.meson_steps.specs.WrittenTexts.{comma_between}
use Rattle.meson_places.specs.Names.{loaded_in}
use Rattle.meson_places.specs.NewElements.{array_with}
use Rattle.meson_places.specs.Room.{has_room, list_in_trees}
use Rattle.meson_places.proofs.LoneValues.{value_text}
use Rattle.meson_places.proofs.Meant.{room_deep, room_fits}
use Rattle.meson_places.proofs.lone_values.become_array.Goals as goal

pub returns-then-not-branch : goal.returns-then-not-branch
returns-then-not-branch c = record {
  made = λ old ws is same v other.
      let l = loaded_in c.args.sources in
      let h = c.args.held in
      let list = h.list.now in
      let new = array_with old ws in
      let bytes = sym (ap₂ (λ t bs. 91 ∷ (comma_between (t ∷ bs) ++ 93 ∷ [])) is same) in
      let x = value_text old ws v c.get.result.now (c.get.ensures ∙ c.in_ok-array.ensures.done ∙ bytes) in
      let room : has_room new.node (list_in_trees (plain_trees l) list) ≡ false =
      ap (λ e. has_room e (list_in_trees (plain_trees l) list)) (sym x.1) ∙ sym (c.in_ok-has_room_for.ensures x.0) ∙ c.if-not-branch.true in
      room_deep l list new.node room (step_in list (Replace list.path.steps h.number new) ∷ []);
}

pub returns : goal.returns
returns c = record {
  made = λ old ws is same v.
      let l = loaded_in c.args.sources in
      let h = c.args.held in
      let list = h.list.now in
      let new = array_with old ws in
      let all : List Step = step_in list (Replace list.path.steps h.number new) ∷ [] in
      let bytes = sym (ap₂ (λ t bs. 91 ∷ (comma_between (t ∷ bs) ++ 93 ∷ [])) is same) in
      let x = value_text old ws v c.get.result.now (c.get.ensures ∙ c.in_ok-array.ensures.done ∙ bytes) in
      let room : has_room new.node (list_in_trees (plain_trees l) list) ≡ true =
      ap (λ e. has_room e (list_in_trees (plain_trees l) list)) (sym x.1) ∙ sym (c.in_ok-has_room_for.ensures x.0) ∙ c.if-not-branch.false in
      record {
        steps = all;
        is = room_fits l list new.node room all;
        bare = ap (λ b. Some (record { list = list; edit = code.Replace h.number b }) ∷ []) (sym (c.in_ok-array.ensures.done ∙ bytes))
            ∙ sym (ap (map Some) (c.in_ok-push_edit.ensures ∙ ap (λ t. t ++ record { list = list; edit = code.Replace h.number c.in_ok-array.array } ∷ []) c.new-steps.ensures.items));
      };
}
