use Rattle.std.proofs.Common.{◌≡◌, true, List, [], length, map, Ok, Err, sym, ap, ◌∙◌, subst}
use Rattle.std.specs.Prelude.{Bool, if◌then◌else◌}
use Rattle.std.specs.List.{list_all}
use Rattle.std.proofs.lemmas.List.{length-map}
use Rattle.std.proofs.lemmas.Result.{IfOk-weaker}
use Rattle.meson_syntax.specs.Tree.{Expression, Nowhere}
use Rattle.meson_syntax.specs.View.{arg_view}
use Rattle.meson_edit.specs.Edits.{Written}
use Rattle.meson_calls.specs.declared.refusal.Refusal.TheVariants.{TooDeep}
use Rattle.meson_steps.specs.ListSteps.{AreBare}
use Rattle.meson_steps.specs.ResultLimits.{plain_trees}
use Rattle.meson_steps.specs.Steps.{Step}
use Rattle.meson_places.specs.Names.{loaded_in}
use Rattle.meson_places.specs.NewElements.{add_to_list, fresh_written}
use Rattle.meson_places.specs.Room.{has_room, list_in_trees}
use Rattle.meson_places.specs.Several.{all_written, put_each}
use Rattle.meson_places.specs.Values.{given_bytes}
use Rattle.meson_places.specs.inside.Found.{found_list, is_known}
use Rattle.meson_places.proofs.FreshValues.{fresh_bytes}
use Rattle.meson_places.proofs.Meant.{made_unless}
use Rattle.meson_places.proofs.new_elements.add_to_list.Goals as goal

pub returns : goal.returns
returns c = record {
  made = λ may.
      let l = loaded_in c.args.sources in
      let gs = c.args.values.now in
      let source = c.args.to.source.now in
      let list = c.args.to.list.now in
      let known = is_known source c.args.to.known in
      let fs = fresh_written known [] gs may in
      let many = length (found_list source list).elements in
      let all : List Step = put_each list.place many many fs in
      let test : Written (Expression Nowhere) → Bool = λ w. has_room w.node (list_in_trees (plain_trees l) list.place) in
      let room : list_all test (all_written gs may) ≡ true = sym (c.in_ok-has_room_for_all.ensures may) ∙ c.if-not-branch.false in
      let same = fresh_bytes known [] gs may ∙ ap (map given_bytes) (sym (ap (map (λ x. x.now)) c.as_slice.ensures.value ∙ c.in_ok-new.ensures.fresh)) in
      made_unless _ (add_to_list l known gs may (found_list source list)) c.put_behind_all.result
      (IfOk-weaker c.put_behind_all.result _ _
      (λ steps made. record { steps = all; is = ap (λ b. if b then Ok all else Err TooDeep) room; bare = subst (λ k. AreBare (put_each list.place k k fs) steps.items) (sym (length-map list.elements.now (arg_view source))) made })
      (c.put_behind_all.ensures.done fs same))
      c.put_behind_all.ensures.refused;
}
