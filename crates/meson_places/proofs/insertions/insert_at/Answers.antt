use Rattle.std.proofs.Common.{◌≡◌, suc, true, List, [], map, Some, Ok, Err, sym, ap, ◌∙◌, subst, add-one}
use Rattle.std.specs.Prelude.{Bool, if◌then◌else◌}
use Rattle.std.specs.List.{list_all}
use Rattle.std.proofs.lemmas.Result.{IfOk-weaker}
use Rattle.meson_syntax.specs.Tree.{Expression, Nowhere}
use Rattle.meson_edit.specs.Edits.{Written}
use Rattle.meson_calls.specs.declared.refusal.Refusal.TheVariants.{TooDeep}
use Rattle.meson_steps.specs.ListSteps.{AreBare}
use Rattle.meson_steps.specs.ResultLimits.{plain_trees}
use Rattle.meson_steps.specs.Steps.{Step}
use Rattle.meson_places.specs.Equality.{lists_say}
use Rattle.meson_places.specs.Insertions.{insert_at}
use Rattle.meson_places.specs.Names.{loaded_in}
use Rattle.meson_places.specs.NewElements.{fresh_written}
use Rattle.meson_places.specs.Room.{has_room, list_in_trees}
use Rattle.meson_places.specs.Several.{all_written, put_each}
use Rattle.meson_places.specs.Values.{given_bytes}
use Rattle.meson_places.specs.inside.Found.{found_lists}
use Rattle.meson_places.proofs.FreshValues.{fresh_bytes}
use Rattle.meson_places.proofs.Meant.{made_unless}
use Rattle.meson_places.proofs.insertions.insert_at.Goals as goal

pub returns : goal.returns
returns c = record {
  made = λ may key.
      let l = loaded_in c.args.sources in
      let gs = c.args.values.now in
      let source = c.args.source.now in
      let m = c.args.mark.now in
      let known = lists_say source (found_lists source c.args.lists.now) in
      let fs = fresh_written known [] gs may in
      let all : List Step = put_each m.list (suc m.number) (suc m.number) fs in
      let test : Written (Expression Nowhere) → Bool = λ w. has_room w.node (list_in_trees (plain_trees l) m.list) in
      let room : list_all test (all_written gs may) ≡ true = sym (c.in_ok-has_room_for_all.ensures may) ∙ c.if-not-branch.false in
      let same = fresh_bytes known [] gs may ∙ ap (map given_bytes) (sym (ap (map (λ x. x.now)) c.as_slice.ensures.value ∙ c.in_ok-new.ensures.fresh)) in
      made_unless _ (insert_at l key known gs may (Some m)) c.put_behind.result
      (IfOk-weaker c.put_behind.result _ _
      (λ steps made. record { steps = all; is = ap (λ b. if b then Ok all else Err TooDeep) room; bare = subst (λ k. AreBare (put_each m.list k k fs) steps.items) (add-one m.number) made })
      (c.put_behind.ensures.done fs same))
      c.put_behind.ensures.refused;
}
