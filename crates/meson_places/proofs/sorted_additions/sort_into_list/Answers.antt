use Rattle.std.proofs.Common.{◌≡◌, true, List, [], map, Ok, Err, sym, ap, ◌∙◌, subst}
use Rattle.std.specs.Prelude.{Bool, if◌then◌else◌}
use Rattle.std.specs.List.{list_all}
use Rattle.std.proofs.lemmas.List.{length-map}
use Rattle.std.proofs.lemmas.Result.{IfOk-weaker}
use Rattle.meson_syntax.specs.Tree.{Expression, Nowhere}
use Rattle.meson_syntax.specs.View.{arg_view, args_view}
use Rattle.meson_edit.specs.Edits.{Written}
use Rattle.meson_calls.specs.declared.refusal.Refusal.TheVariants.{TooDeep}
use Rattle.meson_steps.specs.OrderedLists.{IsOrderedList, all_put, ordered}
use Rattle.meson_steps.specs.ResultLimits.{plain_trees}
use Rattle.meson_steps.specs.Steps.{Step}
use Rattle.meson_places.specs.Equality.{lists_say}
use Rattle.meson_places.specs.Names.{loaded_in}
use Rattle.meson_places.specs.Room.{has_room, list_in_trees}
use Rattle.meson_places.specs.Several.{all_written}
use Rattle.meson_places.specs.SortedAdditions.{fresh_added, given_key, order_of, sort_into_list}
use Rattle.meson_places.specs.Values.{given_bytes}
use Rattle.meson_places.specs.inside.Found.{found_list, found_lists}
use Rattle.meson_places.proofs.Meant.{made_unless}
use Rattle.meson_places.proofs.SortedSteps.{fresh_added_bytes, fresh_keys}
use Rattle.meson_places.proofs.sorted_additions.sort_into_list.Goals as goal

pub returns : goal.returns
returns c = record {
  made = λ may.
      let l = loaded_in c.args.sources in
      let gs = c.args.values.now in
      let source = c.args.source.now in
      let list = c.args.list.now in
      let view = found_list source list in
      let known = lists_say source (found_lists source c.args.lists.now) in
      let new = fresh_added known [] gs may in
      let all : List Step = all_put list.place (order_of source view) new in
      let test : Written (Expression Nowhere) → Bool = λ w. has_room w.node (list_in_trees (plain_trees l) list.place) in
      let room : list_all test (all_written gs may) ≡ true = sym (c.in_ok-has_room_for_all.ensures may) ∙ c.if-not-branch.false in
      let given = ap (map (λ x. x.now)) c.as_slice.ensures.value ∙ c.in_ok-new.ensures.fresh in
      let keys = fresh_keys known [] gs may ∙ ap (map given_key) (sym given) in
      let bytes = fresh_added_bytes known [] gs may ∙ ap (map given_bytes) (sym given) in
      let there : IsOrderedList c.in_ok-into.into (order_of source view) =
      subst (λ n. IsOrderedList c.in_ok-into.into (ordered source 0 n (args_view source list.elements.now))) (sym (length-map list.elements.now (arg_view source))) c.in_ok-into.ensures in
      made_unless _ (sort_into_list l source known gs may view) c.put_sorted.result
      (IfOk-weaker c.put_sorted.result _ _ (λ steps made. record { steps = all; is = ap (λ b. if b then Ok all else Err TooDeep) room; bare = made })
      (c.put_sorted.ensures.done (order_of source view) there new keys bytes))
      c.put_sorted.ensures.refused;
}
