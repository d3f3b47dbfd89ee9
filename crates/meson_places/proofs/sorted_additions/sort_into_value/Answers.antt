use Rattle.std.proofs.Common.{◌≡◌, ◌-◌, length, Some, None, sym, ap, ap₂, ◌∙◌, subst}
use Rattle.std.specs.Prelude.{option_copied, option_map}
use Rattle.meson_calls.specs.Project.{placed}
use Rattle.meson_steps.specs.Meanings.{AreMeant}
use Rattle.meson_places.specs.Equality.{lists_say}
use Rattle.meson_places.specs.Names.{loaded_in}
use Rattle.meson_places.specs.SortedAdditions.{sort_into_last, sort_into_lists, sort_into_value}
use Rattle.meson_places.specs.ValueLists.{last_of}
use Rattle.meson_places.specs.inside.Behind.{found_value}
use Rattle.meson_places.specs.inside.Found.{AreGoodLists, found_list, found_lists}
use Rattle.meson_places.proofs.Meant.{made_passed}
use Rattle.meson_places.proofs.ValueListsThere.{good_got, last_got}
use Rattle.meson_places.proofs.sorted_additions.sort_into_value.Goals as goal

pub sort_into_list-requires-clause-good : goal.sort_into_list-requires-clause-good
sort_into_list-requires-clause-good c = subst (AreGoodLists c.args.found.source.now) (sym c.as_slice-all.ensures.value) c.in_ok-lists.ensures.good

pub sort_into_list-requires-clause-elements : goal.sort_into_list-requires-clause-elements
sort_into_list-requires-clause-elements c =
    let all = c.as_slice-all.result.now in
    good_got c.args.found.source.now all (length all - 1) c.in-Some.list.now (sym (ap option_copied c.in-Some.is) ∙ c.last_list.ensures)
    (subst (AreGoodLists c.args.found.source.now) (sym c.as_slice-all.ensures.value) c.in_ok-lists.ensures.good)

pub returns-in_err-steps-in-Some : goal.returns-in_err-steps-in-Some
returns-in_err-steps-in-Some c = record {
  made = λ may otherwise.
      let l = loaded_in c.args.sources in
      let gs = c.args.values.now in
      let source = c.args.found.source.now in
      let place = c.args.place.now in
      let e = found_value c.args.found in
      let all = c.as_slice-all.result.now in
      let list = found_list source c.in-Some.list.now in
      let found = ap (found_lists source) c.as_slice-all.ensures.value ∙ c.in_ok-lists.ensures.lists in
      let last : last_of (found_lists source all) ≡ Some list = last_got (found_list source) all ∙ ap (option_map (found_list source)) (sym c.last_list.ensures ∙ ap option_copied c.in-Some.is) in
      let same = ap₂ (λ s ls. sort_into_lists l s gs may otherwise ls) (sym c.requires.found.source) (sym found)
      ∙ ap (sort_into_last l source (lists_say source (found_lists source all)) gs may otherwise) last in
      made_passed _ (sort_into_value l gs may otherwise (Some (placed place e))) c.from_residual-in_err-steps-in-Some.result c.in_err-steps-in-Some.field-0.0 c.from_residual-in_err-steps-in-Some.ensures.1
      (λ other. same ∙ c.in_err-steps-in-Some.ensures.made may other);
}

pub returns-in-Some : goal.returns-in-Some
returns-in-Some c = record {
  made = λ may otherwise.
      let l = loaded_in c.args.sources in
      let gs = c.args.values.now in
      let source = c.args.found.source.now in
      let place = c.args.place.now in
      let e = found_value c.args.found in
      let all = c.as_slice-all.result.now in
      let list = found_list source c.in-Some.list.now in
      let found = ap (found_lists source) c.as_slice-all.ensures.value ∙ c.in_ok-lists.ensures.lists in
      let last : last_of (found_lists source all) ≡ Some list = last_got (found_list source) all ∙ ap (option_map (found_list source)) (sym c.last_list.ensures ∙ ap option_copied c.in-Some.is) in
      let same = ap₂ (λ s ls. sort_into_lists l s gs may otherwise ls) (sym c.requires.found.source) (sym found)
      ∙ ap (sort_into_last l source (lists_say source (found_lists source all)) gs may otherwise) last in
      subst (λ m. AreMeant m c.in_ok-steps-in-Some.steps.items) (sym same) (c.in_ok-steps-in-Some.ensures.made may);
}

pub returns : goal.returns
returns c = record {
  made = λ may otherwise.
      let l = loaded_in c.args.sources in
      let gs = c.args.values.now in
      let source = c.args.found.source.now in
      let all = c.as_slice-all.result.now in
      let found = ap (found_lists source) c.as_slice-all.ensures.value ∙ c.in_ok-lists.ensures.lists in
      let none : last_of (found_lists source all) ≡ None = last_got (found_list source) all ∙ ap (option_map (found_list source)) (sym c.last_list.ensures ∙ ap option_copied c.in-None.is) in
      ap₂ (λ s ls. sort_into_lists l s gs may otherwise ls) (sym c.requires.found.source) (sym found)
      ∙ ap (sort_into_last l source (lists_say source (found_lists source all)) gs may otherwise) none;
}
