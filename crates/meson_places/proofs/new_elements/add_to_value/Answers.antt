use Rattle.std.proofs.Common.{◌≡◌, Some, None, sym, ap, ap₂, ◌∙◌, subst}
use Rattle.std.specs.Prelude.{option_copied, option_map}
use Rattle.meson_splice.specs.Files.{bytes_at}
use Rattle.meson_syntax.specs.View.{expr_view}
use Rattle.meson_steps.specs.Meanings.{AreMeant}
use Rattle.meson_places.specs.Equality.{lists_say}
use Rattle.meson_places.specs.Names.{loaded_in}
use Rattle.meson_places.specs.NewElements.{add_to_last, add_to_list, add_to_value}
use Rattle.meson_places.specs.ValueLists.{last_of, lists_of}
use Rattle.meson_places.specs.inside.Found.{found_list, found_lists}
use Rattle.meson_places.proofs.Meant.{made_passed}
use Rattle.meson_places.proofs.ValueListsThere.{last_got}
use Rattle.meson_places.proofs.new_elements.add_to_value.Goals as goal

pub returns-in_err-steps-in-Some : goal.returns-in_err-steps-in-Some
returns-in_err-steps-in-Some c = record {
  made = λ may otherwise.
      let l = loaded_in c.args.sources in
      let gs = c.args.values.now in
      let source = c.args.source.now in
      let place = c.args.place.now in
      let e = expr_view source c.args.value.now in
      let all = c.as_slice-all.result.now in
      let list = found_list source c.in-Some.list.now in
      let found = ap (found_lists source) c.as_slice-all.ensures.value ∙ c.in_ok-lists.ensures.lists in
      let last : last_of (lists_of place e) ≡ Some list =
      ap last_of (sym found) ∙ last_got (found_list source) all ∙ ap (option_map (found_list source)) (sym c.last_list.ensures ∙ ap option_copied c.in-Some.is) in
      let same = ap (add_to_last l (lists_say (bytes_at place.file l.files) (lists_of place e)) gs may otherwise) last
      ∙ ap₂ (λ s ls. add_to_list l (lists_say s ls) gs may list) (sym c.requires.source) (sym found) in
      made_passed _ (add_to_value l gs may otherwise place e) c.from_residual-in_err-steps-in-Some.result c.in_err-steps-in-Some.field-0.0 c.from_residual-in_err-steps-in-Some.ensures.1
      (λ other. same ∙ c.in_err-steps-in-Some.ensures.made may other);
}

pub returns-in-Some : goal.returns-in-Some
returns-in-Some c = record {
  made = λ may otherwise.
      let l = loaded_in c.args.sources in
      let gs = c.args.values.now in
      let source = c.args.source.now in
      let place = c.args.place.now in
      let e = expr_view source c.args.value.now in
      let all = c.as_slice-all.result.now in
      let list = found_list source c.in-Some.list.now in
      let found = ap (found_lists source) c.as_slice-all.ensures.value ∙ c.in_ok-lists.ensures.lists in
      let last : last_of (lists_of place e) ≡ Some list =
      ap last_of (sym found) ∙ last_got (found_list source) all ∙ ap (option_map (found_list source)) (sym c.last_list.ensures ∙ ap option_copied c.in-Some.is) in
      let same = ap (add_to_last l (lists_say (bytes_at place.file l.files) (lists_of place e)) gs may otherwise) last
      ∙ ap₂ (λ s ls. add_to_list l (lists_say s ls) gs may list) (sym c.requires.source) (sym found) in
      subst (λ m. AreMeant m c.in_ok-steps-in-Some.steps.items) (sym same) (c.in_ok-steps-in-Some.ensures.made may);
}

pub returns : goal.returns
returns c = record {
  made = λ may otherwise.
      let l = loaded_in c.args.sources in
      let source = c.args.source.now in
      let place = c.args.place.now in
      let e = expr_view source c.args.value.now in
      let all = c.as_slice-all.result.now in
      let found = ap (found_lists source) c.as_slice-all.ensures.value ∙ c.in_ok-lists.ensures.lists in
      let none : last_of (lists_of place e) ≡ None =
      ap last_of (sym found) ∙ last_got (found_list source) all ∙ ap (option_map (found_list source)) (sym c.last_list.ensures ∙ ap option_copied c.in-None.is) in
      ap (add_to_last l (lists_say (bytes_at place.file l.files) (lists_of place e)) c.args.values.now may otherwise) none;
}
