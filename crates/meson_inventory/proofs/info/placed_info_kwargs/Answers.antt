use Rattle.std.proofs.Common.{◌∙◌, codes, ap, sym}
use Rattle.std.proofs.lemmas.Result.{err_from_is_err_and}
use Rattle.std.specs.List.{filter_map}
use Rattle.serde_json.specs.Data.{put}
use Rattle.meson_syntax.specs.View.{args_view}
use Rattle.meson_edit.proofs.lists.CodeElements.{list_elements}
use Rattle.meson_plan.proofs.PlacesFound.{call_found}
use Rattle.meson_inventory.specs.Info.{call_span, keyword_place, not_found, placed_kwargs_data, places_data, places_of_call, twice, with_members, with_position}
use Rattle.meson_inventory.proofs.CallSpans.{call_read}
use Rattle.meson_inventory.proofs.info.placed_info_kwargs.Goals as goal
use Rattle.meson_calls.specs.Searching.{name_at}

pub head-requires : goal.head-requires
head-requires c = call_found c.args.project.now c.args.role (name_at c.args.name) c.in_ok-place.place c.in_ok-place.ensures.found

pub returns-in_err-place-clause-refused : goal.returns-in_err-place-clause-refused
returns-in_err-place-clause-refused c =
    let error = err_from_is_err_and c.from_residual.result c.from_residual.ensures.1 in
    rw (error.1, error.2) (λ other. not_found c.in_err-place.field-0.0 (c.in_err-place.ensures.refused other))

pub returns-in_err-keywords-clause-refused : goal.returns-in_err-keywords-clause-refused
returns-in_err-keywords-clause-refused c =
    let error = err_from_is_err_and c.from_residual-in_err-keywords.result c.from_residual-in_err-keywords.ensures.1 in
    rw (error.1, error.2) (λ other. twice c.in_ok-place.place c.in_err-keywords.field-0.0 c.in_ok-place.ensures.found (c.in_err-keywords.ensures.refused other))

pub returns-clause-listed : goal.returns-clause-listed
returns-clause-listed c =
    let l = c.args.project.now in
    let place = c.in_ok-place.place in
    let head = c.in_ok-head.head in
    let pairs = c.in_ok-keywords.keywords.items in
    let called = c.call_at-called.result in
    let at = call_read l c.files.result.now c.trees.result.now place called c.files.ensures c.trees.ensures c.call_at-called.ensures.at in
    let role = c.args.role in
    let source = called.source.now in
    let are = c.in_ok-places.ensures
    ∙ ap (filter_map (keyword_place role)) (ap (args_view source) c.get.ensures ∙ sym (list_elements source called.arguments.now)) in
    record {
      place = place;
      is_place = c.in_ok-place.ensures.found;
      its_head = head;
      is_head = c.in_ok-head.ensures.told;
      pairs = pairs;
      are_pairs = c.in_ok-keywords.ensures.told;
      is = c.in_ok-kwargs_value.ensures
          ∙ ap (λ d. with_members (λ ms. with_position c.files-files.result.now place.file called.span (put (codes "places") (places_data c.files-files.result.now place.file c.in_ok-places.places.items) ms)) d) c.in_ok-listing.ensures
          ∙ ap (λ fs. placed_kwargs_data fs place.file called.span head pairs c.in_ok-places.places.items) c.files-files.ensures
          ∙ ap (λ ps. placed_kwargs_data l.files place.file called.span head pairs ps) are
          ∙ ap (λ o. placed_kwargs_data l.files place.file (call_span o) head pairs (places_of_call c.args.role o)) (sym at);
    }
