use Rattle.std.proofs.Common.{◌≡◌, [], map, Some, Err, refl, sym, ap, ◌∙◌, subst}
use Rattle.std.specs.Prelude.{◌≢◌, MatchResult, option_map}
use Rattle.meson_syntax.specs.Tree.{Expression, Nowhere, erase_expression}
use Rattle.meson_syntax.specs.View.{expr_view}
use Rattle.meson_edit.specs.Edits.{Written}
use Rattle.meson_calls.specs.declared.refusal.Refusal.TheVariants.{OutOfMemory}
use Rattle.meson_steps.specs.Meanings.{AreMeant}
use Rattle.meson_places.specs.Equality.{says}
use Rattle.meson_places.specs.Names.{loaded_in}
use Rattle.meson_places.specs.NewElements.{add_to_lone, beside, fresh_written, lone_token}
use Rattle.meson_places.specs.Values.{given_bytes}
use Rattle.meson_places.proofs.FreshValues.{fresh_bytes}
use Rattle.meson_places.proofs.LoneValues.{lone_value}
use Rattle.meson_places.proofs.lone_values.add_to_lone.Goals as goal

pub returns-in_ok-new-in-Some : goal.returns-in_ok-new-in-Some
returns-in_ok-new-in-Some c = record {
  made = λ may lone.
      let l = loaded_in c.args.sources in
      let gs = c.args.values.now in
      let h = c.args.held in
      let list = h.list.now in
      let n = h.number in
      let source = h.source.now in
      let e = expr_view source h.child.value.now in
      let token = c.in-Some.token.now in
      let is : lone_token e ≡ Some token = sym c.in_ok-token.ensures ∙ ap (option_map (λ x. x.now)) c.in-Some.is in
      let old : Written (Expression Nowhere) = record { bytes = token; node = erase_expression e } in
      let ws = fresh_written (λ g. says source g e) [] gs may in
      let same = fresh_bytes (λ g. says source g e) [] gs may ∙ ap (map given_bytes) (sym (ap (map (λ x. x.now)) c.as_slice.ensures.value ∙ c.in_ok-new-in-Some.ensures.fresh)) in
      let made = c.add_beside.ensures.made old ws refl same (lone_value (λ g. says source g e) e token is (lone token is) gs may) in
      let whole = ap (add_to_lone l gs may h.key.now list n e) is ∙ ap (λ s. beside l list n old (fresh_written (λ g. says s g e) [] gs may)) (sym c.requires.source) in
      subst (λ m. MatchResult c.add_beside.result (λ steps. AreMeant m steps.items) (λ f. f ≢ OutOfMemory → m ≡ Err f)) (sym whole) made;
}
