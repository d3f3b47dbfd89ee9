use Rattle.std.proofs.Common.{◌≡◌, [], map, Some, None, Err, refl, sym, ap, ◌∙◌, subst}
use Rattle.std.specs.Prelude.{◌≢◌, IfSome, MatchResult, option_map}
use Rattle.meson_calls.specs.declared.refusal.Refusal.TheVariants.{OutOfMemory}
use Rattle.meson_calls.specs.Loading.{project}
use Rattle.meson_steps.specs.Meanings.{AreMeant}
use Rattle.meson_places.specs.AssignedArrays.{added_by, added_steps, array_beside, assigned_lone, lone_written}
use Rattle.meson_places.specs.Equality.{says}
use Rattle.meson_places.specs.Names.{loaded_in}
use Rattle.meson_places.specs.NewElements.{fresh_written}
use Rattle.meson_places.specs.Values.{given_bytes}
use Rattle.meson_places.specs.inside.Assigned.{IsLoneAt, lone_view}
use Rattle.meson_places.proofs.AssignedLone.{lone_there}
use Rattle.meson_places.proofs.FreshValues.{fresh_bytes}
use Rattle.meson_places.proofs.LoneValues.{lone_stands, lone_value}
use Rattle.meson_places.proofs.assigned_arrays.added_steps.Goals as goal

pub fresh-requires : goal.fresh-requires
fresh-requires c =
    let f : IsLoneAt c.args.sources.files.now c.in-Some.lone = subst (λ o. IfSome o (IsLoneAt c.args.sources.files.now)) c.in-Some.is c.in_ok-lone.ensures.found in
    f.good

pub returns-in_ok-new-in-Some : goal.returns-in_ok-new-in-Some
returns-in_ok-new-in-Some c = record {
  made = λ may.
      let l = loaded_in c.args.sources in
      let gs = c.args.values.now in
      let key = c.args.key.now in
      let s = c.args.slot.now in
      let v = lone_view c.in-Some.lone in
      let found : assigned_lone (project l) s ≡ Some v = sym c.in_ok-lone.ensures.lone ∙ ap (option_map lone_view) c.in-Some.is in
      let f : IsLoneAt c.args.sources.files.now c.in-Some.lone = subst (λ o. IfSome o (IsLoneAt c.args.sources.files.now)) c.in-Some.is c.in_ok-lone.ensures.found in
      let source = c.in-Some.lone.source.now in
      let ws = fresh_written (λ g. says source g v.value) [] gs may in
      let same = fresh_bytes (λ g. says source g v.value) [] gs may ∙ ap (map given_bytes) (sym (ap (map (λ x. x.now)) c.as_slice.ensures.value ∙ c.in_ok-new-in-Some.ensures.fresh)) in
      let t = lone_there (project l) s v found in
      let array = lone_value (λ g. says source g v.value) v.value v.token t.is_token (lone_stands l c.requires v.place v.value t.is_at v.token t.is_token) gs may in
      let made = c.assign_beside.ensures.made (lone_written v) ws refl same array in
      let whole : added_steps l gs may key s ≡ array_beside key v.place (lone_written v) ws =
      ap (added_by l gs may key s) found ∙ ap (λ t. array_beside key v.place (lone_written v) (fresh_written (λ g. says t g v.value) [] gs may)) (sym f.source) in
      subst (λ m. MatchResult c.assign_beside.result (λ steps. AreMeant m steps.items) (λ e. e ≢ OutOfMemory → m ≡ Err e)) (sym whole) made;
}

pub returns-in-None : goal.returns-in-None
returns-in-None c = record {
  made = λ may.
      let l = loaded_in c.args.sources in
      let gs = c.args.values.now in
      let key = c.args.key.now in
      let s = c.args.slot.now in
      let found : assigned_lone (project l) s ≡ None = sym c.in_ok-lone.ensures.lone ∙ ap (option_map lone_view) c.in-None.is in
      subst (λ m. MatchResult c.add_steps.result (λ steps. AreMeant m steps.items) (λ e. e ≢ OutOfMemory → m ≡ Err e)) (sym (ap (added_by l gs may key s) found)) (c.add_steps.ensures.made may);
}
