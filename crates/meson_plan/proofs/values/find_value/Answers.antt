use Rattle.std.proofs.Common.{◌≡◌, List, Ok, sym, ap, ap₂, ◌∙◌, subst}
use Rattle.std.specs.Prelude.{Result, ok_or}
use Rattle.std.proofs.lemmas.Result.{err_from_is_err_and}
use Rattle.meson_splice.specs.Patch.{then_ok}
use Rattle.meson_calls.specs.declared.refusal.Refusal.TheVariants.{NotFound}
use Rattle.meson_calls.specs.Loading.{AreParsed, loaded_from}
use Rattle.meson_places.specs.NamedValues.{value_place}
use Rattle.meson_plan.specs.Values.{found_at}
use Rattle.meson_plan.proofs.values.find_value.Goals as goal

pub find_value_place-requires : goal.find_value_place-requires
find_value_place-requires c = subst (λ k. AreParsed k.files k.parsed) (sym (ap₂ loaded_from c.files.ensures c.trees.ensures)) c.reads.ensures.parsed

pub found_at-requires : goal.found_at-requires
found_at-requires c = subst (λ k. AreParsed k.files k.parsed) (sym (ap₂ loaded_from c.files.ensures c.trees.ensures)) c.reads.ensures.parsed

pub returns-in_err-place-clause-refused : goal.returns-in_err-place-clause-refused
returns-in_err-place-clause-refused c =
    let p = err_from_is_err_and c.from_residual.result c.from_residual.ensures.1 in
    let same = ap₂ loaded_from c.files.ensures c.trees.ensures in
    rw (p.1, p.2)
    (λ other. ap (λ r. then_ok r (λ q. ok_or (found_at c.args.project.now q) NotFound))
    (ap (λ k. value_place k c.args.name.now) (sym same) ∙ c.in_err-place.ensures.refused other))

pub returns-clause-refused : goal.returns-clause-refused
returns-clause-refused c = λ other.
    let l = c.args.project.now in
    let same = ap₂ loaded_from c.files.ensures c.trees.ensures in
    let placed = ap (λ k. value_place k c.args.name.now) (sym same) ∙ c.in_ok-place.ensures.found in
    let none = ap (λ k. found_at k c.in_ok-place.place) (sym same) ∙ sym c.in_ok-value.ensures ∙ c.in-None.is in
    ap (λ r. then_ok r (λ q. ok_or (found_at l q) NotFound)) placed ∙ ap (λ o. ok_or o NotFound) none
