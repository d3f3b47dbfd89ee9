use Rattle.std.proofs.Common.{◌≡◌, None, sym, ap, ◌∙◌}
use Rattle.std.proofs.lemmas.Result.{IfOk-weaker}
use Rattle.meson_calls.specs.Loading.{project}
use Rattle.meson_places.specs.Behind.{first_that, or_first, says_all_at}
use Rattle.meson_places.specs.Names.{loaded_in}
use Rattle.meson_places.specs.ValueLists.{last_of}
use Rattle.meson_places.proofs.ValueListsThere.{last_at}
use Rattle.meson_places.proofs.operands.gaining_among.Goals as goal

pub returns-in-None : goal.returns-in-None
returns-in-None c =
    let places = c.args.places.now in
    let none : first_that (says_all_at c.args.sources.files.now (project (loaded_in c.args.sources)) c.args.values.now) places ≡ None = sym c.in_ok-place.ensures ∙ c.in-None.is in
    IfOk-weaker c.last_place.result _ _ (λ o is. is ∙ sym (last_at places) ∙ ap (λ f. or_first f (last_of places)) (sym none)) c.last_place.ensures
