use Rattle.std.proofs.Common.{◌≡◌, false, List, Some, None, Ok, sym, ap, ◌∙◌}
use Rattle.std.specs.Prelude.{if◌then◌else◌, option_map}
use Rattle.std.specs.List.{filter_map}
use Rattle.meson_splice.specs.declared.file_set.File.{File}
use Rattle.meson_calls.specs.Loading.{project}
use Rattle.meson_places.specs.Behind.{first_that, says_one_at}
use Rattle.meson_places.specs.Names.{loaded_in}
use Rattle.meson_places.specs.Operands.{behind_at, losing_at, operands_at, owned_value, says_behind}
use Rattle.meson_places.specs.inside.Behind.{behind_view}
use Rattle.meson_places.proofs.Refused.{refused_as}
use Rattle.meson_places.proofs.operands.losing_at.Goals as goal

pub returns-in-Some-clause-refused : goal.returns-in-Some-clause-refused
returns-in-Some-clause-refused c =
    let files : List File = c.args.sources.files.now in
    let p = project (loaded_in c.args.sources) in
    let gs = c.args.values.now in
    let place = c.args.place.now in
    let b = behind_view c.in-Some.variable in
    let own : says_one_at files p gs place ≡ false = sym c.in_ok-says_one_at.ensures ∙ c.if-branch.false in
    let found : first_that (says_behind files p gs) (filter_map (behind_at files p gs) (operands_at p place)) ≡ Some b =
    ap (λ cs. first_that (says_behind files p gs) (filter_map (behind_at files p gs) cs)) (sym (c.as_slice.ensures.value ∙ c.in_ok-operands.ensures))
    ∙ sym c.in_ok-variable.ensures.behind ∙ ap (option_map behind_view) c.in-Some.is in
    refused_as c.owned_value.result (losing_at files p gs place) (owned_value files p (Some b))
    (ap (λ a. if a then Ok None else owned_value files p (first_that (says_behind files p gs) (filter_map (behind_at files p gs) (operands_at p place)))) own ∙ ap (owned_value files p) found)
    c.owned_value.ensures.refused
