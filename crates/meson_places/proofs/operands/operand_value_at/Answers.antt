use Rattle.std.proofs.Common.{sym, ap, ◌∙◌}
use Rattle.std.proofs.lemmas.Result.{IfOk-weaker}
use Rattle.meson_calls.specs.Loading.{project}
use Rattle.meson_places.specs.Names.{loaded_in}
use Rattle.meson_places.specs.Operands.{losing_at, operand_value_at}
use Rattle.meson_places.proofs.Refused.{refused_as}
use Rattle.meson_places.proofs.operands.operand_value_at.Goals as goal

pub returns-in-AddAfter-clause-found : goal.returns-in-AddAfter-clause-found
returns-in-AddAfter-clause-found c =
    let files = c.args.sources.files.now in
    let p = project (loaded_in c.args.sources) in
    let place = c.args.place.now in
    let same = ap (λ ch. operand_value_at files p ch place) c.in-AddAfter.is ∙ ap (λ gs. losing_at files p gs place) (sym c.from_ref.ensures.value) in
    IfOk-weaker c.losing_at.result _ _ (λ o found. same ∙ found) c.losing_at.ensures.found

pub returns-in-AddAfter-clause-refused : goal.returns-in-AddAfter-clause-refused
returns-in-AddAfter-clause-refused c =
    let files = c.args.sources.files.now in
    let p = project (loaded_in c.args.sources) in
    let place = c.args.place.now in
    refused_as c.losing_at.result (operand_value_at files p c.args.change.now place) (losing_at files p c.from_ref.result.now place)
    (ap (λ ch. operand_value_at files p ch place) c.in-AddAfter.is ∙ ap (λ gs. losing_at files p gs place) (sym c.from_ref.ensures.value)) c.losing_at.ensures.refused

pub returns-in-Remove-clause-found : goal.returns-in-Remove-clause-found
returns-in-Remove-clause-found c =
    let files = c.args.sources.files.now in
    let p = project (loaded_in c.args.sources) in
    let place = c.args.place.now in
    let same = ap (λ ch. operand_value_at files p ch place) c.in-Remove.is ∙ ap (λ gs. losing_at files p gs place) (sym c.get.ensures) in
    IfOk-weaker c.losing_at-in-Remove.result _ _ (λ o found. same ∙ found) c.losing_at-in-Remove.ensures.found

pub returns-in-Remove-clause-refused : goal.returns-in-Remove-clause-refused
returns-in-Remove-clause-refused c =
    let files = c.args.sources.files.now in
    let p = project (loaded_in c.args.sources) in
    let place = c.args.place.now in
    refused_as c.losing_at-in-Remove.result (operand_value_at files p c.args.change.now place) (losing_at files p c.get.result.now place)
    (ap (λ ch. operand_value_at files p ch place) c.in-Remove.is ∙ ap (λ gs. losing_at files p gs place) (sym c.get.ensures)) c.losing_at-in-Remove.ensures.refused

pub returns-in-Replace-clause-found : goal.returns-in-Replace-clause-found
returns-in-Replace-clause-found c =
    let files = c.args.sources.files.now in
    let p = project (loaded_in c.args.sources) in
    let place = c.args.place.now in
    let same = ap (λ ch. operand_value_at files p ch place) c.in-Replace.is ∙ ap (λ gs. losing_at files p gs place) (sym c.from_ref-in-Replace.ensures.value) in
    IfOk-weaker c.losing_at-in-Replace.result _ _ (λ o found. same ∙ found) c.losing_at-in-Replace.ensures.found

pub returns-in-Replace-clause-refused : goal.returns-in-Replace-clause-refused
returns-in-Replace-clause-refused c =
    let files = c.args.sources.files.now in
    let p = project (loaded_in c.args.sources) in
    let place = c.args.place.now in
    refused_as c.losing_at-in-Replace.result (operand_value_at files p c.args.change.now place) (losing_at files p c.from_ref-in-Replace.result.now place)
    (ap (λ ch. operand_value_at files p ch place) c.in-Replace.is ∙ ap (λ gs. losing_at files p gs place) (sym c.from_ref-in-Replace.ensures.value)) c.losing_at-in-Replace.ensures.refused
