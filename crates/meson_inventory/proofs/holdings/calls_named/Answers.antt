use Rattle.std.proofs.Common.{◌∙◌, ap, subst, sym}
use Rattle.std.specs.Prelude.{All}
use Rattle.std.proofs.lemmas.Result.{IfOk-weaker}
use Rattle.meson_calls.specs.Searching.{name_at}
use Rattle.meson_inventory.specs.Holdings.{held_calls, held_named}
use Rattle.meson_inventory.specs.inside.Holdings.{IsCall}
use Rattle.meson_inventory.proofs.CallsNamed.{named_called}
use Rattle.meson_inventory.proofs.holdings.calls_named.Goals as goal

pub held_calls-requires : goal.held_calls-requires
held_calls-requires c =
    let l = c.args.project.now in
    subst (All (IsCall l)) (sym c.as_slice.ensures.value) (named_called l c.args.role (name_at c.args.name) c.in-Ok.places.items c.in-Ok.ensures.all)

pub returns-in-Ok : goal.returns-in-Ok
returns-in-Ok c =
    let l = c.args.project.now in
    IfOk-weaker c.held_calls.result _ _
    (λ calls is. is ∙ ap (held_calls l) c.as_slice.ensures.value ∙ sym (ap (held_named l) c.in-Ok.ensures.all)) c.held_calls.ensures
