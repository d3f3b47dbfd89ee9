use Rattle.std.proofs.Common.{length, sym, ap, ◌∙◌}
use Rattle.std.specs.Prelude.{ℕ, List, Option, Some}
use Rattle.meson_calls.specs.Project.{place}
use Rattle.meson_sources.specs.SourceEdits.{Spot}
use Rattle.meson_followed.proofs.MetSources.{spot_is}
use Rattle.meson_followed.proofs.sources.spot_at.Goals as goal

pub returns : goal.returns
returns c =
    let q = c.args.place.now in
    let parts = c.in-Some.ensures.cases in
    let of : List ℕ → Option Spot = λ list. Some (record { list = place q.file list; number = c.in-Some.number.now }) in
    ap of c.in_ok-list.ensures.items
    ∙ spot_is q c.in-Some.list.now c.in-Some.number.now (sym c.get-steps.ensures ∙ parts.0) (parts.1 ∙ ap length c.get-steps.ensures)
