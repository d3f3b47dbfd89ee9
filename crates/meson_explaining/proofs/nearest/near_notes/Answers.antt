use Rattle.std.proofs.Common.{[], ◌+◌, ◌/◌, ◌++◌, length, map, take, ap, ap₂, ◌∙◌}
use Rattle.meson_explaining.specs.Nearest.{nearer}
use Rattle.meson_explaining.specs.Notes.{call_note}
use Rattle.meson_explaining.proofs.Nearby.{near_three}
use Rattle.meson_explaining.proofs.nearest.near_notes.Goals as goal

pub returns : goal.returns
returns c =
    let compared = c.in_ok-compared.ensures in
    let added =
    c.in_ok-add_near.ensures ∙ ap₂ (λ before cs. before ++ map (call_note []) (nearer c.in_ok-compared.compared.id.now (length c.in_ok-compared.compared.id.now / 3 + 1) cs))
    c.new-notes.ensures.items (compared.calls ∙ c.first.ensures)
    ∙ ap (λ id. map (call_note []) (nearer id (length id / 3 + 1) (take 5000 c.args.calls.now))) compared.id in
    c.truncate.ensures.items ∙ ap (take 3) added ∙ near_three c.args.id.now c.args.calls.now c.if-id-gt-MOST_BYTES.false
