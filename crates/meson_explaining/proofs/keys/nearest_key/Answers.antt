use Rattle.std.proofs.Common.{map, sym, ap, ◌∙◌}
use Rattle.std.specs.Borrow.{Bor}
use Rattle.std.specs.Prelude.{ℕ, List, option_map}
use Rattle.meson_explaining.proofs.NearestKeys.{first_at}
use Rattle.meson_explaining.proofs.keys.nearest_key.Goals as goal

pub returns-in-Some : goal.returns-in-Some
returns-in-Some c =
    let text = λ (k : Bor (List ℕ)). k.now in
    first_at c.args.key.now (map text c.args.keys.now) c.in-Some.found.now c.loop-edits.edits c.if-key-gt-MOST_BYTES.false c.loop-edits-test.true
    c.loop-edits.invariant (sym c.in_ok-found.ensures ∙ ap (option_map text) c.in-Some.is)
