use Rattle.std.proofs.Common.{sym, subst}
use Rattle.meson_lex.specs.Kinds.{IsIdentifier}
use Rattle.meson_syntax.specs.View.{text_at}
use Rattle.meson_inventory.proofs.AssignmentsListed.{named_at}
use Rattle.meson_inventory.proofs.assignments.all_held_at.Goals as goal

pub held_at-requires : goal.held_at-requires
held_at-requires c =
    let bytes = c.args.source.now in
    subst (λ k. IsIdentifier (text_at bytes k.name)) (sym c.place-item.is)
    (named_at bytes c.args.places.now c.loop-place.place-index c.place-item.result c.loop-place-test.true c.requires)
