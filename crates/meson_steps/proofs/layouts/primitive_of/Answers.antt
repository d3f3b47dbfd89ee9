use Rattle.meson_steps.proofs.Words.{◌∙◌, sym, list_view, view}
use Rattle.meson_steps.proofs.PlacedEdits.{placed_none, placed_there}
use Rattle.meson_steps.proofs.layouts.primitive_of.Goals as goal

pub returns-then-not-is_of_list : goal.returns-then-not-is_of_list
returns-then-not-is_of_list c = λ source. c.block_primitive.ensures source (sym c.is_of_list.ensures ∙ c.if-not-is_of_list.true)

pub returns-in-Some : goal.returns-in-Some
returns-in-Some c = λ source.
    c.list_primitive.ensures source
    ∙ sym (placed_there (view source c.args.tree.now) c.args.path.now.steps (list_view source c.in-Some.list.now) c.args.edit (sym c.is_of_list.ensures ∙ c.if-not-is_of_list.false) (c.in-Some.ensures source))

pub returns-in-None : goal.returns-in-None
returns-in-None c = λ source. sym (placed_none (view source c.args.tree.now) c.args.path.now.steps c.args.edit (sym c.is_of_list.ensures ∙ c.if-not-is_of_list.false) (c.in-None.ensures source))
