use Rattle.meson_targets.proofs.Words.{None, Some, sym, ap, ◌∙◌, option_map, named_trees, views, held_view, place_view}
use Rattle.meson_targets.proofs.Holders.{no_line, on_line}
use Rattle.meson_targets.proofs.holder.holder_of.Goals as goal

pub returns-in_default : goal.returns-in_default
returns-in_default c =
    let p = named_trees c.args.files.now (views c.args.files.now c.args.trees.now) in
    no_line p c.args.call.now (ap (option_map place_view) (sym c.in_default.is) ∙ c.in_ok-statement.ensures)

pub returns-in-Some-held_at : goal.returns-in-Some-held_at
returns-in-Some-held_at c =
    let p = named_trees c.args.files.now (views c.args.files.now c.args.trees.now) in
    let is_line = ap (option_map place_view) (sym c.in-Some.is) ∙ c.in_ok-statement.ensures in
    on_line p c.args.call.now (place_view c.in-Some.statement) (Some (held_view c.in-Some-held_at.held)) is_line c.in-Some-held_at.ensures

pub returns : goal.returns
returns c =
    let p = named_trees c.args.files.now (views c.args.files.now c.args.trees.now) in
    let is_line = ap (option_map place_view) (sym c.in-Some.is) ∙ c.in_ok-statement.ensures in
    on_line p c.args.call.now (place_view c.in-Some.statement) None is_line c.in-None.ensures
