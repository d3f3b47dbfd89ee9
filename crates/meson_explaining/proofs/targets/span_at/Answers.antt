use Rattle.std.proofs.Common.{◌<◌, ◌≤◌, length, get_or, None, Some, sym, subst, ap, ◌∙◌}
use Rattle.std.specs.Prelude.{option_map}
use Rattle.meson_splice.specs.Files.{bytes_at}
use Rattle.meson_syntax.specs.Paths as paths
use Rattle.meson_syntax.specs.View.{expr_view, view}
use Rattle.meson_calls.proofs.Loads.{as_many}
use Rattle.meson_explaining.specs.Targets.{span_at}
use Rattle.meson_explaining.proofs.ReadPlaces.{past_all, there_is}
use Rattle.meson_explaining.proofs.targets.span_at.Goals as goal

pub returns-then-place-trees : goal.returns-then-place-trees
returns-then-place-trees c =
    let l = c.args.project.now in
    let past = subst (λ ts. length ts ≤ c.args.place.now.file) c.trees-trees.ensures c.if-place-trees.true in
    sym (past_all span_at l.files l.parsed c.args.place.now past)

pub returns-in-Some : goal.returns-in-Some
returns-in-Some c =
    let l = c.args.project.now in
    let place = c.args.place.now in
    let bytes = bytes_at place.file l.files in
    let d = c.index-trees-place.result in
    let tree = c.index-trees-place.is ∙ ap (λ ts. get_or ts place.file d) c.trees-trees.ensures in
    let found =
    ap (option_map (λ e. expr_view bytes e.now)) (sym c.in-Some.is) ∙ c.expr_at.ensures bytes ∙ ap (λ t. paths.expression_on_path (view bytes t) place.path.steps) tree in
    let within = subst (λ ts. place.file < length ts) c.trees-trees.ensures c.if-place-trees.false in
    c.span_of.ensures bytes ∙ there_is span_at l.files l.parsed place d (as_many l.files l.parsed c.reads.ensures.parsed) within (Some (expr_view bytes c.in-Some.expr.now)) found

pub returns-in-None : goal.returns-in-None
returns-in-None c =
    let l = c.args.project.now in
    let place = c.args.place.now in
    let bytes = bytes_at place.file l.files in
    let d = c.index-trees-place.result in
    let tree = c.index-trees-place.is ∙ ap (λ ts. get_or ts place.file d) c.trees-trees.ensures in
    let found =
    ap (option_map (λ e. expr_view bytes e.now)) (sym c.in-None.is) ∙ c.expr_at.ensures bytes ∙ ap (λ t. paths.expression_on_path (view bytes t) place.path.steps) tree in
    let within = subst (λ ts. place.file < length ts) c.trees-trees.ensures c.if-place-trees.false in
    there_is span_at l.files l.parsed place d (as_many l.files l.parsed c.reads.ensures.parsed) within None found
