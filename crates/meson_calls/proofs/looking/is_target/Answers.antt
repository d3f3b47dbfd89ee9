use Rattle.meson_calls.proofs.Words.{◌∙◌, ap, bytes_at, expr_view, view, call_of, is_role_call}
use Rattle.meson_syntax.specs.Paths as paths
use Rattle.meson_calls.specs.declared.call.Role.TheVariants as role
use Rattle.meson_calls.proofs.Standing.{no_file, no_expression, an_expression}
use Rattle.meson_calls.proofs.looking.is_target.Goals as goal

pub returns-then-call-trees : goal.returns-then-call-trees
returns-then-call-trees c = no_file c.args.files.now c.args.trees.now c.args.call.now c.if-call-trees.true

pub returns-in-Some : goal.returns-in-Some
returns-in-Some c =
    let at_ = c.args.call.now in
    let bytes = bytes_at at_.file c.args.files.now in
    let tree = c.index-trees-call.result in
    c.is_role_call.ensures
    ∙ ap (λ source. is_role_call role.Target (call_of (expr_view source c.in-Some.expr.now))) c.bytes.ensures
    ∙ an_expression c.args.files.now c.args.trees.now at_ tree c.requires c.if-call-trees.false (expr_view bytes c.in-Some.expr.now)
    (c.in-Some.ensures bytes ∙ ap (λ t. paths.expression_on_path (view bytes t) at_.path.steps) c.index-trees-call.is)

pub returns-in-None : goal.returns-in-None
returns-in-None c =
    let at_ = c.args.call.now in
    let bytes = bytes_at at_.file c.args.files.now in
    no_expression c.args.files.now c.args.trees.now at_ c.index-trees-call.result c.requires c.if-call-trees.false
    (c.in-None.ensures bytes ∙ ap (λ t. paths.expression_on_path (view bytes t) at_.path.steps) c.index-trees-call.is)
