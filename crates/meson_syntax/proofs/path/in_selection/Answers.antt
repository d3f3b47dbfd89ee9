use Rattle.std.proofs.Common.{◌∙◌, ap, sym, ◌++◌}
use Rattle.meson_syntax.specs.inside.Children.{look, otherwise_parts, rust_branches_parts}
use Rattle.meson_syntax.specs.View.{otherwise_view}
use Rattle.meson_syntax.proofs.Looks.{among-first, among-others, none-others}
use Rattle.meson_syntax.proofs.path.in_selection.Goals as goal

pub returns-in-Node : goal.returns-in-Node
returns-in-Node c = λ source. among-first (rust_branches_parts source c.args.branches.now) (otherwise_parts (otherwise_view source c.args.otherwise.now)) c.args.n _ (c.in-Node.ensures source)

pub returns-in-Some : goal.returns-in-Some
returns-in-Some c = λ source.
    among-others (rust_branches_parts source c.args.branches.now) (otherwise_parts (otherwise_view source c.args.otherwise.now)) c.args.n c.in-Left.left _ (c.in-Left.ensures source)
    (c.only.ensures source ∙ sym (ap (λ o. look (otherwise_parts (otherwise_view source o)) c.in-Left.left) c.in-Some.is))

pub returns-in-None : goal.returns-in-None
returns-in-None c = λ source.
    none-others (rust_branches_parts source c.args.branches.now) c.args.n c.in-Left.left (c.in-Left.ensures source)
    ∙ sym (ap (λ o. look (rust_branches_parts source c.args.branches.now ++ otherwise_parts (otherwise_view source o)) c.args.n) c.in-None.is)
