use Rattle.std.proofs.Common.{◌∙◌, ap, sym}
use Rattle.meson_syntax.specs.inside.Children.{block_parts, rust_statements_parts}
use Rattle.meson_syntax.specs.Paths.{nth}
use Rattle.meson_syntax.proofs.PartsOf.{view-block}
use Rattle.meson_syntax.proofs.path.in_block.Goals as goal

pub returns : goal.returns
returns c = λ source.
    c.in_statements.ensures source ∙ ap (λ l. nth (rust_statements_parts source l) c.args.n) c.get.ensures
    ∙ sym (ap (λ b. nth (block_parts b) c.args.n) (view-block source c.args.block.now))
