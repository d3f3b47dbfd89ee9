use Rattle.std.proofs.Common.{◌∙◌, ap, sym}
use Rattle.std.specs.Prelude.{option_map, option_and_then}
use Rattle.meson_lex.specs.declared.kinds.Span.{Span}
use Rattle.meson_syntax.specs.Paths.{ListIn, list_in}
use Rattle.meson_syntax.specs.View.{view}
use Rattle.meson_syntax.proofs.PathNodes.{list-reached}
use Rattle.meson_syntax.proofs.tree.Parsed.list_at.Goals as goal

pub returns-in-Some : goal.returns-in-Some
returns-in-Some c = λ source.
    c.list_of.ensures source ∙ ap (option_and_then (λ e. option_map (λ (l : ListIn Span). l.list) (list_in e))) (c.in-Some.ensures source)
    ∙ sym (list-reached Span (view source c.args.self.now) c.args.path.now.steps)

pub returns-in-None : goal.returns-in-None
returns-in-None c = λ source.
    ap (option_and_then (λ e. option_map (λ (l : ListIn Span). l.list) (list_in e))) (c.in-None.ensures source)
    ∙ sym (list-reached Span (view source c.args.self.now) c.args.path.now.steps)
