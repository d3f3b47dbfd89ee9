use Rattle.std.proofs.Common.{◌≡◌, false, Some, None, rules, sym, ap, ◌∙◌}
use Rattle.std.specs.Prelude.{codes, if◌then◌else◌, is_none}
use Rattle.meson_syntax.specs.Tree.{identifier}
use Rattle.meson_syntax.specs.View.{expr_view, text_at}
use Rattle.meson_syntax.specs.declared.tree.Arg.TheFolds.{the_lemmas}
use Rattle.meson_syntax.specs.declared.tree.Expr.TheVariants as expr
use Rattle.meson_variables.specs.CodeVariables.{project_of}
use Rattle.meson_variables.specs.Variables.{single}
use Rattle.meson_explaining.specs.Unknown.{unknown_words}
use Rattle.meson_explaining.proofs.unknown.unknown_words.Goals as goal

pub returns-else-branch : goal.returns-else-branch
returns-else-branch c =
    let p = project_of c.args.variables.now in
    let source = c.args.source.now in
    let name = c.in-Identifier.name in
    let viewed : expr_view source (expr.Identifier name) ≡ identifier name (text_at source name) = search (rules, the_lemmas) in
    let known : is_none (single p (text_at source name)) ≡ false = ap (λ x. is_none (single p x)) (sym c.text_of.ensures) ∙ sym c.in_ok-is_unknown-in-Identifier.ensures ∙ c.if-branch.false in
    sym
    (ap (λ e. unknown_words p (expr_view source e)) c.in-Identifier.is ∙ ap (unknown_words p) viewed
    ∙ ap (λ b. if b then Some (codes "this variable has no one known value") else None) known)
