use Rattle.meson_calls.proofs.Words.{rules, ◌≡◌, ℕ, List, ◌∙◌, sym, ap, subst, IsString, Span, expression_words, string_kind, string, text_at, expr_view}
use Rattle.meson_calls.proofs.Words.{StringKind, AreGood}
use Rattle.meson_syntax.specs.declared.tree.Expr.TheVariants as expr
use Rattle.meson_syntax.specs.declared.tree.Arg.TheFolds.{the_lemmas}
use Rattle.meson_calls.proofs.GoodLiterals.{string_good}
use Rattle.meson_calls.proofs.literals.literal.Goals as goal

string_view : (source : List ℕ) (s : Span) (q : StringKind) → expr_view source (expr.String s q) ≡ string s q (text_at source s)
string_view source s q = search (rules, the_lemmas)

pub literal_value-requires : goal.literal_value-requires
literal_value-requires c =
    let source = c.args.source.now in
    let is = ap (expr_view source) c.in-String.is ∙ string_view source c.in-String.span c.in-String.kind in
    let good = string_good c.in-String.kind (text_at source c.in-String.span) (subst (λ e. AreGood (expression_words e)) is c.requires).0 in
    subst (λ κ. IsString κ c.text_of.result.now) (sym c.token_kind.ensures) (subst (IsString (string_kind c.in-String.kind)) (sym c.text_of.ensures) good)
