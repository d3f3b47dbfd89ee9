-- Which tokens keep their text as words: names, numbers and strings, and no others.
use Rattle.std.proofs.Common.{◌≡◌, ℕ, Bool, true, false, List, [], ◌∷◌, refl}
use Rattle.std.specs.Prelude.{⊤}
use Rattle.meson_lex.specs.declared.kinds.Kind.{Kind}
use Rattle.meson_lex.specs.Significant.{kept}
use Rattle.meson_syntax.specs.declared.operator.Operator.{Operator}
use Rattle.meson_syntax.specs.declared.operator.Operator.TheVariants as op
use Rattle.meson_syntax.specs.declared.operator.UnaryOperator.{UnaryOperator}
use Rattle.meson_syntax.specs.declared.operator.UnaryOperator.TheVariants as unary
use Rattle.meson_syntax.specs.declared.operator.StringKind.{StringKind}
use Rattle.meson_syntax.specs.declared.operator.StringKind.TheVariants as quotes
use Rattle.meson_syntax.specs.declared.operator.Assignment.{Assignment}
use Rattle.meson_syntax.specs.declared.operator.Assignment.TheVariants as assigns
use Rattle.meson_syntax.specs.declared.operator.Bracket.{Bracket}
use Rattle.meson_syntax.specs.declared.operator.Bracket.TheVariants as bracket
use Rattle.meson_syntax.specs.Operators.{operator_kind, operator_rest, unary_kind, string_kind, boolean_kind, assignment_kind, opens, closes}

pub string-keeps : (q : StringKind) (x : List ℕ) → kept (string_kind q) x ≡ x
string-keeps quotes.Plain x = refl
string-keeps quotes.Multiline x = refl
string-keeps quotes.Format x = refl
string-keeps quotes.FormatMultiline x = refl

pub boolean-drops : (b : Bool) (x : List ℕ) → kept (boolean_kind b) x ≡ []
boolean-drops true x = refl
boolean-drops false x = refl

pub unary-drops : (o : UnaryOperator) (x : List ℕ) → kept (unary_kind o) x ≡ []
unary-drops unary.Not x = refl
unary-drops unary.Minus x = refl

pub assignment-drops : (a : Assignment) (x : List ℕ) → kept (assignment_kind a) x ≡ []
assignment-drops assigns.Set x = refl
assignment-drops assigns.Add x = refl

pub opens-drops : (b : Bracket) (x : List ℕ) → kept (opens b) x ≡ []
opens-drops bracket.Round x = refl
opens-drops bracket.Square x = refl
opens-drops bracket.Curly x = refl

pub closes-drops : (b : Bracket) (x : List ℕ) → kept (closes b) x ≡ []
closes-drops bracket.Round x = refl
closes-drops bracket.Square x = refl
closes-drops bracket.Curly x = refl

pub operator-drops : (o : Operator) (x : List ℕ) → kept (operator_kind o) x ≡ []
operator-drops op.Or x = refl
operator-drops op.And x = refl
operator-drops op.Equal x = refl
operator-drops op.NotEqual x = refl
operator-drops op.Less x = refl
operator-drops op.LessEqual x = refl
operator-drops op.Greater x = refl
operator-drops op.GreaterEqual x = refl
operator-drops op.In x = refl
operator-drops op.NotIn x = refl
operator-drops op.Plus x = refl
operator-drops op.Minus x = refl
operator-drops op.Times x = refl
operator-drops op.Divide x = refl
operator-drops op.Remainder x = refl

-- none of these kinds keeps a text
abbrev pub Drop : List Kind → Type 0
Drop [] = ⊤
Drop (κ ∷ κs) = ((x : List ℕ) → kept κ x ≡ []) × Drop κs

pub rest-drops : (o : Operator) → Drop (operator_rest o)
rest-drops op.NotIn = (λ x. refl, tt)
rest-drops op.Or = tt
rest-drops op.And = tt
rest-drops op.Equal = tt
rest-drops op.NotEqual = tt
rest-drops op.Less = tt
rest-drops op.LessEqual = tt
rest-drops op.Greater = tt
rest-drops op.GreaterEqual = tt
rest-drops op.In = tt
rest-drops op.Plus = tt
rest-drops op.Minus = tt
rest-drops op.Times = tt
rest-drops op.Divide = tt
rest-drops op.Remainder = tt
