-- What the tokens of a list cover: from where its first one begins to where its last one ends.
use Rattle.std.proofs.Common.{◌≡◌, ℕ, Bool, true, false, List, [], ◌∷◌, ◌++◌, ap, ◌∙◌}
use Rattle.meson_lex.specs.declared.kinds.Kind.{Kind}
use Rattle.meson_lex.specs.declared.kinds.Span.{Span}
use Rattle.meson_lex.specs.Located.{Token}
use Rattle.meson_syntax.specs.declared.operator.Bracket.{Bracket}
use Rattle.meson_syntax.specs.declared.operator.StringKind.{StringKind}
use Rattle.meson_syntax.specs.declared.operator.UnaryOperator.{UnaryOperator}
use Rattle.meson_syntax.specs.Operators.{string_kind, boolean_kind, unary_kind, opens, closes}
use Rattle.meson_syntax.specs.Tree.{Listing, listing}
use Rattle.meson_syntax.specs.Spelling.{end_of, Covers, SpellsListing}
use Rattle.meson_syntax.specs.Paths.{list_span}
use Rattle.meson_syntax.proofs.parsing.Steps.{end_of-append}
use Rattle.meson_lex.specs.declared.kinds.Kind.TheVariants as k
use Rattle.meson_syntax.specs.declared.operator.Bracket.TheVariants as bracket
use Rattle.meson_syntax.specs.declared.operator.StringKind.TheVariants as quotes
use Rattle.meson_syntax.specs.declared.operator.UnaryOperator.TheVariants as unary_operator

abbrev pub IsOwnKind : Kind → Type 0
IsOwnKind κ = κ ≡ k.LineEnd → ⊥

pub string-own : (q : StringKind) → IsOwnKind (string_kind q)
string-own quotes.Plain e = absurd cc
string-own quotes.Multiline e = absurd cc
string-own quotes.Format e = absurd cc
string-own quotes.FormatMultiline e = absurd cc

pub boolean-own : (b : Bool) → IsOwnKind (boolean_kind b)
boolean-own true e = absurd cc
boolean-own false e = absurd cc

pub unary-own : (o : UnaryOperator) → IsOwnKind (unary_kind o)
unary-own unary_operator.Not e = absurd cc
unary-own unary_operator.Minus e = absurd cc

pub opens-own : (b : Bracket) → IsOwnKind (opens b)
opens-own bracket.Round e = absurd cc
opens-own bracket.Square e = absurd cc
opens-own bracket.Curly e = absurd cc

pub closes-own : (b : Bracket) → IsOwnKind (closes b)
closes-own bracket.Round e = absurd cc
closes-own bracket.Square e = absurd cc
closes-own bracket.Curly e = absurd cc

-- ---- spans

pub listing-covers : (l : Listing Span) (b : Bracket) (d : ℕ) (ts : List Token) → SpellsListing l b d ts → Covers (list_span l) ts
listing-covers (listing s trailing list) b d ts h = h.0

pub covers-from : (s : Span) (ts : List Token) (first : Token) (rest : List Token) → Covers s ts → ts ≡ first ∷ rest → s.from ≡ first.from
covers-from s [] first rest c e = absurd c
covers-from s (t ∷ ts) first rest c e = let same : t ≡ first = cc in c.0 ∙ ap (λ (u : Token). u.from) same

pub covers-end : (s : Span) (ts : List Token) → Covers s ts → s.to ≡ end_of 0 ts
covers-end s [] c = absurd c
covers-end s (t ∷ ts) c = c.1

pub covers-to : (s : Span) (ts front : List Token) (last : Token) → Covers s ts → ts ≡ front ++ last ∷ [] → s.to ≡ last.to
covers-to s ts front last c e = covers-end s ts c ∙ ap (end_of 0) e ∙ end_of-append 0 front (last ∷ [])
