-- What keeps nothing of an expression alone keeps nothing of what stands in one, which holds no statement.
use Rattle.meson_calls.proofs.Words.{Bor, ◌≡◌, ℕ, List, [], ◌∷◌, ◌++◌, refl, ap, ◌∙◌, filter-append, filter_map-append, Span, Expression, Every, chosen, Note}
use Rattle.meson_calls.proofs.Words.{note_of, noted, Part, parts_of_expression, Placed, placed, is_setter, setters_in, KeptParts, with_part, with_parts}
use Rattle.meson_calls.proofs.Words.{CallRef}
use Rattle.meson_calls.specs.Parts.{an_expression, a_statement}
use Rattle.meson_calls.proofs.nodes.EachPart.{expressions_within}
use Rattle.meson_calls.proofs.nodes.PartsBelow.{any}
use Rattle.meson_calls.proofs.nodes.Sorts.{IsExpression}

module _ (names : List (Bor (List ℕ))) where
  abbrev pub setters_of : List (Placed (Part Span)) → List (Placed (Note Span))
  setters_of ps = setters_in names (noted ps)

  pub setters_append : (ps qs : List (Placed (Part Span))) → setters_of (ps ++ qs) ≡ setters_of ps ++ setters_of qs
  setters_append ps qs = ap (setters_in names) (filter_map-append (chosen note_of) ps qs) ∙ filter-append (λ n. is_setter names n.it) (noted ps) (noted qs)

module _ (keep : KeptParts) (alone : (p : CallRef) (e : Expression Span) → with_part keep (placed p (an_expression e)) ≡ keep) where
  one : (p : CallRef) (x : Part Span) → IsExpression (any x) → with_part keep (placed p x) ≡ keep
  one p (an_expression e) is = alone p e
  one p (a_statement s) is = absurd is

  all : (ps : List (Placed (Part Span))) → Every (λ q. IsExpression (any q.it)) ps → with_parts keep ps ≡ keep
  all [] are = refl
  all (q ∷ ps) are = ap (λ k. with_parts k ps) (one q.place q.it are.0) ∙ all ps are.1

  pub stays_within : (p : CallRef) (e : Expression Span) → with_parts keep (parts_of_expression p e) ≡ keep
  stays_within p e = all (parts_of_expression p e) (expressions_within p e)
