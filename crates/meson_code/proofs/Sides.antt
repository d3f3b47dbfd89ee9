-- The statement beside which code is inserted is a range of its file.
use Rattle.std.proofs.Common.{◌≡◌, ℕ, ◌+◌, ◌-◌, List, [], ◌++◌, length, Option, Some, None, refl, sym, ap, ◌∙◌, subst, arith, length-append}
use Rattle.std.specs.Prelude.{option_and_then}
use Rattle.meson_lex.specs.declared.kinds.Span.{Span}
use Rattle.meson_lex.specs.Items.{joined}
use Rattle.meson_lex.proofs.Seams.{joined-append}
use Rattle.meson_syntax.specs.Reads.{IsSpanned, of_files}
use Rattle.meson_syntax.specs.Tree.{File}
use Rattle.meson_syntax.proofs.parsing.Steps.{some-injective}
use Rattle.meson_syntax.proofs.paths.Reaching.{and-then-some, map-some}
use Rattle.meson_edit.specs.Blocks.{BlockAt, block_at, statement_in}
use Rattle.meson_edit.specs.ExchangedLines.{file_statements}
use Rattle.meson_edit.specs.Places.{span_of_statement}
use Rattle.meson_edit.specs.Standing.{statement_span}
use Rattle.meson_edit.proofs.exchange.Standing.{line-stands}
use Rattle.meson_statements.specs.Places.{IsBeside, IsWithin}
use Rattle.meson_statements.specs.declared.places.Side.{Side}
use Rattle.meson_statements.specs.declared.places.Side.TheVariants as beside
use Rattle.meson_steps.specs.declared.step.LineSide.{LineSide}
use Rattle.meson_steps.specs.declared.step.LineSide.TheVariants as side
use Rattle.meson_code.specs.Insertion.{last_span, side_in}

module _ (source : List ℕ) (f : File Span) (s : IsSpanned source f) where
  pub span-within : (path : List ℕ) (n : ℕ) (sp : Span) → span_of_statement f path n ≡ Some sp → IsWithin sp (length source)
  span-within path n sp is =
      let m = map-some statement_span (option_and_then (λ (b : BlockAt Span). statement_in b.inside n) (block_at f path)) sp is in
      let o = and-then-some (λ (b : BlockAt Span). statement_in b.inside n) (block_at f path) m.0 m.1 in
      let st = line-stands of_files source f s path o.0 o.1 n m.0 o.2 in
      let items = s.reads.spells.are_items.joins in
      let whole : length source ≡ length (joined st.left) + (length (joined st.own) + length (joined st.right)) =
      ap length (sym items ∙ ap joined st.parts ∙ joined-append st.left (st.own ++ st.right) ∙ ap (λ u. joined st.left ++ u) (joined-append st.own st.right))
      ∙ length-append (joined st.left) (joined st.own ++ joined st.right) ∙ ap (λ k. length (joined st.left) + k) (length-append (joined st.own) (joined st.right)) in
      let end : length (joined (st.left ++ st.own)) ≡ length (joined st.left) + length (joined st.own) = ap length (joined-append st.left st.own) ∙ length-append (joined st.left) (joined st.own) in
      let from = st.from in
      let to = st.to in
      subst (λ t. IsWithin t (length source)) m.2 (omega (arith, from, to, end), omega (arith, to, end, whole))

  last-within : (o : Option Span) → last_span f ≡ o → IsBeside (beside.End o) (length source)
  last-within None is = tt
  last-within (Some sp) is = span-within [] (length (file_statements f) - 1) sp is

  pub beside-within : (path : List ℕ) (at_ : LineSide) (x : Side) → side_in f path at_ ≡ Some x → IsBeside x (length source)
  beside-within path (side.Above n) x is =
      let m = map-some beside.Above (span_of_statement f path n) x is in
      subst (λ y. IsBeside y (length source)) m.2 (span-within path n m.0 m.1)
  beside-within path (side.Below n) x is =
      let m = map-some beside.Below (span_of_statement f path n) x is in
      subst (λ y. IsBeside y (length source)) m.2 (span-within path n m.0 m.1)
  beside-within path side.End x is = subst (λ y. IsBeside y (length source)) (some-injective _ _ is) (last-within (last_span f) refl)
