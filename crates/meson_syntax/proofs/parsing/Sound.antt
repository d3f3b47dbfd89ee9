-- What is read as a list, or as one thing, is spelled so.
use Rattle.std.proofs.Common.{◌≡◌, ℕ, suc, zero, ◌<◌, ◌≤◌, Bool, true, false, List, [], ◌∷◌, ◌++◌, Option, Some, inl, inr, refl, sym, ap, subst, ◌∙◌, append_assoc, arith}
use Rattle.meson_lex.specs.declared.kinds.Kind.{Kind}
use Rattle.meson_lex.specs.declared.kinds.Kind.TheVariants as k
use Rattle.meson_lex.specs.declared.kinds.Span.{Span}
use Rattle.meson_lex.specs.Located.{Token}
use Rattle.meson_syntax.specs.declared.operator.StringKind.{StringKind}
use Rattle.meson_syntax.specs.declared.operator.StringKind.TheVariants as quotes
use Rattle.meson_syntax.specs.declared.operator.Bracket.{Bracket}
use Rattle.meson_syntax.specs.declared.operator.Bracket.TheVariants as bracket
use Rattle.meson_syntax.specs.Operators.{string_kind, boolean_kind, opens, closes, holds_values}
use Rattle.meson_syntax.specs.Tree.{Expression, Listing, listing, Argument, is_named, arguments_of}
use Rattle.meson_syntax.specs.inside.Input.{same_kind, Input, kind, text_ahead, from, next, sees, sees_two, after_kind, expect, span_from, left, name_next}
use Rattle.meson_syntax.specs.inside.Reading.{room, named_argument, without_name, paired, listed_element, elements_from, listed_elements, listed, identified, truth, number, quoted, parenthesized, primary, primary_by, expression}
use Rattle.meson_syntax.specs.Grammar.{looseness}
use Rattle.meson_syntax.specs.Spelling.{One, IsOneToken, Then, Deeper, Nothing, SpellsExpression, SpellsListing, SpellsArguments, SpellsArgument, SaysName}
use Rattle.meson_syntax.proofs.parsing.Steps.{Passes, part, passes-then, passes-nothing, and_then_some, chosen_at, some-injective, passes-at, passes-from, node, sees-says, sees-one, expect-one, eat-one, eat-none, two-both, kind-sees, sees-name}
use Rattle.meson_syntax.proofs.parsing.NonEmpty.{says-some, one-some, then-some, expression-some, name-some}

pub room-some : (d : ℕ) → room d ≡ true → 0 < d
room-some zero h = absurd cc
room-some (suc d) h = omega arith

deeper-some : (e : Expression Span) (d : ℕ) → Deeper (SpellsExpression e) d [] → ⊥
deeper-some e d h = expression-some e h.inner h.spelled

-- the tokens spell an expression that holds together so tightly
abbrev pub Within : ℕ → Expression Span → ℕ → List Token → Type 0
Within n e d ts = (looseness e ≤ n) × SpellsExpression e d ts

-- ---- the rules, where expressions one level deeper are read as they are spelled

module _ (d : ℕ) (deep : (i : Input) (q : Expression Span × Input) → expression d i ≡ Some q → Passes (Deeper (SpellsExpression q.0) d) i q.1) where
  sound-with_name : (seen : Bool) (i : Input) (q : Argument Span × Input) → sees_two k.Identifier k.Colon i ≡ true → named_argument (room d) (expression d) i ≡ Some q
      → Passes (SpellsArgument q.0 bracket.Round seen d) i q.1
  unfolding named_argument
  sound-with_name seen i q two h =
      let both = two-both k.Identifier k.Colon i two in
      let at = next (next i) in
      let a = and_then_some (expression d at) _ _ h in
      let P = Deeper (SpellsExpression a.0.0) d in
      let r = passes-then (SaysName (name_next i)) (Then (One k.Colon) P) i (next i) a.0.1 (sees-name i both.0)
      (passes-then (One k.Colon) P (next i) at a.0.1 (sees-one k.Colon (next i) both.1) (deep at a.0 a.1)) in
      let n = node _ i a.0.1 (then-some _ _ (name-some (name_next i))) r in
      passes-at (λ x. SpellsArgument x bracket.Round seen d) i _ q a.2 (part _ _ i a.0.1 n (n.fits.0, refl, n.fits.1))

  sound-without_name : (b : Bracket) (seen : Bool) (i : Input) (q : Argument Span × Input) → holds_values b ≡ true → without_name (room d) (expression d) seen i ≡ Some q
      → Passes (SpellsArgument q.0 b seen d) i q.1
  unfolding without_name
  sound-without_name b true i q holds h = absurd cc
  sound-without_name b false i q holds h =
      let a = and_then_some (expression d i) _ _ h in
      let r = deep i a.0 a.1 in
      passes-at (λ x. SpellsArgument x b false d) i _ q a.2 (part _ _ i a.0.1 r (holds, refl, r.fits))

  sound-paired : (seen : Bool) (i : Input) (q : Argument Span × Input) → paired (room d) (expression d) i ≡ Some q → Passes (SpellsArgument q.0 bracket.Curly seen d) i q.1
  unfolding paired
  sound-paired seen i q h =
      let a = and_then_some (expression d i) _ _ h in
      let c = and_then_some (expect k.Colon a.0.1) _ _ a.2 in
      let b = and_then_some (expression d c.0.1) _ _ c.2 in
      let P = Deeper (SpellsExpression a.0.0) d in
      let Q = Deeper (SpellsExpression b.0.0) d in
      let r = passes-then P (Then (One k.Colon) Q) i a.0.1 b.0.1 (deep i a.0 a.1)
      (passes-then (One k.Colon) Q a.0.1 c.0.1 b.0.1 (expect-one k.Colon a.0.1 c.0 c.1) (deep c.0.1 b.0 b.1)) in
      let n = node _ i b.0.1 (then-some _ _ (deeper-some a.0.0 d)) r in
      passes-at (λ x. SpellsArgument x bracket.Curly seen d) i _ q b.2 (part _ _ i b.0.1 n (n.fits.0, refl, n.fits.1))

  sound-element : (b : Bracket) (seen : Bool) (i : Input) (q : Argument Span × Input) → listed_element (room d) (expression d) b seen i ≡ Some q → Passes (SpellsArgument q.0 b seen d) i q.1
  unfolding listed_element
  sound-element bracket.Round seen i q h = elim (chosen_at (sees_two k.Identifier k.Colon i) _ _ i _ h) [
    | inl w ↦ sound-with_name seen i q w.0 w.1
    | inr w ↦ sound-without_name bracket.Round seen i q refl w.1
  ]
  sound-element bracket.Square seen i q h = sound-without_name bracket.Square seen i q refl h
  sound-element bracket.Curly seen i q h = sound-paired seen i q h

  -- one element or more up to the closing bracket
  record ElementsRead (b : Bracket) (seen : Bool) (found : List (Argument Span)) (i : Input) (q : (Bool × List (Argument Span)) × Input) : Type 0 where
    head : Argument Span
    more : List (Argument Span)
    at : Input
    are : q.0.1 ≡ found ++ head ∷ more
    listed : Passes (SpellsArguments (arguments_of (head ∷ more)) q.0.0 b seen d) i at
    closed : Passes (One (closes b)) at q.1

  sound-elements_from : (b : Bracket) (n : ℕ) (seen : Bool) (found : List (Argument Span)) (i : Input) (q : (Bool × List (Argument Span)) × Input)
      → elements_from (room d) (expression d) b n seen found i ≡ Some q → ElementsRead b seen found i q
  unfolding elements_from
  sound-elements_from b zero seen found i q h = absurd cc
  sound-elements_from b (suc n) seen found i q h =
      let close = closes b in
      let a = and_then_some (listed_element (room d) (expression d) b seen i) _ _ h in
      let x = a.0.0 in
      let m = a.0.1 in
      let first = sound-element b seen i a.0 a.1 in
      elim (chosen_at (sees k.Comma m) _ _ (after_kind k.Comma m) _ a.2) [
        | inl w ↦ (
            let comma = eat-one k.Comma m w.0 in
            let behind = after_kind k.Comma m in
            elim (chosen_at (sees close behind) _ _ (after_kind close behind) _ w.1) [
              | inl v ↦ subst (ElementsRead b seen found i) (some-injective _ q v.1) (record {
                head = x;
                more = [];
                at = behind;
                are = refl;
                listed = passes-then (SpellsArgument x b seen d) (Then (One k.Comma) Nothing) i m behind first (passes-then (One k.Comma) Nothing m behind behind comma (passes-nothing behind));
                closed = eat-one close behind v.0;
              })
              | inr v ↦ (
                  let rest = sound-elements_from b n (is_named x) (found ++ x ∷ []) (after_kind close behind) q v.1 in
                  let more = rest.head ∷ rest.more in
                  let P = SpellsArguments (arguments_of more) q.0.0 b (is_named x) d in
                  let rest-listed = passes-from P (after_kind close behind) behind rest.at (eat-none close behind v.0) rest.listed in
                  record {
                    head = x;
                    more = more;
                    at = rest.at;
                    are = rest.are ∙ append_assoc found (x ∷ []) more;
                    listed = passes-then (SpellsArgument x b seen d) (Then (One k.Comma) P) i m rest.at first (passes-then (One k.Comma) P m behind rest.at comma rest-listed);
                    closed = rest.closed;
                  })
            ])
        | inr w ↦ (
            let e = and_then_some (expect close (after_kind k.Comma m)) _ _ w.1 in
            subst (ElementsRead b seen found i) (some-injective _ q e.2) (record {
              head = x;
              more = [];
              at = m;
              are = refl;
              listed = passes-then (SpellsArgument x b seen d) (Then Nothing Nothing) i m m first (passes-then Nothing Nothing m m m (passes-nothing m) (passes-nothing m));
              closed = passes-from (One close) (after_kind k.Comma m) m e.0.1 (eat-none k.Comma m w.0) (expect-one close (after_kind k.Comma m) e.0 e.1);
            }))
      ]

  -- a list in these brackets, which begins here
  pub sound-listed : (b : Bracket) (i : Input) (q : Listing Span × Input) → sees (opens b) i ≡ true → listed (room d) (expression d) b i ≡ Some q → Passes (SpellsListing q.0 b d) i q.1
  unfolding listed listed_elements
  sound-listed b i q begins h =
      let close = closes b in
      let opening = sees-one (opens b) i begins in
      elim (chosen_at (room d) _ _ i _ h) [
        | inl w ↦ (
            let some = room-some d w.0 in
            elim (chosen_at (sees close (next i)) _ _ (after_kind close (next i)) _ w.1) [
              | inl v ↦ (
                  let j = after_kind close (next i) in
                  let r = passes-then (One (opens b)) (Then Nothing (One close)) i (next i) j opening (passes-then Nothing (One close) (next i) (next i) j (passes-nothing (next i)) (eat-one close (next i) v.0)) in
                  let n = node _ i j (then-some _ _ (one-some (opens b))) r in
                  passes-at (λ l. SpellsListing l b d) i _ q v.1 (part _ _ i j n (n.fits.0, some, refl, n.fits.1)))
              | inr v ↦ (
                  let m = after_kind close (next i) in
                  let a = and_then_some (elements_from (room d) (expression d) b (left m) false [] m) _ _ v.1 in
                  let read = sound-elements_from b (left m) false [] m a.0 a.1 in
                  let j = a.0.1 in
                  let list = arguments_of (read.head ∷ read.more) in
                  let P = SpellsArguments list a.0.0.0 b false d in
                  let inside = passes-then P (One close) m read.at j read.listed read.closed in
                  let r = passes-then (One (opens b)) (Then P (One close)) i (next i) j opening (passes-from _ m (next i) j (eat-none close (next i) v.0) inside) in
                  let n = node _ i j (then-some _ _ (one-some (opens b))) r in
                  let made = listing (span_from (from i) j) a.0.0.0 list in
                  let is : Some (made, j) ≡ Some q = ap (λ found. Some (listing (span_from (from i) j) a.0.0.0 (arguments_of found), j)) (sym read.are) ∙ a.2 in
                  passes-at (λ l. SpellsListing l b d) i (made, j) q is (part _ _ i j n (n.fits.0, some, tt, n.fits.1)))
            ])
        | inr w ↦ absurd cc
      ]

  -- ---- one thing

  sound-identified : (i : Input) (q : Expression Span × Input) → sees k.Identifier i ≡ true → identified (room d) (expression d) i ≡ Some q → Passes (Within 0 q.0 d) i q.1
  unfolding identified
  sound-identified i q is h =
      let word = sees-name i is in
      elim (chosen_at (sees k.OpenRound (next i)) _ _ (next i) _ h) [
        | inl w ↦ (
            let a = and_then_some (listed (room d) (expression d) bracket.Round (next i)) _ _ w.1 in
            let l = sound-listed bracket.Round (next i) a.0 w.0 a.1 in
            let r = passes-then (SaysName (name_next i)) (SpellsListing a.0.0 bracket.Round d) i (next i) a.0.1 word l in
            let n = node _ i a.0.1 (then-some _ _ (name-some (name_next i))) r in
            passes-at (λ e. Within 0 e d) i _ q a.2 (part _ _ i a.0.1 n (omega arith, n.fits)))
        | inr w ↦ (
            let n = node (IsOneToken k.Identifier (name_next i).text) i (next i) (says-some k.Identifier (name_next i).text) (part _ _ i (next i) word word.fits.1) in
            passes-at (λ e. Within 0 e d) i _ q w.1 (part _ _ i (next i) n (omega arith, n.fits)))
      ]

  sound-truth : (b : Bool) (i : Input) (q : Expression Span × Input) → sees (boolean_kind b) i ≡ true → truth (room d) (expression d) b i ≡ Some q → Passes (Within 0 q.0 d) i q.1
  unfolding truth
  sound-truth b i q is h =
      let n = node _ i (next i) (one-some (boolean_kind b)) (sees-one (boolean_kind b) i is) in
      passes-at (λ e. Within 0 e d) i _ q h (part _ _ i (next i) n (omega arith, n.fits))

  sound-number : (i : Input) (q : Expression Span × Input) → sees k.Integer i ≡ true → number (room d) (expression d) i ≡ Some q → Passes (Within 0 q.0 d) i q.1
  unfolding number
  sound-number i q is h =
      let n = node _ i (next i) (says-some k.Integer (text_ahead i)) (sees-says k.Integer i is) in
      passes-at (λ e. Within 0 e d) i _ q h (part _ _ i (next i) n (omega arith, n.fits))

  sound-quoted : (s : StringKind) (i : Input) (q : Expression Span × Input) → sees (string_kind s) i ≡ true → quoted (room d) (expression d) s i ≡ Some q → Passes (Within 0 q.0 d) i q.1
  unfolding quoted
  sound-quoted s i q is h =
      let n = node _ i (next i) (says-some (string_kind s) (text_ahead i)) (sees-says (string_kind s) i is) in
      passes-at (λ e. Within 0 e d) i _ q h (part _ _ i (next i) n (omega arith, n.fits))

  sound-parenthesized : (i : Input) (q : Expression Span × Input) → sees k.OpenRound i ≡ true → parenthesized (room d) (expression d) i ≡ Some q → Passes (Within 0 q.0 d) i q.1
  unfolding parenthesized
  sound-parenthesized i q begins h = elim (chosen_at (room d) _ _ i _ h) [
    | inl w ↦
        (let a = and_then_some (expression d (next i)) _ _ w.1 in
        let c = and_then_some (expect k.CloseRound a.0.1) _ _ a.2 in
        let P = Deeper (SpellsExpression a.0.0) d in
        let r = passes-then (One k.OpenRound) (Then P (One k.CloseRound)) i (next i) c.0.1 (sees-one k.OpenRound i begins)
        (passes-then P (One k.CloseRound) (next i) a.0.1 c.0.1 (deep (next i) a.0 a.1) (expect-one k.CloseRound a.0.1 c.0 c.1)) in
        let n = node _ i c.0.1 (then-some _ _ (one-some k.OpenRound)) r in
        passes-at (λ e. Within 0 e d) i _ q c.2 (part _ _ i c.0.1 n (omega arith, n.fits)))
    | inr w ↦ absurd cc
  ]

  sound-primary_by : (i : Input) (κ : Option Kind) (q : Expression Span × Input) → kind i ≡ κ → primary_by (room d) (expression d) κ i ≡ Some q → Passes (Within 0 q.0 d) i q.1
  unfolding same_kind
  sound-primary_by i (Some k.Identifier) q e h = sound-identified i q (kind-sees i k.Identifier k.Identifier e refl) h
  sound-primary_by i (Some k.WordTrue) q e h = sound-truth true i q (kind-sees i k.WordTrue k.WordTrue e refl) h
  sound-primary_by i (Some k.WordFalse) q e h = sound-truth false i q (kind-sees i k.WordFalse k.WordFalse e refl) h
  sound-primary_by i (Some k.Integer) q e h = sound-number i q (kind-sees i k.Integer k.Integer e refl) h
  sound-primary_by i (Some k.PlainString) q e h = sound-quoted quotes.Plain i q (kind-sees i k.PlainString k.PlainString e refl) h
  sound-primary_by i (Some k.MultilineString) q e h = sound-quoted quotes.Multiline i q (kind-sees i k.MultilineString k.MultilineString e refl) h
  sound-primary_by i (Some k.FormatString) q e h = sound-quoted quotes.Format i q (kind-sees i k.FormatString k.FormatString e refl) h
  sound-primary_by i (Some k.FormatMultilineString) q e h = sound-quoted quotes.FormatMultiline i q (kind-sees i k.FormatMultilineString k.FormatMultilineString e refl) h
  sound-primary_by i (Some k.OpenRound) q e h = sound-parenthesized i q (kind-sees i k.OpenRound k.OpenRound e refl) h
  sound-primary_by i (Some k.OpenSquare) q e h =
      let a = and_then_some (listed (room d) (expression d) bracket.Square i) _ _ h in
      let l = sound-listed bracket.Square i a.0 (kind-sees i k.OpenSquare k.OpenSquare e refl) a.1 in
      passes-at (λ e. Within 0 e d) i _ q a.2 (part _ _ i a.0.1 l (omega arith, l.fits))
  sound-primary_by i (Some k.OpenCurly) q e h =
      let a = and_then_some (listed (room d) (expression d) bracket.Curly i) _ _ h in
      let l = sound-listed bracket.Curly i a.0 (kind-sees i k.OpenCurly k.OpenCurly e refl) a.1 in
      passes-at (λ e. Within 0 e d) i _ q a.2 (part _ _ i a.0.1 l (omega arith, l.fits))
  sound-primary_by i _ q e h = absurd cc

  pub sound-primary : (i : Input) (q : Expression Span × Input) → primary (room d) (expression d) i ≡ Some q → Passes (Within 0 q.0 d) i q.1
  unfolding primary
  sound-primary i q h = sound-primary_by i (kind i) q refl h
