-- Where words begin in texts and in parts of them.
use Rattle.std.proofs.Common.{◌≡◌, ℕ, ◌+◌, ◌-◌, ◌<◌, ◌≤◌, min, List, [], ◌∷◌, length, drop, get_or, get_or-drop, get_or-take, length-drop, length-take, refl, sym, ap, subst, ◌∙◌, arith}
use Rattle.memchr.specs.Find.{Nowhere, OccursAt}
use Rattle.meson_lex.specs.declared.kinds.Span.{Span}
use Rattle.meson_syntax.specs.View.{text_at}
use Rattle.meson_calls.specs.Spelling.{HasNone}
use Rattle.meson_calls.proofs.Spelled.{nowhere}

-- a word that begins in a text begins in what is left of it
pub occurs_after : (bytes word : List ℕ) (from k : ℕ) → from ≤ k → OccursAt bytes word k → OccursAt (drop from bytes) word (k - from)
occurs_after bytes word from k past o =
    let fits = o.fits in
    let left : length (drop from bytes) ≡ length bytes - from = length-drop from bytes in
    record {
      fits = omega (arith, fits, left, past);
      reads = λ j within.
          let there : from + (k - from + j) ≡ k + j = omega (arith, past) in
          get_or-drop from bytes (k - from + j) 0 ∙ ap (λ n. get_or bytes n 0) there ∙ o.reads j within;
    }

module _ (bytes word : List ℕ) (s : Span) where
  -- a word that begins in a part begins in the whole text
  occurs_in_part : (k : ℕ) → 0 < length word → OccursAt (text_at bytes s) word k → OccursAt bytes word (s.from + k) × (s.from + k < s.to)
  occurs_in_part k some o =
      let fits = o.fits in
      let size = s.to - s.from in
      let rest = drop s.from bytes in
      let long : length (text_at bytes s) ≡ min size (length rest) = length-take size rest in
      let left : length rest ≡ length bytes - s.from = length-drop s.from bytes in (
        record {
          fits = omega (arith, fits, long, left, some);
          reads = λ j within.
              let below : k + j < size = omega (arith, fits, long, within) in
              let there : s.from + k + j ≡ s.from + (k + j) = omega arith in
              ap (λ n. get_or bytes n 0) there ∙ sym (get_or-drop s.from bytes (k + j) 0) ∙ sym (get_or-take size rest (k + j) 0 below) ∙ o.reads j within;
        },
        omega (arith, fits, long, left, some),
      )

  none_at : (from to : ℕ) → Nowhere (OccursAt bytes word) from to → from ≤ s.from → s.from < s.to → s.to ≤ to → s.from ≤ length bytes
      → (k : ℕ) → OccursAt (text_at bytes s) word k → ⊥
  none_at from to none begins some ends within k o = go word refl
    where
      go : (w : List ℕ) → word ≡ w → ⊥
      go [] is =
          none s.from begins (omega (arith, some, ends))
          (subst (λ v. OccursAt bytes v s.from) (sym is) (record { fits = omega (arith, within); reads = λ j below. absurd (omega (arith, below)) }))
      go (x ∷ w) is =
          let long : 0 < length word = omega (arith, ap length is) in
          let there = occurs_in_part k long o in
          let before = there.1 in
          none (s.from + k) (omega (arith, begins)) (omega (arith, before, ends)) there.0

  -- a word that begins nowhere in a part is not in it
  pub none_in_part : (from to : ℕ) → Nowhere (OccursAt bytes word) from to → from ≤ s.from → s.from < s.to → s.to ≤ to → s.from ≤ length bytes
      → HasNone word (text_at bytes s)
  none_in_part from to none begins some ends within = nowhere (text_at bytes s) word (λ k low high o. none_at from to none begins some ends within k o)
