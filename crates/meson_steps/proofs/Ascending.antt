-- Keys each less than the next, and one more put among them.
use Rattle.std.proofs.Common.{◌≡◌, ℕ, zero, suc, ◌+◌, ◌-◌, ◌≤◌, ◌<◌, true, false, List, [], ◌∷◌, drop, get_or, length, refl, sym, ap, ap₂, ◌∙◌, arith}
use Rattle.std.specs.Prelude.{◌&&◌}
use Rattle.std.proofs.Math.Seq.{drop-cons}
use Rattle.meson_steps.specs.declared.order.SortKey.{SortKey}
use Rattle.meson_steps.specs.Order.{ascend, is_less}

-- from one key on: it is less than the next, and so are those from the next one on
pub ascend_from : (keys : List SortKey) (n : ℕ) (d e : SortKey) → suc n < length keys
    → ascend (drop n keys) ≡ (is_less (get_or keys n d) (get_or keys (suc n) e) && ascend (drop (suc n) keys))
ascend_from keys n d e within =
    let next = drop-cons keys (suc n) e within in
    ap ascend (drop-cons keys n d (omega (arith, within)) ∙ ap (λ l. get_or keys n d ∷ l) next)
    ∙ ap (λ l. is_less (get_or keys n d) (get_or keys (suc n) e) && ascend l) (sym next)

module _ (keys : List SortKey) (n i : ℕ) (d e : SortKey) (next : suc n ≡ i) (within : i < length keys) (one : d ≡ get_or keys n d) (other : e ≡ get_or keys i e) where
  from_here : ascend (drop n keys) ≡ (is_less d e && ascend (drop i keys))
  from_here =
      let inside : suc n < length keys = omega (arith, next, within) in
      ascend_from keys n d e inside ∙ ap (λ m. is_less (get_or keys n d) (get_or keys m e) && ascend (drop m keys)) next
      ∙ ap₂ (λ a b. is_less a b && ascend (drop i keys)) (sym one) (sym other)

  pub ascend_more : is_less d e ≡ true → ascend (drop ((i + 1) - 1) keys) ≡ ascend (drop n keys)
  ascend_more less =
      let same : (i + 1) - 1 ≡ i = omega arith in
      ap (λ m. ascend (drop m keys)) same ∙ sym (from_here ∙ ap (λ b. b && ascend (drop i keys)) less)

  pub ascend_here : is_less d e ≡ false → ascend (drop n keys) ≡ false
  ascend_here less = from_here ∙ ap (λ b. b && ascend (drop i keys)) less

-- the last one
pub ascend_last : (keys : List SortKey) (n : ℕ) → length keys ≤ suc n → ascend (drop n keys) ≡ true
ascend_last [] zero past = refl
ascend_last [] (suc n) past = refl
ascend_last (k ∷ []) zero past = refl
ascend_last (k ∷ l ∷ more) zero past = absurd (omega (arith, past))
ascend_last (k ∷ more) (suc n) past = ascend_last more n (omega (arith, past))
