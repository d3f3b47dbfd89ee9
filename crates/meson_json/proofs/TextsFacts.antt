-- Names of texts, of which none is there twice.
use Rattle.std.proofs.Common.{Bool, ◌≡◌, ◌∙◌, ◌⊎◌, inl, inr, ℕ, ◌+◌, ◌<◌, List, length, take, get_or, true, false, sym, ap, subst, arith, length-take}
use Rattle.std.specs.Prelude.{bytes_eq}
use Rattle.std.specs.List.{list_any}
use Rattle.std.proofs.lemmas.Bool.{false≢true}
use Rattle.std.proofs.lemmas.List.{get_or-take}
use Rattle.std.proofs.lemmas.List.Folds.{Any-from_list_any, list_any_at}
use Rattle.std.proofs.lemmas.Slice.Eq.{bytes_eq-Decides}
use Rattle.meson_json.specs.TextsFile.{AreTexts, GivenText}

-- the first n have different names
abbrev pub AreApart : ℕ → List GivenText → Type 0
AreApart n texts = (i j : ℕ) (d : GivenText) → i < j → j < n → (get_or texts i d).0 ≡ (get_or texts j d).0 → ⊥

abbrev pub is-named : List ℕ → GivenText → Bool
is-named name t = bytes_eq t.0 name

last-or-before : (j n : ℕ) → j < n + 1 → (j < n) ⊎ (j ≡ n)
last-or-before j n h = grind arith

module _ (texts : List GivenText) (n : ℕ) (within : n < length texts) (name : List ℕ) (is : (d : GivenText) → (get_or texts n d).0 ≡ name) where
  taken : (i : ℕ) → i < n → i < length (take n texts)
  taken i h = subst (λ l. i < l) (sym (length-take n texts)) (omega arith)

  pub apart-more : AreApart n texts → list_any (is-named name) (take n texts) ≡ false → AreApart (n + 1) texts
  apart-more before none i j d h k same = go (last-or-before j n k)
    where
      go : (j < n) ⊎ (j ≡ n) → ⊥
      go (inl less) = before i j d h less same
      go (inr last) =
          let below : i < n = omega arith in
          let named : (get_or (take n texts) i d).0 ≡ name = ap (λ t. t.0) (get_or-take n texts i d below) ∙ same ∙ ap (λ m. (get_or texts m d).0) last ∙ is d in
          false≢true (sym none ∙ list_any_at (is-named name) (take n texts) i d (taken i below) ((bytes_eq-Decides (get_or (take n texts) i d).0 name).1 named))

  pub twice-is-none : list_any (is-named name) (take n texts) ≡ true → AreTexts texts → ⊥
  twice-is-none some are =
      let found = Any-from_list_any (is-named name) (take n texts) some in
      let i = found.0 in
      let d = found.1 in
      let below : i < n = omega (arith, found.2, length-take n texts) in
      let named : (get_or texts i d).0 ≡ name = ap (λ t. t.0) (sym (get_or-take n texts i d below)) ∙ ap (λ t. t.0) found.3 ∙ (bytes_eq-Decides d.0 name).0 found.4 in
      are.apart i n d below within (named ∙ sym (is d))
