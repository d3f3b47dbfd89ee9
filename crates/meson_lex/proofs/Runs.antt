-- Runs of bytes that pass a test, and texts without a bare CR.
use Rattle.std.proofs.Common.{◌≡◌, ℕ, suc, Bool, true, false, List, [], ◌∷◌, ◌++◌, length, take, drop, None, sym, refl, ap, ◌∙◌, subst, arith, take-append-drop}
use Rattle.std.specs.Prelude.{option_map}
use Rattle.std.specs.List.{list_all, prefix_len}
use Rattle.std.proofs.Math.Numerals.{one-add}
use Rattle.std.proofs.lemmas.Bool.{cond-true, cond-false, cond_both, and_parts, and_from, and_left, ne_eqb, false≢true}
use Rattle.std.proofs.lemmas.List.Folds.{length-prefix_len}
use Rattle.meson_lex.specs.Bytes.{begins, begins_bare_return, first_bare_return}

module _ (test : ℕ → Bool) where
  -- a run ends where a byte fails
  pub run_stops : (text rest : List ℕ) → list_all test text ≡ true → begins test rest ≡ false → prefix_len test (text ++ rest) ≡ length text
  run_stops [] [] all stop = refl
  run_stops [] (b ∷ bs) all stop = cond-false (test b) _ _ stop
  run_stops (b ∷ bs) rest all stop =
      let parts = and_parts (test b) (list_all test bs) all in
      let later = run_stops bs rest parts.1 stop in
      cond-true (test b) _ _ parts.0 ∙ omega (arith, later)

  -- what is counted passes
  pub run_passes : (bs : List ℕ) → list_all test (take (prefix_len test bs) bs) ≡ true
  run_passes [] = refl
  run_passes (b ∷ bs) =
      let P : ℕ → Type 0 = λ n. list_all test (take n (b ∷ bs)) ≡ true in
      cond_both (test b) _ _ P (λ yes. subst P (sym (one-add _)) (and_from _ _ yes (run_passes bs))) (λ _. refl)

  -- and what follows it fails
  pub run_ends : (bs : List ℕ) → begins test (drop (prefix_len test bs) bs) ≡ false
  run_ends [] = refl
  run_ends (b ∷ bs) =
      let P : ℕ → Type 0 = λ n. begins test (drop n (b ∷ bs)) ≡ false in
      cond_both (test b) _ _ P (λ yes. subst P (sym (one-add _)) (run_ends bs)) (λ fails. fails)

  -- bytes among which there is no CR
  pub none_bare : test 13 ≡ false → (text : List ℕ) → list_all test text ≡ true → first_bare_return text ≡ None
  none_bare fails [] all = refl
  none_bare fails (b ∷ bs) all =
      let parts = and_parts (test b) (list_all test bs) all in
      let other : b ≡ 13 → ⊥ = λ e. false≢true (sym fails ∙ ap test (sym e) ∙ parts.0) in
      cond-false (begins_bare_return (b ∷ bs)) _ _ (and_left _ _ (ne_eqb b 13 other)) ∙ ap (option_map suc) (none_bare fails bs parts.1)

-- the run at the front of b ∷ bs, where b passes
module _ (test : ℕ → Bool) (b : ℕ) (bs : List ℕ) (passes : test b ≡ true) where
  pub run_len : suc (length (take (prefix_len test bs) bs)) ≡ prefix_len test (b ∷ bs)
  run_len = ap suc (length-prefix_len test bs) ∙ sym (cond-true (test b) _ _ passes ∙ one-add _)

  pub run_joins : (b ∷ take (prefix_len test bs) bs) ++ drop (prefix_len test bs) bs ≡ b ∷ bs
  run_joins = ap (λ l. b ∷ l) (take-append-drop (prefix_len test bs) bs)

  pub run_take : take (prefix_len test (b ∷ bs)) (b ∷ bs) ≡ b ∷ take (prefix_len test bs) bs
  run_take = subst (λ n. take n (b ∷ bs) ≡ b ∷ take (prefix_len test bs) bs) (sym (cond-true (test b) _ _ passes ∙ one-add _)) refl

  pub run_drop : drop (prefix_len test (b ∷ bs)) (b ∷ bs) ≡ drop (prefix_len test bs) bs
  run_drop = subst (λ n. drop n (b ∷ bs) ≡ drop (prefix_len test bs) bs) (sym (cond-true (test b) _ _ passes ∙ one-add _)) refl
