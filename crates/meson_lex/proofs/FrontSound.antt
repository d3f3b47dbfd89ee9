-- What `front` finds is an item that may stand there, or a fault.
use Rattle.std.proofs.Common.{◌≡◌, ℕ, false, eqb, List, ◌∷◌, Option, Some, None, sym, refl, ap, ◌∙◌, subst}
use Rattle.std.proofs.lemmas.Bool.{cond_both, or_from, eqb-true, false_from_ne_true}
use Rattle.meson_lex.specs.declared.kinds.Kind.{Kind}
use Rattle.meson_lex.specs.Bytes.{is_blank, is_line_byte, is_digit, is_word_start, is_quote, begins_two}
use Rattle.meson_lex.specs.Faults.{opened_string}
use Rattle.meson_lex.specs.Scan.{Front, number_front, continuation_front, plain, front_of, front}
use Rattle.meson_lex.proofs.FrontComplete.{front_digit}
use Rattle.meson_lex.proofs.Openings.{Opened, is_opened}
use Rattle.meson_lex.proofs.FoundLines.{Sound, blank_sound, line_sound, comment_sound}
use Rattle.meson_lex.proofs.FoundWords.{word_sound, number_sound}
use Rattle.meson_lex.proofs.FoundStrings.{string_sound}
use Rattle.meson_lex.proofs.FoundContinuations.{continuation_sound}
use Rattle.meson_lex.proofs.FoundMarks.{mark_sound}

-- a quote at the front opens a string
quote_opens : (b : ℕ) (bs : List ℕ) → b ≡ 39 → opened_string (b ∷ bs) ≡ None → ⊥
quote_opens b bs is none =
    let at_quote : opened_string (39 ∷ bs) ≡ None = ap (λ x. opened_string (x ∷ bs)) (sym is) ∙ none in
    cond_both (begins_two is_quote bs) _ _ (λ o. o ≡ None → ⊥) (λ _ e. cc) (λ _ e. cc) at_quote

plain_front_sound : (at b : ℕ) (bs : List ℕ) → opened_string (b ∷ bs) ≡ None → Sound at (b ∷ bs) (plain at b bs)
unfolding plain
plain_front_sound at b bs closed =
    let S : Front → Type 0 = Sound at (b ∷ bs) in
    cond_both (is_blank b) _ _ S (blank_sound at b bs)
    (λ f1. cond_both (is_line_byte b) _ _ S (line_sound at b bs)
    (λ f2. cond_both (eqb b 35) _ _ S (λ e. comment_sound at b bs (eqb-true b 35 e))
    (λ f3. cond_both (eqb b 92) _ _ S (λ e. subst (λ x. Sound at (x ∷ bs) (continuation_front at bs)) (sym (eqb-true b 92 e)) (continuation_sound at bs))
    (λ f4. cond_both (is_word_start b) _ _ S (word_sound at b bs closed)
    (λ f5. cond_both (is_digit b) _ _ S (λ digit. number_sound at b bs digit (number_front at (b ∷ bs)) (front_digit at b bs digit) refl)
    (λ f6. mark_sound at b bs f1 f2 f3 f4 (or_from _ _ f5 f6) (no_quote closed)))))))
  where
    no_quote : opened_string (b ∷ bs) ≡ None → eqb b 39 ≡ false
    no_quote none = false_from_ne_true _ (λ q. quote_opens b bs (eqb-true b 39 q) none)

pub front_sound : (at b : ℕ) (bs : List ℕ) → Sound at (b ∷ bs) (front at (b ∷ bs))
unfolding front
front_sound at b bs = front_of_sound (opened_string (b ∷ bs)) refl (is_opened (b ∷ bs))
  where
    front_of_sound : (o : Option Kind) → opened_string (b ∷ bs) ≡ o → Opened (b ∷ bs) o → Sound at (b ∷ bs) (front_of at b bs o)
    front_of_sound None e h = plain_front_sound at b bs e
    front_of_sound (Some k) e h = string_sound at k (b ∷ bs) e h
