-- The same of punctuation, and of bytes that begin no item.
use Rattle.std.proofs.Common.{◌≡◌, ℕ, true, false, eqb, List, [], ◌∷◌, Option, None, sym, refl, ap, ◌∙◌, ⊎_elim, inl, inr}
use Rattle.std.specs.Prelude.{◌⊎◌}
use Rattle.std.proofs.lemmas.Bool.{cond_both, or_from, eqb-true, eqb-false, false≢true, cases_Bool}
use Rattle.meson_lex.specs.declared.kinds.Kind.{Kind}
use Rattle.meson_lex.specs.declared.kinds.Kind.TheVariants.{OpenRound, CloseRound, OpenSquare, CloseSquare, OpenCurly, CloseCurly, Comma, Dot, Colon, Question, Minus, Star, Slash, Percent, Plus, Assign, Less, Greater, PlusAssign, Equal, NotEqual, LessEqual, GreaterEqual}
use Rattle.meson_lex.specs.Bytes.{is_blank, is_line_byte, is_word_byte, is_equals, begins, first_bare_return}
use Rattle.meson_lex.specs.Kinds.{OfKind}
use Rattle.meson_lex.specs.Neighbours.{MayStand}
use Rattle.meson_lex.specs.Faults.{begins_item, BeginsNone, other, not_equal}
use Rattle.meson_lex.specs.Scan.{plain_mark, equal_mark, plain_front, equal_front, mark_front}
use Rattle.meson_lex.proofs.FoundLines.{IsFound, Sound}

plain_found : (k : Kind) (b n : ℕ) (bs : List ℕ) → eqb b n ≡ true → OfKind k (n ∷ []) → first_bare_return (n ∷ []) ≡ None → MayStand k (n ∷ []) bs → IsFound (b ∷ bs) k 1
plain_found k b n bs e is bare may = record { text = n ∷ []; rest = bs; joins = ap (λ x. x ∷ bs) (sym (eqb-true b n e)); is = is; bare = bare; may = may; len = refl }

begins_one : (bs : List ℕ) → begins is_equals bs ≡ true → (rest : List ℕ) × (61 ∷ rest ≡ bs)
begins_one [] h = absurd (false≢true h)
begins_one (x ∷ xs) h = (xs, ap (λ y. y ∷ xs) (sym (eqb-true x 61 h)))

equal_found : (k : Kind) (b n : ℕ) (bs : List ℕ) → eqb b n ≡ true → begins is_equals bs ≡ true → OfKind k (n ∷ 61 ∷ []) → first_bare_return (n ∷ 61 ∷ []) ≡ None → ((rest : List ℕ) → MayStand k (n ∷ 61 ∷ []) rest) → IsFound (b ∷ bs) k 2
equal_found k b n bs e equals is bare may =
    let r = begins_one bs equals in
    record { text = n ∷ 61 ∷ []; rest = r.0; joins = ap (λ l. n ∷ l) r.1 ∙ ap (λ x. x ∷ bs) (sym (eqb-true b n e)); is = is; bare = bare; may = may r.0; len = refl }

-- no other item begins so
module _ (at b : ℕ) (bs : List ℕ) (f1 : is_blank b ≡ false) (f2 : is_line_byte b ≡ false) (f3 : eqb b 35 ≡ false) (f4 : eqb b 92 ≡ false) (f5 : is_word_byte b ≡ false) (f6 : eqb b 39 ≡ false) where
  abbrev PlainSound : Option Kind → Type 0
  PlainSound o = (equal_mark b ≡ None) ⊎ (begins is_equals bs ≡ false) → Sound at (b ∷ bs) (plain_front at o)

  -- a `=` may not follow, where the byte and a `=` are a mark
  no_equals : (n : ℕ) → eqb b n ≡ true → (equal_mark n ≡ None → ⊥) → (equal_mark b ≡ None) ⊎ (begins is_equals bs ≡ false) → begins is_equals bs ≡ false
  no_equals n e apart which = ⊎_elim (λ none. absurd (apart (ap equal_mark (sym (eqb-true b n e)) ∙ none))) (λ x. x) which

  none_here : begins_item b ≡ false → (equal_mark b ≡ None) ⊎ (begins is_equals bs ≡ false) → BeginsNone (b ∷ bs)
  none_here item which =
      ⊎_elim
      (λ bang. not_equal b bs (eqb-true b 33 bang) (⊎_elim (λ none. absurd (bang_marks (ap equal_mark (sym (eqb-true b 33 bang)) ∙ none))) (λ x. x) which))
      (λ apart. other b bs item (eqb-false b 33 apart))
      (cases_Bool (eqb b 33))
    where
      bang_marks : equal_mark 33 ≡ None → ⊥
      bang_marks e = cc

  plain_sound : PlainSound (plain_mark b)
  plain_sound =
      cond_both (eqb b 40) _ _ PlainSound (λ e which. plain_found OpenRound b 40 bs e refl refl tt)
      (λ g1. cond_both (eqb b 41) _ _ PlainSound (λ e which. plain_found CloseRound b 41 bs e refl refl tt)
      (λ g2. cond_both (eqb b 91) _ _ PlainSound (λ e which. plain_found OpenSquare b 91 bs e refl refl tt)
      (λ g3. cond_both (eqb b 93) _ _ PlainSound (λ e which. plain_found CloseSquare b 93 bs e refl refl tt)
      (λ g4. cond_both (eqb b 123) _ _ PlainSound (λ e which. plain_found OpenCurly b 123 bs e refl refl tt)
      (λ g5. cond_both (eqb b 125) _ _ PlainSound (λ e which. plain_found CloseCurly b 125 bs e refl refl tt)
      (λ g6. cond_both (eqb b 44) _ _ PlainSound (λ e which. plain_found Comma b 44 bs e refl refl tt)
      (λ g7. cond_both (eqb b 46) _ _ PlainSound (λ e which. plain_found Dot b 46 bs e refl refl tt)
      (λ g8. cond_both (eqb b 58) _ _ PlainSound (λ e which. plain_found Colon b 58 bs e refl refl tt)
      (λ g9. cond_both (eqb b 63) _ _ PlainSound (λ e which. plain_found Question b 63 bs e refl refl tt)
      (λ g10. cond_both (eqb b 45) _ _ PlainSound (λ e which. plain_found Minus b 45 bs e refl refl tt)
      (λ g11. cond_both (eqb b 42) _ _ PlainSound (λ e which. plain_found Star b 42 bs e refl refl tt)
      (λ g12. cond_both (eqb b 47) _ _ PlainSound (λ e which. plain_found Slash b 47 bs e refl refl tt)
      (λ g13. cond_both (eqb b 37) _ _ PlainSound (λ e which. plain_found Percent b 37 bs e refl refl tt)
      (λ g14. cond_both (eqb b 43) _ _ PlainSound (λ e which. plain_found Plus b 43 bs e refl refl (no_equals 43 e (λ z. cc) which))
      (λ g15. cond_both (eqb b 61) _ _ PlainSound (λ e which. plain_found Assign b 61 bs e refl refl (no_equals 61 e (λ z. cc) which))
      (λ g16. cond_both (eqb b 60) _ _ PlainSound (λ e which. plain_found Less b 60 bs e refl refl (no_equals 60 e (λ z. cc) which))
      (λ g17. cond_both (eqb b 62) _ _ PlainSound (λ e which. plain_found Greater b 62 bs e refl refl (no_equals 62 e (λ z. cc) which))
      (λ g18 which. (refl, none_here (or_from _ _ (or_from _ _ (or_from _ _ (or_from _ _ (or_from _ _ (or_from _ _ (or_from _ _ (or_from _ _ (or_from _ _ (or_from _ _ (or_from _ _ (or_from _ _ (or_from _ _ (or_from _ _ (or_from _ _ (or_from _ _ (or_from _ _ (or_from _ _ (or_from _ _ (or_from _ _ (or_from _ _ (or_from _ _ (or_from _ _ f1 f2) f5) f6) f3) f4) g1) g2) g3) g4) g5) g6) g7) g8) g9) g10) g11) g12) g13) g14) g15) g16) g17) g18) which)))))))))))))))))))

  abbrev EqualSound : Option Kind → Type 0
  EqualSound o = (equal_mark b ≡ None → Sound at (b ∷ bs) (plain_front at (plain_mark b))) → (o ≡ equal_mark b) → Sound at (b ∷ bs) (equal_front at b o)

  equal_sound : begins is_equals bs ≡ true → EqualSound (equal_mark b)
  equal_sound equals =
      (cond_both (eqb b 43) _ _ EqualSound (λ e plain_is same. equal_found PlusAssign b 43 bs e equals refl refl (λ _. tt))
      (λ h1. cond_both (eqb b 61) _ _ EqualSound (λ e plain_is same. equal_found Equal b 61 bs e equals refl refl (λ _. tt))
      (λ h2. cond_both (eqb b 33) _ _ EqualSound (λ e plain_is same. equal_found NotEqual b 33 bs e equals refl refl (λ _. tt))
      (λ h3. cond_both (eqb b 60) _ _ EqualSound (λ e plain_is same. equal_found LessEqual b 60 bs e equals refl refl (λ _. tt))
      (λ h4. cond_both (eqb b 62) _ _ EqualSound (λ e plain_is same. equal_found GreaterEqual b 62 bs e equals refl refl (λ _. tt))
      (λ h5 plain_is same. plain_is (sym same)))))))

  pub mark_sound : Sound at (b ∷ bs) (mark_front at b bs)
  unfolding mark_front
  mark_sound =
      cond_both (begins is_equals bs) _ _ (Sound at (b ∷ bs))
      (λ equals. equal_sound equals (λ none. plain_sound (inl none)) refl)
      (λ none. plain_sound (inr none))
