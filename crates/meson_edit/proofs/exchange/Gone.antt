-- The items of a statement gone: those before and behind it are items side by side, and give the words before and behind its line.
use Rattle.meson_edit.proofs.Words.{◌≡◌, ℕ, true, false, List, [], ◌∷◌, ◌++◌, refl, sym, ap, ap₂, subst, ◌∙◌, append_assoc, inl, inr, ◌⊎◌, append-nil, begins}
use Rattle.meson_edit.proofs.Words.{begins_bare_return, is_blank, is_line_byte, Lexeme, joined, IsItem, AreItems, OfKind, MayStand, Word, new_line, role, State}
use Rattle.meson_edit.proofs.Words.{start, after, emitted, closing, significant, speaks, Kind, Span, AreItems-append, AreItems-split, Flat, after-append}
use Rattle.meson_edit.proofs.Words.{BeginsInNoBlank, EndsInNoBlank, IsTrimmed, IsLineRest, in_line, StandsAmongItems}
use Rattle.meson_lex.specs.declared.kinds.Kind.TheVariants as k
use Rattle.meson_edit.proofs.exchange.States.{after_words, state-is, Lines, lines-state}
use Rattle.meson_edit.proofs.exchange.FirstBytes.{begins-with}
use Rattle.meson_edit.proofs.exchange.Ends.{end-changed, no-blank-begins, silent-stands}
use Rattle.meson_edit.proofs.exchange.LineWords.{told, told-append, line-ended, rest-told, tight-state, fresh-silent, blank-after, blank-emitted}

-- ---- what may stand before the first item of a statement, or before the blank there

no-comment-before : (y : Lexeme) (more : List ℕ) → OfKind y.kind y.text → (y.kind ≡ k.LineEnd → ⊥) → (κ : Kind) (text : List ℕ) → κ ≡ k.Comment → MayStand κ text (y.text ++ more) → ⊥
no-comment-before y more of other κ text e h =
    let b = begins-with y.kind y.text of in
    refuse b.byte (b.rest ++ more) (b.line other) (subst (λ t. MayStand k.Comment text (t ++ more)) b.is_text (subst (λ κ. MayStand κ text (y.text ++ more)) e h))
  where
    refuse : (c : ℕ) (rest : List ℕ) → is_line_byte c ≡ false → (c ∷ rest ≡ []) ⊎ ((is_line_byte c ≡ true) × (begins_bare_return (c ∷ rest) ≡ false)) → ⊥
    refuse c rest none (inl e) = absurd cc
    refuse c rest none (inr e) = let both : false ≡ true = sym none ∙ e.0 in absurd cc

blank-first : (text more : List ℕ) → OfKind k.Blank text → begins is_blank (text ++ more) ≡ true
blank-first [] more h = absurd h
blank-first (b ∷ bs) more h = h.0

no-blank-before : (y : Lexeme) (more : List ℕ) → OfKind y.kind y.text → y.kind ≡ k.Blank → (κ : Kind) (text : List ℕ) → κ ≡ k.Blank → MayStand κ text (y.text ++ more) → ⊥
no-blank-before y more of is κ text e h =
    let stands = subst (λ κ. MayStand κ text (y.text ++ more)) e h in
    let first = blank-first y.text more (subst (λ κ. OfKind κ y.text) is of) in
    let both : false ≡ true = sym stands ∙ first in
    absurd cc

-- items behind which a line begins may stand before anything, where the last is no comment, and before anything but blanks where it is a blank
lines-stand : (front : List Lexeme) (was now : List ℕ) → after start front ≡ start → AreItems front was
    → ((xs : List Lexeme) (x : Lexeme) → front ≡ xs ++ x ∷ [] → IsItem x was → (x.kind ≡ k.Blank → begins is_blank now ≡ false) × (x.kind ≡ k.Comment → ⊥)) → AreItems front now
lines-stand front was now state h none =
    end-changed front was now h (λ xs x is i.
    let fresh : (after start (xs ++ x ∷ [])).fresh ≡ true = ap (λ l. (after start l).fresh) (sym is) ∙ ap (λ (s : State). s.fresh) state in
    let silent = fresh-silent (role x.kind) (after start xs) (sym (ap (λ (s : State). s.fresh) (after-append start xs (x ∷ []))) ∙ fresh) in
    let other = none xs x is i in
    (i.0, i.1, silent-stands x.kind x.text now silent other.0 other.1))

module _ (items : List Lexeme) (are : AreItems items []) (span : Span) (a b words : List Word) (st : StandsAmongItems items span a words (new_line ∷ b)) (lines : Lines a) (flat : Flat words) where
  -- ---- states

  -- before a statement a line begins
  pub left-state : after start st.left ≡ start
  left-state = state-is start st.left ∙ ap (after_words start) st.is_left ∙ lines-state a lines

  pub own-words : emitted start st.own ≡ words
  own-words = ap (λ q. emitted q st.own) (sym left-state) ∙ st.is_own

  pub own-state : after start st.own ≡ in_line
  own-state = tight-state st.own words st.tight own-words flat

  pub both-state : after start (st.left ++ st.own) ≡ in_line
  both-state = after-append start st.left st.own ∙ ap (λ q. after q st.own) left-state ∙ own-state

  -- behind a statement its line ends
  pub behind-told : told in_line st.right ≡ new_line ∷ b
  behind-told =
      let whole : after start items ≡ after in_line st.right =
      ap (after start) (st.parts ∙ sym (append_assoc st.left st.own st.right)) ∙ after-append start (st.left ++ st.own) st.right ∙ ap (λ q. after q st.right) both-state in
      ap₂ (λ (p q : State). emitted p st.right ++ closing q.fresh) (sym both-state) (sym whole) ∙ st.is_right

  -- behind a removed statement
  right-told : told start st.right ≡ b
  right-told = line-ended st.right b behind-told

  module _ (front gone back : List Lexeme) (cut : st.right ≡ gone ++ back) (rest : IsLineRest gone) where
    -- ---- words

    front-state : IsTrimmed st.left front back → after start front ≡ start
    front-state (inl t) = sym (blank-after start front t.0 t.1) ∙ ap (after start) (sym t.2) ∙ left-state
    front-state (inr t) = ap (after start) (sym t.0) ∙ left-state

    front-words : IsTrimmed st.left front back → emitted start front ≡ a
    front-words (inl t) = sym (append-nil (emitted start front)) ∙ sym (blank-emitted start front t.0 t.1) ∙ ap (emitted start) (sym t.2) ∙ st.is_left
    front-words (inr t) = ap (emitted start) (sym t.0) ∙ st.is_left

    pub gone-words : IsTrimmed st.left front back → significant (front ++ back) ≡ a ++ b
    gone-words t =
        told-append start front back
        ∙ ap₂ (λ u v. u ++ v) (front-words t) (ap (λ q. told q back) (front-state t) ∙ sym (rest-told gone back rest) ∙ ap (told start) (sym cut) ∙ right-told)

    -- ---- items

    parts : AreItems st.left (joined (st.own ++ st.right) ++ []) × AreItems (st.own ++ st.right) []
    parts = AreItems-split st.left (st.own ++ st.right) [] (subst (λ l. AreItems l []) st.parts are)

    back-items : AreItems back []
    back-items = (AreItems-split gone back [] (subst (λ l. AreItems l []) cut (AreItems-split st.own st.right [] parts.1).1)).1

    blank-apart : (st.left ≡ front) × (EndsInNoBlank st.left ⊎ BeginsInNoBlank back) → (xs : List Lexeme) (x : Lexeme) → front ≡ xs ++ x ∷ [] → x.kind ≡ k.Blank → begins is_blank (joined back ++ []) ≡ false
    blank-apart t xs x is blank = apart t.1
      where
        apart : EndsInNoBlank st.left ⊎ BeginsInNoBlank back → begins is_blank (joined back ++ []) ≡ false
        apart (inl none) = absurd (none xs x (t.0 ∙ is) blank)
        apart (inr none) = no-blank-begins back [] back-items refl none

    front-items : IsTrimmed st.left front back → AreItems front (joined back ++ [])
    front-items (inl t) =
        let now = joined back ++ [] in
        let behind = joined (st.own ++ st.right) ++ [] in
        let split = AreItems-split front (t.0 ∷ []) behind (subst (λ l. AreItems l behind) t.2 parts.0) in
        let of = split.1.0.0 in
        let other : t.0.kind ≡ k.LineEnd → ⊥ = λ e. let both : k.Blank ≡ k.LineEnd = sym t.1 ∙ e in absurd cc in
        let was = subst (AreItems front) (append_assoc t.0.text [] behind) split.0 in
        lines-stand front (t.0.text ++ behind) now (front-state (inl t)) was (λ xs x is i.
        (λ e. absurd (no-blank-before t.0 behind of t.1 x.kind x.text e i.2), λ e. no-comment-before t.0 behind of other x.kind x.text e i.2))
    front-items (inr t) =
        let now = joined back ++ [] in
        let y = st.tight.first in
        let more = joined (st.tight.more ++ st.right) ++ [] in
        let own = subst (λ l. AreItems (l ++ st.right) []) st.tight.begins parts.1 in
        let other : y.kind ≡ k.LineEnd → ⊥ = λ e. let both : false ≡ true = sym (ap (λ κ. speaks (role κ)) e) ∙ st.tight.first_speaks in absurd cc in
        let begin : joined (st.own ++ st.right) ++ [] ≡ y.text ++ more = ap (λ l. joined (l ++ st.right) ++ []) st.tight.begins ∙ append_assoc y.text (joined (st.tight.more ++ st.right)) [] in
        let was = subst (λ l. AreItems l (y.text ++ more)) t.0 (subst (AreItems st.left) begin parts.0) in
        lines-stand front (y.text ++ more) now (front-state (inr t)) was (λ xs x is i.
        (blank-apart t xs x is, λ e. no-comment-before y more own.0.0 other x.kind x.text e i.2))

    pub gone-items : IsTrimmed st.left front back → AreItems (front ++ back) []
    gone-items t = AreItems-append front back [] (front-items t) back-items
