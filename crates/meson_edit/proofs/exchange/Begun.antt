-- A text behind which a line begins: it ends its line, or a line end is put behind it.
use Rattle.meson_edit.proofs.Words.{◌≡◌, ℕ, Bool, true, false, List, [], ◌∷◌, ◌++◌, None, refl, sym, ap, ap₂, subst, ◌∙◌, append_assoc, inl, inr, append-nil}
use Rattle.meson_edit.proofs.Words.{begins, first_bare_return, is_blank, Lexeme, joined, IsItem, IsItemList, AreItems, IsLineEnd, Word, new_line, Ends, role}
use Rattle.meson_edit.proofs.Words.{State, start, fresh_after, step_by, ends_line, only_if, after, emitted, closing, significant, speaks, joined-append}
use Rattle.meson_edit.proofs.Words.{AreItems-append, after-append, emitted-append, EndsItsLine, IsBreak}
use Rattle.meson_lex.specs.declared.kinds.Kind.TheVariants as k
use Rattle.meson_edit.proofs.exchange.States.{after_words, after-words-append, state-is, flat-depth, Lines}
use Rattle.meson_edit.proofs.exchange.Ends.{other-end, end-changed, silent-stands, line-stands}

-- ---- line ends

abbrev pub line_of : List ℕ → Lexeme
line_of end = record { kind = k.LineEnd; text = end }

line-bare : (end : List ℕ) → IsLineEnd end → first_bare_return end ≡ None
line-bare end (inl e) = ap first_bare_return e
line-bare end (inr e) = ap first_bare_return e

pub line-item : (end rest : List ℕ) → IsLineEnd end → IsItem (line_of end) rest
line-item end rest l = (l, line-bare end l, tt)

-- a line end behind items
pub before-line : (xs : List Lexeme) (end rest : List ℕ) → IsLineEnd end → AreItems xs [] → AreItems xs (joined (line_of end ∷ []) ++ rest)
before-line xs end rest l h = subst (AreItems xs) (sym (append_assoc end [] rest)) (end-changed xs [] (end ++ rest) h (λ front x is i. line-stands x [] end rest l i))

line-end-state : (s : State) → s.depth ≡ 0 → step_by Ends s ≡ start
line-end-state s e = ap (λ (d : ℕ). record { depth = d; fresh = fresh_after d s.fresh }) e

line-end-word : (d : ℕ) (fresh : Bool) → d ≡ 0 → only_if (ends_line d fresh) new_line ≡ closing fresh
line-end-word d fresh e = ap (λ n. only_if (ends_line n fresh) new_line) e ∙ outside fresh
  where
    outside : (fresh : Bool) → only_if (ends_line 0 fresh) new_line ≡ closing fresh
    outside true = refl
    outside false = refl

-- ---- depth at the end

closing-depth : (s : State) (fresh : Bool) → (after_words s (closing fresh)).depth ≡ s.depth
closing-depth s true = refl
closing-depth s false = refl

-- behind a file no bracket is open
pub end-depth : (xs : List Lexeme) → Lines (significant xs) → (after start xs).depth ≡ 0
end-depth xs l =
    let e = emitted start xs in
    let c = closing (after start xs).fresh in
    ap (λ (s : State). s.depth) (state-is start xs) ∙ sym (closing-depth (after_words start e) (after start xs).fresh) ∙ ap (λ (s : State). s.depth) (sym (after-words-append start e c))
    ∙ flat-depth (e ++ c) start refl l.flat

-- ---- where a line begins

pub record Begun (text : List ℕ) (words : List Word) : Type 0 where
  pub head : List Lexeme
  pub joins : joined head ≡ text
  pub stand : (now : List ℕ) → AreItems head now
  pub state : after start head ≡ start
  pub told : emitted start head ≡ words
  pub ends : EndsItsLine head

-- where no line end has to come, the words are those of the text
all-told : (xs : List Lexeme) (words : List Word) → significant xs ≡ words → after start xs ≡ start → emitted start xs ≡ words
all-told xs words is state = sym (append-nil (emitted start xs)) ∙ ap (λ (q : State). emitted start xs ++ closing q.fresh) (sym state) ∙ is

module _ (bytes : List ℕ) (xs : List Lexeme) (are : IsItemList bytes xs) (words : List Word) (is : significant xs ≡ words) (lines : Lines words) where
  deep : (after start xs).depth ≡ 0
  deep = end-depth xs (subst Lines (sym is) lines)

  with-line : (end : List ℕ) → IsLineEnd end → Begun (bytes ++ end) words
  with-line end l =
      let line = line_of end in
      let q = after start xs in
      record {
        head = xs ++ line ∷ [];
        joins = joined-append xs (line ∷ []) ∙ ap₂ (λ u v. u ++ v) are.joins (append-nil end);
        stand = λ now. AreItems-append xs (line ∷ []) now (before-line xs end now l are.each) (line-item end now l, tt);
        state = after-append start xs (line ∷ []) ∙ line-end-state q deep;
        told = emitted-append start xs (line ∷ []) ∙ ap (λ w. emitted start xs ++ w) (append-nil (only_if (ends_line q.depth q.fresh) new_line) ∙ line-end-word q.depth q.fresh deep) ∙ is;
        ends = inr (xs, line, refl, refl);
      }

  ended-state : EndsItsLine xs → after start xs ≡ start
  ended-state (inl e) = ap (after start) e
  ended-state (inr e) =
      let q = after start e.0 in
      let last : after start xs ≡ step_by Ends q = ap (after start) e.3 ∙ after-append start e.0 (e.1 ∷ []) ∙ ap (λ κ. step_by (role κ) q) e.2 in
      last ∙ line-end-state q (sym (ap (λ (s : State). s.depth) last) ∙ deep)

  ended-stand : EndsItsLine xs → (now : List ℕ) → AreItems xs now
  ended-stand (inl e) now = subst (λ l. AreItems l now) (sym e) tt
  ended-stand (inr e) now =
      let no_blank : e.1.kind ≡ k.Blank → begins is_blank now ≡ false = λ h. let both : k.Blank ≡ k.LineEnd = sym h ∙ e.2 in absurd cc in
      let no_comment : e.1.kind ≡ k.Comment → ⊥ = λ h. let both : k.Comment ≡ k.LineEnd = sym h ∙ e.2 in absurd cc in
      subst (λ l. AreItems l now) (sym e.3)
      (other-end e.0 e.1 [] now (subst (λ l. AreItems l []) e.3 are.each) (λ i. (i.0, i.1, silent-stands e.1.kind e.1.text now (ap (λ κ. speaks (role κ)) e.2) no_blank no_comment)))

  as-it-is : EndsItsLine xs → Begun bytes words
  as-it-is e = record { head = xs; joins = are.joins; stand = ended-stand e; state = ended-state e; told = all-told xs words is (ended-state e); ends = e }

  pub begun : (break : List ℕ) → IsBreak xs break → Begun (bytes ++ break) words
  begun break (inl l) = with-line break l
  begun break (inr e) = subst (λ t. Begun t words) (sym (append-nil bytes) ∙ ap (λ b. bytes ++ b) (sym e.0)) (as-it-is e.1)
