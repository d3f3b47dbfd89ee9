-- Items between brackets exchanged for others: they are items still, and give the words of the others in that place.
use Rattle.std.proofs.Common.{◌≡◌, ℕ, suc, pred, true, false, List, [], ◌∷◌, ◌++◌, Some, refl, sym, ap, ap₂, subst, ◌∙◌, append_assoc}
use Rattle.meson_lex.specs.declared.kinds.Kind.{Kind}
use Rattle.meson_lex.specs.Items.{Lexeme, joined, IsItem, AreItems}
use Rattle.meson_lex.specs.Kinds.{OfKind}
use Rattle.meson_lex.specs.Neighbours.{MayStand}
use Rattle.meson_lex.specs.Significant.{kept, Role, Opens, Closes, role, State, start, step_by, step, emit, emitted, after, closing, significant}
use Rattle.meson_lex.proofs.Seams.{AreItems-append, AreItems-split}
use Rattle.meson_syntax.specs.Grammar.{mark}
use Rattle.meson_lex.specs.Words.{speaks, spoken}
use Rattle.meson_syntax.proofs.places.Spots.{after-append, emitted-append, speaks-emit}
use Rattle.meson_syntax.proofs.lists.Brackets.{IsBracket, items-near}
use Rattle.meson_syntax.proofs.lists.Nesting.{nest, inside-emitted, inside-depth}

-- ---- brackets

module _ (κ : Kind) (r : Role) (b : IsBracket κ r) (x : Lexeme) (is : x.kind ≡ κ) where
  pub bracket-text : (rest : List ℕ) → IsItem x rest → x.text ≡ b.byte ∷ []
  bracket-text rest h = b.is_text x.text (subst (λ κ. OfKind κ x.text) is h.0)

  bracket-before : (rest other : List ℕ) → IsItem x rest → IsItem x other
  bracket-before rest other h = (h.0, h.1, subst (λ κ. MayStand κ x.text other) (sym is) (b.stands x.text other))

  bracket-role : role x.kind ≡ r
  bracket-role = ap role is ∙ b.is_role

  bracket-word : (s : State) → speaks r ≡ true → emit s x ≡ mark κ
  bracket-word s h =
      let word : (x.kind, kept x.kind x.text) ≡ (κ, []) = ap (λ (a : Kind). (a, kept a x.text)) is ∙ ap (λ t. (κ, t)) (b.drops x.text) in
      speaks-emit (role x.kind) s (x.kind, kept x.kind x.text) (ap speaks bracket-role ∙ h) ∙ ap (λ w. w ∷ []) word

-- ---- a list among items

abbrev pub listed : Lexeme → List Lexeme → Lexeme → List Lexeme → List Lexeme
listed o inner c right = o ∷ (inner ++ c ∷ right)

-- the state behind a list that begins at a state
abbrev pub behind : State → State
behind s = record { depth = s.depth; fresh = false }

byte-first : (t : List ℕ) (b : ℕ) (rest : List ℕ) → t ≡ b ∷ [] → (t ++ rest) ++ [] ≡ b ∷ (rest ++ [])
byte-first t b rest e = ap (λ u. (u ++ rest) ++ []) e

words-group : {A : Type 0} (a o i c r z : List A) → (a ++ (o ++ (i ++ (c ++ r)))) ++ z ≡ a ++ ((o ++ (i ++ c)) ++ (r ++ z))
words-group a o i c r z = simp append_assoc

module _ (κ ι : Kind) (opens : IsBracket κ Opens) (closes : IsBracket ι Closes) where
  pub exchanged-items : (left inner right new : List Lexeme) (o c q d : Lexeme) → o.kind ≡ κ → c.kind ≡ ι → q.kind ≡ κ → d.kind ≡ ι
      → AreItems (left ++ listed o inner c right) [] → AreItems (listed q new d []) [] → AreItems (left ++ listed q new d right) []
  exchanged-items left inner right new o c q d is-o is-c is-q is-d old now =
      let a = AreItems-split left (listed o inner c right) [] old in
      let b = AreItems-split inner (c ∷ right) [] a.1.1 in
      let e = AreItems-split new (d ∷ []) [] now.1 in
      let o-text = bracket-text κ Opens opens o is-o (joined (inner ++ c ∷ right) ++ []) a.1.0 in
      let q-text = bracket-text κ Opens opens q is-q (joined (new ++ d ∷ []) ++ []) now.0 in
      let d-text = bracket-text ι Closes closes d is-d ([] ++ []) e.1.0 in
      let before : AreItems left (joined (listed q new d right) ++ []) =
      subst (AreItems left) (sym (byte-first q.text opens.byte (joined (new ++ d ∷ right)) q-text))
      (items-near left opens.byte (joined (inner ++ c ∷ right) ++ []) (joined (new ++ d ∷ right) ++ []) opens.no_return
      (subst (AreItems left) (byte-first o.text opens.byte (joined (inner ++ c ∷ right)) o-text) a.0)) in
      let within : AreItems new (joined (d ∷ right) ++ []) =
      subst (AreItems new) (sym (byte-first d.text closes.byte (joined right) d-text))
      (items-near new closes.byte ([] ++ []) (joined right ++ []) closes.no_return
      (subst (AreItems new) (byte-first d.text closes.byte [] d-text) e.0)) in
      AreItems-append left (listed q new d right) [] before (
        bracket-before κ Opens opens q is-q (joined (new ++ d ∷ []) ++ []) (joined (new ++ d ∷ right) ++ []) now.0,
        AreItems-append new (d ∷ right) [] within (bracket-before ι Closes closes d is-d ([] ++ []) (joined right ++ []) e.1.0, b.1.1),
      )

  -- ---- words

  module _ (inner : List Lexeme) (o c : Lexeme) (is-o : o.kind ≡ κ) (is-c : c.kind ≡ ι) (flat : nest 0 (spoken inner) ≡ Some 0) where
    opened : (s : State) → (step s o).depth ≡ suc s.depth
    opened s = ap (λ r. (step_by r s).depth) (bracket-role κ Opens opens o is-o)

    closed-state : (s : State) → step (after (step s o) inner) c ≡ behind s
    closed-state s =
        ap (λ r. step_by r (after (step s o) inner)) (bracket-role ι Closes closes c is-c)
        ∙ ap (λ n. record { depth = pred n; fresh = false }) (inside-depth inner s.depth (step s o) (opened s) flat)

    pub list-after : (s : State) (right : List Lexeme) → after s (listed o inner c right) ≡ after (behind s) right
    list-after s right = after-append (step s o) inner (c ∷ right) ∙ ap (λ q. after q right) (closed-state s)

    pub list-emitted : (s : State) (right : List Lexeme) → emitted s (listed o inner c right) ≡ mark κ ++ (spoken inner ++ (mark ι ++ emitted (behind s) right))
    list-emitted s right =
        let q = step s o in
        ap₂ (λ u v. u ++ v) (bracket-word κ Opens opens o is-o s refl)
        (emitted-append q inner (c ∷ right)
        ∙ ap₂ (λ u v. u ++ v) (inside-emitted inner s.depth q (opened s) flat)
        (ap₂ (λ u v. u ++ v) (bracket-word ι Closes closes c is-c (after q inner) refl) (ap (λ z. emitted z right) (closed-state s))))

    -- the tokens of a text with a list in it
    pub list-significant : (left right : List Lexeme)
        → significant (left ++ listed o inner c right)
        ≡ emitted start left ++ ((mark κ ++ (spoken inner ++ mark ι)) ++ (emitted (behind (after start left)) right ++ closing (after (behind (after start left)) right).fresh))
    list-significant left right =
        let s = after start left in
        let z = behind s in
        ap₂ (λ u v. u ++ v)
        (emitted-append start left (listed o inner c right) ∙ ap (λ w. emitted start left ++ w) (list-emitted s right))
        (ap (λ (q : State). closing q.fresh) (after-append start left (listed o inner c right) ∙ list-after s right))
        ∙ words-group (emitted start left) (mark κ) (spoken inner) (mark ι) (emitted z right) (closing (after z right).fresh)
