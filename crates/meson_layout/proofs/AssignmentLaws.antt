-- The law of an assigned value that is replaced.
use Rattle.std.proofs.Common.{◌≡◌, ℕ, ◌+◌, Bool, true, false, List, [], ◌∷◌, ◌++◌, length, refl, sym, ap, ap₂, ◌∙◌, subst, append_assoc}
use Rattle.std.proofs.lemmas.List.{append-nil}
use Rattle.std.specs.Prelude.{not, ◌||◌}
use Rattle.meson_lex.specs.declared.kinds.Span.{Span}
use Rattle.meson_lex.specs.Bytes.{is_equals, begins}
use Rattle.meson_lex.specs.Items.{Lexeme, joined, IsItemList}
use Rattle.meson_lex.specs.Significant.{Word, Role, Gap, Ends, Opens, Closes, Other, role, kept, State, start, step, step_by, emit_by, after, emitted, closing, new_line, significant}
use Rattle.meson_lex.specs.Words.{speaks, IsTight}
use Rattle.meson_lex.proofs.Seams.{joined-append}
use Rattle.meson_layout.specs.declared.primitive.Primitive.TheVariants.{Replace}
use Rattle.meson_layout.specs.Looks as look
use Rattle.meson_layout.specs.FileLaws.{line_start, behind_token, ValueIn, IsStatement, EditedFile, AssignmentLaw}
use Rattle.meson_layout.specs.Layout.{Parts, layout_of, replaced}
use Rattle.meson_layout.specs.Pieces.{as_one, splices, line_feed}
use Rattle.meson_layout.proofs.FirstBytes.{soft_item, some_text}
use Rattle.meson_layout.proofs.Near.{Follow, IsGood, AllGood, last, items-good, items-follow, follow-join, follow-front, follow-rest, good-join, good-front, good-rest}
use Rattle.meson_layout.proofs.Seams.{SoftFirst, resoft, no-comment, speaks-no-line, gap-quiet, assigns-last}
use Rattle.meson_layout.proofs.Inserted.{tight-calm}
use Rattle.meson_layout.proofs.Parts.{parts-are}
use Rattle.meson_layout.proofs.StatementLaws.{to_end, to-end-append, after-append, file-edited, line-role}

-- ---- behind the value

gap-soft : (y : Lexeme) → IsGood y → speaks (role y.kind) ≡ false → SoftFirst (y ∷ [])
gap-soft y g h = soft_item y (ap (λ b. b || (look.is_comma y.kind || look.is_closing y.kind)) (gap-quiet y.kind ∙ ap not h)) g.0

soft-line-by : (r : Role) (y : Lexeme) (ws ts : List Word) → role y.kind ≡ r → IsGood y → emit_by r behind_token (y.kind, kept y.kind y.text) ++ ws ≡ new_line ∷ ts → SoftFirst (y ∷ [])
soft-line-by Gap y ws ts h g e = gap-soft y g (ap speaks h)
soft-line-by Ends y ws ts h g e = gap-soft y g (ap speaks h)
soft-line-by Opens y ws ts h g e = let same : (y.kind, kept y.kind y.text) ≡ new_line = cc in let no : Opens ≡ Ends = line-role y.kind y.text Opens h same in absurd cc
soft-line-by Closes y ws ts h g e = let same : (y.kind, kept y.kind y.text) ≡ new_line = cc in let no : Closes ≡ Ends = line-role y.kind y.text Closes h same in absurd cc
soft-line-by Other y ws ts h g e = let same : (y.kind, kept y.kind y.text) ≡ new_line = cc in let no : Other ≡ Ends = line-role y.kind y.text Other h same in absurd cc

-- where a line ends no letter, quote or `=` comes first
soft-line : (xs : List Lexeme) (ts : List Word) → AllGood xs → to_end behind_token xs ≡ new_line ∷ ts → SoftFirst xs
soft-line [] ts g h = tt
soft-line (y ∷ ys) ts g h =
    soft-line-by (role y.kind) y (to_end (step behind_token y) ys) ts refl g.0
    (sym (append_assoc (emit_by (role y.kind) behind_token (y.kind, kept y.kind y.text)) (emitted (step behind_token y) ys) (closing (after (step behind_token y) ys).fresh)) ∙ h)

-- ---- what is written

-- a token gives the same behind another one as at a line's start
again-by : (r : Role) (w : Word) → speaks r ≡ true → (emit_by r behind_token w ≡ emit_by r line_start w) × (step_by r behind_token ≡ step_by r line_start)
again-by Gap w h = absurd cc
again-by Ends w h = absurd cc
again-by Opens w h = (refl, refl)
again-by Closes w h = (refl, refl)
again-by Other w h = (refl, refl)

again : (xs : List Lexeme) → IsTight xs → (emitted behind_token xs ≡ emitted start xs) × (after behind_token xs ≡ after start xs)
again xs t =
    let x = t.first in
    let a = again-by (role x.kind) (x.kind, kept x.kind x.text) t.first_speaks in (
      ap (emitted behind_token) t.begins ∙ ap₂ (λ u (v : State). u ++ emitted v t.more) a.0 a.1 ∙ ap (emitted start) (sym t.begins),
      ap (after behind_token) t.begins ∙ ap (λ (v : State). after v t.more) a.1 ∙ ap (after start) (sym t.begins),
    )

first-byte : (test : ℕ → Bool) (text more : List ℕ) → (text ≡ [] → ⊥) → begins test (text ++ more) ≡ false → begins test text ≡ false
first-byte test [] more some h = absurd (some refl)
first-byte test (b ∷ bs) more some h = h

-- ---- the law

module _ (file source : List ℕ) (items : List Lexeme) (list : IsItemList source items) (s : Span) (more : List Word) (p : ValueIn items s more) (new : List ℕ) (fresh : List Lexeme) (words : List Word)
    (st : IsStatement new fresh words) (other : begins is_equals new ≡ false) where
  good : AllGood (p.left ++ (p.own ++ p.right))
  good = subst AllGood p.parts (items-good items [] list.each)

  chain : Follow line_feed (p.left ++ (p.own ++ p.right))
  chain = subst (Follow line_feed) p.parts (items-follow line_feed items [] (λ y. tt) list.each)

  own-right : Follow (last line_feed p.left) (p.own ++ p.right)
  own-right = follow-rest line_feed p.left (p.own ++ p.right) chain

  good-fresh : AllGood fresh
  good-fresh = items-good fresh [] st.are_items.each

  good-right : AllGood p.right
  good-right = good-rest p.own p.right (good-rest p.left (p.own ++ p.right) good)

  calm : look.is_comment (last line_feed p.left).kind ≡ false
  calm =
      let t = p.tight in
      let at : Follow (last line_feed p.left) (t.first ∷ (t.more ++ p.right)) = subst (λ l. Follow (last line_feed p.left) (l ++ p.right)) t.begins own-right in
      let of : AllGood (t.first ∷ (t.more ++ p.right)) = subst (λ l. AllGood (l ++ p.right)) t.begins (good-rest p.left (p.own ++ p.right) good) in
      no-comment (last line_feed p.left) t.first at.0 (speaks-no-line t.first.kind t.first_speaks) of.0

  fresh-fits : Follow (last line_feed p.left) fresh
  fresh-fits =
      let t = st.tight in
      let x = last line_feed p.left in
      let alone : Follow line_feed (t.first ∷ t.more) = subst (Follow line_feed) t.begins (items-follow line_feed fresh [] (λ y. tt) st.are_items.each) in
      let goods : AllGood (t.first ∷ t.more) = subst AllGood t.begins good-fresh in
      let text : new ≡ t.first.text ++ joined t.more = sym st.are_items.joins ∙ ap joined t.begins in
      let first = first-byte is_equals t.first.text (joined t.more) (some_text t.first.kind t.first.text goods.0.0) (ap (begins is_equals) (sym text) ∙ other) in
      subst (Follow x) (sym t.begins) (assigns-last p.left p.ahead p.operator p.assigns p.is_left calm t.first first, alone.1)

  -- the tokens behind the value
  right-told : to_end behind_token p.right ≡ new_line ∷ more
  right-told =
      let whole : after start items ≡ after behind_token p.right =
      ap (after start) (p.parts ∙ sym (append_assoc p.left p.own p.right)) ∙ after-append start (p.left ++ p.own) p.right ∙ ap (λ (v : State). after v p.right) p.ends in
      ap₂ (λ (u v : State). emitted u p.right ++ closing v.fresh) (sym p.ends) (sym whole) ∙ p.is_right

  right-fits : Follow (last (last line_feed p.left) fresh) p.right
  right-fits =
      resoft (last (last line_feed p.left) p.own) (last (last line_feed p.left) fresh) p.right (tight-calm (last line_feed p.left) fresh st.tight) (soft-line p.right more good-right right-told)
      (follow-rest (last line_feed p.left) p.own p.right own-right)

  says : significant (p.left ++ (fresh ++ p.right)) ≡ emitted start p.left ++ (words ++ new_line ∷ more)
  says =
      let a = again fresh st.tight in
      to-end-append start p.left (fresh ++ p.right)
      ∙ ap (λ (v : State). emitted start p.left ++ to_end v (fresh ++ p.right)) p.begins
      ∙ ap (λ ws. emitted start p.left ++ ws) (to-end-append behind_token fresh p.right)
      ∙ ap₂ (λ ws (v : State). emitted start p.left ++ (ws ++ to_end v p.right)) (a.0 ∙ st.says) (a.1 ∙ st.ends)
      ∙ ap (λ ws. emitted start p.left ++ (words ++ ws)) right-told

  assigned : EditedFile source (splices file 0 (replaced p.left p.own p.right fresh)) (joined p.left ++ (new ++ joined p.right)) (emitted start p.left ++ (words ++ new_line ∷ more))
  assigned =
      let now : p.left ++ (fresh ++ (p.right ++ [])) ≡ p.left ++ (fresh ++ p.right) = ap (λ xs. p.left ++ (fresh ++ xs)) (append-nil p.right) in
      file-edited file source items list (replaced p.left p.own p.right fresh) (joined p.left ++ (new ++ joined p.right)) (emitted start p.left ++ (words ++ new_line ∷ more))
      (ap (λ xs. p.left ++ (p.own ++ xs)) (append-nil p.right) ∙ sym p.parts)
      (ap joined now ∙ joined-append p.left (fresh ++ p.right) ∙ ap (λ t. joined p.left ++ t) (joined-append fresh p.right) ∙ ap (λ t. joined p.left ++ (t ++ joined p.right)) st.are_items.joins)
      (subst (Follow line_feed) (sym now)
      (follow-join line_feed p.left (fresh ++ p.right) (follow-front line_feed p.left (p.own ++ p.right) chain) (follow-join (last line_feed p.left) fresh p.right fresh-fits right-fits)))
      (subst AllGood (sym now) (good-join p.left (fresh ++ p.right) (good-front p.left (p.own ++ p.right) good) (good-join fresh p.right good-fresh good-right)))
      (ap significant now ∙ says)

  same-splices : layout_of file items (Replace s new) ≡ splices file 0 (replaced p.left p.own p.right fresh)
  same-splices =
      ap (λ (q : Parts). splices file 0 (replaced q.left q.own q.right (as_one new))) (parts-are items p.left p.own p.right s p.parts p.from p.to (items-good items [] list.each))
      ∙ ap (λ t. record { file = file; at = 0 + length (joined p.left); was = joined p.own; now = t } ∷ []) (append-nil new ∙ sym st.are_items.joins)

pub assignment-law : AssignmentLaw
assignment-law file source items list s more p new fresh words st other =
    subst (λ ss. EditedFile source ss (joined p.left ++ (new ++ joined p.right)) (emitted start p.left ++ (words ++ new_line ∷ more)))
    (sym (same-splices file source items list s more p new fresh words st other)) (assigned file source items list s more p new fresh words st other)
