-- What the layouts of an insertion make of a list.
use Rattle.std.proofs.Common.{◌≡◌, ℕ, true, false, List, [], ◌∷◌, ◌++◌, refl, sym, ap, ◌∙◌, subst, inl, inr, append_assoc}
use Rattle.std.proofs.lemmas.List.{append-nil}
use Rattle.meson_lex.specs.Items.{Lexeme, joined}
use Rattle.meson_lex.specs.Significant.{Word, Opens, Closes, role}
use Rattle.meson_lex.proofs.Seams.{joined-append}
use Rattle.meson_layout.specs.Looks as look
use Rattle.meson_lex.specs.Words.{spoken, IsTight}
use Rattle.meson_layout.specs.Words.{remarks, comma_word, IsBehindElement, IsCommaAtMost}
use Rattle.meson_layout.specs.Pieces.{comma, space, line_feed}
use Rattle.meson_layout.specs.Edited.{Keeps}
use Rattle.meson_layout.proofs.Near.{Follow, IsGood, AllGood, IsLoose, last, last-append, follow-join, follow-front, follow-rest, good-join, good-front, good-rest}
use Rattle.meson_layout.proofs.Seams.{near-soft, near-line, near-loose, reloose, resoft, SoftFirst, soft-behind, speaks-no-comment}
use Rattle.meson_layout.proofs.FirstBytes.{IsSoft, soft_item}
use Rattle.meson_layout.proofs.Ends.{spoken-append, remarks-append, blank-kind, line-kind}
use Rattle.meson_layout.proofs.Splits.{AllOf, AtMostBlank, Begun, white-spoken, white-remarks, blank-white, line-white}
use Rattle.meson_layout.proofs.Made.{Made}

-- ---- what is known of a list around an element, and of the new one

pub record Site (o c : Lexeme) (left own right : List Lexeme) : Type 0 where
  pub opens : role o.kind ≡ Opens
  pub closes : role c.kind ≡ Closes
  pub fits : Follow o ((left ++ (own ++ right)) ++ c ∷ [])
  pub good : AllGood (left ++ (own ++ right))
  pub good_close : IsGood c
  pub tight : IsTight own

pub record Fresh (new : List Lexeme) : Type 0 where
  pub fits : Follow line_feed new
  pub good : AllGood new
  pub tight : IsTight new
  pub no_remarks : remarks new ≡ []

pub last-tight : (x : Lexeme) (own : List Lexeme) → (t : IsTight own) → last x own ≡ t.last
last-tight x own t = ap (last x) t.ends ∙ last-append x t.front (t.last ∷ [])

pub tight-calm : (x : Lexeme) (own : List Lexeme) → IsTight own → look.is_comment (last x own).kind ≡ false
tight-calm x own t = ap (λ (y : Lexeme). look.is_comment y.kind) (last-tight x own t) ∙ speaks-no-comment t.last.kind t.last_speaks

-- ---- what is written

comma-good : IsGood comma
comma-good = (refl, refl)

space-good : IsGood space
space-good = ((refl, refl), refl)

comma-soft : IsSoft (44 ∷ [])
comma-soft = soft_item comma refl refl

-- behind the new element
after-new : (new ys : List Lexeme) (x : Lexeme) → Fresh new → SoftFirst ys → Follow x ys → Follow line_feed (new ++ ys)
after-new new ys x f s h = follow-join line_feed new ys f.fits (resoft x (last line_feed new) ys (tight-calm line_feed new f.tight) s h)

-- a line end with its indent
pub record Line (line : List Lexeme) : Type 0 where
  pub end : Lexeme
  pub blank : List Lexeme
  pub is_end : look.is_line_end end.kind ≡ true
  pub is_blank : AtMostBlank blank
  pub is : line ≡ end ∷ blank
  pub good : AllGood line

end-loose : (x : Lexeme) → look.is_line_end x.kind ≡ true → IsLoose x
end-loose x h = near-loose x (ap Rattle.meson_layout.proofs.Seams.loose (line-kind x.kind h))

blank-loose : (x : Lexeme) → look.is_blank_kind x.kind ≡ true → IsLoose x
blank-loose x h = near-loose x (ap Rattle.meson_layout.proofs.Seams.loose (blank-kind x.kind h))

after-blank : (a : Lexeme) (b ys : List Lexeme) → IsLoose a → AtMostBlank b → Follow line_feed ys → Follow a (b ++ ys)
after-blank a b ys l (inl e) h = subst (λ q. Follow a (q ++ ys)) (sym e) (reloose line_feed a ys l h)
after-blank a b ys l (inr (x, is, e)) h = subst (λ q. Follow a (q ++ ys)) (sym e) (l x, reloose line_feed x ys (blank-loose x is) h)

after-line : (a : Lexeme) (line ys : List Lexeme) → Line line → Follow line_feed ys → Follow a (line ++ ys)
after-line a line ys h f =
    let good : AllGood (h.end ∷ h.blank) = subst AllGood h.is h.good in
    subst (λ q. Follow a (q ++ ys)) (sym h.is) (near-line a h.end h.is_end good.0, after-blank h.end h.blank ys (end-loose h.end h.is_end) h.is_blank f)

pub blank-all : (b : List Lexeme) → AtMostBlank b → AllOf look.is_white b
blank-all b (inl e) = subst (AllOf look.is_white) (sym e) tt
blank-all b (inr (x, is, e)) = subst (AllOf look.is_white) (sym e) (blank-white (x ∷ []) (is, tt))

pub line-white-all : (end : Lexeme) (b : List Lexeme) → look.is_line_end end.kind ≡ true → AtMostBlank b → AllOf look.is_white (end ∷ b)
line-white-all end b e h = ((line-white (end ∷ []) (e, tt)).0, blank-all b h)

line-all : (line : List Lexeme) → Line line → AllOf look.is_white line
line-all line h = subst (AllOf look.is_white) (sym h.is) (line-white-all h.end h.blank h.is_end h.is_blank)

-- ---- the words and remarks of the pieces

none-words : (xs : List Lexeme) (zs : List Lexeme) → spoken xs ≡ [] → spoken (xs ++ zs) ≡ spoken zs
none-words xs zs e = spoken-append xs zs ∙ ap (λ l. l ++ spoken zs) e

none-remarks : (xs : List Lexeme) (zs : List Lexeme) → remarks xs ≡ [] → remarks (xs ++ zs) ≡ remarks zs
none-remarks xs zs e = remarks-append xs zs ∙ ap (λ l. l ++ remarks zs) e

-- the words with a new element behind the one
abbrev pub with_new : List Lexeme → List Lexeme → List Lexeme → List Lexeme → List Word
with_new left own right new = spoken left ++ (spoken own ++ comma_word ∷ (spoken new ++ spoken right))

abbrev pub all_remarks : List Lexeme → List Lexeme → List Lexeme → List Lexeme
all_remarks left own right = remarks left ++ (remarks own ++ remarks right)

front-words : (left own xs : List Lexeme) → spoken (left ++ (own ++ xs)) ≡ spoken left ++ (spoken own ++ spoken xs)
front-words left own xs = spoken-append left (own ++ xs) ∙ ap (λ l. spoken left ++ l) (spoken-append own xs)

front-remarks : (left own xs : List Lexeme) → remarks (left ++ (own ++ xs)) ≡ remarks left ++ (remarks own ++ remarks xs)
front-remarks left own xs = remarks-append left (own ++ xs) ∙ ap (λ l. remarks left ++ l) (remarks-append own xs)

-- ---- a list with something behind the element

module _ (o c : Lexeme) (left own right : List Lexeme) (site : Site o c left own right) (behind : IsBehindElement (spoken right)) (new : List Lexeme) (fresh : Fresh new) where
  abbrev tail : Lexeme
  tail = last (last o left) own

  whole : Follow o (left ++ (own ++ (right ++ c ∷ [])))
  whole = subst (Follow o) (append_assoc left (own ++ right) (c ∷ []) ∙ ap (λ l. left ++ l) (append_assoc own right (c ∷ []))) site.fits

  own-right : Follow (last o left) (own ++ (right ++ c ∷ []))
  own-right = follow-rest o left _ whole

  right-fits : Follow tail (right ++ c ∷ [])
  right-fits = follow-rest (last o left) own _ own-right

  calm : look.is_comment tail.kind ≡ false
  calm = tight-calm (last o left) own site.tight

  good-right : AllGood right
  good-right = good-rest own right (good-rest left (own ++ right) site.good)

  good-own : AllGood own
  good-own = good-front own right (good-rest left (own ++ right) site.good)

  good-left : AllGood left
  good-left = good-front left (own ++ right) site.good

  soft-right : SoftFirst (right ++ c ∷ [])
  soft-right = soft-behind right c [] behind site.closes (good-join right (c ∷ []) good-right (site.good_close, tt))

  -- the element, and then other items in place of those behind it
  front-fits : (ys : List Lexeme) → Follow tail (ys ++ c ∷ []) → Follow o ((left ++ (own ++ ys)) ++ c ∷ [])
  front-fits ys h =
      subst (Follow o) (sym (append_assoc left (own ++ ys) (c ∷ []) ∙ ap (λ l. left ++ l) (append_assoc own ys (c ∷ []))))
      (follow-join o left _ (follow-front o left _ whole) (follow-join (last o left) own _ (follow-front (last o left) own _ own-right) h))

  front-keeps : (ys rest : List Lexeme) (between : List ℕ) (lost : List Lexeme) → right ≡ lost ++ rest → IsCommaAtMost (spoken lost) → joined ys ≡ between ++ joined rest → Keeps (left ++ own) right (joined (left ++ (own ++ ys)))
  front-keeps ys rest between lost is comma_at e = record {
    front = left ++ own;
    gone = [];
    between = between;
    lost = lost;
    rest = rest;
    left_is = sym (append-nil (left ++ own));
    right_is = is;
    text_is = ap joined (sym (append_assoc left own ys)) ∙ joined-append (left ++ own) ys ∙ ap (λ t. joined (left ++ own) ++ t) e;
    gone_is = inl refl;
    lost_is = comma_at;
  }

  made-by : (ys rest : List Lexeme) (between : List ℕ) (lost : List Lexeme) → right ≡ lost ++ rest → IsCommaAtMost (spoken lost) → joined ys ≡ between ++ joined rest
      → Follow tail (ys ++ c ∷ []) → AllGood ys → spoken ys ≡ comma_word ∷ (spoken new ++ spoken right) → remarks ys ≡ remarks right
      → Made o c (left ++ own) right (left ++ (own ++ ys)) (with_new left own right new) (all_remarks left own right)
  made-by ys rest between lost is comma_at e fits good says noted = record {
    fits = front-fits ys fits;
    good = good-join left (own ++ ys) good-left (good-join own ys good-own good);
    says = front-words left own ys ∙ ap (λ l. spoken left ++ (spoken own ++ l)) says;
    noted = front-remarks left own ys ∙ ap (λ l. remarks left ++ (remarks own ++ l)) noted;
    keeps = front-keeps ys rest between lost is comma_at e;
  }

  new-right : Follow line_feed (new ++ (right ++ c ∷ []))
  new-right = after-new new (right ++ c ∷ []) tail fresh soft-right right-fits

  -- a comma, a blank, the new element
  pub plain-made : Made o c (left ++ own) right (left ++ (own ++ (comma ∷ space ∷ (new ++ right)))) (with_new left own right new) (all_remarks left own right)
  plain-made =
      made-by (comma ∷ space ∷ (new ++ right)) right (44 ∷ 32 ∷ joined new) [] refl (inl refl) (ap (λ t. 44 ∷ 32 ∷ t) (joined-append new right))
      (near-soft tail comma calm comma-soft, (tt, reloose line_feed space ((new ++ right) ++ c ∷ []) (λ y. tt) (subst (Follow line_feed) (sym (append_assoc new right (c ∷ []))) new-right)))
      (comma-good, (space-good, good-join new right fresh.good good-right))
      (ap (λ l. comma_word ∷ l) (spoken-append new right))
      (none-remarks new right fresh.no_remarks)

  module _ (line : List Lexeme) (is_line : Line line) where
    -- a comma, a new line, the new element
    pub bracket-made : Made o c (left ++ own) right (left ++ (own ++ (comma ∷ (line ++ (new ++ right))))) (with_new left own right new) (all_remarks left own right)
    bracket-made =
        made-by (comma ∷ (line ++ (new ++ right))) right (44 ∷ (joined line ++ joined new)) [] refl (inl refl)
        (ap (λ t. 44 ∷ t) (joined-append line (new ++ right) ∙ ap (λ t. joined line ++ t) (joined-append new right) ∙ sym (append_assoc (joined line) (joined new) (joined right))))
        (near-soft tail comma calm comma-soft, subst (Follow comma) (sym (append_assoc line (new ++ right) (c ∷ []) ∙ ap (λ l. line ++ l) (append_assoc new right (c ∷ [])))) (after-line comma line (new ++ (right ++ c ∷ [])) is_line new-right))
        (comma-good, good-join line (new ++ right) is_line.good (good-join new right fresh.good good-right))
        (ap (λ l. comma_word ∷ l) (none-words line (new ++ right) (white-spoken line (line-all line is_line)) ∙ spoken-append new right))
        (none-remarks line (new ++ right) (white-remarks line (line-all line is_line)) ∙ none-remarks new right fresh.no_remarks)

    -- behind the comma and the rest of the line: a new line, the new element and a comma
    pub comma-made : (skipped rest : List Lexeme) → right ≡ skipped ++ rest → spoken skipped ≡ comma_word ∷ [] → look.first_is look.is_line_end (rest ++ c ∷ []) ≡ true
        → Made o c (left ++ own) right (left ++ (own ++ (skipped ++ (line ++ (new ++ (comma ∷ rest)))))) (with_new left own right new) (all_remarks left own right)
    comma-made skipped rest is says ends =
        let z = last tail skipped in
        let all : Follow tail (skipped ++ (rest ++ c ∷ [])) = subst (Follow tail) (ap (λ l. l ++ c ∷ []) is ∙ append_assoc skipped rest (c ∷ [])) right-fits in
        let back : Follow z (rest ++ c ∷ []) = follow-rest tail skipped _ all in
        let good : AllGood (skipped ++ rest) = subst AllGood is good-right in
        let from_comma : Follow comma (rest ++ c ∷ []) = reloose z comma _ (λ y. tt) back in
        let from_new : Follow line_feed (new ++ (comma ∷ (rest ++ c ∷ []))) = after-new new (comma ∷ (rest ++ c ∷ [])) line_feed fresh comma-soft (tt, from_comma) in
        let whole_is : (skipped ++ (line ++ (new ++ (comma ∷ rest)))) ++ c ∷ [] ≡ skipped ++ (line ++ (new ++ (comma ∷ (rest ++ c ∷ [])))) =
        append_assoc skipped _ (c ∷ []) ∙ ap (λ l. skipped ++ l) (append_assoc line _ (c ∷ []) ∙ ap (λ l. line ++ l) (append_assoc new (comma ∷ rest) (c ∷ []))) in
        made-by (skipped ++ (line ++ (new ++ (comma ∷ rest)))) rest (joined (skipped ++ (line ++ (new ++ comma ∷ [])))) skipped is (inr says)
        (ap joined (sym (append_assoc skipped (line ++ (new ++ comma ∷ [])) rest ∙ ap (λ l. skipped ++ l) (append_assoc line (new ++ comma ∷ []) rest ∙ ap (λ l. line ++ l) (append_assoc new (comma ∷ []) rest)))) ∙ joined-append (skipped ++ (line ++ (new ++ comma ∷ []))) rest)
        (subst (Follow tail) (sym whole_is) (follow-join tail skipped _ (follow-front tail skipped _ all) (after-line z line _ is_line from_new)))
        (good-join skipped _ (good-front skipped rest good) (good-join line _ is_line.good (good-join new (comma ∷ rest) fresh.good (comma-good, good-rest skipped rest good))))
        (spoken-append skipped _ ∙ ap (λ l. l ++ spoken (line ++ (new ++ (comma ∷ rest)))) says ∙ ap (λ l. comma_word ∷ l) (none-words line _ (white-spoken line (line-all line is_line)) ∙ spoken-append new (comma ∷ rest))
        ∙ ap (λ l. comma_word ∷ (spoken new ++ l)) (sym (ap spoken is ∙ spoken-append skipped rest ∙ ap (λ l. l ++ spoken rest) says)))
        (remarks-append skipped _ ∙ ap (λ l. remarks skipped ++ l) (none-remarks line _ (white-remarks line (line-all line is_line)) ∙ none-remarks new (comma ∷ rest) fresh.no_remarks) ∙ sym (ap remarks is ∙ remarks-append skipped rest))

    -- a comma, the rest of the line, a new line and the new element
    pub note-made : (skipped rest : List Lexeme) → right ≡ skipped ++ rest → spoken skipped ≡ [] → Begun look.is_line_end (rest ++ c ∷ [])
        → Made o c (left ++ own) right (left ++ (own ++ (comma ∷ (skipped ++ (line ++ (new ++ rest)))))) (with_new left own right new) (all_remarks left own right)
    note-made skipped rest is says ends =
        let z = last comma skipped in
        let all : Follow tail (skipped ++ (rest ++ c ∷ [])) = subst (Follow tail) (ap (λ l. l ++ c ∷ []) is ∙ append_assoc skipped rest (c ∷ [])) right-fits in
        let from_comma : Follow comma (skipped ++ (rest ++ c ∷ [])) = reloose tail comma _ (λ y. tt) all in
        let back : Follow z (rest ++ c ∷ []) = follow-rest comma skipped _ from_comma in
        let good : AllGood (skipped ++ rest) = subst AllGood is good-right in
        let good_ends : AllGood (ends.first ∷ ends.more) = subst AllGood ends.is (good-join rest (c ∷ []) (good-rest skipped rest good) (site.good_close, tt)) in
        let at_end : Follow z (ends.first ∷ ends.more) = subst (Follow z) ends.is back in
        let behind_new : Follow (last line_feed new) (rest ++ c ∷ []) = subst (Follow (last line_feed new)) (sym ends.is) (near-line (last line_feed new) ends.first ends.passes good_ends.0, at_end.1) in
        let from_new : Follow line_feed (new ++ (rest ++ c ∷ [])) = follow-join line_feed new _ fresh.fits behind_new in
        let whole_is : (skipped ++ (line ++ (new ++ rest))) ++ c ∷ [] ≡ skipped ++ (line ++ (new ++ (rest ++ c ∷ []))) =
        append_assoc skipped _ (c ∷ []) ∙ ap (λ l. skipped ++ l) (append_assoc line _ (c ∷ []) ∙ ap (λ l. line ++ l) (append_assoc new rest (c ∷ []))) in
        made-by (comma ∷ (skipped ++ (line ++ (new ++ rest)))) rest (44 ∷ joined (skipped ++ (line ++ new))) skipped is (inl says)
        (ap (λ t. 44 ∷ t) (ap joined (sym (append_assoc skipped (line ++ new) rest ∙ ap (λ l. skipped ++ l) (append_assoc line new rest))) ∙ joined-append (skipped ++ (line ++ new)) rest))
        (near-soft tail comma calm comma-soft, subst (Follow comma) (sym whole_is) (follow-join comma skipped _ (follow-front comma skipped _ from_comma) (after-line z line _ is_line from_new)))
        (comma-good, good-join skipped _ (good-front skipped rest good) (good-join line _ is_line.good (good-join new rest fresh.good (good-rest skipped rest good))))
        (ap (λ l. comma_word ∷ l) (none-words skipped _ says ∙ none-words line _ (white-spoken line (line-all line is_line)) ∙ spoken-append new rest)
        ∙ ap (λ l. comma_word ∷ (spoken new ++ l)) (sym (ap spoken is ∙ none-words skipped rest says)))
        (remarks-append skipped _ ∙ ap (λ l. remarks skipped ++ l) (none-remarks line _ (white-remarks line (line-all line is_line)) ∙ none-remarks new rest fresh.no_remarks) ∙ sym (ap remarks is ∙ remarks-append skipped rest))
