-- What the layouts of a removal make of a list.
use Rattle.std.proofs.Common.{◌≡◌, ℕ, Bool, true, false, ◌||◌, List, [], ◌∷◌, ◌++◌, take, drop, refl, sym, ap, ap₂, ◌∙◌, subst, inl, inr, append_assoc}
use Rattle.std.proofs.lemmas.Bool.{cond_both, false≢true}
use Rattle.std.proofs.lemmas.List.{append-nil, take-append-drop, append_cancel_right}
use Rattle.std.proofs.Math.Seq.{take-add}
use Rattle.std.specs.Prelude.{reverse}
use Rattle.meson_lex.specs.declared.kinds.Kind.{Kind}
use Rattle.meson_lex.specs.declared.kinds.Kind.TheVariants as k
use Rattle.meson_lex.specs.Items.{Lexeme}
use Rattle.meson_lex.specs.Significant.{Word}
use Rattle.meson_layout.specs.Looks as look
use Rattle.meson_lex.specs.Words.{spoken}
use Rattle.meson_layout.specs.Words.{remarks, comma_word, IsBeforeElement, IsBehindElement}
use Rattle.meson_layout.specs.Pieces.{Piece}
use Rattle.meson_layout.specs.Removal.{one_range, two_ranges, comma_len, comma_behind, comma_before, no_comma_behind, removed}
use Rattle.meson_layout.specs.Laws.{IsWithout}
use Rattle.meson_layout.proofs.Near.{Follow, AllGood, IsLoose, last, last-append, follow-front, follow-rest, good-join, good-front, good-rest}
use Rattle.meson_layout.proofs.Seams.{near-loose, loose, no-comment, speaks-no-line, reloose, resoft, SoftFirst, soft-behind}
use Rattle.meson_layout.proofs.FirstBytes.{soft_item}
use Rattle.meson_layout.proofs.Ends.{back-parts, back-joins, within-left, within-right, AllMild, AllGap, gap-mild, mild-join, gap-spoken, spoken-append, remarks-append, comma-kind, last-one}
use Rattle.meson_layout.proofs.Splits.{AllOf, one-all, begun, blank-white, white-gap, white-spoken, white-remarks, comma-spoken}
use Rattle.meson_layout.proofs.Gaps.{gap-front, gap-back, comma-beyond, comma-before-gap}
use Rattle.meson_layout.proofs.Inserted.{Site}
use Rattle.meson_layout.proofs.ValueLaws.{value-before}
use Rattle.meson_layout.proofs.InsertedPieces.{Shaped}
use Rattle.meson_layout.proofs.Cuts.{one-shaped, two-shaped}

-- ---- the last item of a gap

gap-loose : (κ : Kind) → look.is_gap κ ≡ true → look.is_comment κ ≡ false → loose κ ≡ true
gap-loose k.Blank h c = refl
gap-loose k.LineEnd h c = refl
gap-loose k.Comment h c = absurd cc
gap-loose k.Continuation h c = refl
gap-loose _ h c = absurd cc

gap-last : (x : Lexeme) (xs : List Lexeme) → AllGap (x ∷ xs) → look.is_gap (last x xs).kind ≡ true
gap-last x [] h = h.0
gap-last x (y ∷ ys) h = gap-last y ys h.1

gap-ends : (mid : List Lexeme) (d : Lexeme) → AllGap mid → (mid ≡ [] → ⊥) → look.is_comment (last d mid).kind ≡ false → (x : Lexeme) → IsLoose (last x mid)
gap-ends [] d g some c = absurd (some refl)
gap-ends (m ∷ mid) d g some c = λ x. near-loose (last m mid) (gap-loose (last m mid).kind (gap-last m mid g) c)

gap-soft : (xs : List Lexeme) → AllGap xs → AllGood xs → SoftFirst xs
gap-soft [] g h = tt
gap-soft (x ∷ xs) g h = soft_item x (ap (λ b. b || (look.is_comma x.kind || look.is_closing x.kind)) g.0) h.0.0

not-few : (mid : List Lexeme) → look.at_most_blank mid ≡ false → mid ≡ [] → ⊥
not-few [] h e = absurd cc
not-few (x ∷ mid) h e = absurd cc

not-white : (mid : List Lexeme) → look.all_white mid ≡ false → mid ≡ [] → ⊥
not-white [] h e = absurd cc
not-white (x ∷ mid) h e = absurd cc

few-white : (mid : List Lexeme) → look.at_most_blank mid ≡ true → AllOf look.is_white mid
few-white [] h = tt
few-white (x ∷ []) h = blank-white (x ∷ []) (h, tt)
few-white (x ∷ y ∷ ys) h = absurd cc

all-white : (mid : List Lexeme) → look.all_white mid ≡ true → AllOf look.is_white mid
all-white [] h = tt
all-white (x ∷ mid) h = let p = Rattle.std.proofs.lemmas.Bool.and_parts (look.is_white x.kind) (look.all_white mid) h in (p.0, all-white mid p.1)

-- ---- a comma with the blank behind it

record CommaFront (after : List Lexeme) : Type 0 where
  pub first : Lexeme
  pub blank : List Lexeme
  pub comma : look.is_comma first.kind ≡ true
  pub white : AllOf look.is_white blank
  pub is : take (comma_len after) after ≡ first ∷ blank

comma-front : (after : List Lexeme) → look.first_is look.is_comma after ≡ true → CommaFront after
comma-front after h =
    let b = begun look.is_comma after h in
    let more : drop 1 after ≡ b.more = ap (drop 1) b.is in
    let q = look.one_if look.is_blank_kind (drop 1 after) in
    record {
      first = b.first;
      blank = take q (drop 1 after);
      comma = b.passes;
      white = blank-white _ (one-all look.is_blank_kind (drop 1 after));
      is = take-add 1 q after ∙ ap (λ xs. take 1 xs ++ take q (drop 1 after)) b.is;
    }

comma-first-words : (x : Lexeme) (blank : List Lexeme) → look.is_comma x.kind ≡ true → AllOf look.is_white blank → spoken (x ∷ blank) ≡ comma_word ∷ []
comma-first-words x blank c w = spoken-append (x ∷ []) blank ∙ ap₂ (λ u v. u ++ v) (comma-spoken x c) (white-spoken blank w)

comma-remark : (κ : Kind) → look.is_comma κ ≡ true → Rattle.meson_layout.specs.Words.is_remark κ ≡ false
comma-remark k.Comma h = refl
comma-remark _ h = absurd cc

comma-first-notes : (x : Lexeme) (blank : List Lexeme) → look.is_comma x.kind ≡ true → AllOf look.is_white blank → remarks (x ∷ blank) ≡ []
comma-first-notes x blank c w = ap (λ b. Rattle.std.proofs.Common.cond b (x ∷ remarks blank) (remarks blank)) (comma-remark x.kind c) ∙ white-remarks blank w

comma-calm : (κ : Kind) → look.is_comma κ ≡ true → look.is_line_end κ ≡ false
comma-calm k.Comma h = refl
comma-calm _ h = absurd cc

comma-mild : (x : Lexeme) (blank : List Lexeme) → look.is_comma x.kind ≡ true → AllOf look.is_white blank → AllMild (x ∷ blank)
comma-mild x blank c w = (ap (λ κ. look.is_gap κ || look.is_comma κ) (comma-kind x.kind c), gap-mild blank (white-gap blank w))

-- ---- the words

snoc-front : (xs ys : List Word) → xs ++ comma_word ∷ [] ≡ ys ++ comma_word ∷ [] → xs ≡ ys
snoc-front xs ys e = append_cancel_right xs ys (comma_word ∷ []) e

cons-rest : (xs ys : List Word) → comma_word ∷ xs ≡ comma_word ∷ ys → xs ≡ ys
cons-rest xs ys e = cc

nil-snoc : (ys : List Word) → [] ≡ ys ++ comma_word ∷ [] → ⊥
nil-snoc [] e = absurd cc
nil-snoc (y ∷ ys) e = absurd cc

without-behind : (left right words more : List Word) → IsWithout left right words → right ≡ comma_word ∷ more → words ≡ left ++ more
without-behind left right words more (inl (rest, e, is)) f = is ∙ ap (λ r. left ++ r) (cons-rest rest more (sym e ∙ f))
without-behind left right words more (inr (inl (front, e, h, is))) f = let no : [] ≡ comma_word ∷ more = sym e ∙ f in absurd cc
without-behind left right words more (inr (inr (e, h, is))) f = let no : [] ≡ comma_word ∷ more = sym e ∙ f in absurd cc

without-before : (left right words front : List Word) → IsWithout left right words → right ≡ [] → left ≡ front ++ comma_word ∷ [] → words ≡ front
without-before left right words front (inl (rest, e, is)) f g = let no : comma_word ∷ rest ≡ [] = sym e ∙ f in absurd cc
without-before left right words front (inr (inl (other, e, h, is))) f g = is ∙ snoc-front other front (sym h ∙ g)
without-before left right words front (inr (inr (e, h, is))) f g = absurd (nil-snoc front (sym h ∙ g))

-- ---- an element of a list

module _ (front : List Lexeme) (o c : Lexeme) (rest left own right : List Lexeme) (site : Site o c left own right) (ends : IsBeforeElement (spoken left)) (follows : IsBehindElement (spoken right))
    (words : List Word) (without : IsWithout (spoken left) (spoken right) words) where
  abbrev before : List Lexeme
  before = front ++ o ∷ left

  abbrev behind : List Lexeme
  behind = right ++ c ∷ rest

  abbrev Fits : List Piece → Type 0
  Fits ps = Shaped front o c rest (before ++ (own ++ behind)) left right words (remarks left ++ remarks right) ps

  whole : Follow o (left ++ (own ++ (right ++ c ∷ [])))
  whole = subst (Follow o) (append_assoc left (own ++ right) (c ∷ []) ∙ ap (λ l. left ++ l) (append_assoc own right (c ∷ []))) site.fits

  left-fits : Follow o left
  left-fits = follow-front o left _ whole

  own-fits : Follow (last o left) (own ++ (right ++ c ∷ []))
  own-fits = follow-rest o left _ whole

  abbrev tail : Lexeme
  tail = last (last o left) own

  right-fits : Follow tail (right ++ c ∷ [])
  right-fits = follow-rest (last o left) own _ own-fits

  left-good : AllGood left
  left-good = good-front left (own ++ right) site.good

  right-good : AllGood right
  right-good = good-rest own right (good-rest left (own ++ right) site.good)

  left-loose : IsLoose (last o left)
  left-loose = value-before o c left own right site (inl ends)

  -- another item stands before a list of items of these shapes
  reshape : (items other : List Lexeme) (us vs : List Word) (ns ms : List Lexeme) (ps : List Piece) → items ≡ other → us ≡ vs → ns ≡ ms → Shaped front o c rest items left right us ns ps → Shaped front o c rest other left right vs ms ps
  reshape items other us vs ns ms ps e f g h =
      subst (λ xs. Shaped front o c rest xs left right vs ms ps) e (subst (λ ws. Shaped front o c rest items left right ws ms ps) f (subst (λ rs. Shaped front o c rest items left right us rs ps) g h))

  -- ---- a comma behind

  module _ (mid after : List Lexeme) (parts : behind ≡ mid ++ after) (gap : AllGap mid) (begins : look.first_is look.is_comma after ≡ true) where
    abbrev n : ℕ
    n = comma_len after

    behind-shaped : Fits (comma_behind before own mid after)
    behind-shaped =
        let f = comma-front after begins in
        let taken : List Lexeme = f.first ∷ f.blank in
        let mild : AllMild (mid ++ taken) = mild-join mid taken (gap-mild mid gap) (comma-mild f.first f.blank f.comma f.white) in
        let after_is : after ≡ taken ++ drop n after = sym (take-append-drop n after) ∙ ap (λ xs. xs ++ drop n after) f.is in
        let w = within-right right c rest (mid ++ taken) (drop n after) site.closes (parts ∙ ap (λ xs. mid ++ xs) after_is ∙ sym (append_assoc mid taken (drop n after))) mild in
        let right_is : right ≡ mid ++ (taken ++ w.0) = w.1 ∙ append_assoc mid taken w.0 in
        let right_words : spoken right ≡ comma_word ∷ spoken w.0 = ap spoken right_is ∙ spoken-append mid (taken ++ w.0) ∙ ap₂ (λ u v. u ++ v) (gap-spoken mid gap) (spoken-append taken w.0 ∙ ap (λ u. u ++ spoken w.0) (comma-first-words f.first f.blank f.comma f.white)) in
        let right_notes : remarks right ≡ remarks mid ++ remarks w.0 = ap remarks right_is ∙ remarks-append mid (taken ++ w.0) ∙ ap (λ u. remarks mid ++ u) (remarks-append taken w.0 ∙ ap (λ u. u ++ remarks w.0) (comma-first-notes f.first f.blank f.comma f.white)) in
        let words_are : words ≡ spoken left ++ spoken w.0 = without-behind (spoken left) (spoken right) words (spoken w.0) without right_words in
        let chain : Follow tail (mid ++ (taken ++ (w.0 ++ c ∷ []))) = subst (Follow tail) (ap (λ xs. xs ++ c ∷ []) right_is ∙ append_assoc mid (taken ++ w.0) (c ∷ []) ∙ ap (λ xs. mid ++ xs) (append_assoc taken w.0 (c ∷ []))) right-fits in
        let good_all : AllGood (mid ++ (taken ++ w.0)) = subst AllGood right_is right-good in
        let good_mid = good-front mid (taken ++ w.0) good_all in
        let good_taken = good-front taken w.0 (good-rest mid (taken ++ w.0) good_all) in
        let good_rest = good-rest taken w.0 (good-rest mid (taken ++ w.0) good_all) in
        let at_comma = follow-rest tail mid _ chain in
        let z = last (last tail mid) taken in
        let end_fits : Follow z (w.0 ++ c ∷ []) = follow-rest (last tail mid) taken _ at_comma in
        let comma_words = comma-first-words f.first f.blank f.comma f.white in
        let lost_words : spoken (mid ++ taken) ≡ comma_word ∷ [] = spoken-append mid taken ∙ ap₂ (λ u v. u ++ v) (gap-spoken mid gap) comma_words in
        let here : before ++ (own ++ (mid ++ (taken ++ (w.0 ++ c ∷ rest)))) ≡ before ++ (own ++ behind) = ap (λ xs. before ++ (own ++ xs)) (sym (ap (λ xs. xs ++ c ∷ rest) right_is ∙ append_assoc mid (taken ++ w.0) (c ∷ rest) ∙ ap (λ xs. mid ++ xs) (append_assoc taken w.0 (c ∷ rest)))) in
        let calm = no-comment (last tail mid) f.first at_comma.0 (comma-calm f.first.kind f.comma) good_taken.0 in
        subst (λ (t : List Lexeme). Fits (Rattle.std.proofs.Common.cond (look.at_most_blank mid) (one_range before (own ++ (mid ++ t)) (drop n after)) (two_ranges before own mid t (drop n after)))) (sym f.is)
        (subst (λ (d : List Lexeme). Fits (Rattle.std.proofs.Common.cond (look.at_most_blank mid) (one_range before (own ++ (mid ++ taken)) d) (two_ranges before own mid taken d))) (sym w.2)
        (cond_both (look.at_most_blank mid) _ _ Fits
        (λ few. reshape _ _ _ _ _ _ _ (ap (λ xs. before ++ xs) (append_assoc own (mid ++ taken) (w.0 ++ c ∷ rest) ∙ ap (λ xs. own ++ xs) (append_assoc mid taken (w.0 ++ c ∷ rest))) ∙ here) (sym words_are)
        (ap (λ u. remarks left ++ u) (sym (right_notes ∙ ap (λ u. u ++ remarks w.0) (white-remarks mid (few-white mid few)))))
        (one-shaped front o c rest site.opens site.closes left [] (mid ++ taken) w.0 left right (sym (append-nil left)) w.1 (inl refl) (inr lost_words) left-fits left-good good_rest (own ++ (mid ++ taken)) (reloose z (last o left) _ left-loose end_fits)))
        (λ more. reshape _ _ _ _ _ _ _ here (sym words_are) (ap (λ u. remarks left ++ u) (sym right_notes))
        (two-shaped front o c rest site.opens site.closes left [] (mid ++ taken) w.0 left right (sym (append-nil left)) w.1 (inl refl) (inr lost_words) left-fits left-good good_rest own mid taken gap good_mid
        (reloose tail (last o left) mid left-loose (follow-front tail mid _ chain)) (gap-ends mid tail gap (not-few mid more) calm) z end_fits))))

  -- ---- no comma behind

  module _ (no_comma : spoken right ≡ []) where
    abbrev m : ℕ
    m = look.gap_len (reverse before)

    module _ (begins : look.first_is look.is_comma (reverse (look.but_last m before)) ≡ true) where
      before-shaped : Fits (comma_before (look.but_last 1 (look.but_last m before)) (look.last_few 1 (look.but_last m before)) (look.last_few m before) own behind)
      before-shaped =
          let g = gap-back before in
          let b = begun look.is_comma (reverse (look.but_last m before)) begins in
          let mid = look.last_few m before in
          let init = reverse b.more in
          let front_is : look.but_last m before ≡ init ++ b.first ∷ [] = last-one (look.but_last m before) b.first b.more b.is in
          let p = back-parts (look.but_last m before) init (b.first ∷ []) 1 front_is refl in
          let taken : List Lexeme = b.first ∷ mid in
          let mild : AllMild taken = ((comma-mild b.first [] b.passes tt).0, gap-mild mid g.gap) in
          let split : before ≡ init ++ taken = sym (back-joins before m) ∙ ap (λ xs. xs ++ mid) front_is ∙ append_assoc init (b.first ∷ []) mid in
          let w = within-left front o left init taken site.opens split mild in
          let left_words : spoken left ≡ spoken w.0 ++ comma_word ∷ [] =
          ap spoken w.1 ∙ spoken-append w.0 taken ∙ ap (λ u. spoken w.0 ++ u) (spoken-append (b.first ∷ []) mid ∙ ap₂ (λ u v. u ++ v) (comma-spoken b.first b.passes) (gap-spoken mid g.gap)) in
          let left_notes : remarks left ≡ remarks w.0 ++ remarks mid =
          ap remarks w.1 ∙ remarks-append w.0 taken ∙ ap (λ u. remarks w.0 ++ u) (remarks-append (b.first ∷ []) mid ∙ ap (λ u. u ++ remarks mid) (comma-first-notes b.first [] b.passes tt)) in
          let words_are : words ≡ spoken w.0 ++ spoken right = without-before (spoken left) (spoken right) words (spoken w.0) without no_comma left_words ∙ sym (ap (λ u. spoken w.0 ++ u) no_comma ∙ append-nil (spoken w.0)) in
          let chain : Follow o (w.0 ++ taken) = subst (Follow o) w.1 left-fits in
          let good_all : AllGood (w.0 ++ taken) = subst AllGood w.1 left-good in
          let good_taken = good-rest w.0 taken good_all in
          let at_comma : Follow (last o w.0) taken = follow-rest o w.0 taken chain in
          let calm = no-comment (last o w.0) b.first at_comma.0 (comma-calm b.first.kind b.passes) good_taken.0 in
          let gone_words : spoken taken ≡ comma_word ∷ [] = spoken-append (b.first ∷ []) mid ∙ ap₂ (λ u v. u ++ v) (comma-spoken b.first b.passes) (gap-spoken mid g.gap) in
          let soft = soft-behind right c [] (inl no_comma) site.closes (good-join right (c ∷ []) right-good (site.good_close, tt)) in
          let seam : Follow (last o w.0) (right ++ c ∷ []) = resoft tail (last o w.0) _ calm soft right-fits in
          let last_is : last o left ≡ last b.first mid = ap (last o) w.1 ∙ last-append o w.0 taken in
          let t = site.tight in
          let own_first : Follow (last o left) (t.first ∷ (t.more ++ (right ++ c ∷ []))) = subst (λ l. Follow (last o left) (l ++ (right ++ c ∷ []))) t.begins own-fits in
          let own_good : AllGood (t.first ∷ t.more) = subst AllGood t.begins (good-front own right (good-rest left (own ++ right) site.good)) in
          let end_calm : look.is_comment (last b.first mid).kind ≡ false = subst (λ (x : Lexeme). look.is_comment x.kind ≡ false) last_is (no-comment (last o left) t.first own_first.0 (speaks-no-line t.first.kind t.first_speaks) own_good.0) in
          let mid_fits : Follow (last o w.0) mid = resoft b.first (last o w.0) mid calm (gap-soft mid g.gap good_taken.1) at_comma.1 in
          let here : (front ++ o ∷ w.0) ++ ((b.first ∷ []) ++ (mid ++ (own ++ behind))) ≡ before ++ (own ++ behind) = sym (ap (λ xs. xs ++ (own ++ behind)) (ap (λ xs. front ++ o ∷ xs) w.1) ∙ regroup front w.0 mid (own ++ behind) b.first) in
          subst (λ (xs : List Lexeme). Fits (comma_before xs (look.last_few 1 (look.but_last m before)) mid own behind)) (sym (p.0 ∙ w.2))
          (subst (λ (xs : List Lexeme). Fits (comma_before (front ++ o ∷ w.0) xs mid own behind)) (sym p.1)
          (cond_both (look.all_white mid) _ _ Fits
          (λ white. reshape _ _ _ _ _ _ _ (ap (λ xs. (front ++ o ∷ w.0) ++ xs) (append_assoc (b.first ∷ []) (mid ++ own) behind ∙ ap (λ xs. (b.first ∷ []) ++ xs) (append_assoc mid own behind)) ∙ here) (sym words_are)
          (ap (λ u. u ++ remarks right) (sym (left_notes ∙ ap (λ u. remarks w.0 ++ u) (white-remarks mid (all-white mid white)) ∙ append-nil (remarks w.0))))
          (one-shaped front o c rest site.opens site.closes w.0 taken [] right left right w.1 refl (inr gone_words) (inl refl) (follow-front o w.0 taken chain) (good-front w.0 taken good_all) right-good ((b.first ∷ []) ++ (mid ++ own)) seam))
          (λ more. reshape _ _ _ _ _ _ _ here (sym words_are) (sym (ap (λ u. u ++ remarks right) left_notes ∙ append_assoc (remarks w.0) (remarks mid) (remarks right)))
          (two-shaped front o c rest site.opens site.closes w.0 taken [] right left right w.1 refl (inr gone_words) (inl refl) (follow-front o w.0 taken chain) (good-front w.0 taken good_all) right-good (b.first ∷ []) mid own g.gap good_taken.1
          mid_fits (gap-ends mid b.first g.gap (not-white mid more) end_calm) tail right-fits))))
        where
          regroup : (f a d e : List Lexeme) (x : Lexeme) → (f ++ o ∷ (a ++ x ∷ d)) ++ e ≡ (f ++ o ∷ a) ++ ((x ∷ []) ++ (d ++ e))
          regroup f a d e x = simp append_assoc

    alone-shaped : words ≡ spoken left ++ spoken right → Fits (one_range before own behind)
    alone-shaped e =
        reshape _ _ _ _ _ _ _ refl (sym e) refl
        (one-shaped front o c rest site.opens site.closes left [] [] right left right (sym (append-nil left)) refl (inl refl) (inl refl) left-fits left-good right-good own (reloose tail (last o left) _ left-loose right-fits))

    none-shaped : Fits (no_comma_behind m before own behind)
    none-shaped =
        cond_both (look.first_is look.is_comma (reverse (look.but_last m before))) _ _ Fits before-shaped (λ none. alone-shaped (alone-words without (λ f e. false≢true (sym none ∙ comma-before-gap before (spoken front ++ (spoken (o ∷ []) ++ f)) (said f e)))))
      where
        said : (f : List Word) → spoken left ≡ f ++ comma_word ∷ [] → spoken before ≡ (spoken front ++ (spoken (o ∷ []) ++ f)) ++ comma_word ∷ []
        said f e =
            spoken-append front (o ∷ left) ∙ ap (λ u. spoken front ++ u) (spoken-append (o ∷ []) left ∙ ap (λ u. spoken (o ∷ []) ++ u) e)
            ∙ sym (append_assoc (spoken front) (spoken (o ∷ []) ++ f) (comma_word ∷ []) ∙ ap (λ u. spoken front ++ u) (append_assoc (spoken (o ∷ [])) f (comma_word ∷ [])))

        alone-words : IsWithout (spoken left) (spoken right) words → ((f : List Word) → spoken left ≡ f ++ comma_word ∷ [] → ⊥) → words ≡ spoken left ++ spoken right
        alone-words (inl (more, e, is)) no_before = let no : comma_word ∷ more ≡ [] = sym e ∙ no_comma in absurd cc
        alone-words (inr (inl (f, e, h, is))) no_before = absurd (no_before f h)
        alone-words (inr (inr (e, h, is))) no_before = is ∙ sym (ap₂ (λ u v. u ++ v) h e)

  pub removed-shaped : Fits (removed before own behind)
  unfolding removed
  removed-shaped =
      let n = look.gap_len behind in
      cond_both (look.first_is look.is_comma (drop n behind)) _ _ Fits
      (λ h. behind-shaped (take n behind) (drop n behind) (sym (take-append-drop n behind)) (gap-front behind) h)
      (λ h. none-shaped (no-comma-words follows (λ more e. false≢true (sym h ∙ comma-beyond behind (more ++ spoken (c ∷ rest)) (spoken-append right (c ∷ rest) ∙ ap (λ u. u ++ spoken (c ∷ rest)) e)))))
    where
      no-comma-words : IsBehindElement (spoken right) → ((more : List Word) → spoken right ≡ comma_word ∷ more → ⊥) → spoken right ≡ []
      no-comma-words (inl e) no_more = e
      no-comma-words (inr (more, e)) no_more = absurd (no_more more e)
