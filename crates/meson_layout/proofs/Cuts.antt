-- What a removed range takes along, and what the pieces of one and of two such ranges make of a list.
use Rattle.std.proofs.Common.{◌≡◌, ℕ, suc, true, List, [], ◌∷◌, ◌++◌, Option, Some, None, take, drop, refl, sym, ap, ap₂, ◌∙◌, subst, inl, inr, ◌⊎◌, append_assoc}
use Rattle.std.proofs.lemmas.List.{append-nil, take-append-drop}
use Rattle.meson_lex.specs.Items.{Lexeme, joined}
use Rattle.meson_lex.specs.Significant.{Opens, Closes, role}
use Rattle.meson_lex.proofs.Seams.{joined-append}
use Rattle.meson_layout.specs.declared.removal.Growth.{Growth}
use Rattle.meson_layout.specs.Looks as look
use Rattle.meson_lex.specs.Words.{spoken}
use Rattle.meson_layout.specs.Words.{remarks, IsCommaAtMost}
use Rattle.meson_layout.specs.Removal.{grown_by, grown, one_gone, one_range, two_gone, two_ranges}
use Rattle.meson_layout.specs.Edited.{Keeps}
use Rattle.meson_layout.proofs.Near.{Follow, AllGood, IsLoose, last, last-append, follow-join, follow-front, follow-rest, good-join, good-front, good-rest}
use Rattle.meson_layout.proofs.Seams.{near-loose, reloose, loose}
use Rattle.meson_layout.proofs.Ends.{back-parts, back-joins, within-left, within-right, AllGap, gap-mild, gap-spoken, spoken-append, remarks-append, line-kind}
use Rattle.meson_layout.proofs.Splits.{AllOf, line-before-split, line-behind-split, white-gap, white-spoken, white-remarks}
use Rattle.meson_layout.proofs.Inserted.{blank-all}
use Rattle.meson_layout.proofs.InsertedPieces.{Shaped}

-- ---- one range

-- it takes nothing along, or it begins behind a line end
pub record Cut (left right : List Lexeme) (g : Growth) : Type 0 where
  pub before : AllOf look.is_white (look.last_few g.before left)
  pub behind : AllOf look.is_white (take g.behind right)
  pub seam : ((look.but_last g.before left ≡ left) × (drop g.behind right ≡ right)) ⊎ ((front : List Lexeme) × (end : Lexeme) × (look.is_line_end end.kind ≡ true) × (look.but_last g.before left ≡ front ++ end ∷ []))

nothing-gone : (left right : List Lexeme) → Cut left right (record { before = 0; behind = 0 })
nothing-gone left right =
    let b = back-parts left left [] 0 (sym (append-nil left)) refl in
    record { before = subst (AllOf look.is_white) (sym b.1) tt; behind = tt; seam = inl (b.0, refl) }

cut-by : (left right : List Lexeme) (p q : Option ℕ) → look.line_before left ≡ p → look.line_behind right ≡ q → Cut left right (grown_by p q)
cut-by left right (Some n) (Some m) e f =
    let s = line-before-split left n e in
    record {
      before = subst (AllOf look.is_white) (sym s.gone) (blank-all s.blank s.is_blank);
      behind = line-behind-split right m f;
      seam = inr (look.but_last (suc n) left, s.end, s.is_end, s.stays);
    }
cut-by left right (Some n) None e f = nothing-gone left right
cut-by left right None q e f = nothing-gone left right

pub cut-of : (left right : List Lexeme) → Cut left right (grown left right)
cut-of left right = cut-by left right (look.line_before left) (look.line_behind right) refl refl

-- the last item of items that end with a line end is loose
line-last : (x : Lexeme) (xs front : List Lexeme) (end : Lexeme) → xs ≡ front ++ end ∷ [] → look.is_line_end end.kind ≡ true → IsLoose (last x xs)
line-last x xs front end e h =
    let same : last x xs ≡ end = ap (last x) e ∙ last-append x front (end ∷ []) in
    near-loose (last x xs) (ap (λ (y : Lexeme). loose y.kind) same ∙ ap loose (line-kind end.kind h))

-- ---- what is left around a range

-- white space goes
white-words : (kept white : List Lexeme) (xs : List Lexeme) → xs ≡ kept ++ white → AllOf look.is_white white → spoken xs ≡ spoken kept
white-words kept white xs e h = ap spoken e ∙ spoken-append kept white ∙ ap (λ ws. spoken kept ++ ws) (white-spoken white h) ∙ append-nil (spoken kept)

white-notes : (kept white : List Lexeme) (xs : List Lexeme) → xs ≡ kept ++ white → AllOf look.is_white white → remarks xs ≡ remarks kept
white-notes kept white xs e h = ap remarks e ∙ remarks-append kept white ∙ ap (λ rs. remarks kept ++ rs) (white-remarks white h) ∙ append-nil (remarks kept)

white-words-front : (kept white : List Lexeme) (xs : List Lexeme) → xs ≡ white ++ kept → AllOf look.is_white white → spoken xs ≡ spoken kept
white-words-front kept white xs e h = ap spoken e ∙ spoken-append white kept ∙ ap (λ ws. ws ++ spoken kept) (white-spoken white h)

white-notes-front : (kept white : List Lexeme) (xs : List Lexeme) → xs ≡ white ++ kept → AllOf look.is_white white → remarks xs ≡ remarks kept
white-notes-front kept white xs e h = ap remarks e ∙ remarks-append white kept ∙ ap (λ rs. rs ++ remarks kept) (white-remarks white h)

comma-more : (a b : List Lexeme) → spoken a ≡ [] → IsCommaAtMost (spoken b) → IsCommaAtMost (spoken (a ++ b))
comma-more a b e (inl h) = inl (spoken-append a b ∙ ap₂ (λ u v. u ++ v) e h)
comma-more a b e (inr h) = inr (spoken-append a b ∙ ap₂ (λ u v. u ++ v) e h)

comma-less : (a b : List Lexeme) → spoken b ≡ [] → IsCommaAtMost (spoken a) → IsCommaAtMost (spoken (a ++ b))
comma-less a b e (inl h) = inl (spoken-append a b ∙ ap₂ (λ u v. u ++ v) h e)
comma-less a b e (inr h) = inr (spoken-append a b ∙ ap₂ (λ u v. u ++ v) h e)

regroup-one : (a b r t d : List Lexeme) → a ++ ((b ++ (r ++ t)) ++ (d ++ [])) ≡ (a ++ b) ++ (r ++ (t ++ d))
regroup-one a b r t d = simp (append_assoc, append-nil)

regroup-new : (f a d r : List Lexeme) (o c : Lexeme) → (f ++ o ∷ a) ++ ((d ++ c ∷ r) ++ []) ≡ f ++ o ∷ ((a ++ d) ++ c ∷ r)
regroup-new f a d r o c = simp (append_assoc, append-nil)

-- What stands left of the ranges is `left` and then `gone`; right of them stand `lost` and then `right`.
module _ (front : List Lexeme) (o c : Lexeme) (rest : List Lexeme) (opens : role o.kind ≡ Opens) (closes : role c.kind ≡ Closes)
    (left gone lost right all_left all_right : List Lexeme) (left_is : all_left ≡ left ++ gone) (right_is : all_right ≡ lost ++ right) (gone_is : IsCommaAtMost (spoken gone)) (lost_is : IsCommaAtMost (spoken lost))
    (left_fits : Follow o left) (left_good : AllGood left) (right_good : AllGood right) where
  abbrev before : List Lexeme
  before = front ++ o ∷ left

  abbrev behind : List Lexeme
  behind = right ++ c ∷ rest

  -- the list's own part of what stays before, and of what stays behind
  pub record Kept (a d : List Lexeme) : Type 0 where
    pub cut_left : List Lexeme
    pub cut_right : List Lexeme
    pub before_is : left ≡ a ++ cut_left
    pub behind_is : right ≡ cut_right ++ d
    pub white_left : AllOf look.is_white cut_left
    pub white_right : AllOf look.is_white cut_right

  kept-keeps : (a d : List Lexeme) (between : List ℕ) (text : List ℕ) → Kept a d → text ≡ joined a ++ (between ++ joined d) → Keeps all_left all_right text
  kept-keeps a d between text k e = record {
    front = a;
    gone = k.cut_left ++ gone;
    between = between;
    lost = lost ++ k.cut_right;
    rest = d;
    left_is = left_is ∙ ap (λ xs. xs ++ gone) k.before_is ∙ append_assoc a k.cut_left gone;
    right_is = right_is ∙ ap (λ xs. lost ++ xs) k.behind_is ∙ sym (append_assoc lost k.cut_right d);
    text_is = e;
    gone_is = comma-more k.cut_left gone (white-spoken k.cut_left k.white_left) gone_is;
    lost_is = comma-less lost k.cut_right (white-spoken k.cut_right k.white_right) lost_is;
  }

  -- what a cut keeps before a range
  left-kept : (n : ℕ) → AllOf look.is_white (look.last_few n before) → (a : List Lexeme) × (left ≡ a ++ look.last_few n before) × (look.but_last n before ≡ front ++ o ∷ a)
  left-kept n w = within-left front o left (look.but_last n before) (look.last_few n before) opens (sym (back-joins before n)) (gap-mild (look.last_few n before) (white-gap (look.last_few n before) w))

  right-kept : (n : ℕ) → AllOf look.is_white (take n behind) → (d : List Lexeme) × (right ≡ take n behind ++ d) × (drop n behind ≡ d ++ c ∷ rest)
  right-kept n w = within-right right c rest (take n behind) (drop n behind) closes (sym (take-append-drop n behind)) (gap-mild (take n behind) (white-gap (take n behind) w))

  cancel-front : (a b : List Lexeme) → front ++ o ∷ a ≡ front ++ o ∷ b → a ≡ b
  cancel-front a b e = let tail : o ∷ a ≡ o ∷ b = Rattle.std.proofs.lemmas.List.append_cancel_left front (o ∷ a) (o ∷ b) e in cc

  last-of : (a : List Lexeme) (x : Lexeme) → last x (front ++ o ∷ a) ≡ last o a
  last-of a x = last-append x front (o ∷ a)

  -- one range goes
  module _ (range : List Lexeme) (seam : Follow (last o left) (right ++ c ∷ [])) where
    one-by : (g : Growth) → Cut before behind g → Shaped front o c rest (before ++ (range ++ behind)) all_left all_right (spoken left ++ spoken right) (remarks left ++ remarks right) (one_gone g before range behind)
    one-by g cut =
        let l = left-kept g.before cut.before in
        let r = right-kept g.behind cut.behind in
        let kept : Kept l.0 r.0 = record { cut_left = look.last_few g.before before; cut_right = take g.behind behind; before_is = l.1; behind_is = r.1; white_left = cut.before; white_right = cut.behind } in
        let right_chain : Follow (last o left) (take g.behind behind ++ (r.0 ++ c ∷ [])) = subst (Follow (last o left)) (ap (λ xs. xs ++ c ∷ []) r.1 ∙ append_assoc (take g.behind behind) r.0 (c ∷ [])) seam in
        let later = follow-rest (last o left) (take g.behind behind) _ right_chain in
        let fits : Follow (last o l.0) (r.0 ++ c ∷ []) = fits-by l.0 r.0 l.2 r.2 (last (last o left) (take g.behind behind)) later cut.seam in
        record {
          inner = l.0 ++ r.0;
          old = regroup-one (look.but_last g.before before) (look.last_few g.before before) range (take g.behind behind) (drop g.behind behind)
              ∙ ap₂ (λ u v. u ++ (range ++ v)) (back-joins before g.before) (take-append-drop g.behind behind);
          new = ap₂ (λ u v. u ++ (v ++ [])) l.2 r.2 ∙ regroup-new front l.0 r.0 rest o c;
          made = record {
            fits = subst (Follow o) (sym (append_assoc l.0 r.0 (c ∷ []))) (follow-join o l.0 _ (follow-front o l.0 (look.last_few g.before before) (subst (Follow o) l.1 left_fits)) fits);
            good = good-join l.0 r.0 (good-front l.0 _ (subst AllGood l.1 left_good)) (good-rest (take g.behind behind) r.0 (subst AllGood r.1 right_good));
            says = spoken-append l.0 r.0 ∙ ap₂ (λ u v. u ++ v) (sym (white-words l.0 _ left l.1 cut.before)) (sym (white-words-front r.0 _ right r.1 cut.behind));
            noted = remarks-append l.0 r.0 ∙ ap₂ (λ u v. u ++ v) (sym (white-notes l.0 _ left l.1 cut.before)) (sym (white-notes-front r.0 _ right r.1 cut.behind));
            keeps = kept-keeps l.0 r.0 [] (joined (l.0 ++ r.0)) kept (joined-append l.0 r.0);
          };
        }
      where
        fits-by : (a d : List Lexeme) → look.but_last g.before before ≡ front ++ o ∷ a → drop g.behind behind ≡ d ++ c ∷ rest → (y : Lexeme) → Follow y (d ++ c ∷ [])
            → ((look.but_last g.before before ≡ before) × (drop g.behind behind ≡ behind)) ⊎ ((f : List Lexeme) × (end : Lexeme) × (look.is_line_end end.kind ≡ true) × (look.but_last g.before before ≡ f ++ end ∷ [])) → Follow (last o a) (d ++ c ∷ [])
        fits-by a d is_a is_d y h (inl (p, q)) =
            let same_a : a ≡ left = cancel-front a left (sym is_a ∙ p) in
            let same_d : d ≡ right = Rattle.std.proofs.lemmas.List.append_cancel_right d right (c ∷ rest) (sym is_d ∙ q) in
            subst (λ xs. Follow (last o xs) (d ++ c ∷ [])) (sym same_a) (subst (λ xs. Follow (last o left) (xs ++ c ∷ [])) (sym same_d) seam)
        fits-by a d is_a is_d y h (inr (f, end, is, e)) =
            let l : IsLoose (last o (front ++ o ∷ a)) = line-last o (front ++ o ∷ a) f end (sym is_a ∙ e) is in
            reloose y (last o a) (d ++ c ∷ []) (subst IsLoose (last-of a o) l) h

    pub one-shaped : Shaped front o c rest (before ++ (range ++ behind)) all_left all_right (spoken left ++ spoken right) (remarks left ++ remarks right) (one_range before range behind)
    one-shaped = one-by (grown before behind) (cut-of before behind)

  -- two ranges go, and between them stays what is no token
  module _ (range mid other : List Lexeme) (gap : AllGap mid) (mid_good : AllGood mid) (mid_fits : Follow (last o left) mid) (mid_ends : (x : Lexeme) → IsLoose (last x mid)) (y : Lexeme) (right_fits : Follow y (right ++ c ∷ [])) where
    two-by : (g h : Growth) → Cut mid behind h → Cut before (look.but_last h.before mid) g
        → Shaped front o c rest (before ++ (range ++ (mid ++ (other ++ behind)))) all_left all_right (spoken left ++ spoken right) (remarks left ++ (remarks mid ++ remarks right)) (two_gone g h before range mid other behind)
    two-by g h second first =
        let between = look.but_last h.before mid in
        let stays = drop g.behind between in
        let l = left-kept g.before first.before in
        let r = right-kept h.behind second.behind in
        let kept : Kept l.0 r.0 = record { cut_left = look.last_few g.before before; cut_right = take h.behind behind; before_is = l.1; behind_is = r.1; white_left = first.before; white_right = second.behind } in
        let mid_is : mid ≡ between ++ look.last_few h.before mid = sym (back-joins mid h.before) in
        let between_is : between ≡ take g.behind between ++ stays = sym (take-append-drop g.behind between) in
        let right_chain : Follow y (take h.behind behind ++ (r.0 ++ c ∷ [])) = subst (Follow y) (ap (λ xs. xs ++ c ∷ []) r.1 ∙ append_assoc (take h.behind behind) r.0 (c ∷ [])) right_fits in
        let end_fits : Follow (last y (take h.behind behind)) (r.0 ++ c ∷ []) = follow-rest y (take h.behind behind) _ right_chain in
        let between_fits : Follow (last o left) between = follow-front (last o left) between (look.last_few h.before mid) (subst (Follow (last o left)) mid_is mid_fits) in
        let between_ends : IsLoose (last (last o left) between) = ends-by (last o left) between second.seam in
        let all : Follow (last o left) (between ++ (r.0 ++ c ∷ [])) = follow-join (last o left) between _ between_fits (reloose (last y (take h.behind behind)) (last (last o left) between) _ between_ends end_fits) in
        let fits : Follow (last o l.0) (stays ++ (r.0 ++ c ∷ [])) = fits-by l.0 between stays (r.0 ++ c ∷ []) l.2 all between_is first.seam in
        let between_good : AllGood between = good-front between _ (subst AllGood mid_is mid_good) in
        let stays_gap : AllGap stays = gap-back-of (take g.behind between) stays (subst AllGap between_is (gap-front-of between (look.last_few h.before mid) (subst AllGap mid_is gap))) in
        let stays_notes : remarks stays ≡ remarks mid = sym (white-notes between _ mid mid_is second.before ∙ white-notes-front stays (take g.behind between) between between_is first.behind) in
        record {
          inner = l.0 ++ (stays ++ r.0);
          old = regroup-two (look.but_last g.before before) (look.last_few g.before before) range (take g.behind between) stays (look.last_few h.before mid) other (take h.behind behind) (drop h.behind behind)
              ∙ ap₂ (λ u v. u ++ (range ++ (v ++ (look.last_few h.before mid ++ (other ++ (take h.behind behind ++ drop h.behind behind)))))) (back-joins before g.before) (take-append-drop g.behind between)
              ∙ ap (λ v. before ++ (range ++ (between ++ (look.last_few h.before mid ++ (other ++ v))))) (take-append-drop h.behind behind)
              ∙ ap (λ v. before ++ (range ++ v)) (sym (append_assoc between (look.last_few h.before mid) (other ++ behind)) ∙ ap (λ v. v ++ (other ++ behind)) (back-joins mid h.before));
          new = ap₂ (λ u v. u ++ (stays ++ (v ++ []))) l.2 r.2 ∙ regroup-both l.0 stays r.0;
          made = record {
            fits = subst (Follow o) (sym (append_assoc l.0 (stays ++ r.0) (c ∷ []) ∙ ap (λ v. l.0 ++ v) (append_assoc stays r.0 (c ∷ [])))) (follow-join o l.0 _ (follow-front o l.0 (look.last_few g.before before) (subst (Follow o) l.1 left_fits)) fits);
            good = good-join l.0 (stays ++ r.0) (good-front l.0 _ (subst AllGood l.1 left_good)) (good-join stays r.0 (good-rest (take g.behind between) stays (subst AllGood between_is between_good)) (good-rest (take h.behind behind) r.0 (subst AllGood r.1 right_good)));
            says = spoken-append l.0 (stays ++ r.0) ∙ ap (λ v. spoken l.0 ++ v) (spoken-append stays r.0 ∙ ap (λ v. v ++ spoken r.0) (gap-spoken stays stays_gap))
                ∙ ap₂ (λ u v. u ++ v) (sym (white-words l.0 _ left l.1 first.before)) (sym (white-words-front r.0 _ right r.1 second.behind));
            noted = remarks-append l.0 (stays ++ r.0) ∙ ap (λ v. remarks l.0 ++ v) (remarks-append stays r.0 ∙ ap₂ (λ u v. u ++ v) stays_notes (sym (white-notes-front r.0 _ right r.1 second.behind)))
                ∙ ap (λ u. u ++ (remarks mid ++ remarks right)) (sym (white-notes l.0 _ left l.1 first.before));
            keeps = kept-keeps l.0 r.0 (joined stays) (joined (l.0 ++ (stays ++ r.0))) kept (joined-append l.0 (stays ++ r.0) ∙ ap (λ t. joined l.0 ++ t) (joined-append stays r.0));
          };
        }
      where
        gap-front-of : (a b : List Lexeme) → AllGap (a ++ b) → AllGap a
        gap-front-of [] b h = tt
        gap-front-of (x ∷ a) b h = (h.0, gap-front-of a b h.1)

        gap-back-of : (a b : List Lexeme) → AllGap (a ++ b) → AllGap b
        gap-back-of [] b h = h
        gap-back-of (x ∷ a) b h = gap-back-of a b h.1

        regroup-two : (a b r t s e q u d : List Lexeme) → a ++ ((b ++ (r ++ t)) ++ (s ++ ((e ++ (q ++ u)) ++ (d ++ [])))) ≡ (a ++ b) ++ (r ++ ((t ++ s) ++ (e ++ (q ++ (u ++ d)))))
        regroup-two a b r t s e q u d = simp (append_assoc, append-nil)

        regroup-both : (a s d : List Lexeme) → (front ++ o ∷ a) ++ (s ++ ((d ++ c ∷ rest) ++ [])) ≡ front ++ o ∷ ((a ++ (s ++ d)) ++ c ∷ rest)
        regroup-both a s d = simp (append_assoc, append-nil)

        ends-by : (x : Lexeme) (between : List Lexeme) → ((between ≡ mid) × (drop h.behind behind ≡ behind)) ⊎ ((f : List Lexeme) × (end : Lexeme) × (look.is_line_end end.kind ≡ true) × (between ≡ f ++ end ∷ [])) → IsLoose (last x between)
        ends-by x between (inl (p, q)) = subst (λ xs. IsLoose (last x xs)) (sym p) (mid_ends x)
        ends-by x between (inr (f, end, is, e)) = line-last x between f end e is

        fits-by : (a between stays more : List Lexeme) → look.but_last g.before before ≡ front ++ o ∷ a → Follow (last o left) (between ++ more) → between ≡ take g.behind between ++ stays
            → ((look.but_last g.before before ≡ before) × (stays ≡ between)) ⊎ ((f : List Lexeme) × (end : Lexeme) × (look.is_line_end end.kind ≡ true) × (look.but_last g.before before ≡ f ++ end ∷ [])) → Follow (last o a) (stays ++ more)
        fits-by a between stays more is_a all parts (inl (p, q)) =
            let same_a : a ≡ left = cancel-front a left (sym is_a ∙ p) in
            subst (λ xs. Follow (last o xs) (stays ++ more)) (sym same_a) (subst (λ xs. Follow (last o left) (xs ++ more)) (sym q) all)
        fits-by a between stays more is_a all parts (inr (f, end, is, e)) =
            let l : IsLoose (last o (front ++ o ∷ a)) = line-last o (front ++ o ∷ a) f end (sym is_a ∙ e) is in
            let t = take g.behind between in
            let chain : Follow (last o left) (t ++ (stays ++ more)) = subst (Follow (last o left)) (ap (λ xs. xs ++ more) parts ∙ append_assoc t stays more) all in
            reloose (last (last o left) t) (last o a) (stays ++ more) (subst IsLoose (last-of a o) l) (follow-rest (last o left) t _ chain)

    pub two-shaped : Shaped front o c rest (before ++ (range ++ (mid ++ (other ++ behind)))) all_left all_right (spoken left ++ spoken right) (remarks left ++ (remarks mid ++ remarks right)) (two_ranges before range mid other behind)
    two-shaped =
        let h = grown mid behind in
        two-by (grown before (look.but_last h.before mid)) h (cut-of mid behind) (cut-of before (look.but_last h.before mid))
