-- What the looks beside an element say of the items there.
use Rattle.std.proofs.Common.{◌≡◌, ℕ, suc, ◌+◌, Bool, true, false, cond, ◌&&◌, ◌||◌, List, [], ◌∷◌, ◌++◌, Option, Some, None, take, drop, refl, sym, ap, ◌∙◌, subst, inl, inr, ◌⊎◌, arith, append_assoc}
use Rattle.std.proofs.lemmas.Bool.{cond_both, and_parts}
use Rattle.std.proofs.lemmas.List.{append-nil, take-append-drop, append_cancel_left}
use Rattle.std.proofs.Math.Seq.{take-add}
use Rattle.std.specs.Prelude.{reverse}
use Rattle.std.specs.List.{AllByRecursion}
use Rattle.meson_lex.specs.declared.kinds.Kind.{Kind}
use Rattle.meson_lex.specs.declared.kinds.Kind.TheVariants as k
use Rattle.meson_lex.specs.Items.{Lexeme}
use Rattle.meson_layout.specs.Looks as look
use Rattle.meson_lex.specs.Words.{spoken}
use Rattle.meson_layout.specs.Words.{remarks, comma_word}
use Rattle.meson_layout.proofs.Ends.{back-parts, last-one, last-two, AllMild, AllGap, gap-mild, mild-join, gap-join, gap-spoken, spoken-append, blank-kind, line-kind, comma-kind, comment-kind}

abbrev pub AllOf : (Kind → Bool) → List Lexeme → Type 0
AllOf test xs = AllByRecursion (λ (x : Lexeme). test x.kind ≡ true) xs

-- ---- the first item

pub one-all : (test : Kind → Bool) (xs : List Lexeme) → AllOf test (take (look.one_if test xs) xs)
one-all test [] = tt
one-all test (x ∷ xs) = cond_both (test x.kind) _ _ (λ n. AllOf test (take n (x ∷ xs))) (λ h. (h, tt)) (λ h. tt)

pub record Begun (test : Kind → Bool) (xs : List Lexeme) : Type 0 where
  pub first : Lexeme
  pub more : List Lexeme
  pub is : xs ≡ first ∷ more
  pub passes : test first.kind ≡ true

pub begun : (test : Kind → Bool) (xs : List Lexeme) → look.first_is test xs ≡ true → Begun test xs
begun test [] h = absurd cc
begun test (x ∷ xs) h = record { first = x; more = xs; is = refl; passes = h }

pub some-if : (b : Bool) (m n : ℕ) → cond b (Some m) None ≡ Some n → (b ≡ true) × (m ≡ n)
some-if true m n h = (refl, cc)
some-if false m n h = absurd cc

pub drop-add : (n m : ℕ) (xs : List Lexeme) → drop (n + m) xs ≡ drop m (drop n xs)
drop-add n m xs =
    append_cancel_left (take (n + m) xs) (drop (n + m) xs) (drop m (drop n xs))
    (take-append-drop (n + m) xs
    ∙ sym (ap (λ l. l ++ drop m (drop n xs)) (take-add n m xs) ∙ append_assoc (take n xs) (take m (drop n xs)) (drop m (drop n xs)) ∙ ap (λ l. take n xs ++ l) (take-append-drop m (drop n xs)) ∙ take-append-drop n xs))

-- ---- kinds

blank-gap : (xs : List Lexeme) → AllOf look.is_blank_kind xs → AllGap xs
blank-gap [] h = tt
blank-gap (x ∷ xs) h = (ap look.is_gap (blank-kind x.kind h.0), blank-gap xs h.1)

comment-gap : (xs : List Lexeme) → AllOf look.is_comment xs → AllGap xs
comment-gap [] h = tt
comment-gap (x ∷ xs) h = (ap look.is_gap (comment-kind x.kind h.0), comment-gap xs h.1)

pub white-gap : (xs : List Lexeme) → AllOf look.is_white xs → AllGap xs
white-gap [] h = tt
white-gap (x ∷ xs) h = (white-kind x.kind h.0, white-gap xs h.1)
  where
    white-kind : (κ : Kind) → look.is_white κ ≡ true → look.is_gap κ ≡ true
    white-kind k.Blank h = refl
    white-kind k.LineEnd h = refl
    white-kind _ h = absurd cc

pub white-join : (xs ys : List Lexeme) → AllOf look.is_white xs → AllOf look.is_white ys → AllOf look.is_white (xs ++ ys)
white-join [] ys h g = g
white-join (x ∷ xs) ys h g = (h.0, white-join xs ys h.1 g)

pub blank-white : (xs : List Lexeme) → AllOf look.is_blank_kind xs → AllOf look.is_white xs
blank-white [] h = tt
blank-white (x ∷ xs) h = (ap look.is_white (blank-kind x.kind h.0), blank-white xs h.1)

pub line-white : (xs : List Lexeme) → AllOf look.is_line_end xs → AllOf look.is_white xs
line-white [] h = tt
line-white (x ∷ xs) h = (ap look.is_white (line-kind x.kind h.0), line-white xs h.1)

white-remark : (κ : Kind) → look.is_white κ ≡ true → Rattle.meson_layout.specs.Words.is_remark κ ≡ false
white-remark k.Blank h = refl
white-remark k.LineEnd h = refl
white-remark _ h = absurd cc

pub white-remarks : (xs : List Lexeme) → AllOf look.is_white xs → remarks xs ≡ []
white-remarks [] h = refl
white-remarks (x ∷ xs) h = ap (λ b. cond b (x ∷ remarks xs) (remarks xs)) (white-remark x.kind h.0) ∙ white-remarks xs h.1

pub white-spoken : (xs : List Lexeme) → AllOf look.is_white xs → spoken xs ≡ []
white-spoken xs h = gap-spoken xs (white-gap xs h)

-- ---- behind an element

pub record NoteSplit (n : ℕ) (right : List Lexeme) : Type 0 where
  pub gap : AllGap (take n right)
  pub ends : look.first_is look.is_line_end (drop n right) ≡ true

note-by : (right : List Lexeme) (p m n : ℕ) → AllGap (take p right) → AllGap (take m (drop p right)) → cond (look.first_is look.is_line_end (drop m (drop p right))) (Some (p + m)) None ≡ Some n → NoteSplit n right
note-by right p m n g h is =
    let s = some-if (look.first_is look.is_line_end (drop m (drop p right))) (p + m) n is in
    subst (λ q. NoteSplit q right) s.1 (record {
      gap = subst AllGap (sym (take-add p m right)) (gap-join (take p right) (take m (drop p right)) g h);
      ends = ap (look.first_is look.is_line_end) (drop-add p m right) ∙ s.0;
    })

pub note-split : (right : List Lexeme) (n : ℕ) → look.note_len right ≡ Some n → NoteSplit n right
note-split right n is =
    let p = look.one_if look.is_blank_kind right in
    note-by right p (look.one_if look.is_comment (drop p right)) n (blank-gap _ (one-all look.is_blank_kind right)) (comment-gap _ (one-all look.is_comment (drop p right))) is

pub record CommaSplit (n : ℕ) (right : List Lexeme) : Type 0 where
  pub mild : AllMild (take n right)
  pub says : spoken (take n right) ≡ comma_word ∷ []
  pub ends : look.first_is look.is_line_end (drop n right) ≡ true

comma-word-of : (κ : Kind) (text : List ℕ) → κ ≡ k.Comma → spoken (record { kind = κ; text = text } ∷ []) ≡ comma_word ∷ []
comma-word-of κ text e = ap (λ c. spoken (record { kind = c; text = text } ∷ [])) e

pub comma-spoken : (x : Lexeme) → look.is_comma x.kind ≡ true → spoken (x ∷ []) ≡ comma_word ∷ []
comma-spoken x h = comma-word-of x.kind x.text (comma-kind x.kind h)

comma-mild : (x : Lexeme) → look.is_comma x.kind ≡ true → AllMild (x ∷ [])
comma-mild x h = (ap (λ κ. look.is_gap κ || look.is_comma κ) (comma-kind x.kind h), tt)

more-by-some : (q : ℕ) (o : Option ℕ) (n : ℕ) → look.more_by q o ≡ Some n → (m : ℕ) × (o ≡ Some m) × (q + m ≡ n)
more-by-some q None n h = absurd cc
more-by-some q (Some m) n h = (m, refl, cc)

comma-split-at : (a : List Lexeme) (x : Lexeme) (more : List Lexeme) (right : List Lexeme) (p m : ℕ) → take p right ≡ a → drop p right ≡ x ∷ more → AllGap a → look.is_comma x.kind ≡ true → NoteSplit m more → CommaSplit (p + 1 + m) right
comma-split-at a x more right p m is_a is_x gap comma note =
    let front : take (p + 1) right ≡ a ++ x ∷ [] = take-add p 1 right ∙ ap (λ l. l ++ take 1 (drop p right)) is_a ∙ ap (λ l. a ++ take 1 l) is_x in
    let back : drop (p + 1) right ≡ more = drop-add p 1 right ∙ ap (drop 1) is_x in
    let whole : take (p + 1 + m) right ≡ (a ++ x ∷ []) ++ take m more = take-add (p + 1) m right ∙ ap (λ l. l ++ take m (drop (p + 1) right)) front ∙ ap (λ l. (a ++ x ∷ []) ++ take m l) back in
    record {
      mild = subst AllMild (sym whole) (mild-join (a ++ x ∷ []) (take m more) (mild-join a (x ∷ []) (gap-mild a gap) (comma-mild x comma)) (gap-mild (take m more) note.gap));
      says = ap spoken whole
          ∙ spoken-append (a ++ x ∷ []) (take m more)
          ∙ ap (λ l. spoken (a ++ x ∷ []) ++ l) (gap-spoken (take m more) note.gap)
          ∙ append-nil (spoken (a ++ x ∷ []))
          ∙ spoken-append a (x ∷ [])
          ∙ ap (λ l. l ++ spoken (x ∷ [])) (gap-spoken a gap)
          ∙ comma-spoken x comma;
      ends = ap (look.first_is look.is_line_end) (drop-add (p + 1) m right ∙ ap (drop m) back) ∙ note.ends;
    }

comma-note-by : (b : Bool) (right : List Lexeme) (p n : ℕ) → AllGap (take p right) → (b ≡ true → Begun look.is_comma (drop p right)) → cond b (look.more_by (p + 1) (look.note_len (drop 1 (drop p right)))) None ≡ Some n → CommaSplit n right
comma-note-by false right p n gap g is = absurd cc
comma-note-by true right p n gap g is =
    let c = g refl in
    let s = more-by-some (p + 1) (look.note_len (drop 1 (drop p right))) n is in
    let more : drop 1 (drop p right) ≡ c.more = ap (drop 1) c.is in
    subst (λ q. CommaSplit q right) s.2 (comma-split-at (take p right) c.first c.more right p s.0 refl c.is gap c.passes (note-split c.more s.0 (sym (ap look.note_len more) ∙ s.1)))

pub comma-note-split : (right : List Lexeme) (n : ℕ) → look.comma_note_len right ≡ Some n → CommaSplit n right
comma-note-split right n is =
    let p = look.one_if look.is_blank_kind right in
    comma-note-by (look.first_is look.is_comma (drop p right)) right p n (blank-gap _ (one-all look.is_blank_kind right)) (begun look.is_comma (drop p right)) is

-- the end of a line: nothing or one blank, and a line end
pub line-behind-split : (right : List Lexeme) (n : ℕ) → look.line_behind right ≡ Some n → AllOf look.is_white (take n right)
line-behind-split right n is = by-look (look.first_is look.is_line_end (drop p right)) (begun look.is_line_end (drop p right)) is
  where
    p : ℕ
    p = look.one_if look.is_blank_kind right

    by-look : (b : Bool) → (b ≡ true → Begun look.is_line_end (drop (look.one_if look.is_blank_kind right) right)) → cond b (Some (suc (look.one_if look.is_blank_kind right))) None ≡ Some n → AllOf look.is_white (take n right)
    by-look false g is = absurd cc
    by-look true g is =
        let e = g refl in
        let q = look.one_if look.is_blank_kind right in
        let s = some-if true (suc q) n is in
        let size : n ≡ q + 1 = sym s.1 ∙ omega arith in
        let whole : take n right ≡ take q right ++ e.first ∷ [] = ap (λ m. take m right) size ∙ take-add q 1 right ∙ ap (λ l. take q right ++ take 1 l) e.is in
        subst (AllOf look.is_white) (sym whole) (white-join (take q right) (e.first ∷ []) (blank-white (take q right) (one-all look.is_blank_kind right)) (line-white (e.first ∷ []) (e.passes, tt)))

-- ---- before an element

abbrev pub AtMostBlank : List Lexeme → Type 0
AtMostBlank xs = (xs ≡ []) ⊎ ((b : Lexeme) × (look.is_blank_kind b.kind ≡ true) × (xs ≡ b ∷ []))

-- a line end, and nothing or one blank
pub record LineBack (n : ℕ) (left : List Lexeme) : Type 0 where
  pub end : Lexeme
  pub blank : List Lexeme
  pub is_end : look.is_line_end end.kind ≡ true
  pub is_blank : AtMostBlank blank
  pub line : look.last_few (suc n) left ≡ end ∷ blank
  pub gone : look.last_few n left ≡ blank
  pub stays : look.but_last n left ≡ look.but_last (suc n) left ++ end ∷ []

line-back-none : (left : List Lexeme) (x : Lexeme) (ys : List Lexeme) → reverse left ≡ x ∷ ys → look.is_line_end x.kind ≡ true → LineBack 0 left
line-back-none left x ys e h =
    let parts = last-one left x ys e in
    let one = back-parts left (reverse ys) (x ∷ []) 1 parts refl in
    let all = back-parts left (reverse ys ++ x ∷ []) [] 0 (parts ∙ sym (append-nil (reverse ys ++ x ∷ []))) refl in
    record { end = x; blank = []; is_end = h; is_blank = inl refl; line = one.1; gone = all.1; stays = all.0 ∙ ap (λ l. l ++ x ∷ []) (sym one.0) }

line-back-one : (left : List Lexeme) (x y : Lexeme) (ys : List Lexeme) → reverse left ≡ x ∷ y ∷ ys → look.is_blank_kind x.kind ≡ true → look.is_line_end y.kind ≡ true → LineBack 1 left
line-back-one left x y ys e b h =
    let parts = last-two left x y ys e in
    let two = back-parts left (reverse ys) (y ∷ x ∷ []) 2 parts refl in
    let one = back-parts left (reverse ys ++ y ∷ []) (x ∷ []) 1 (parts ∙ sym (append_assoc (reverse ys) (y ∷ []) (x ∷ []))) refl in
    record { end = y; blank = x ∷ []; is_end = h; is_blank = inr (x, b, refl); line = two.1; gone = one.1; stays = one.0 ∙ ap (λ l. l ++ y ∷ []) (sym two.0) }

near-one : (left : List Lexeme) (x : Lexeme) (ys : List Lexeme) (b : Bool) (n : ℕ) → reverse left ≡ x ∷ ys → (b ≡ true → (look.is_blank_kind x.kind ≡ true) × Begun look.is_line_end ys) → cond b (Some 1) None ≡ Some n → LineBack n left
near-one left x ys false n e g is = absurd cc
near-one left x ys true n e g is =
    let p = g refl in
    let s = some-if true 1 n is in
    subst (λ m. LineBack m left) s.1 (line-back-one left x p.1.first p.1.more (e ∙ ap (λ l. x ∷ l) p.1.is) p.0 p.1.passes)

near-by : (left : List Lexeme) (x : Lexeme) (ys : List Lexeme) (b : Bool) (n : ℕ) → reverse left ≡ x ∷ ys → (b ≡ true → look.is_line_end x.kind ≡ true) → cond b (Some 0) (cond (look.is_blank_kind x.kind && look.first_is look.is_line_end ys) (Some 1) None) ≡ Some n → LineBack n left
near-by left x ys true n e g is = let s = some-if true 0 n is in subst (λ m. LineBack m left) s.1 (line-back-none left x ys e (g refl))
near-by left x ys false n e g is =
    near-one left x ys (look.is_blank_kind x.kind && look.first_is look.is_line_end ys) n e (λ h. let p = and_parts (look.is_blank_kind x.kind) (look.first_is look.is_line_end ys) h in (p.0, begun look.is_line_end ys p.1)) is

near-split : (left rev : List Lexeme) (n : ℕ) → reverse left ≡ rev → look.line_near rev ≡ Some n → LineBack n left
near-split left [] n e is = absurd cc
near-split left (x ∷ ys) n e is = near-by left x ys (look.is_line_end x.kind) n e (λ h. h) is

pub line-before-split : (left : List Lexeme) (n : ℕ) → look.line_before left ≡ Some n → LineBack n left
line-before-split left n is = near-split left (reverse left) n refl is
