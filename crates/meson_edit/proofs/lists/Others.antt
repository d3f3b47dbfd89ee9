-- An edit of a list keeps the bytes of every element that it does not touch.
use Rattle.meson_edit.proofs.Words.{◌≡◌, ℕ, zero, suc, ◌+◌, ◌<◌, ◌≤◌, Bool, true, List, [], ◌∷◌, ◌++◌, map, length, Some, refl, sym, ap, ap₂, subst, ◌∙◌, inl}
use Rattle.meson_edit.proofs.Words.{inr, ◌⊎◌, append_assoc, length-append, arith, eq-or-lt_of_le, append-nil, Lexeme, joined, IsItemList, Word, Role, Gap, Ends}
use Rattle.meson_edit.proofs.Words.{Opens, Closes, Other, role, speaks, spoken_by, word, spoken, Span, joined-append, comma_word, IsCommaAtMost, comma_words}
use Rattle.meson_edit.proofs.Words.{argument_words, nth, ListAt, ElementAt, elements_at, element_at, words_ahead, Arguments, no_arguments, argument, Listing}
use Rattle.meson_edit.proofs.Words.{listing, some-injective, Edit, First, After, Remove, Replace, Wrap, RemoveStatement, Append, Assign, Lines, Touches, KeepsList, IsBefore}
use Rattle.meson_edit.proofs.Words.{IsBehind, SameUpTo, SameFrom, argument_span, ListStands, ElementStands}
use Rattle.meson_layout.proofs.Ends.{spoken-append}
use Rattle.meson_edit.proofs.places.Elements.{element-words}
use Rattle.meson_edit.proofs.lists.LastWords.{EndsWell, argument-ends}

-- ---- two elements of a list

mapped-there : {A B : Type 0} (g : A → B) (xs : List A) (n : ℕ) (y : B) → nth (map g xs) n ≡ Some y → (x : A) × (nth xs n ≡ Some x) × (g x ≡ y)
mapped-there g [] n y is = absurd cc
mapped-there g (x ∷ xs) zero y is = (x, refl, some-injective _ _ is)
mapped-there g (x ∷ xs) (suc n) y is = mapped-there g xs n y is

-- before another element stands a comma
comma-some : (more : Arguments Span) (trailing : Bool) (n : ℕ) (y : ElementAt Span) → nth (elements_at more trailing) n ≡ Some y → length (comma_words more trailing) ≡ 1
comma-some no_arguments trailing n y is = absurd cc
comma-some (argument a more) trailing n y is = refl

-- Of two elements the words before the later one are those before the earlier one, its own, and a comma at least.
further : (list : Arguments Span) (trailing : Bool) (m n : ℕ) (x y : ElementAt Span) → m < n → nth (elements_at list trailing) m ≡ Some x → nth (elements_at list trailing) n ≡ Some y
    → length x.before + suc (length (argument_words x.element)) ≤ length y.before
further no_arguments trailing m n x y less is_x is_y = absurd cc
further (argument a more) trailing m zero x y less is_x is_y = absurd (omega (arith, less))
further (argument a more) trailing zero (suc n) x y less is_x is_y =
    let o = mapped-there _ (elements_at more trailing) n y is_y in
    let same = some-injective _ _ is_x in
    let none = ap (λ (z : ElementAt Span). length z.before) same in
    let own = ap (λ (z : ElementAt Span). length (argument_words z.element)) same in
    let all = ap (λ (z : ElementAt Span). length z.before) o.2 in
    let l0 = length-append (argument_words a) (comma_words more trailing ++ o.0.before) in
    let l1 = length-append (comma_words more trailing) o.0.before in
    let comma = comma-some more trailing n o.0 o.1 in
    omega arith
further (argument a more) trailing (suc m) (suc n) x y less is_x is_y =
    let o = mapped-there _ (elements_at more trailing) m x is_x in
    let p = mapped-there _ (elements_at more trailing) n y is_y in
    let shorter : m < n = omega (arith, less) in
    let r = further more trailing m n o.0 p.0 shorter o.1 p.1 in
    let own = ap (λ (z : ElementAt Span). length (argument_words z.element)) o.2 in
    let all_x = ap (λ (z : ElementAt Span). length z.before) o.2 in
    let all_y = ap (λ (z : ElementAt Span). length z.before) p.2 in
    let x0 = length-append (argument_words a) (comma_words more trailing ++ o.0.before) in
    let x1 = length-append (comma_words more trailing) o.0.before in
    let y0 = length-append (argument_words a) (comma_words more trailing ++ p.0.before) in
    let y1 = length-append (comma_words more trailing) p.0.before in
    omega arith

apart : (l : Listing Span) (m n : ℕ) (x y : ElementAt Span) → m < n → element_at l m ≡ Some x → element_at l n ≡ Some y → length x.before + suc (length (argument_words x.element)) ≤ length y.before
apart (listing s trailing list) m n x y less is_x is_y = further list trailing m n x y less is_x is_y

-- so much for the words behind them
apart-behind : (l : Listing Span) (m n : ℕ) (x y : ElementAt Span) → m < n → element_at l m ≡ Some x → element_at l n ≡ Some y → length (argument_words y.element) + suc (length y.behind) ≤ length x.behind
apart-behind l m n x y less is_x is_y =
    let a = apart l m n x y less is_x is_y in
    let all = ap length (sym (element-words Span l m x is_x) ∙ element-words Span l n y is_y) in
    let x0 = length-append x.before (argument_words x.element ++ x.behind) in
    let x1 = length-append (argument_words x.element) x.behind in
    let y0 = length-append y.before (argument_words y.element ++ y.behind) in
    let y1 = length-append (argument_words y.element) y.behind in
    omega arith

-- ---- a list cut in two ways

record CutBefore {A : Type 0} (c a d b : List A) : Type 0 where
  mid : List A
  later : d ≡ c ++ mid
  rest : a ≡ mid ++ b

record CutBehind {A : Type 0} (c a d b : List A) : Type 0 where
  first : A
  more : List A
  later : c ≡ d ++ first ∷ more
  rest : b ≡ (first ∷ more) ++ a

two-cuts : {A : Type 0} (c a d b : List A) → c ++ a ≡ d ++ b → CutBefore c a d b ⊎ CutBehind c a d b
two-cuts [] a d b e = inl (record { mid = d; later = refl; rest = e })
two-cuts (x ∷ c) a [] b e = inr (record { first = x; more = c; later = refl; rest = sym e })
two-cuts {A} (x ∷ c) a (z ∷ d) b e =
    let head : x ≡ z = cc in
    let rest : c ++ a ≡ d ++ b = cc in
    go head (two-cuts c a d b rest) where
      go : x ≡ z → CutBefore c a d b ⊎ CutBehind c a d b → CutBefore (x ∷ c) a (z ∷ d) b ⊎ CutBehind (x ∷ c) a (z ∷ d) b
      go h (inl k) = inl (record { mid = k.mid; later = ap₂ (λ u v. u ∷ v) (sym h) k.later; rest = k.rest })
      go h (inr k) = inr (record { first = k.first; more = k.more; later = ap₂ (λ u v. u ∷ v) h k.later; rest = k.rest })

-- the words of an item that speaks
one-word : (x : Lexeme) (more : List Lexeme) → speaks (role x.kind) ≡ true → suc (length (spoken more)) ≤ length (spoken (x ∷ more))
one-word x more is = go (role x.kind) is where
  go : (r : Role) → speaks r ≡ true → suc (length (spoken more)) ≤ length (spoken_by r (word x) ++ spoken more)
  go Gap none = absurd cc
  go Ends none = absurd cc
  go Opens talks = omega arith
  go Closes talks = omega arith
  go Other talks = omega arith

-- What ends with an item that speaks lies within what has as many words.
within-front : (front : List Lexeme) (last : Lexeme) (a r b s : List Lexeme) → a ≡ front ++ last ∷ [] → speaks (role last.kind) ≡ true → a ++ r ≡ b ++ s → length (spoken a) ≤ length (spoken b)
    → (mid : List Lexeme) × (b ≡ a ++ mid)
within-front front last a r b s ends talks e most = go (two-cuts a r b s e) where
  go : CutBefore a r b s ⊎ CutBehind a r b s → (mid : List Lexeme) × (b ≡ a ++ mid)
  go (inl k) = (k.mid, k.later)
  go (inr k) = absurd (too-many (two-cuts front (last ∷ []) b (k.first ∷ k.more) (sym ends ∙ k.later))) where
    more-words : (ws : List Lexeme) → a ≡ b ++ (ws ++ last ∷ []) → ⊥
    more-words ws is =
        let w0 = ap (λ z. length (spoken z)) is in
        let w1 = ap length (spoken-append b (ws ++ last ∷ [])) in
        let w2 = length-append (spoken b) (spoken (ws ++ last ∷ [])) in
        let w3 = ap length (spoken-append ws (last ∷ [])) in
        let w4 = length-append (spoken ws) (spoken (last ∷ [])) in
        let w5 = one-word last [] talks in
        omega arith

    too-many : CutBefore front (last ∷ []) b (k.first ∷ k.more) ⊎ CutBehind front (last ∷ []) b (k.first ∷ k.more) → ⊥
    too-many (inl c) = alone c.mid c.later c.rest where
      alone : (mid : List Lexeme) → b ≡ front ++ mid → last ∷ [] ≡ mid ++ (k.first ∷ k.more) → ⊥
      alone [] later rest = more-words [] (ends ∙ ap (λ z. z ++ last ∷ []) (sym (later ∙ append-nil front)))
      alone (z ∷ []) later rest = absurd cc
      alone (z ∷ w ∷ mid) later rest = absurd cc
    too-many (inr c) = more-words (c.first ∷ c.more) (ends ∙ ap (λ z. z ++ last ∷ []) c.later ∙ append_assoc b (c.first ∷ c.more) (last ∷ []))

-- And what begins with one.
within-back : (first : Lexeme) (more a r b s : List Lexeme) → a ≡ first ∷ more → speaks (role first.kind) ≡ true → r ++ a ≡ s ++ b → length (spoken a) ≤ length (spoken b)
    → (mid : List Lexeme) × (b ≡ mid ++ a)
within-back first more a r b s begins talks e most = go (two-cuts s b r a (sym e)) where
  go : CutBefore s b r a ⊎ CutBehind s b r a → (mid : List Lexeme) × (b ≡ mid ++ a)
  go (inl k) = (k.mid, k.rest)
  go (inr k) =
      let same : first ∷ more ≡ k.first ∷ (k.more ++ b) = sym begins ∙ k.rest in
      let head : first ≡ k.first = cc in
      let w0 = ap (λ z. length (spoken z)) k.rest in
      let w1 = one-word k.first (k.more ++ b) (ap (λ (z : Lexeme). speaks (role z.kind)) (sym head) ∙ talks) in
      let w2 = ap length (spoken-append k.more b) in
      let w3 = length-append (spoken k.more) (spoken b) in
      absurd (omega arith)

-- ---- how many words stay

at-most-one : (ws : List Word) → IsCommaAtMost ws → length ws ≤ 1
at-most-one ws (inl none) = let n = ap length none in omega arith
at-most-one ws (inr comma) = let n = ap length comma in omega arith

-- a comma is not the last word of an element
no-last-comma : (front before own : List Word) → EndsWell own → front ++ comma_word ∷ [] ≡ before ++ own → ⊥
no-last-comma front before own e is = e.no_comma (ap (λ (w : Word). w.0) (sym (same-last front (before ++ e.front) comma_word e.last (is ∙ ap (λ z. before ++ z) e.is ∙ sym (append_assoc before e.front (e.last ∷ [])))))) where
  same-last : (xs ys : List Word) (x y : Word) → xs ++ x ∷ [] ≡ ys ++ y ∷ [] → x ≡ y
  same-last [] [] x y h = cc
  same-last [] (w ∷ []) x y h = absurd cc
  same-last [] (w ∷ v ∷ ys) x y h = absurd cc
  same-last (w ∷ []) [] x y h = absurd cc
  same-last (w ∷ v ∷ xs) [] x y h = absurd cc
  same-last (w ∷ xs) (v ∷ ys) x y h = let rest : xs ++ x ∷ [] ≡ ys ++ y ∷ [] = cc in same-last xs ys x y rest

module _ (items : List Lexeme) (p : ListAt Span) (l : ListStands items p) (m : ℕ) (x : ElementAt Span) (is : element_at p.list m ≡ Some x) where
  -- left of what is touched, a comma at most is gone
  all-but-comma : (front gone left : List Lexeme) → left ≡ front ++ gone → IsCommaAtMost (spoken gone) → length (spoken left) ≤ suc (length (spoken front))
  all-but-comma front gone left cut comma =
      let w0 = ap (λ z. length (spoken z)) cut in
      let w1 = ap length (spoken-append front gone) in
      let w2 = length-append (spoken front) (spoken gone) in
      let w3 = at-most-one (spoken gone) comma in
      omega arith

  before-by : (n : ℕ) (y : ElementAt Span) → element_at p.list n ≡ Some y → m < n → (left front gone : List Lexeme) → length y.before ≤ length (spoken left) → left ≡ front ++ gone → IsCommaAtMost (spoken gone)
      → length x.before + length (argument_words x.element) ≤ length (spoken front)
  before-by n y is_y less left front gone most cut comma =
      let a = apart p.list m n x y less is is_y in
      let b = all-but-comma front gone left cut comma in
      omega arith

  -- behind the element itself nothing is gone
  behind-by : (y : ElementAt Span) → element_at p.list m ≡ Some y → (part : ElementStands items p l y) → (left front gone : List Lexeme) → left ≡ part.left ++ part.own → left ≡ front ++ gone → IsCommaAtMost (spoken gone)
      → length x.before + length (argument_words x.element) ≤ length (spoken front)
  behind-by y is_y part left front gone left_is cut comma =
      let same : y ≡ x = some-injective y x (sym is_y ∙ is) in
      let before = ap (λ (z : ElementAt Span). length z.before) same in
      let own = ap (λ (z : ElementAt Span). length (argument_words z.element)) same in
      let words : spoken left ≡ y.before ++ argument_words y.element = ap spoken left_is ∙ spoken-append part.left part.own ∙ ap₂ (λ u v. u ++ v) part.is_left part.is_own in
      let cut_words : spoken left ≡ spoken front ++ spoken gone = ap spoken cut ∙ spoken-append front gone in
      let n0 = ap length words in
      let n1 = length-append y.before (argument_words y.element) in
      let n2 = ap length cut_words in
      let n3 = length-append (spoken front) (spoken gone) in
      go comma cut_words words before own n0 n1 n2 n3 where
        go : IsCommaAtMost (spoken gone) → spoken left ≡ spoken front ++ spoken gone → spoken left ≡ y.before ++ argument_words y.element → length y.before ≡ length x.before
            → length (argument_words y.element) ≡ length (argument_words x.element) → length (spoken left) ≡ length (y.before ++ argument_words y.element)
            → length (y.before ++ argument_words y.element) ≡ length y.before + length (argument_words y.element) → length (spoken left) ≡ length (spoken front ++ spoken gone)
            → length (spoken front ++ spoken gone) ≡ length (spoken front) + length (spoken gone) → length x.before + length (argument_words x.element) ≤ length (spoken front)
        go (inl none) c w b o n0 n1 n2 n3 = let none_left = ap length none in omega arith
        go (inr one) c w b o n0 n1 n2 n3 =
            absurd (no-last-comma (spoken front) y.before (argument_words y.element) (argument-ends y.element) (ap (λ z. spoken front ++ z) (sym one) ∙ sym c ∙ w))

  -- the words up to the element's end stay
  enough-before : (e : Edit) (left right notes : List Lexeme) → Touches items p l e left right notes → IsBefore e m → (front gone : List Lexeme) → left ≡ front ++ gone → IsCommaAtMost (spoken gone)
      → length x.before + length (argument_words x.element) ≤ length (spoken front)
  enough-before (First path new) left right notes t before front gone cut comma = absurd before
  enough-before (After path n new) left right notes (y, is_y, part, left_is, right_is, n_is) before front gone cut comma = go (eq-or-lt_of_le before) where
    go : (m ≡ n) ⊎ (m < n) → length x.before + length (argument_words x.element) ≤ length (spoken front)
    go (inl same) = behind-by y (subst (λ k. element_at p.list k ≡ Some y) (sym same) is_y) part left front gone left_is cut comma
    go (inr less) =
        let words = ap (λ z. length (spoken z)) left_is in
        let both = ap length (spoken-append part.left part.own) in
        let sum = length-append (spoken part.left) (spoken part.own) in
        let own = ap length part.is_left in
        before-by n y is_y less left front gone (omega arith) cut comma
  enough-before (Remove path n) left right notes (y, is_y, part, left_is, right_is, n_is) before front gone cut comma =
      let words = ap (λ z. length (spoken z)) left_is in
      let own = ap length part.is_left in
      before-by n y is_y before left front gone (omega arith) cut comma
  enough-before (Replace path n new) left right notes (y, is_y, v, is_v, part, left_is, right_is, n_is) before front gone cut comma =
      let words = ap (λ z. length (spoken z)) left_is in
      let own = ap length part.is_left in
      let sum = length-append y.before (words_ahead y.element) in
      before-by n y is_y before left front gone (omega arith) cut comma
  enough-before (Wrap path n) left right notes (y, is_y, v, is_v, part, left_is, right_is, n_is) before front gone cut comma =
      let words = ap (λ z. length (spoken z)) left_is in
      let own = ap length part.is_left in
      let sum = length-append y.before (words_ahead y.element) in
      before-by n y is_y before left front gone (omega arith) cut comma
  enough-before (RemoveStatement blank path n) left right notes t before front gone cut comma = absurd before
  enough-before (Append new) left right notes t before front gone cut comma = absurd before
  enough-before (Assign path new) left right notes t before front gone cut comma = absurd before
  enough-before (Lines place new) left right notes t before front gone cut comma = absurd before

  behind-of : (n : ℕ) (y : ElementAt Span) → element_at p.list n ≡ Some y → n < m → (right lost rest : List Lexeme) → spoken right ≡ y.behind → right ≡ lost ++ rest → IsCommaAtMost (spoken lost)
      → length (argument_words x.element) + length x.behind ≤ length (spoken rest)
  behind-of n y is_y less right lost rest right_is cut comma =
      let a = apart-behind p.list n m y x less is_y is in
      let w0 = ap length right_is in
      let w1 = ap (λ z. length (spoken z)) cut in
      let w2 = ap length (spoken-append lost rest) in
      let w3 = length-append (spoken lost) (spoken rest) in
      let w4 = at-most-one (spoken lost) comma in
      omega arith

  -- and those from its beginning on
  enough-behind : (e : Edit) (left right notes : List Lexeme) → Touches items p l e left right notes → IsBehind e m → (lost rest : List Lexeme) → right ≡ lost ++ rest → IsCommaAtMost (spoken lost)
      → length (argument_words x.element) + length x.behind ≤ length (spoken rest)
  enough-behind (First path new) left right notes t behind lost rest cut comma = absurd behind
  enough-behind (After path n new) left right notes (y, is_y, part, left_is, right_is, n_is) behind lost rest cut comma = behind-of n y is_y behind right lost rest (ap spoken right_is ∙ part.is_right) cut comma
  enough-behind (Remove path n) left right notes (y, is_y, part, left_is, right_is, n_is) behind lost rest cut comma = behind-of n y is_y behind right lost rest (ap spoken right_is ∙ part.is_right) cut comma
  enough-behind (Replace path n new) left right notes (y, is_y, v, is_v, part, left_is, right_is, n_is) behind lost rest cut comma = behind-of n y is_y behind right lost rest (ap spoken right_is ∙ part.is_right) cut comma
  enough-behind (Wrap path n) left right notes (y, is_y, v, is_v, part, left_is, right_is, n_is) behind lost rest cut comma = behind-of n y is_y behind right lost rest (ap spoken right_is ∙ part.is_right) cut comma
  enough-behind (RemoveStatement blank path n) left right notes t behind lost rest cut comma = absurd behind
  enough-behind (Append new) left right notes t behind lost rest cut comma = absurd behind
  enough-behind (Assign path new) left right notes t behind lost rest cut comma = absurd behind
  enough-behind (Lines place new) left right notes t behind lost rest cut comma = absurd behind

  -- ---- items

  -- What is touched lies between `left` and `right`.
  inner-left : (e : Edit) (left right notes : List Lexeme) → Touches items p l e left right notes → (mid : List Lexeme) × (l.inner ≡ left ++ (mid ++ right))
  inner-left (First path new) left right notes t = ([], ap₂ (λ u v. u ++ v) (sym t.0) (sym t.1))
  inner-left (After path n new) left right notes (y, is_y, part, left_is, right_is, n_is) = ([], part.parts ∙ sym (append_assoc part.left part.own part.right) ∙ ap₂ (λ u v. u ++ v) (sym left_is) (sym right_is))
  inner-left (Remove path n) left right notes (y, is_y, part, left_is, right_is, n_is) = (part.own, part.parts ∙ ap₂ (λ u v. u ++ (part.own ++ v)) (sym left_is) (sym right_is))
  inner-left (Replace path n new) left right notes (y, is_y, v, is_v, part, left_is, right_is, n_is) = (part.own, part.parts ∙ ap₂ (λ u v. u ++ (part.own ++ v)) (sym left_is) (sym right_is))
  inner-left (Wrap path n) left right notes (y, is_y, v, is_v, part, left_is, right_is, n_is) = (part.own, part.parts ∙ ap₂ (λ u v. u ++ (part.own ++ v)) (sym left_is) (sym right_is))
  inner-left (RemoveStatement blank path n) left right notes t = absurd t
  inner-left (Append new) left right notes t = absurd t
  inner-left (Assign path new) left right notes t = absurd t
  inner-left (Lines place new) left right notes t = absurd t

-- ---- bytes

front-bytes : (f o a m b r c z : List ℕ) → f ++ ((o ++ (((a ++ m) ++ (b ++ r)) ++ c)) ++ z) ≡ (f ++ (o ++ a)) ++ (m ++ (b ++ (r ++ (c ++ z))))
front-bytes f o a m b r c z = simp append_assoc

back-bytes : (f o a b m r c z : List ℕ) → f ++ ((o ++ ((a ++ (b ++ (m ++ r))) ++ c)) ++ z) ≡ (f ++ (o ++ (a ++ (b ++ m)))) ++ (r ++ (c ++ z))
back-bytes f o a b m r c z = simp append_assoc

old-items : (f a r z : List Lexeme) (o : Lexeme) → f ++ o ∷ ((a ++ r) ++ z) ≡ (f ++ o ∷ a) ++ (r ++ z)
old-items f a r z o = simp append_assoc

module _ (bytes text : List ℕ) (items : List Lexeme) (are : IsItemList bytes items) (e : Edit) (p : ListAt Span) (k : KeepsList bytes text items e p) (m : ℕ) (x : ElementAt Span) (is : element_at p.list m ≡ Some x) where
  abbrev l : ListStands items p
  l = k.places.list

  abbrev own : ElementStands items p l x
  own = k.places.elements m x is

  -- the text of the items between the brackets, by what they are
  text-is : (inner : List ℕ) → joined k.inner ≡ inner → text ≡ joined l.left ++ ((l.open_item.text ++ (inner ++ joined (l.close_item ∷ []))) ++ joined l.right)
  text-is inner same =
      k.is_text
      ∙ ap (λ t. joined l.left ++ (t ++ joined l.right)) (sym k.are_items.joins ∙ ap (λ t. l.open_item.text ++ t) (joined-append k.inner (l.close_item ∷ []) ∙ ap (λ t. t ++ joined (l.close_item ∷ [])) same))

  bytes-are : (a r : List Lexeme) → l.inner ≡ a ++ r → bytes ≡ joined (l.left ++ l.open_item ∷ a) ++ joined (r ++ l.close_item ∷ l.right)
  bytes-are a r parts =
      sym are.joins ∙ ap joined (l.parts ∙ ap (λ z. l.left ++ l.open_item ∷ (z ++ l.close_item ∷ l.right)) parts ∙ old-items l.left a r (l.close_item ∷ l.right) l.open_item)
      ∙ joined-append (l.left ++ l.open_item ∷ a) (r ++ l.close_item ∷ l.right)

  pub stays-before : IsBefore e m → SameUpTo (argument_span x.element).to bytes text
  stays-before before =
      let kept = k.keeps in
      let t = own.tight in
      let a = own.left ++ own.own in
      let parts : l.inner ≡ a ++ own.right = own.parts ∙ sym (append_assoc own.left own.own own.right) in
      let there = inner-left items p l m x is e k.left k.right k.notes k.touches in
      let cut : a ++ own.right ≡ kept.front ++ (kept.gone ++ (there.0 ++ k.right)) =
      sym parts ∙ there.1 ∙ ap (λ z. z ++ (there.0 ++ k.right)) kept.left_is ∙ append_assoc kept.front kept.gone (there.0 ++ k.right) in
      let enough = enough-before items p l m x is e k.left k.right k.notes k.touches before kept.front kept.gone kept.left_is kept.gone_is in
      let words = ap length (spoken-append own.left own.own) in
      let sum = length-append (spoken own.left) (spoken own.own) in
      let w0 = ap length own.is_left in
      let w1 = ap length own.is_own in
      let within = within-front (own.left ++ t.front) t.last a own.right kept.front (kept.gone ++ (there.0 ++ k.right))
      (ap (λ z. own.left ++ z) t.ends ∙ sym (append_assoc own.left t.front (t.last ∷ []))) t.last_speaks cut (omega arith) in
      let inner = kept.text_is ∙ ap (λ z. z ++ (kept.between ++ joined kept.rest)) (ap joined within.1 ∙ joined-append a within.0) in
      record {
        front = joined (l.left ++ l.open_item ∷ a);
        was = joined (own.right ++ l.close_item ∷ l.right);
        now = joined within.0 ++ (kept.between ++ (joined kept.rest ++ (joined (l.close_item ∷ []) ++ joined l.right)));
        old = bytes-are a own.right parts;
        new = text-is _ inner ∙ front-bytes (joined l.left) l.open_item.text (joined a) (joined within.0) kept.between (joined kept.rest) (joined (l.close_item ∷ [])) (joined l.right)
            ∙ ap (λ z. z ++ (joined within.0 ++ (kept.between ++ (joined kept.rest ++ (joined (l.close_item ∷ []) ++ joined l.right))))) (sym (joined-append l.left (l.open_item ∷ a)));
        is = sym own.to;
      }

  pub stays-behind : IsBehind e m → SameFrom (argument_span x.element).from bytes text
  stays-behind behind =
      let kept = k.keeps in
      let t = own.tight in
      let b = own.own ++ own.right in
      let there = inner-left items p l m x is e k.left k.right k.notes k.touches in
      let cut : own.left ++ b ≡ (k.left ++ (there.0 ++ kept.lost)) ++ kept.rest =
      sym own.parts ∙ there.1 ∙ ap (λ z. k.left ++ (there.0 ++ z)) kept.right_is ∙ regroup k.left there.0 kept.lost kept.rest in
      let enough = enough-behind items p l m x is e k.left k.right k.notes k.touches behind kept.lost kept.rest kept.right_is kept.lost_is in
      let words = ap length (spoken-append own.own own.right) in
      let sum = length-append (spoken own.own) (spoken own.right) in
      let w0 = ap length own.is_own in
      let w1 = ap length own.is_right in
      let within = within-back t.first (t.more ++ own.right) b own.left kept.rest (k.left ++ (there.0 ++ kept.lost)) (ap (λ z. z ++ own.right) t.begins) t.first_speaks cut (omega arith) in
      let inner = kept.text_is ∙ ap (λ z. joined kept.front ++ (kept.between ++ z)) (ap joined within.1 ∙ joined-append within.0 b) in
      let last : joined b ++ (joined (l.close_item ∷ []) ++ joined l.right) ≡ joined (b ++ l.close_item ∷ l.right) =
      ap (λ z. joined b ++ z) (sym (joined-append (l.close_item ∷ []) l.right)) ∙ sym (joined-append b (l.close_item ∷ l.right)) in
      record {
        was = joined (l.left ++ l.open_item ∷ own.left);
        now = joined l.left ++ (l.open_item.text ++ (joined kept.front ++ (kept.between ++ joined within.0)));
        back = joined (b ++ l.close_item ∷ l.right);
        old = bytes-are own.left b own.parts;
        new = text-is _ inner ∙ back-bytes (joined l.left) l.open_item.text (joined kept.front) kept.between (joined within.0) (joined b) (joined (l.close_item ∷ [])) (joined l.right)
            ∙ ap (λ z. (joined l.left ++ (l.open_item.text ++ (joined kept.front ++ (kept.between ++ joined within.0)))) ++ z) last;
        is = sym own.from;
      }
    where
      regroup : (a b c d : List Lexeme) → a ++ (b ++ (c ++ d)) ≡ (a ++ (b ++ c)) ++ d
      regroup a b c d = simp append_assoc
