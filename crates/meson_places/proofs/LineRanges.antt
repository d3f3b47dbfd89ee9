-- The offsets on a line: from where it begins to the line feed that ends it.
use Rattle.std.proofs.Common.{◌≡◌, ℕ, ◌+◌, ◌-◌, ◌<◌, ◌≤◌, ◌^◌, true, false, List, [], ◌∷◌, ◌++◌, drop, get_or, length, length-append, take, refl, sym, ap, ◌∙◌, arith}
use Rattle.std.specs.Prelude.{Bool, ◌==◌, ◌&&◌, filter, nat_le}
use Rattle.std.proofs.Math.Seq.{take-add}
use Rattle.std.proofs.lemmas.Bool.{eq-eqb, eqb-true, leb-false, leb-true}
use Rattle.std.proofs.lemmas.List.{take_all, take_more}
use Rattle.std.proofs.lemmas.List.Elements.{filter-append}
use Rattle.meson_places.specs.Names.{line_of}
use Rattle.meson_places.specs.inside.Lines.{IsLine}

abbrev feed : ℕ → Bool
feed = λ b. b == 10

abbrev count : List ℕ → ℕ
count xs = length (filter feed xs)

count-append : (xs ys : List ℕ) → count (xs ++ ys) ≡ count xs + count ys
count-append xs ys = ap length (filter-append feed xs ys) ∙ length-append (filter feed xs) (filter feed ys)

differs : (a b : ℕ) → (a ≡ b → ⊥) → (a == b) ≡ false
differs a b other = go (a == b) refl
  where
    go : (x : Bool) → (a == b) ≡ x → (a == b) ≡ false
    go true h = absurd (other (eqb-true a b h))
    go false h = h

module _ (bytes : List ℕ) where
  -- a later offset is on no earlier line
  pub rises : (a b : ℕ) → a ≤ b → line_of bytes a ≤ line_of bytes b
  rises a b le =
      let sum : b ≡ a + (b - a) = omega arith in
      let split = ap (λ n. take n bytes) sum ∙ take-add a (b - a) bytes in
      let counts : count (take b bytes) ≡ count (take a bytes) + count (take (b - a) (drop a bytes)) = ap count split ∙ count-append (take a bytes) (take (b - a) (drop a bytes)) in
      omega (arith, counts)

  one : (y : ℕ) (b : Bool) (n : ℕ) → (y == 10) ≡ b → (b ≡ true → n ≡ 1) → (b ≡ false → n ≡ 0) → count (y ∷ []) ≡ n
  one y true n h t f = rw h (sym (t refl))
  one y false n h t f = rw h (sym (f refl))

  step : (i d n : ℕ) → i < length bytes → count (get_or bytes i d ∷ []) ≡ n → line_of bytes (i + 1) ≡ line_of bytes i + n
  step i d n within is =
      let counts : count (take (i + 1) bytes) ≡ count (take i bytes) + count (get_or bytes i d ∷ []) = ap count (take_more bytes i d within) ∙ count-append (take i bytes) (get_or bytes i d ∷ []) in
      omega (arith, counts, is)

  pub at_feed : (i d : ℕ) → i < length bytes → get_or bytes i d ≡ 10 → line_of bytes (i + 1) ≡ line_of bytes i + 1
  at_feed i d within h = step i d 1 within (one (get_or bytes i d) true 1 (eq-eqb (get_or bytes i d) 10 h) (λ e. refl) (λ e. absurd (let no : ⊥ = cc in no)))

  pub at_other : (i d : ℕ) → i < length bytes → (get_or bytes i d ≡ 10 → ⊥) → line_of bytes (i + 1) ≡ line_of bytes i
  at_other i d within h =
      let s = step i d 0 within (one (get_or bytes i d) false 0 (differs (get_or bytes i d) 10 h) (λ e. absurd (let no : ⊥ = cc in no)) (λ e. refl)) in
      omega (arith, s)

  past : (a b : ℕ) → length bytes ≤ a → length bytes ≤ b → line_of bytes a ≡ line_of bytes b
  past a b p q = ap (λ xs. count xs + 1) (take_all a bytes p ∙ sym (take_all b bytes q))

  -- none is on a later line than the last one
  highest : (i at_ : ℕ) → length bytes ≤ i → line_of bytes at_ ≤ line_of bytes i
  highest i at_ end = omega (arith, rises at_ (at_ + i) (omega arith), past (at_ + i) i (omega (arith, end)) end)

  module _ (from i number : ℕ) (here : line_of bytes i ≡ number) (first : line_of bytes from ≡ number) (before : (at_ : ℕ) → at_ < from → line_of bytes at_ < number) where
    is_line : (to : ℕ) → ((at_ : ℕ) → from ≤ at_ → at_ ≤ to → line_of bytes at_ ≡ number) → ((at_ : ℕ) → to < at_ → at_ < 2 ^ 64 → number < line_of bytes at_) → IsLine bytes number from to
    is_line to inside later = record { on = λ at_ small. go at_ small (nat_le from at_) (nat_le at_ to) refl refl }
      where
        go : (at_ : ℕ) → at_ < 2 ^ 64 → (b c : Bool) → nat_le from at_ ≡ b → nat_le at_ to ≡ c → (line_of bytes at_ == number) ≡ (b && c)
        go at_ small true true f t = eq-eqb (line_of bytes at_) number (inside at_ (leb-true from at_ f) (leb-true at_ to t))
        go at_ small true false f t =
            let above = later at_ (leb-false at_ to t) small in
            differs (line_of bytes at_) number (λ e. omega (arith, above, e))
        go at_ small false c f t =
            let below = before at_ (leb-false from at_ f) in
            differs (line_of bytes at_) number (λ e. omega (arith, below, e))

    -- a line that a line feed ends
    pub ended : (d : ℕ) → i < length bytes → get_or bytes i d ≡ 10 → IsLine bytes number from i
    ended d within h = is_line i
        (λ at_ f t. let low = rises from at_ f in let high = rises at_ i t in omega (arith, low, high, here, first))
        (λ at_ later small. let next = at_feed i d within h in let low = rises (i + 1) at_ (omega (arith, later)) in omega (arith, low, next, here))

    -- the last line
    pub last_one : (to : ℕ) → to + 1 ≡ 2 ^ 64 → length bytes ≤ i → IsLine bytes number from to
    last_one to top end = is_line to
        (λ at_ f t. let low = rises from at_ f in let high = highest i at_ end in omega (arith, low, high, here, first))
        (λ at_ later small. absurd (omega (arith, later, small, top)))

  -- no line
  pub no_line : (i number line : ℕ) → line_of bytes i ≡ number → length bytes ≤ i → (number ≡ line → ⊥) → (line < number → line ≡ 0) → IsLine bytes line 1 0
  no_line i number line here end other passed = record { on = λ at_ small. go at_ (nat_le 1 at_) (nat_le at_ 0) refl refl }
    where
      none : (at_ : ℕ) → line_of bytes at_ ≡ line → ⊥
      none at_ e = other (let high = highest i at_ end in omega (arith, high, here, e, passed))

      go : (at_ : ℕ) (b c : Bool) → nat_le 1 at_ ≡ b → nat_le at_ 0 ≡ c → (line_of bytes at_ == line) ≡ (b && c)
      go at_ true true f t = absurd (let low = leb-true 1 at_ f in let high = leb-true at_ 0 t in omega (arith, low, high))
      go at_ true false f t = differs (line_of bytes at_) line (none at_)
      go at_ false c f t = differs (line_of bytes at_) line (none at_)
