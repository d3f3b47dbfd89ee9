-- Whether there is room for so many constructs inside one another: for one more, for two parts, and for the elements of a list one after another.
use Rattle.meson_edit.proofs.Words.{max, ◌≡◌, nat_le, ℕ, suc, ◌+◌, ◌-◌, ◌<◌, ◌≤◌, Bool, true, false, List, [], ◌∷◌, length, drop, get_or, refl, sym, ap, ◌∙◌}
use Rattle.meson_edit.proofs.Words.{arith, le-leb, leb-true, leb-false, lt-leb, at_drop_more, at_drop_all}

same-answer : (x y : Bool) → (x ≡ true → y ≡ true) → (y ≡ true → x ≡ true) → x ≡ y
same-answer true y f g = sym (f refl)
same-answer false true f g = g refl
same-answer false false f g = refl

same-room : (a b c d : ℕ) → (a ≤ b → c ≤ d) → (c ≤ d → a ≤ b) → nat_le a b ≡ nat_le c d
same-room a b c d f g = same-answer (nat_le a b) (nat_le c d) (λ e. le-leb c d (f (leb-true a b e))) (λ e. le-leb a b (g (leb-true c d e)))

-- a construct around something
pub one-more : (d room : ℕ) (r : Bool) → 0 < room → r ≡ nat_le d (room - 1) → r ≡ nat_le (suc d) room
one-more d room r some fits = fits ∙ same-room d (room - 1) (suc d) room (λ l. omega (arith, some, l)) (λ l. omega (arith, some, l))

-- two parts, of which the first fits or does not
pub both : (a b room : ℕ) (r q : Bool) → r ≡ nat_le a room → r ≡ true → q ≡ nat_le b room → q ≡ nat_le (max a b) room
both a b room r q is holds fits =
    let first = leb-true a room (sym is ∙ holds) in
    fits ∙ same-room b room (max a b) room (λ l. omega (arith, first, l)) (λ l. omega (arith, l))

pub first-fails : (a b room : ℕ) (r : Bool) → r ≡ nat_le a room → r ≡ false → r ≡ nat_le (max a b) room
first-fails a b room r is misses =
    let past = leb-false a room (sym is ∙ misses) in
    misses ∙ sym (lt-leb (max a b) room (omega (arith, past)))

-- a node, given as another one whose depth is known
pub seen : {X : Type 0} (deep : X → ℕ) (x y : X) (d room : ℕ) (r : Bool) → x ≡ y → deep y ≡ d → r ≡ nat_le d room → r ≡ nat_le (deep x) room
seen deep x y d room r same is fits = fits ∙ ap (λ n. nat_le n room) (sym is) ∙ ap (λ z. nat_le (deep z) room) (sym same)

-- a part, given as another one
pub told : {X : Type 0} (deep : X → ℕ) (x y : X) (room : ℕ) (r : Bool) → r ≡ nat_le (deep x) room → x ≡ y → r ≡ nat_le (deep y) room
told deep x y room r fits same = fits ∙ ap (λ z. nat_le (deep z) room) same

-- ---- lists

-- a list is as deep as the deepest of its elements
module _ {X : Type 0} (all : List X → ℕ) (one : X → ℕ) (none : all [] ≡ 0) (step : (x : X) (xs : List X) → all (x ∷ xs) ≡ max (one x) (all xs)) where
  turn : (xs : List X) (i : ℕ) (d : X) → i < length xs → all (drop i xs) ≡ max (one (get_or xs i d)) (all (drop (i + 1) xs))
  turn xs i d within = at_drop_more all xs i d within ∙ step (get_or xs i d) (drop (i + 1) xs)

  pub element-fails : (xs : List X) (i : ℕ) (d : X) (room : ℕ) (r : Bool) → i < length xs → d ≡ get_or xs i d → r ≡ nat_le (one d) room → r ≡ false
      → nat_le (all (drop i xs)) room ≡ nat_le (all xs) room → false ≡ nat_le (all xs) room
  element-fails xs i d room r within same is misses so_far =
      sym misses ∙ first-fails (one (get_or xs i d)) (all (drop (i + 1) xs)) room r (is ∙ ap (λ x. nat_le (one x) room) same) misses
      ∙ ap (λ n. nat_le n room) (sym (turn xs i d within)) ∙ so_far

  pub element-fits : (xs : List X) (i : ℕ) (d : X) (room : ℕ) (r : Bool) → i < length xs → d ≡ get_or xs i d → r ≡ nat_le (one d) room → r ≡ true
      → nat_le (all (drop i xs)) room ≡ nat_le (all xs) room → nat_le (all (drop (i + 1) xs)) room ≡ nat_le (all xs) room
  element-fits xs i d room r within same is holds so_far =
      both (one (get_or xs i d)) (all (drop (i + 1) xs)) room r (nat_le (all (drop (i + 1) xs)) room) (is ∙ ap (λ x. nat_le (one x) room) same) holds refl
      ∙ ap (λ n. nat_le n room) (sym (turn xs i d within)) ∙ so_far

  pub all-fit : (xs : List X) (i room : ℕ) → length xs ≤ i → nat_le (all (drop i xs)) room ≡ nat_le (all xs) room → true ≡ nat_le (all xs) room
  all-fit xs i room past so_far =
      sym (le-leb 0 room (omega arith)) ∙ ap (λ n. nat_le n room) (sym none ∙ sym (at_drop_all all xs i past)) ∙ so_far
