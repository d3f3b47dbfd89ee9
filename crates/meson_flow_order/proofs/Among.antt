-- Which makers are among others.
use Rattle.std.proofs.Common.{◌≡◌, ◌⊎◌, inl, inr, List, [], ◌∷◌, ◌++◌, map, take, ℕ, zero, suc, refl, sym, ap, ap₂, ◌∙◌}
use Rattle.std.specs.Prelude.{Bool, true, false, not, ◌&&◌, ◌||◌, ◌==◌, bytes_eq, filter, if◌then◌else◌}
use Rattle.std.specs.List.{list_any}
use Rattle.std.proofs.lemmas.Bool.{and_from, and_parts, and_right, eq-eqb, eqb-true, or_cases, or_from, or_left, or_parts, or_right, false≢true}
use Rattle.std.proofs.lemmas.List.Folds.{list_any-append}
use Rattle.std.proofs.lemmas.Slice.Eq.{bytes_eq-Decides}
use Rattle.meson_lex.specs.declared.kinds.Span.{Span}
use Rattle.meson_calls.specs.Project.{place}
use Rattle.meson_following.specs.Makers.{Maker, are_same, is_among, is_same_place, is_sure_among, of_both, renewed, sure_as_among, unsure, with_maker}

-- ---- makers at one place

pub same_itself : (m : Maker Span) → are_same m m ≡ true
same_itself m =
    let q = m.value.place in
    and_from _ _ (eq-eqb q.file q.file refl) ((bytes_eq-Decides q.path.steps q.path.steps).1 refl)

pub same_place : (m n : Maker Span) → are_same m n ≡ true → m.value.place ≡ n.value.place
same_place m n same =
    let c = m.value.place in
    let d = n.value.place in
    let both = and_parts (c.file == d.file) (bytes_eq c.path.steps d.path.steps) same in
    ap (λ n. place n c.path.steps) (eqb-true c.file d.file both.0) ∙ ap (place d.file) ((bytes_eq-Decides c.path.steps d.path.steps).0 both.1)

-- what holds of one holds of the other
pub same_left : (m n x : Maker Span) → are_same m n ≡ true → are_same m x ≡ are_same n x
same_left m n x same = ap (λ q. is_same_place q x.value.place) (same_place m n same)

pub same_right : (m n x : Maker Span) → are_same m n ≡ true → are_same x m ≡ are_same x n
same_right m n x same = ap (λ q. is_same_place x.value.place q) (same_place m n same)

pub same_back : (m n : Maker Span) → are_same m n ≡ are_same n m
same_back m n = go (are_same m n) (are_same n m) refl refl
  where
    go : (a b : Bool) → are_same m n ≡ a → are_same n m ≡ b → a ≡ b
    go true b is back = sym (same_right m n n is ∙ same_itself n) ∙ back
    go false true is back = sym is ∙ same_right n m m back ∙ same_itself m
    go false false is back = refl

pub among_alike : (ms : List (Maker Span)) (x y : Maker Span) → are_same x y ≡ true → is_among ms x ≡ is_among ms y
among_alike ms x y same = ap (λ q. list_any (λ (m : Maker Span). is_same_place m.value.place q) ms) (same_place x y same)

pub sure_alike : (ms : List (Maker Span)) (x y : Maker Span) → are_same x y ≡ true → is_sure_among ms x ≡ is_sure_among ms y
sure_alike ms x y same = ap (λ q. list_any (λ (m : Maker Span). is_same_place m.value.place q && m.sure) ms) (same_place x y same)

-- ---- of a list

pub sure_is_among : (ms : List (Maker Span)) (x : Maker Span) → is_sure_among ms x ≡ true → is_among ms x ≡ true
sure_is_among [] x is = is
sure_is_among (m ∷ ms) x is = go (sure_is_among ms x) (or_cases (are_same m x && m.sure) (is_sure_among ms x) is)
  where
    go : (is_sure_among ms x ≡ true → is_among ms x ≡ true) → ((are_same m x && m.sure) ≡ true) ⊎ (is_sure_among ms x ≡ true) → (are_same m x || is_among ms x) ≡ true
    go more (inl here) = or_left (are_same m x) (is_among ms x) (and_parts (are_same m x) m.sure here).0
    go more (inr later) = or_right (are_same m x) (is_among ms x) (more later)

-- others in the same places
pub among_map : (f : Maker Span → Maker Span) → ((m x : Maker Span) → are_same (f m) x ≡ are_same m x)
    → (ms : List (Maker Span)) (x : Maker Span) → is_among (map f ms) x ≡ is_among ms x
among_map f alike [] x = refl
among_map f alike (m ∷ ms) x = ap₂ (λ a b. a || b) (alike m x) (among_map f alike ms x)

pub none_taken : (n : ℕ) (ms : List (Maker Span)) (x : Maker Span) → is_among ms x ≡ false → is_among (take n ms) x ≡ false
none_taken zero ms x off = refl
none_taken (suc n) [] x off = refl
none_taken (suc n) (m ∷ ms) x off =
    let both = or_parts (are_same m x) (is_among ms x) off in
    or_from (are_same m x) (is_among (take n ms) x) both.0 (none_taken n ms x both.1)

pub none_passed : (p : Maker Span → Bool) (ms : List (Maker Span)) (x : Maker Span) → is_among ms x ≡ false → is_among (filter p ms) x ≡ false
none_passed p [] x off = refl
none_passed p (m ∷ ms) x off = let both = or_parts (are_same m x) (is_among ms x) off in go (p m) both.0 (none_passed p ms x both.1)
  where
    go : (b : Bool) → are_same m x ≡ false → is_among (filter p ms) x ≡ false → is_among (if b then m ∷ filter p ms else filter p ms) x ≡ false
    go true here more = or_from (are_same m x) (is_among (filter p ms) x) here more
    go false here more = more

-- ---- of both

abbrev pub news : List (Maker Span) → List (Maker Span) → List (Maker Span)
news ms ns = filter (λ n. not (is_among ms n)) ns

-- none of the new ones is among the first
pub new_apart : (ms ns : List (Maker Span)) (x : Maker Span) → is_among ms x ≡ true → is_among (news ms ns) x ≡ false
new_apart ms [] x is = refl
new_apart ms (n ∷ ns) x is = go (is_among ms n) refl (new_apart ms ns x is)
  where
    other : (b : Bool) → are_same n x ≡ b → is_among ms n ≡ false → b ≡ false
    other false same has = refl
    other true same has = sym is ∙ sym (among_alike ms n x same) ∙ has

    go : (b : Bool) → is_among ms n ≡ b → is_among (news ms ns) x ≡ false → is_among (if not b then n ∷ news ms ns else news ms ns) x ≡ false
    go true has more = more
    go false has more = or_from (are_same n x) (is_among (news ms ns) x) (other (are_same n x) refl has) more

among_new : (ms ns : List (Maker Span)) (x : Maker Span) → (is_among ms x || is_among (news ms ns) x) ≡ (is_among ms x || is_among ns x)
among_new ms [] x = refl
among_new ms (n ∷ ns) x = go (is_among ms n) refl (among_new ms ns x)
  where
    later : (a s b c : Bool) → (a || b) ≡ (a || c) → (a || (s || b)) ≡ (a || (s || c))
    later true s b c is = refl
    later false s b c is = ap (λ t. s || t) is

    one : (s : Bool) → are_same n x ≡ s → is_among ms n ≡ true → (is_among ms x || is_among (news ms ns) x) ≡ (is_among ms x || is_among ns x)
        → (is_among ms x || is_among (news ms ns) x) ≡ (is_among ms x || (s || is_among ns x))
    one false same has is = is
    one true same has is =
        let here : is_among ms x ≡ true = sym (among_alike ms n x same) ∙ has in
        or_left (is_among ms x) (is_among (news ms ns) x) here ∙ sym (or_left (is_among ms x) true here)

    go : (b : Bool) → is_among ms n ≡ b → (is_among ms x || is_among (news ms ns) x) ≡ (is_among ms x || is_among ns x)
        → (is_among ms x || is_among (if not b then n ∷ news ms ns else news ms ns) x) ≡ (is_among ms x || (are_same n x || is_among ns x))
    go true has is = one (are_same n x) refl has is
    go false has is = later (is_among ms x) (are_same n x) (is_among (news ms ns) x) (is_among ns x) is

pub among_both : (ms ns : List (Maker Span)) (x : Maker Span) → is_among (of_both ms ns) x ≡ (is_among ms x || is_among ns x)
among_both ms ns x =
    list_any-append (λ m. are_same m x) (map (sure_as_among ns) ms) (map unsure (news ms ns))
    ∙ ap₂ (λ a b. a || b) (among_map (sure_as_among ns) (λ m x. refl) ms x) (among_map unsure (λ m x. refl) (news ms ns) x)
    ∙ among_new ms ns x

pub none_sure : (ms : List (Maker Span)) (x : Maker Span) → is_sure_among (map unsure ms) x ≡ false
none_sure [] x = refl
none_sure (m ∷ ms) x = or_from (are_same m x && false) (is_sure_among (map unsure ms) x) (and_right (are_same m x) false refl) (none_sure ms x)

sure_in_first : (ms ns : List (Maker Span)) (x : Maker Span) → is_sure_among (map (sure_as_among ns) ms) x ≡ (is_sure_among ms x && is_sure_among ns x)
sure_in_first [] ns x = refl
sure_in_first (m ∷ ms) ns x =
    ap₂ (λ a b. a || b) (here (are_same m x) refl) (sure_in_first ms ns x) ∙ sides (are_same m x && m.sure) (is_sure_among ms x) (is_sure_among ns x)
  where
    here : (b : Bool) → are_same m x ≡ b → (b && (m.sure && is_sure_among ns m)) ≡ ((b && m.sure) && is_sure_among ns x)
    here true same = ap (λ u. m.sure && u) (sure_alike ns m x same)
    here false same = refl

    sides : (a b u : Bool) → ((a && u) || (b && u)) ≡ ((a || b) && u)
    sides true b true = refl
    sides true b false = and_right b false refl
    sides false b u = refl

pub sure_both : (ms ns : List (Maker Span)) (x : Maker Span) → is_sure_among (of_both ms ns) x ≡ (is_sure_among ms x && is_sure_among ns x)
sure_both ms ns x =
    list_any-append (λ m. are_same m x && m.sure) (map (sure_as_among ns) ms) (map unsure (news ms ns))
    ∙ ap₂ (λ a b. a || b) (sure_in_first ms ns x) (none_sure (news ms ns) x)
    ∙ last (is_sure_among ms x && is_sure_among ns x)
  where
    last : (a : Bool) → (a || false) ≡ a
    last true = refl
    last false = refl

-- ---- with one more

pub renewed_alike : (new m x : Maker Span) → are_same (renewed new m) x ≡ are_same m x
renewed_alike new m x = go (are_same m new) refl
  where
    go : (b : Bool) → are_same m new ≡ b → are_same (if b then new else m) x ≡ are_same m x
    go true same = sym (same_left m new x same)
    go false same = refl

-- others stay as they are
renewed_others : (new : Maker Span) (ms : List (Maker Span)) (x : Maker Span) → are_same new x ≡ false → is_sure_among (map (renewed new) ms) x ≡ is_sure_among ms x
renewed_others new [] x off = refl
renewed_others new (m ∷ ms) x off = ap₂ (λ a b. a || b) (go (are_same m new) refl) (renewed_others new ms x off)
  where
    go : (b : Bool) → are_same m new ≡ b → (let r = if b then new else m in are_same r x && r.sure) ≡ (are_same m x && m.sure)
    go true same = ap (λ b. b && new.sure) off ∙ sym (ap (λ b. b && m.sure) (same_left m new x same ∙ off))
    go false same = refl

renewed_sure : (new : Maker Span) (ms : List (Maker Span)) (x : Maker Span) → are_same new x ≡ true → is_sure_among (map (renewed new) ms) x ≡ true → new.sure ≡ true
renewed_sure new [] x same is = absurd (false≢true is)
renewed_sure new (m ∷ ms) x same is = go (are_same m new) refl (renewed_sure new ms x same) is
  where
    go : (b : Bool) → are_same m new ≡ b → (is_sure_among (map (renewed new) ms) x ≡ true → new.sure ≡ true)
        → ((let r = if b then new else m in are_same r x && r.sure) || is_sure_among (map (renewed new) ms) x) ≡ true → new.sure ≡ true
    go true here more is = one (or_cases (are_same new x && new.sure) (is_sure_among (map (renewed new) ms) x) is)
      where
        one : ((are_same new x && new.sure) ≡ true) ⊎ (is_sure_among (map (renewed new) ms) x ≡ true) → new.sure ≡ true
        one (inl sure) = (and_parts (are_same new x) new.sure sure).1
        one (inr later) = more later
    go false here more is = one (or_cases (are_same m x && m.sure) (is_sure_among (map (renewed new) ms) x) is)
      where
        one : ((are_same m x && m.sure) ≡ true) ⊎ (is_sure_among (map (renewed new) ms) x ≡ true) → new.sure ≡ true
        one (inl sure) = absurd (false≢true (sym here ∙ same_right new x m same ∙ (and_parts (are_same m x) m.sure sure).0))
        one (inr later) = more later

renewed_here : (new : Maker Span) (ms : List (Maker Span)) (x : Maker Span) → are_same new x ≡ true → new.sure ≡ true → is_among ms new ≡ true → is_sure_among (map (renewed new) ms) x ≡ true
renewed_here new [] x same sure has = absurd (false≢true has)
renewed_here new (m ∷ ms) x same sure has = go (are_same m new) refl (renewed_here new ms x same sure) has
  where
    go : (b : Bool) → are_same m new ≡ b → (is_among ms new ≡ true → is_sure_among (map (renewed new) ms) x ≡ true)
        → (b || is_among ms new) ≡ true → ((let r = if b then new else m in are_same r x && r.sure) || is_sure_among (map (renewed new) ms) x) ≡ true
    go true here more has = or_left (are_same new x && new.sure) (is_sure_among (map (renewed new) ms) x) (and_from (are_same new x) new.sure same sure)
    go false here more has = or_right (are_same m x && m.sure) (is_sure_among (map (renewed new) ms) x) (more has)

at_end : (ms : List (Maker Span)) (new x : Maker Span) → is_sure_among (ms ++ new ∷ []) x ≡ (is_sure_among ms x || ((are_same new x && new.sure) || false))
at_end ms new x = list_any-append (λ m. are_same m x && m.sure) ms (new ∷ [])

pub sure_others : (ms : List (Maker Span)) (new x : Maker Span) → are_same new x ≡ false → is_sure_among (with_maker ms new) x ≡ is_sure_among ms x
sure_others ms new x off = go (is_among ms new)
  where
    last : (a : Bool) → (a || false) ≡ a
    last true = refl
    last false = refl

    go : (b : Bool) → is_sure_among (if b then map (renewed new) ms else ms ++ new ∷ []) x ≡ is_sure_among ms x
    go true = renewed_others new ms x off
    go false = at_end ms new x ∙ ap (λ b. is_sure_among ms x || ((b && new.sure) || false)) off ∙ last (is_sure_among ms x)

pub sure_new : (ms : List (Maker Span)) (new x : Maker Span) → are_same new x ≡ true → is_sure_among (with_maker ms new) x ≡ true → new.sure ≡ true
sure_new ms new x same is = go (is_among ms new) refl is
  where
    go : (b : Bool) → is_among ms new ≡ b → is_sure_among (if b then map (renewed new) ms else ms ++ new ∷ []) x ≡ true → new.sure ≡ true
    go true has is = renewed_sure new ms x same is
    go false has is = one (or_cases (is_sure_among ms x) ((are_same new x && new.sure) || false) (sym (at_end ms new x) ∙ is))
      where
        one : (is_sure_among ms x ≡ true) ⊎ (((are_same new x && new.sure) || false) ≡ true) → new.sure ≡ true
        one (inl before) = absurd (false≢true (sym has ∙ among_alike ms new x same ∙ sure_is_among ms x before))
        one (inr here) = both (are_same new x) new.sure here
          where
            both : (a b : Bool) → ((a && b) || false) ≡ true → b ≡ true
            both true true is = refl
            both true false is = is
            both false b is = absurd (false≢true is)

pub sure_there : (ms : List (Maker Span)) (new x : Maker Span) → are_same new x ≡ true → new.sure ≡ true → is_sure_among (with_maker ms new) x ≡ true
sure_there ms new x same sure = go (is_among ms new) refl
  where
    go : (b : Bool) → is_among ms new ≡ b → is_sure_among (if b then map (renewed new) ms else ms ++ new ∷ []) x ≡ true
    go true has = renewed_here new ms x same sure has
    go false has =
        at_end ms new x
        ∙ or_right (is_sure_among ms x) ((are_same new x && new.sure) || false) (or_left (are_same new x && new.sure) false (and_from (are_same new x) new.sure same sure))

pub among_with : (ms : List (Maker Span)) (new x : Maker Span) → is_among (with_maker ms new) x ≡ (are_same new x || is_among ms x)
among_with ms new x = go (is_among ms new) refl
  where
    swap : (a b : Bool) → (a || (b || false)) ≡ (b || a)
    swap true true = refl
    swap true false = refl
    swap false true = refl
    swap false false = refl

    there : (s : Bool) → are_same new x ≡ s → is_among ms new ≡ true → is_among ms x ≡ (s || is_among ms x)
    there true same has = sym (among_alike ms new x same) ∙ has
    there false same has = refl

    go : (b : Bool) → is_among ms new ≡ b → is_among (if b then map (renewed new) ms else ms ++ new ∷ []) x ≡ (are_same new x || is_among ms x)
    go true has = among_map (renewed new) (renewed_alike new) ms x ∙ there (are_same new x) refl has
    go false has = list_any-append (λ m. are_same m x) ms (new ∷ []) ∙ swap (is_among ms x) (are_same new x)
