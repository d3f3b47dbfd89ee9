-- The text of listings, one after another.
use Rattle.std.proofs.Common.{◌≡◌, ◌∙◌, ◌++◌, ◌+◌, ◌<◌, ℕ, zero, suc, Bool, true, false, List, [], ◌∷◌, append_assoc, arith, get_or, length, map, refl, sym, take, ap, ap₂}
use Rattle.std.specs.Prelude.{◌||◌}
use Rattle.std.proofs.lemmas.List.{append-nil, map-append, take_more}
use Rattle.serde_json.specs.Data.{Data}
use Rattle.serde_json.specs.View.{items_of, view}
use Rattle.serde_json.specs.Written.{comma_if, compact_text, has_float, items_have_float, items_text}
use Rattle.serde_json.specs.declared.value.Value.{Value}
use Rattle.meson_script.specs.Listings.{listings_text}
use Rattle.meson_script.proofs.PlainListings.{first-of, rest-of}

-- without the closing bracket
abbrev inner : Bool → List Data → List ℕ
inner later [] = []
inner later (d ∷ ds) = comma_if later ++ (compact_text d ++ inner true ds)

closed : (later : Bool) (ds : List Data) → items_text later (items_of ds) ≡ inner later ds ++ 93 ∷ []
closed later [] = refl
closed later (d ∷ ds) = rw (closed true ds) (simp append_assoc)

further : (ds : List Data) (e : Data) → inner true (ds ++ e ∷ []) ≡ inner true ds ++ 44 ∷ compact_text e
further [] e = rw (append-nil (compact_text e)) refl
further (d ∷ ds) e = rw (further ds e) (simp append_assoc)

-- a further one after some
after : (d : Data) (ds : List Data) (e : Data) → listings_text ((d ∷ ds) ++ e ∷ []) ≡ 91 ∷ (compact_text d ++ (inner true ds ++ 44 ∷ (compact_text e ++ 93 ∷ [])))
after d ds e = ap (λ t. 91 ∷ (compact_text d ++ t)) (closed true (ds ++ e ∷ []) ∙ ap (λ t. t ++ 93 ∷ []) (further ds e) ∙ append_assoc (inner true ds) (44 ∷ compact_text e) (93 ∷ []))

ends : (d : Data) (ds : List Data) → listings_text (d ∷ ds) ≡ (91 ∷ (compact_text d ++ inner true ds)) ++ 93 ∷ []
ends d ds = ap (λ t. 91 ∷ (compact_text d ++ t)) (closed true ds) ∙ ap (λ t. 91 ∷ t) (sym (append_assoc (compact_text d) (inner true ds) (93 ∷ [])))

-- ---- the text without its last byte

fronts : (xs ys : List ℕ) (a b : ℕ) → xs ++ a ∷ [] ≡ ys ++ b ∷ [] → xs ≡ ys
fronts [] [] a b e = refl
fronts [] (y ∷ []) a b e = absurd (let no : ⊥ = cc in no)
fronts [] (y ∷ z ∷ ys) a b e = absurd (let no : ⊥ = cc in no)
fronts (x ∷ []) [] a b e = absurd (let no : ⊥ = cc in no)
fronts (x ∷ w ∷ xs) [] a b e = absurd (let no : ⊥ = cc in no)
fronts (x ∷ xs) (y ∷ ys) a b e =
    let first : x ≡ y = cc in
    let rest : xs ++ a ∷ [] ≡ ys ++ b ∷ [] = cc in
    ap₂ (λ z zs. z ∷ zs) first (fronts xs ys a b rest)

-- there were listings: a comma comes in place of the bracket
pub opened-some : (old front new : List ℕ) (last : ℕ) → old ≡ front ++ last ∷ [] → new ≡ front ++ 44 ∷ [] → (shown : List Data) → old ≡ listings_text shown
    → (d : Data) → new ++ (compact_text d ++ 93 ∷ []) ≡ listings_text (shown ++ d ∷ [])
opened-some old front new last popped pushed [] is d = absurd (let e : front ++ last ∷ [] ≡ [] = sym popped ∙ is in none front e)
  where
    none : (xs : List ℕ) → xs ++ last ∷ [] ≡ [] → ⊥
    none [] e = let no : ⊥ = cc in no
    none (x ∷ xs) e = let no : ⊥ = cc in no
opened-some old front new last popped pushed (s ∷ shown) is d =
    let begun : front ≡ 91 ∷ (compact_text s ++ inner true shown) = fronts front (91 ∷ (compact_text s ++ inner true shown)) last 93 (sym popped ∙ is ∙ ends s shown) in
    let text = compact_text d ++ 93 ∷ [] in
    ap (λ t. t ++ text) (pushed ∙ ap (λ f. f ++ 44 ∷ []) begun)
    ∙ simp append_assoc (sym (after s shown d))

-- there were none: the array begins
pub opened-none : (old new : List ℕ) → old ≡ [] → new ≡ 91 ∷ [] → (shown : List Data) → old ≡ listings_text shown
    → (d : Data) → new ++ (compact_text d ++ 93 ∷ []) ≡ listings_text (shown ++ d ∷ [])
opened-none old new none pushed [] is d = rw pushed refl
opened-none old new none pushed (s ∷ shown) is d = absurd (let e : 91 ∷ (compact_text s ++ items_text true (items_of shown)) ≡ [] = sym is ∙ none in let no : ⊥ = cc in no)

-- ---- several, one after another

abbrev pub Extends : List ℕ → List ℕ → List Data → Type 0
Extends old new ds = (shown : List Data) → old ≡ listings_text shown → new ≡ listings_text (shown ++ ds)

pub extends-none : (old : List ℕ) → Extends old old []
extends-none old shown is = is ∙ ap listings_text (sym (append-nil shown))

pub extends-more : (old between new : List ℕ) (vs : List Value) (i : ℕ) (v : Value) → i < length vs → v ≡ get_or vs i v → Extends old between (map view (take i vs))
    → Extends between new (view v ∷ []) → Extends old new (map view (take (i + 1) vs))
extends-more old between new vs i v within here before last shown is =
    let all : take (i + 1) vs ≡ take i vs ++ v ∷ [] = take_more vs i v within ∙ ap (λ x. take i vs ++ x ∷ []) (sym here) in
    last (shown ++ map view (take i vs)) (before shown is)
    ∙ ap listings_text (append_assoc shown (map view (take i vs)) (view v ∷ []) ∙ ap (λ ds. shown ++ ds) (sym (map-append view (take i vs) (v ∷ [])) ∙ ap (map view) (sym all)))

-- an element of a list that holds no number with a fraction
pub element-plain : (vs : List Value) (i : ℕ) (v : Value) → i < length vs → v ≡ get_or vs i v → items_have_float (items_of (map view vs)) ≡ false → has_float (view v) ≡ false
element-plain [] i v within here plain = absurd (omega (arith, within))
element-plain (w ∷ vs) zero v within here plain = ap (λ x. has_float (view x)) here ∙ first-of (has_float (view w)) (items_have_float (items_of (map view vs))) plain
element-plain (w ∷ vs) (suc i) v within here plain =
    let below : i < length vs = omega (arith, within) in
    element-plain vs i v below here (rest-of (has_float (view w)) (items_have_float (items_of (map view vs))) plain)
