-- What is told of the parts of a node, one after another: it is the same at places that are alike.
use Rattle.meson_steps.proofs.Words.{⊤, ◌≡◌, ℕ, ◌+◌, List, [], ◌∷◌, ◌++◌, Option, refl, sym, ap, ap₂, ◌∙◌, cons_option, filter_map, filter_map-append, Any}
use Rattle.meson_steps.proofs.Words.{an_expression, a_statement, a_block, child_nodes, Every, Part, Placed, child, placed, CallRef, Each, by_children}
use Rattle.meson_steps.proofs.Words.{each_of_nth, any, itself, parts_are, parts_below, parts_of}
use Rattle.meson_calls.specs.Parts as part

module _ {S Y : Type 0} (tell : Placed (Part S) → Option Y) where
  abbrev pub told : List (Placed (Part S)) → List Y
  told qs = filter_map tell qs

  pub told_both : (xs ys : List (Placed (Part S))) → told (xs ++ ys) ≡ told xs ++ told ys
  told_both xs ys = filter_map-append tell xs ys

  -- places at which the same is told of each node of some kind, which has such nodes within it alone
  module _ (Of : Any S → Type 0) (within : (x : Any S) → Of x → Every Of (child_nodes x)) (like : CallRef → CallRef → Type 0)
      (deeper : (p q : CallRef) (n m : ℕ) → like p q → like (child p n) (child q m))
      (same : (p q : CallRef) (x : Part S) → Of (any x) → like p q → tell (placed p x) ≡ tell (placed q x)) where
    abbrev Alike : Unit {0} → Any S → Type 0
    Alike u x = Of x → (p q : CallRef) → like p q → told (parts_of p x) ≡ told (parts_of q x)

    abbrev same_place : Unit {0} → ℕ → Unit {0}
    same_place u n = u

    all_alike : (p q : CallRef) (n m k : ℕ) (xs : List (Any S)) → like p q → Every Of xs → Each same_place Alike tt k xs → told (parts_below p n xs) ≡ told (parts_below q m xs)
    all_alike p q n m k [] w of each = refl
    all_alike p q n m k (x ∷ xs) w of each =
        told_both (parts_of (child p n) x) (parts_below p (n + 1) xs)
        ∙ ap₂ (λ l r. l ++ r) (each.0 of.0 (child p n) (child q m) (deeper p q n m w)) (all_alike p q (n + 1) (m + 1) (k + 1) xs w of.1 each.1)
        ∙ sym (told_both (parts_of (child q m) x) (parts_below q (m + 1) xs))

    with_itself : (p q : CallRef) (x : Any S) → Of x → like p q → (xs ys : List (Placed (Part S))) → told xs ≡ told ys → told (itself p x ++ xs) ≡ told (itself q x ++ ys)
    with_itself p q (an_expression e) of w xs ys is = ap₂ cons_option (same p q (part.an_expression e) of w) is
    with_itself p q (a_statement s) of w xs ys is = ap₂ cons_option (same p q (part.a_statement s) of w) is
    with_itself p q (a_block b) of w xs ys is = is

    node_alike : (u : Unit {0}) (x : Any S) → Alike u x
    node_alike = by_children same_place Alike
        (λ u x each of p q w.
        ap told (parts_are p x)
        ∙ with_itself p q x of w (parts_below p 0 (child_nodes x)) (parts_below q 0 (child_nodes x)) (all_alike p q 0 0 0 (child_nodes x) w (within x of) each)
        ∙ sym (ap told (parts_are q x)))

    pub alike : (p q : CallRef) (x : Any S) → Of x → like p q → told (parts_of p x) ≡ told (parts_of q x)
    alike p q x of w = node_alike tt x of p q w

    pub nodes_alike : (p q : CallRef) (n m : ℕ) (xs : List (Any S)) → Every Of xs → like p q → told (parts_below p n xs) ≡ told (parts_below q m xs)
    nodes_alike p q n m xs of w = all_alike p q n m 0 xs w of (each_of_nth same_place Alike tt 0 xs (λ k l x number is. node_alike tt x))

-- of what stands at a part's place nothing but the part itself matters
module _ {S Y : Type 0} (tell : Part S → Option Y) where
  abbrev All : Any S → Type 0
  All x = ⊤

  all : (xs : List (Any S)) → Every All xs
  all [] = tt
  all (x ∷ xs) = (tt, all xs)

  pub anywhere : (p q : CallRef) (x : Any S) → told (λ r. tell r.it) (parts_of p x) ≡ told (λ r. tell r.it) (parts_of q x)
  anywhere p q x = alike (λ r. tell r.it) All (λ y of. all (child_nodes y)) (λ r s. ⊤) (λ r s n m w. tt) (λ r s y of w. refl) p q x tt tt
