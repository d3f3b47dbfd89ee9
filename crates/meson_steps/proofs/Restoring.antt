-- Putting back undoes what was exchanged since.
use Rattle.meson_steps.proofs.Words.{◌≡◌, ℕ, zero, suc, ◌<◌, ◌≤◌, List, [], ◌∷◌, ◌++◌, length, get_or, refl, sym, ap, ◌∙◌, subst, arith, slice_set, set-set}
use Rattle.meson_steps.proofs.Words.{set-get_or, Parsed, MayPut, MayPutBack, PutsBack, changed_tree, put_back, put_one, Saved}
use Rattle.meson_steps.specs.declared.journal.Saved.TheVariants as saved

-- ---- trees of which one is changed

pub changed_is : (i : ℕ) (change : Parsed → Parsed) (trees : List Parsed) (d : Parsed) → changed_tree i change trees ≡ slice_set trees i (change (get_or trees i d))
changed_is i change [] d = refl
changed_is zero change (t ∷ trees) d = refl
changed_is (suc i) change (t ∷ trees) d = ap (λ ts. t ∷ ts) (changed_is i change trees d)

pub changed_there : (i : ℕ) (change : Parsed → Parsed) (trees : List Parsed) (d : Parsed) → i < length trees → get_or (changed_tree i change trees) i d ≡ change (get_or trees i d)
changed_there i change [] d within = absurd (omega (arith, within))
changed_there zero change (t ∷ trees) d within = refl
changed_there (suc i) change (t ∷ trees) d within = let below : i < length trees = omega (arith, within) in changed_there i change trees d below

pub changed_past : (i : ℕ) (change : Parsed → Parsed) (trees : List Parsed) → length trees ≤ i → changed_tree i change trees ≡ trees
changed_past i change [] past = refl
changed_past zero change (t ∷ trees) past = absurd (omega (arith, past))
changed_past (suc i) change (t ∷ trees) past = let beyond : length trees ≤ i = omega (arith, past) in ap (λ ts. t ∷ ts) (changed_past i change trees beyond)

-- a change and the one that undoes it
pub changed_back : (i : ℕ) (change undo : Parsed → Parsed) (trees : List Parsed) → ((d : Parsed) → i < length trees → undo (change (get_or trees i d)) ≡ get_or trees i d)
    → changed_tree i undo (changed_tree i change trees) ≡ trees
changed_back i change undo [] is = refl
changed_back zero change undo (t ∷ trees) is = ap (λ x. x ∷ trees) (is t (omega arith))
changed_back (suc i) change undo (t ∷ trees) is =
    ap (λ ts. t ∷ ts) (changed_back i change undo trees (λ d within. let next : suc i < length (t ∷ trees) = omega (arith, within) in is d next))

-- two changes, and one in their place
pub changed_twice : (i : ℕ) (first second once : Parsed → Parsed) (trees : List Parsed) → ((d : Parsed) → i < length trees → second (first (get_or trees i d)) ≡ once (get_or trees i d))
    → changed_tree i second (changed_tree i first trees) ≡ changed_tree i once trees
changed_twice i first second once [] is = refl
changed_twice zero first second once (t ∷ trees) is = ap (λ x. x ∷ trees) (is t (omega arith))
changed_twice (suc i) first second once (t ∷ trees) is =
    ap (λ ts. t ∷ ts) (changed_twice i first second once trees (λ d within. let next : suc i < length (t ∷ trees) = omega (arith, within) in is d next))

-- ---- the last of what is saved

pub put_back_push : (more : List Saved) (s : Saved) (trees : List Parsed) → put_back (more ++ s ∷ []) trees ≡ put_back more (put_one s trees)
put_back_push [] s trees = refl
put_back_push (t ∷ more) s trees = ap (put_one t) (put_back_push more s trees)

may_push : (more : List Saved) (s : Saved) (trees : List Parsed) → MayPut s trees → MayPutBack more (put_one s trees) → MayPutBack (more ++ s ∷ []) trees
may_push [] s trees may rest = (may, tt)
may_push (t ∷ more) s trees may rest = (subst (MayPut t) (sym (put_back_push more s trees)) rest.0, may_push more s trees may rest.1)

pub may_pop : (more : List Saved) (s : Saved) (trees : List Parsed) → MayPutBack (more ++ s ∷ []) trees → MayPut s trees × MayPutBack more (put_one s trees)
may_pop [] s trees may = (may.0, tt)
may_pop (t ∷ more) s trees may = let rest = may_pop more s trees may.1 in (rest.0, (subst (MayPut t) (put_back_push more s trees) may.0, rest.1))

-- what is saved with one more, which undoes what became of the trees since
pub puts_back_more : (more : List Saved) (s : Saved) (trees after first : List Parsed) → MayPut s after → put_one s after ≡ trees → PutsBack more trees first → PutsBack (more ++ s ∷ []) after first
puts_back_more more s trees after first may is p = record {
  may = may_push more s after may (subst (MayPutBack more) (sym is) p.may);
  gives = put_back_push more s after ∙ ap (put_back more) is ∙ p.gives;
}

-- what is saved with another one as its last, which undoes what the last one undid before
pub puts_back_other : (more : List Saved) (s u : Saved) (trees after first : List Parsed) → MayPut u after → put_one u after ≡ put_one s trees → PutsBack (more ++ s ∷ []) trees first
    → PutsBack (more ++ u ∷ []) after first
puts_back_other more s u trees after first may is p = record {
  may = may_push more u after may (subst (MayPutBack more) (sym is) (may_pop more s trees p.may).1);
  gives = put_back_push more u after ∙ ap (put_back more) is ∙ sym (put_back_push more s trees) ∙ p.gives;
}

-- a tree that is exchanged
pub put_tree : (trees : List Parsed) (i : ℕ) (d new : Parsed) → put_one (saved.Tree i (get_or trees i d)) (slice_set trees i new) ≡ trees
put_tree trees i d new = set-set trees i new (get_or trees i d) ∙ set-get_or trees i d
