-- The lists of a value as the code finds them: whether there are any.
use Rattle.std.proofs.Common.{◌≡◌, ℕ, true, false, List, [], ◌∷◌, length, Result, refl, sym, ap, ◌∙◌, arith}
use Rattle.meson_lex.specs.declared.kinds.Span.{Span}
use Rattle.meson_syntax.specs.Tree.{Expression}
use Rattle.meson_edit.specs.Edits.{is_empty}
use Rattle.meson_calls.specs.declared.refusal.Refusal.{Refusal}
use Rattle.meson_calls.specs.Loading.{Loaded}
use Rattle.meson_steps.specs.Steps.{Step}
use Rattle.meson_steps.specs.declared.given.Given.{Given}
use Rattle.meson_places.specs.declared.value_lists.FoundList.{FoundList}
use Rattle.meson_places.specs.AllAssigned.{says_by}
use Rattle.meson_places.specs.Equality.{lists_say, says}
use Rattle.meson_places.specs.Insertions.{find_mark, insert_at, insert_by}
use Rattle.meson_places.specs.Removals.{remove_by, remove_lone, remove_said}
use Rattle.meson_places.specs.Replacements.{Exchange, replace_by, replace_said}
use Rattle.meson_places.specs.Several.{AllMayBeGiven}
use Rattle.meson_places.specs.ValueLists.{ValueList}
use Rattle.meson_places.specs.inside.Found.{found_lists}

module _ (source : List ℕ) (fs : List FoundList) (ls : List (ValueList Span)) (found : found_lists source fs ≡ ls) where
  module _ (key : List ℕ) (gs : List Given) (gone : Result (List Step) Refusal) (e : Expression Span) where
    pub remove_none : length fs ≡ 0 → remove_by key source gs gone e ls ≡ remove_lone key source gs gone e
    remove_none none = ap (remove_by key source gs gone e) (sym found) ∙ go fs none
      where
        go : (xs : List FoundList) → length xs ≡ 0 → remove_by key source gs gone e (found_lists source xs) ≡ remove_lone key source gs gone e
        go [] is = refl
        go (x ∷ xs) is = absurd (omega (arith, is))

    pub remove_some : (length fs ≡ 0 → ⊥) → remove_by key source gs gone e ls ≡ remove_said key source gs (found_lists source fs)
    remove_some some = ap (remove_by key source gs gone e) (sym found) ∙ go fs some
      where
        go : (xs : List FoundList) → (length xs ≡ 0 → ⊥) → remove_by key source gs gone e (found_lists source xs) ≡ remove_said key source gs (found_lists source xs)
        go [] is = absurd (is refl)
        go (x ∷ xs) is = refl

  module _ (l : Loaded) (key : List ℕ) (x : Exchange) (otherwise : Result (List Step) Refusal) where
    pub replace_none : length fs ≡ 0 → replace_by l key source x otherwise ls ≡ otherwise
    replace_none none = ap (replace_by l key source x otherwise) (sym found) ∙ go fs none
      where
        go : (ys : List FoundList) → length ys ≡ 0 → replace_by l key source x otherwise (found_lists source ys) ≡ otherwise
        go [] is = refl
        go (y ∷ ys) is = absurd (omega (arith, is))

    pub replace_some : (length fs ≡ 0 → ⊥) → replace_by l key source x otherwise ls ≡ replace_said l key source x (found_lists source fs)
    replace_some some = ap (replace_by l key source x otherwise) (sym found) ∙ go fs some
      where
        go : (ys : List FoundList) → (length ys ≡ 0 → ⊥) → replace_by l key source x otherwise (found_lists source ys) ≡ replace_said l key source x (found_lists source ys)
        go [] is = absurd (is refl)
        go (y ∷ ys) is = refl

  module _ (l : Loaded) (key : List ℕ) (it : Given) (gs : List Given) (may : AllMayBeGiven gs) (e : Expression Span) where
    abbrev Is : List (ValueList Span) → Type 0
    Is ys = insert_by l key source it gs may e ys ≡ insert_at l key (lists_say source ys) gs may (find_mark source it ys)

    pub insert_some : (length fs ≡ 0 → ⊥) → insert_by l key source it gs may e ls ≡ insert_at l key (lists_say source (found_lists source fs)) gs may (find_mark source it (found_lists source fs))
    insert_some some = ap (insert_by l key source it gs may e) (sym found) ∙ go fs some
      where
        go : (ys : List FoundList) → (length ys ≡ 0 → ⊥) → Is (found_lists source ys)
        go [] is = absurd (is refl)
        go (y ∷ ys) is = refl

  module _ (g : Given) (e : Expression Span) where
    pub says_none : length fs ≡ 0 → says_by source g e ls ≡ says source g e
    says_none none = ap (says_by source g e) (sym found) ∙ go fs none
      where
        go : (xs : List FoundList) → length xs ≡ 0 → says_by source g e (found_lists source xs) ≡ says source g e
        go [] is = refl
        go (x ∷ xs) is = absurd (omega (arith, is))

    pub says_some : (length fs ≡ 0 → ⊥) → says_by source g e ls ≡ lists_say source (found_lists source fs) g
    says_some some = ap (says_by source g e) (sym found) ∙ go fs some
      where
        go : (xs : List FoundList) → (length xs ≡ 0 → ⊥) → says_by source g e (found_lists source xs) ≡ lists_say source (found_lists source xs) g
        go [] is = absurd (is refl)
        go (x ∷ xs) is = refl

  pub no_lists : length fs ≡ 0 → is_empty ls ≡ true
  no_lists none = ap is_empty (sym found) ∙ go fs none
    where
      go : (xs : List FoundList) → length xs ≡ 0 → is_empty (found_lists source xs) ≡ true
      go [] is = refl
      go (x ∷ xs) is = absurd (omega (arith, is))

  pub some_lists : (length fs ≡ 0 → ⊥) → is_empty ls ≡ false
  some_lists some = ap is_empty (sym found) ∙ go fs some
    where
      go : (xs : List FoundList) → (length xs ≡ 0 → ⊥) → is_empty (found_lists source xs) ≡ false
      go [] is = absurd (is refl)
      go (x ∷ xs) is = refl
