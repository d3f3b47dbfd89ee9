-- Where there are no names, nothing is said; else what is said of some.
use Rattle.std.proofs.Common.{◌≡◌, ℕ, List, [], ◌∷◌, length, refl, sym, ap, arith}
use Rattle.std.specs.Prelude.{◌==◌, true, false, ◌||◌, if◌then◌else◌, flat_map, take}
use Rattle.std.specs.List.{list_any}
use Rattle.std.proofs.lemmas.Bool.{eqb-true}
use Rattle.meson_calls.specs.declared.call.CallName.{CallName}
use Rattle.meson_calls.specs.declared.call.Role.{Role}
use Rattle.meson_calls.specs.Loading.{Loaded}
use Rattle.meson_calls.specs.Notes.{note_view, note_views}
use Rattle.meson_calls.specs.declared.note.Note as code
use Rattle.meson_steps.specs.Names.{distinct}
use Rattle.meson_warnings.specs.Known.{setters_known}
use Rattle.meson_warnings.specs.Reads.{reads}
use Rattle.meson_warnings.specs.SharedLists.{sharers, sharers_at}
use Rattle.meson_warnings.specs.UnsetNames.{assigns, is_assigned, unset_among, unset_at}

no_length : {X : Type 0} (x : X) (xs : List X) → (length (x ∷ xs) == 0) ≡ true → ⊥
no_length x xs is = let e = eqb-true (length (x ∷ xs)) 0 is in omega (arith, e)

module _ (l : Loaded) (meant : CallName) where
  pub no_sharers : (xs : List (List ℕ)) → (length xs == 0) ≡ true → [] ≡ sharers l meant xs
  no_sharers [] is = refl
  no_sharers (x ∷ more) is = absurd (no_length x more is)

  pub some_sharers : (xs : List (List ℕ)) → (length xs == 0) ≡ false → sharers_at l meant (take 5000 (flat_map (reads l) (distinct xs))) ≡ sharers l meant xs
  some_sharers [] is = absurd (let no : ⊥ = cc in no)
  some_sharers (x ∷ more) is = refl

  module _ (r : Role) where
    pub no_unset : (xs : List (List ℕ)) → (length xs == 0) ≡ true → [] ≡ unset_among l r meant xs
    no_unset [] is = refl
    no_unset (x ∷ more) is = absurd (no_length x more is)

    pub unknown_unset : (xs : List (List ℕ)) → setters_known l ≡ false → [] ≡ unset_among l r meant xs
    unknown_unset [] known = refl
    unknown_unset (x ∷ more) known = sym (ap (λ b. if b then unset_at l r meant (take 100 (distinct (x ∷ more))) else []) known)

    pub some_unset : (xs : List (List ℕ)) → (length xs == 0) ≡ false → setters_known l ≡ true → unset_at l r meant (take 100 (distinct xs)) ≡ unset_among l r meant xs
    some_unset [] is known = absurd (let no : ⊥ = cc in no)
    some_unset (x ∷ more) is known = sym (ap (λ b. if b then unset_at l r meant (take 100 (distinct (x ∷ more))) else []) known)

pub any_views : (x : List ℕ) (ns : List code.Note) → list_any (λ n. assigns x (note_view n).it) ns ≡ is_assigned x (note_views ns)
any_views x [] = refl
any_views x (n ∷ ns) = ap (λ b. assigns x (note_view n).it || b) (any_views x ns)
