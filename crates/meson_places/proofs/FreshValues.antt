-- Values that are not known: one after another, and what is written for them.
use Rattle.std.proofs.Common.{◌≡◌, ℕ, ◌+◌, ◌<◌, true, false, List, [], ◌∷◌, ◌++◌, append_assoc, drop, get_or, length, map, take, refl, sym, ap, ◌∙◌, add-one}
use Rattle.std.specs.Prelude.{Bool, if◌then◌else◌}
use Rattle.std.proofs.Math.Seq.{drop-cons}
use Rattle.meson_syntax.specs.Tree.{Expression, Nowhere}
use Rattle.meson_edit.specs.Edits.{Written}
use Rattle.meson_calls.proofs.Loads.{take_more}
use Rattle.meson_steps.specs.declared.given.Given.{Given}
use Rattle.meson_places.specs.Equality.{fresh, is_old}
use Rattle.meson_places.specs.NewElements.{fresh_written}
use Rattle.meson_places.specs.Laws.{NewAreWritten}
use Rattle.meson_places.specs.Several.{AllMayBeGiven, all_written}
use Rattle.meson_places.specs.Values.{given_bytes, written_given}

module _ (known : Given → Bool) (vs : List Given) (i : ℕ) (d : Given) (within : i < length vs) where
  abbrev g : Given
  g = get_or vs i d

  abbrev rest : List Given
  rest = fresh known (take (i + 1) vs) (drop (i + 1) vs)

  step : (b : Bool) → is_old known (take i vs) g ≡ b → fresh known (take i vs) (drop i vs) ≡ (if b then rest else g ∷ rest)
  step b is =
      ap (fresh known (take i vs)) (drop-cons vs i d within ∙ ap (λ n. g ∷ drop n vs) (sym (add-one i)))
      ∙ ap (λ bs. if is_old known (take i vs) g then fresh known bs (drop (i + 1) vs) else g ∷ fresh known bs (drop (i + 1) vs)) (sym (take_more vs i d within))
      ∙ ap (λ c. if c then rest else g ∷ rest) is

  pub one_new : (all : List Given) → is_old known (take i vs) g ≡ false → (all ++ g ∷ []) ++ rest ≡ all ++ fresh known (take i vs) (drop i vs)
  one_new all is = append_assoc all (g ∷ []) rest ∙ ap (λ l. all ++ l) (sym (step false is))

  pub one_old : (all : List Given) → is_old known (take i vs) g ≡ true → all ++ rest ≡ all ++ fresh known (take i vs) (drop i vs)
  one_old all is = ap (λ l. all ++ l) (sym (step true is))

pub fresh_bytes : (known : Given → Bool) (before gs : List Given) (mays : AllMayBeGiven gs) → map (λ w. w.bytes) (fresh_written known before gs mays) ≡ map given_bytes (fresh known before gs)
fresh_bytes known before [] mays = refl
fresh_bytes known before (g ∷ gs) mays = go (is_old known before g) (fresh_bytes known (before ++ g ∷ []) gs mays.1)
  where
    new : List (Written (Expression Nowhere))
    new = fresh_written known (before ++ g ∷ []) gs mays.1

    vs : List Given
    vs = fresh known (before ++ g ∷ []) gs

    go : (b : Bool) → map (λ w. w.bytes) new ≡ map given_bytes vs → map (λ w. w.bytes) (if b then new else written_given g mays.0 ∷ new) ≡ map given_bytes (if b then vs else g ∷ vs)
    go true same = same
    go false same = ap (λ bs. given_bytes g ∷ bs) same

pub new_are_written : NewAreWritten
new_are_written known before [] may = (tt, refl)
new_are_written known before (g ∷ gs) may = go (is_old known before g) (new_are_written known (before ++ g ∷ []) gs may.1)
  where
    new : List (Written (Expression Nowhere))
    new = fresh_written known (before ++ g ∷ []) gs may.1

    vs : List Given
    vs = fresh known (before ++ g ∷ []) gs

    go : (b : Bool) → (mays : AllMayBeGiven vs) × (new ≡ all_written vs mays)
        → (mays : AllMayBeGiven (if b then vs else g ∷ vs)) × ((if b then new else written_given g may.0 ∷ new) ≡ all_written (if b then vs else g ∷ vs) mays)
    go true same = same
    go false same = ((may.0, same.0), ap (λ ws. written_given g may.0 ∷ ws) same.1)
