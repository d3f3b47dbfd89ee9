-- The calls at a distance, one after another, and the first of those that are near.
use Rattle.std.proofs.Common.{◌≡◌, ℕ, ◌+◌, ◌/◌, ◌<◌, ◌≤◌, List, [], ◌∷◌, ◌++◌, length, get_or, take, drop, map, sym, ap, ◌∙◌, append_assoc}
use Rattle.std.specs.Prelude.{Bool, true, false, if◌then◌else◌, filter}
use Rattle.std.proofs.lemmas.Bool.{le-ltb}
use Rattle.std.proofs.lemmas.List.{at_drop_more, take-map}
use Rattle.meson_explaining.specs.Nearest.{near_notes, nearer}
use Rattle.meson_explaining.specs.Notes.{call_note}
use Rattle.meson_inventory.specs.declared.holdings.HeldCall.{HeldCall}

module _ {X Y : Type 0} (at : X → Bool) (note : X → Y) (xs : List X) (i : ℕ) (d : X) (within : i < length xs) where
  one_on : (b : Bool) → at (get_or xs i d) ≡ b → map note (filter at (drop i xs)) ≡ map note (if b then get_or xs i d ∷ filter at (drop (i + 1) xs) else filter at (drop (i + 1) xs))
  one_on b is =
      at_drop_more (λ ys. map note (filter at ys)) xs i d within
      ∙ ap (λ c. map note (if c then get_or xs i d ∷ filter at (drop (i + 1) xs) else filter at (drop (i + 1) xs))) is

  pub one_at : (before after whole : List Y) → at (get_or xs i d) ≡ true → after ≡ before ++ note (get_or xs i d) ∷ [] → before ++ map note (filter at (drop i xs)) ≡ whole
      → after ++ map note (filter at (drop (i + 1) xs)) ≡ whole
  one_at before after whole is pushed so_far =
      ap (λ ys. ys ++ map note (filter at (drop (i + 1) xs))) pushed
      ∙ append_assoc before (note (get_or xs i d) ∷ []) (map note (filter at (drop (i + 1) xs)))
      ∙ ap (λ ys. before ++ ys) (sym (one_on true is))
      ∙ so_far

  pub none_at : (before after whole : List Y) → at (get_or xs i d) ≡ false → after ≡ before → before ++ map note (filter at (drop i xs)) ≡ whole → after ++ map note (filter at (drop (i + 1) xs)) ≡ whole
  none_at before after whole is same so_far =
      ap (λ ys. ys ++ map note (filter at (drop (i + 1) xs))) same ∙ ap (λ ys. before ++ ys) (sym (one_on false is)) ∙ so_far

-- ---- the first three that are near

pub near_three : (id : List ℕ) (cs : List HeldCall) → length id ≤ 100
    → take 3 (map (call_note []) (nearer id (length id / 3 + 1) (take 5000 cs))) ≡ near_notes id cs
near_three id cs short =
    let near = nearer id (length id / 3 + 1) (take 5000 cs) in
    take-map (call_note []) 3 near ∙ sym (ap (λ b. map (call_note []) (if b then [] else take 3 near)) (le-ltb 100 (length id) short))
