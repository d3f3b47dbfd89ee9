-- The elements of a JSON array, one after another.
use Rattle.std.proofs.Common.{◌≡◌, ◌<◌, ◌≤◌, ◌+◌, ◌-◌, ℕ, List, [], ◌∷◌, ◌++◌, true, arith, drop, get_or, length, map, suc, take, refl, sym, ap, ◌∙◌, append_assoc, append-nil}
use Rattle.std.proofs.lemmas.Grind.{flat_map-append}
use Rattle.std.proofs.Math.Seq.{take-length}
use Rattle.std.proofs.lemmas.List.{take_all, take_more}
use Rattle.std.specs.List.{flat_map}
use Rattle.serde_json.specs.Data.{Data, array}
use Rattle.serde_json.specs.View.{items_of}
use Rattle.serde_json.specs.Written.{compact_text, items_text}

module _ {X : Type 0} (data_of : X → Data) where
  -- an element after another one
  abbrev pub next_item : X → List ℕ
  next_item x = 44 ∷ compact_text (data_of x)

  next_items : (xs : List X) → items_text true (items_of (map data_of xs)) ≡ flat_map next_item xs ++ 93 ∷ []
  next_items [] = refl
  next_items (x ∷ xs) = ap (λ (l : List ℕ). next_item x ++ l) (next_items xs) ∙ sym (append_assoc (next_item x) _ _)

  array-text : (xs : List X) (first : X) → 1 ≤ length xs → first ≡ get_or xs 0 first
      → (91 ∷ compact_text (data_of first) ++ flat_map next_item (take (length xs - 1) (drop 1 xs))) ++ 93 ∷ [] ≡ compact_text (array (items_of (map data_of xs)))
  array-text [] first some e = absurd (omega arith)
  array-text (x ∷ xs) first some e =
      let rest : suc (length xs) - 1 ≡ length xs = omega arith in
      rw (rest, take-length xs, e) (append_assoc (91 ∷ compact_text (data_of x)) _ _ ∙ ap (λ (l : List ℕ). 91 ∷ compact_text (data_of x) ++ l) (sym (next_items xs)))

  pub one-more : (xs : List X) (i : ℕ) (x : X) → i < length xs → x ≡ get_or xs i x
      → flat_map next_item (take i xs) ++ next_item x ≡ flat_map next_item (take (i + 1) xs)
  one-more xs i x below e =
      sym (ap (flat_map next_item) (take_more xs i x below) ∙ flat_map-append next_item (take i xs) _
      ∙ ap (λ (l : List ℕ). flat_map next_item (take i xs) ++ l) (append-nil _ ∙ ap next_item (sym e)))

  -- as the loop leaves it
  pub written_whole : (xs : List X) (first : X) (i : ℕ) → 1 ≤ length xs → first ≡ get_or xs 0 first → length (take (length xs - 1) (drop 1 xs)) ≤ i
      → (91 ∷ compact_text (data_of first) ++ flat_map next_item (take i (take (length xs - 1) (drop 1 xs)))) ++ 93 ∷ [] ≡ compact_text (array (items_of (map data_of xs)))
  written_whole xs first i some e past =
      ap (λ (l : List X). (91 ∷ compact_text (data_of first) ++ flat_map next_item l) ++ 93 ∷ []) (take_all i (take (length xs - 1) (drop 1 xs)) past) ∙ array-text xs first some e
