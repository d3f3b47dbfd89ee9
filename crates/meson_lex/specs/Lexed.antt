-- What an iterator over the items of a text gives.
use Rattle.std.specs.Prelude.{◌≡◌, ℕ, ◌+◌, ◌<◌, ◌≤◌, List, [], ◌∷◌, ◌++◌, length, drop, slice_range, Result, Ok, Err}
use Rattle.meson_lex.specs.declared.kinds.Item.{Item}
use Rattle.meson_lex.specs.declared.fault.LexFault.{LexFault}
use Rattle.meson_lex.specs.Items.{Lexeme, IsItem, IsItemList}
use Rattle.meson_lex.specs.Faults.{HasItemsThenFault}

-- the items with their spans, where the first begins at the offset
abbrev pub with_spans : ℕ → List Lexeme → List (Result Item LexFault)
with_spans offset [] = []
with_spans offset (x ∷ xs) = Ok (record { kind = x.kind; span = record { from = offset; to = offset + length x.text } })
    ∷ with_spans (offset + length x.text) xs

-- the items of a text that begins at the offset, or those before its fault and then that fault
pub data IsLexed (offset : ℕ) (bytes : List ℕ) (results : List (Result Item LexFault)) : Type 0 where
  whole : (xs : List Lexeme) → IsItemList bytes xs → results ≡ with_spans offset xs → IsLexed offset bytes results
  faulty : (xs : List Lexeme) (rest : List ℕ) (fault : LexFault) → HasItemsThenFault offset bytes xs rest fault
      → results ≡ with_spans offset xs ++ Err fault ∷ [] → IsLexed offset bytes results

-- Each item begins where the one before it ended, is not empty and is before the end. Without a fault they reach the end, and nothing is after a fault.
abbrev pub Tiles : ℕ → ℕ → List (Result Item LexFault) → Type 0
Tiles offset end [] = offset ≡ end
Tiles offset end (Ok item ∷ results) = (item.span.from ≡ offset) × (offset < item.span.to) × (item.span.to ≤ end) × Tiles item.span.to end results
Tiles offset end (Err fault ∷ results) = results ≡ []

-- the item's text in the source is an item before what follows it there
abbrev pub StandsIn : List ℕ → Item → Type 0
StandsIn source item = IsItem (record { kind = item.kind; text = slice_range source item.span.from item.span.to }) (drop item.span.to source)
