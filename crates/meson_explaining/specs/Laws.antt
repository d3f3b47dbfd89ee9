-- What is promised of an explanation, in the words of a reader.
use Rattle.std.specs.Prelude.{◌≡◌, ◌⊎◌, ℕ, ◌/◌, ◌≤◌, false, List, ◌++◌, codes, flat_map, length, Some, encode_utf8_all}
use Rattle.std.specs.List.{All, Contains, list_any}
use Rattle.std.specs.Char.{is_control}
use Rattle.meson_inventory.specs.declared.holdings.HeldCall.{HeldCall}
use Rattle.meson_syntax.specs.declared.fault.ParseFault.{ParseFault}
use Rattle.meson_explaining.specs.Excerpts.{fault_lines}
use Rattle.meson_explaining.specs.Lines.{printable}
use Rattle.meson_explaining.specs.Nearest.{edits, nearest}

-- ---- Each of the nearest calls is one of the calls, and its name or its variable is up to a third of the id's length away from the id.

pub record IsNear (id : List ℕ) (cs : List HeldCall) (c : HeldCall) : Type 0 where
  pub among : Contains cs c
  pub name : List ℕ
  pub is_name : (c.head.name ≡ Some name) ⊎ (c.variable ≡ Some name)
  pub close : edits id name ≤ length id / 3

-- and there are three at most
pub record AreNear (id : List ℕ) (cs : List HeldCall) : Type 0 where
  pub each : All (IsNear id cs) (nearest id cs)
  pub few : length (nearest id cs) ≤ 3

abbrev pub NearestAreNear : Type 0
NearestAreNear = (id : List ℕ) (cs : List HeldCall) → AreNear id cs

-- ---- A text for a terminal has no control characters.

pub record HasNoControl (text : List ℕ) : Type 0 where
  pub characters : List ℕ
  pub are_characters : text ≡ encode_utf8_all characters
  pub none : list_any is_control characters ≡ false

abbrev pub PrintableHasNoControl : Type 0
PrintableHasNoControl = (text : List ℕ) → HasNoControl (printable text)

-- ---- Nor have the lines that are said of a file that does not parse, beside their ends.

pub record AreShown (text : List ℕ) : Type 0 where
  pub lines : List (List ℕ)
  pub are_lines : text ≡ flat_map (λ l. l ++ codes "\n") lines
  pub each : All HasNoControl lines

abbrev pub FaultLinesHaveNoControl : Type 0
FaultLinesHaveNoControl = (name bytes : List ℕ) (fault : ParseFault) → AreShown (fault_lines name bytes fault)
