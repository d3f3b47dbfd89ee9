-- What is left of an edit once the bytes that both of its texts begin and end with are cut off.
use Rattle.std.specs.Prelude.{◌≡◌, ℕ, ◌+◌, ◌-◌, ◌<◌, ◌≤◌, List, drop, length, slice_index, take}
use Rattle.std.specs.Str.{IsCharBoundary}

-- these bytes at that offset of a text become those
pub record TextEdit : Type 0 where
  pub at : ℕ
  pub was : List ℕ
  pub now : List ℕ

-- the offset is not between the two bytes of a line end CR LF
abbrev pub KeepsLineEnd : List ℕ → ℕ → Type 0
KeepsLineEnd text at = slice_index text (at - 1) ≡ 13 → slice_index text at ≡ 10 → ⊥

-- a text may be cut at an offset that is inside no character, and not between the two bytes of a line end CR LF
pub record IsCut (text : List ℕ) (at : ℕ) : Type 0 where
  pub whole : IsCharBoundary text at
  pub line_end : KeepsLineEnd text at

-- the two begin with the same n bytes, and both may be cut after them
pub record IsSharedFront (was now : List ℕ) (n : ℕ) : Type 0 where
  pub same : take n was ≡ take n now
  pub cut_was : IsCut was n
  pub cut_now : IsCut now n

-- the two end with the same n bytes, and both may be cut before them
pub record IsSharedBack (was now : List ℕ) (n : ℕ) : Type 0 where
  pub in_was : n ≤ length was
  pub in_now : n ≤ length now
  pub same : drop (length was - n) was ≡ drop (length now - n) now
  pub cut_was : IsCut was (length was - n)
  pub cut_now : IsCut now (length now - n)

-- n is the largest number for which it holds, or 0 where it holds for no larger one
pub record IsLongest (P : ℕ → Type 0) (n : ℕ) : Type 0 where
  pub holds : 0 < n → P n
  pub longest : (m : ℕ) → n < m → P m → ⊥

-- the bytes without the first `front` of them and the last `back` of the others
abbrev pub inner : ℕ → ℕ → List ℕ → List ℕ
inner front back text = take (length (drop front text) - back) (drop front text)

-- The edit is the whole one without the longest front that both of its texts share, and then without the longest back.
pub record IsTrimmed (whole edit : TextEdit) : Type 0 where
  pub front : ℕ
  pub back : ℕ
  pub longest_front : IsLongest (IsSharedFront whole.was whole.now) front
  pub longest_back : IsLongest (IsSharedBack (drop front whole.was) (drop front whole.now)) back
  pub at : edit.at ≡ whole.at + front
  pub was : edit.was ≡ inner front back whole.was
  pub now : edit.now ≡ inner front back whole.now
