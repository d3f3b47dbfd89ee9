-- The splices of an edit, by the items of the source.
use Rattle.std.specs.Prelude.{◌≡◌, ℕ, suc, ◌+◌, ◌-◌, ◌==◌, List, [], ◌∷◌, ◌++◌, length, take, drop, if◌then◌else◌}
use Rattle.meson_lex.specs.declared.kinds.Span.{Span}
use Rattle.meson_lex.specs.Items.{Lexeme, joined, IsItemList}
use Rattle.meson_lex.specs.Significant.{Opens, role}
use Rattle.meson_splice.specs.declared.splice.Splice.{Splice}
use Rattle.meson_layout.specs.declared.primitive.Primitive.{Primitive}
use Rattle.meson_layout.specs.declared.primitive.Primitive.TheVariants.{First, After, Remove, Replace, Wrap, RemoveStatement, Append, Lines}
use Rattle.meson_layout.specs.declared.primitive.LineSpot.{LineSpot}
use Rattle.meson_layout.specs.declared.primitive.LineSpot.TheVariants as spot
use Rattle.meson_layout.specs.Pieces.{Piece, Keep, Change, as_one, open_square, close_square, splices}
use Rattle.meson_layout.specs.Insertion.{first, inserted}
use Rattle.meson_layout.specs.Removal.{removed}
use Rattle.meson_layout.specs.Statements.{appended}
use Rattle.meson_layout.specs.StatementRemoval.{statement_removed}
use Rattle.meson_layout.specs.LineSpots.{above_len, below_len, lines_after}

-- ---- places

-- the number of items before an offset
abbrev pub before_len : ℕ → List Lexeme → ℕ
before_len n [] = 0
before_len n (x ∷ xs) = if n == 0 then 0 else suc (before_len (n - length x.text) xs)

-- the items before, of and after a span
pub record Parts : Type 0 where
  pub left : List Lexeme
  pub own : List Lexeme
  pub right : List Lexeme

abbrev pub parts_by : ℕ → List Lexeme → List Lexeme → Parts
parts_by n left rest = record { left = left; own = take n rest; right = drop n rest }

abbrev pub parts_of_items : ℕ → ℕ → List Lexeme → Parts
parts_of_items n size items = parts_by (before_len size (drop n items)) (take n items) (drop n items)

unfoldable pub split_at_span : Span → List Lexeme → Parts
split_at_span s items = parts_of_items (before_len s.from items) (s.to - s.from) items

-- the number of items before the place where lines are inserted
abbrev pub spot_len : LineSpot → List Lexeme → ℕ
spot_len (spot.Above statement) items = above_len (split_at_span statement items).left
spot_len (spot.Below statement) items = let p = split_at_span statement items in below_len p.left p.own p.right
spot_len spot.End items = length items

-- ---- pieces

-- a value is replaced by other items, and by the array of itself
abbrev pub replaced : List Lexeme → List Lexeme → List Lexeme → List Lexeme → List Piece
replaced left own right new = Keep left ∷ Change own new ∷ Keep right ∷ []

abbrev pub wrapped : List Lexeme → List Lexeme → List Lexeme → List Piece
wrapped left own right = replaced left own right (open_square ∷ (own ++ close_square ∷ []))

abbrev pub first_in : ℕ → List Lexeme → List Lexeme → List Piece
first_in n items new = first (take n items) (drop n items) new

abbrev pub pieces : Primitive → List Lexeme → List Piece
pieces (First bracket new) items = first_in (before_len (bracket + 1) items) items (as_one new)
pieces (After element new) items = let p = split_at_span element items in inserted p.left p.own p.right (as_one new)
pieces (Remove element) items = let p = split_at_span element items in removed p.left p.own p.right
pieces (Replace value new) items = let p = split_at_span value items in replaced p.left p.own p.right (as_one new)
pieces (Wrap value) items = let p = split_at_span value items in wrapped p.left p.own p.right
pieces (RemoveStatement statement blank) items = let p = split_at_span statement items in statement_removed blank p.left p.own p.right
pieces (Append new) items = appended items (as_one new)
pieces (Lines spot new) items = lines_after (spot_len spot items) items (as_one new)

-- The layout of an edit of the text of these items.
abbrev pub layout_of : List ℕ → List Lexeme → Primitive → List Splice
layout_of file items primitive = splices file 0 (pieces primitive items)

-- ---- conditions

-- the span begins and ends at borders of the items, and is not empty
pub record IsSpanOf (items : List Lexeme) (s : Span) : Type 0 where
  pub left : List Lexeme
  pub first : Lexeme
  pub more : List Lexeme
  pub right : List Lexeme
  pub joins : items ≡ left ++ (first ∷ more ++ right)
  pub from : s.from ≡ length (joined left)
  pub to : s.to ≡ length (joined (left ++ first ∷ more))

-- an opening bracket is at the offset
pub record IsBracketOf (items : List Lexeme) (at : ℕ) : Type 0 where
  pub left : List Lexeme
  pub bracket : Lexeme
  pub right : List Lexeme
  pub joins : items ≡ left ++ bracket ∷ right
  pub place : at ≡ length (joined left)
  pub opens : role bracket.kind ≡ Opens

abbrev pub IsSpotOf : (items : List Lexeme) → LineSpot → Type 0
IsSpotOf items (spot.Above statement) = IsSpanOf items statement
IsSpotOf items (spot.Below statement) = IsSpanOf items statement
IsSpotOf items spot.End = Unit {0}

abbrev pub IsPlaced : Primitive → List Lexeme → Type 0
IsPlaced (First bracket new) items = IsBracketOf items bracket
IsPlaced (After element new) items = IsSpanOf items element
IsPlaced (Remove element) items = IsSpanOf items element
IsPlaced (Replace value new) items = IsSpanOf items value
IsPlaced (Wrap value) items = IsSpanOf items value
IsPlaced (RemoveStatement statement blank) items = IsSpanOf items statement
IsPlaced (Append new) items = Unit {0}
IsPlaced (Lines spot new) items = IsSpotOf items spot

-- The source has an item list, and the places of the edit are borders of its items.
pub record IsReady (source : List ℕ) (primitive : Primitive) : Type 0 where
  pub items : List Lexeme
  pub are_items : IsItemList source items
  pub placed : IsPlaced primitive items
