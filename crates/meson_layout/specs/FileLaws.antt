-- What the splices of a removed and of an appended statement make of a text, those of an assigned value that is replaced, and those of inserted lines.
use Rattle.std.specs.Prelude.{◌≡◌, ℕ, Bool, true, false, not, List, [], ◌∷◌, ◌++◌, ◌⊎◌, length, reverse, Ok}
use Rattle.meson_lex.specs.declared.kinds.Kind.{Kind}
use Rattle.meson_lex.specs.declared.kinds.Kind.TheVariants as k
use Rattle.meson_lex.specs.declared.kinds.Span.{Span}
use Rattle.meson_lex.specs.Bytes.{is_equals, begins}
use Rattle.meson_lex.specs.Items.{Lexeme, joined, IsItemList}
use Rattle.meson_lex.specs.Significant.{Word, State, start, after, emitted, closing, new_line, significant}
use Rattle.meson_splice.specs.declared.splice.Splice.{Splice}
use Rattle.meson_layout.specs.declared.primitive.BlankLines.{BlankLines}
use Rattle.meson_layout.specs.declared.primitive.BlankLines.TheVariants as blank
use Rattle.meson_layout.specs.declared.primitive.Primitive.TheVariants.{Replace, RemoveStatement, Append, Lines}
use Rattle.meson_layout.specs.declared.primitive.LineSpot.{LineSpot}
use Rattle.meson_layout.specs.declared.primitive.LineSpot.TheVariants as spot
use Rattle.std.specs.List.{list_all, AllByRecursion}
use Rattle.meson_lex.specs.Kinds.{IsLineEnd}
use Rattle.meson_lex.specs.Words.{spoken}
use Rattle.meson_layout.specs.Looks.{all_white, is_comment, is_line_end, at_most_blank}
use Rattle.meson_layout.specs.Statements.{at_line_start}
use Rattle.meson_layout.specs.Layout.{layout_of, IsSpotOf}
use Rattle.meson_lex.specs.Words.{IsTight}
use Rattle.meson_layout.specs.Edited.{patched_by}

-- outside brackets, at the start of a line or after a token
abbrev pub line_start : State
line_start = record { depth = 0; fresh = true }

abbrev pub behind_token : State
behind_token = record { depth = 0; fresh = false }

-- A statement among the items of a file: `more` are the file's tokens after its line.
pub record StatementIn (items : List Lexeme) (s : Span) (more : List Word) : Type 0 where
  pub left : List Lexeme
  pub own : List Lexeme
  pub right : List Lexeme
  pub parts : items ≡ left ++ (own ++ right)
  pub from : s.from ≡ length (joined left)
  pub to : s.to ≡ length (joined (left ++ own))
  pub tight : IsTight own
  pub begins : after start left ≡ line_start
  pub ends : after start (left ++ own) ≡ behind_token
  pub is_right : emitted (after start (left ++ own)) right ++ closing (after start items).fresh ≡ new_line ∷ more

-- all items end their line
abbrev pub ends_line : List Lexeme → Bool
ends_line xs = at_line_start (reverse xs)

-- the splices give the text, which has these significant tokens
pub record EditedFile (source : List ℕ) (ss : List Splice) (text : List ℕ) (tokens : List Word) : Type 0 where
  pub patches : patched_by source ss ≡ Ok text
  pub items : List Lexeme
  pub are_items : IsItemList text items
  pub says : significant items ≡ tokens

-- if the statement began its line, the line end after it
abbrev pub IsItsLineEnd : (front line : List Lexeme) → Type 0
IsItsLineEnd front line = (line ≡ []) ⊎ ((at_line_start (reverse front) ≡ true) × (x : Lexeme) × (is_line_end x.kind ≡ true) × (line ≡ x ∷ []))

-- What goes with a statement is the blank directly before it, the one directly after it, and then the line end, if the statement began its line.
pub record IsLineCut (front gone lost : List Lexeme) : Type 0 where
  pub blank : List Lexeme
  pub line : List Lexeme
  pub lost_is : lost ≡ blank ++ line
  pub gone_is : at_most_blank gone ≡ true
  pub blank_is : at_most_blank blank ≡ true
  pub line_is : IsItsLineEnd front line

-- What goes with it are blanks and line ends. More than a blank goes only if the statement is alone on its lines: then what stays before it ends its line.
pub record IsWhiteCut (front gone lost rest : List Lexeme) : Type 0 where
  pub gone_is : all_white gone ≡ true
  pub lost_is : all_white lost ≡ true
  pub alone : ((at_most_blank gone ≡ true) × (at_most_blank lost ≡ true)) ⊎ (ends_line front ≡ true)

abbrev pub IsCut : BlankLines → (front gone lost rest : List Lexeme) → Type 0
IsCut blank.Stay front gone lost rest = IsLineCut front gone lost
IsCut (blank.Trim first last) front gone lost rest = IsWhiteCut front gone lost rest

-- A removed statement: its tokens and those of its line end are removed. All before it and all after it stays, but for `gone` and `lost`.
pub record StatementCut (blank : BlankLines) (source : List ℕ) (left right : List Lexeme) (ss : List Splice) (tokens : List Word) : Type 0 where
  pub front : List Lexeme
  pub gone : List Lexeme
  pub lost : List Lexeme
  pub rest : List Lexeme
  pub left_is : left ≡ front ++ gone
  pub right_is : right ≡ lost ++ rest
  pub is_cut : IsCut blank front gone lost rest
  pub edited : EditedFile source ss (joined front ++ joined rest) tokens

abbrev pub StatementRemovalLaw : Type 0
StatementRemovalLaw = (file source : List ℕ) (items : List Lexeme) → IsItemList source items → (blank : BlankLines) (s : Span) (more : List Word)
    (p : StatementIn items s more) → StatementCut blank source p.left p.right (layout_of file items (RemoveStatement s blank)) (emitted start p.left ++ more)

-- a statement as it is written, by itself
pub record IsStatement (bytes : List ℕ) (fresh : List Lexeme) (words : List Word) : Type 0 where
  pub are_items : IsItemList bytes fresh
  pub tight : IsTight fresh
  pub says : emitted start fresh ≡ words
  pub ends : after start fresh ≡ behind_token

-- An appended statement: its tokens and a line end are last, and the file before them stays as it is.
abbrev pub AppendLaw : Type 0
AppendLaw = (file source : List ℕ) (items : List Lexeme) → IsItemList source items → (after start items).depth ≡ 0
    → (new : List ℕ) (fresh : List Lexeme) (words : List Word) → IsStatement new fresh words
    → (come : List ℕ) × EditedFile source (layout_of file items (Append new)) (source ++ come) (significant items ++ (words ++ new_line ∷ []))

-- ---- an assigned value

-- `=` and `+=`
abbrev pub IsAssignment : Kind → Type 0
IsAssignment κ = (κ ≡ k.Assign) ⊎ (κ ≡ k.PlusAssign)

-- An assigned value among the items of a file: the last token before it is that of its assignment, and after it its line ends. `more` are the file's tokens
-- after that line.
pub record ValueIn (items : List Lexeme) (s : Span) (more : List Word) : Type 0 where
  pub left : List Lexeme
  pub own : List Lexeme
  pub right : List Lexeme
  pub parts : items ≡ left ++ (own ++ right)
  pub from : s.from ≡ length (joined left)
  pub to : s.to ≡ length (joined (left ++ own))
  pub tight : IsTight own
  pub ahead : List Word
  pub operator : Kind
  pub assigns : IsAssignment operator
  pub is_left : emitted start left ≡ ahead ++ (operator, []) ∷ []
  pub begins : after start left ≡ behind_token
  pub ends : after start (left ++ own) ≡ behind_token
  pub is_right : emitted (after start (left ++ own)) right ++ closing (after start items).fresh ≡ new_line ∷ more

-- An assigned value that is replaced by what may be a line of its own and begins with no `=`: its tokens take the place of the old ones, and all bytes before
-- and after them stay.
abbrev pub AssignmentLaw : Type 0
AssignmentLaw = (file source : List ℕ) (items : List Lexeme) → IsItemList source items → (s : Span) (more : List Word) (p : ValueIn items s more)
    → (new : List ℕ) (fresh : List Lexeme) (words : List Word) → IsStatement new fresh words → begins is_equals new ≡ false
    → EditedFile source (layout_of file items (Replace s new)) (joined p.left ++ (new ++ joined p.right)) (emitted start p.left ++ (words ++ new_line ∷ more))

-- ---- lines

-- no item is a line end
abbrev pub is_in_line : List Lexeme → Bool
is_in_line xs = list_all (λ (x : Lexeme). not (is_line_end x.kind)) xs

-- a line of a comment, with at most a blank before it, and its line end
pub record IsCommentLine (xs : List Lexeme) : Type 0 where
  pub blank : List Lexeme
  pub note : Lexeme
  pub end : Lexeme
  pub parts : xs ≡ blank ++ (note ∷ end ∷ [])
  pub is_blank : at_most_blank blank ≡ true
  pub is_note : is_comment note.kind ≡ true
  pub is_end : is_line_end end.kind ≡ true

-- the items of lines
abbrev pub items_of_lines : List (List Lexeme) → List Lexeme
items_of_lines [] = []
items_of_lines (line ∷ lines) = line ++ items_of_lines lines

-- Above a statement: `left` are the items before it, of which `head` are on its own line. The lines between are comment lines, and the
-- last line of `front` is not: so the comment lines directly above a statement stay with it.
pub record IsAbove (front left : List Lexeme) : Type 0 where
  pub notes : List Lexeme
  pub head : List Lexeme
  pub parts : left ≡ front ++ (notes ++ head)
  pub lines : List (List Lexeme)
  pub are_lines : AllByRecursion IsCommentLine lines
  pub notes_are : notes ≡ items_of_lines lines
  pub says_nothing : spoken notes ≡ []
  pub front_ends : ends_line front ≡ true
  pub notes_end : ends_line (front ++ notes) ≡ true
  pub no_more : (more line : List Lexeme) → front ≡ more ++ line → ends_line more ≡ true → IsCommentLine line → ⊥
  pub in_line : is_in_line head ≡ true

-- Below a statement: `right` are the items after it. Those of `row` are on the line on which it ends, and `end` is the line end of that, if it has one.
pub record IsBelow (left own right front : List Lexeme) : Type 0 where
  pub row : List Lexeme
  pub end : List Lexeme
  pub back : List Lexeme
  pub parts : right ≡ row ++ (end ++ back)
  pub is_front : front ≡ left ++ (own ++ (row ++ end))
  pub in_line : is_in_line row ≡ true
  pub is_end : ((x : Lexeme) × (is_line_end x.kind ≡ true) × (end ≡ x ∷ [])) ⊎ ((end ≡ []) × (back ≡ []))

-- what is before the place, by the parts of the statement's span
abbrev pub IsFrontOf : (items : List Lexeme) → LineSpot → (front : List Lexeme) → Type 0
IsFrontOf items (spot.Above statement) front =
    (left own right : List Lexeme) → items ≡ left ++ (own ++ right) → statement.from ≡ length (joined left) → statement.to ≡ length (joined (left ++ own))
    → IsAbove front left
IsFrontOf items (spot.Below statement) front =
    (left own right : List Lexeme) → items ≡ left ++ (own ++ right) → statement.from ≡ length (joined left) → statement.to ≡ length (joined (left ++ own))
    → IsBelow left own right front
IsFrontOf items spot.End front = front ≡ items

-- Lines are inserted: all items stay, those of `front` before the lines and those of `back` after them. A line end is put before the lines if `front` does not
-- end its line, and only then.
pub record LinesInserted (source : List ℕ) (items : List Lexeme) (spot : LineSpot) (ss : List Splice) (new : List ℕ) : Type 0 where
  pub front : List Lexeme
  pub back : List Lexeme
  pub parts : items ≡ front ++ back
  pub is_front : IsFrontOf items spot front
  pub break : List ℕ
  pub is_break : IsLineEnd break ⊎ ((break ≡ []) × (ends_line front ≡ true))
  pub only_then : ends_line front ≡ true → break ≡ []
  pub patches : patched_by source ss ≡ Ok (joined front ++ (break ++ (new ++ joined back)))

abbrev pub LinesLaw : Type 0
LinesLaw = (file source : List ℕ) (items : List Lexeme) → IsItemList source items → (spot : LineSpot) → IsSpotOf items spot → (new : List ℕ)
    → LinesInserted source items spot (layout_of file items (Lines spot new)) new
