-- What holds from one edit to the next. What an edit inserted is found in its place. The tree keeps its levels and grows no deeper than what was inserted.
use Rattle.std.specs.Prelude.{◌≡◌, ℕ, suc, ◌+◌, ◌≤◌, false, List, [], drop, Some}
use Rattle.meson_syntax.specs.declared.operator.Bracket.{Bracket}
use Rattle.meson_syntax.specs.declared.operator.Bracket.TheVariants as bracket
use Rattle.meson_syntax.specs.Tree.{Nowhere, Plain, Expression, Listing, Argument, plain, named, pair, is_named, Statement, statements_of}
use Rattle.meson_syntax.specs.Grammar.{LevelExpression, LevelArgument, LevelStatements, LevelFile, statements_depth, expression_depth, listing_depth, argument_depth, file_depth}
use Rattle.meson_syntax.specs.Paths.{ListAt, list_at, nth}
use Rattle.meson_edit.specs.Edits.{Written, LinePlace, Edit, First, After, Remove, Replace, Wrap, RemoveStatement, Append, Assign, Lines, elements, edited}
use Rattle.meson_edit.specs.Laws.{IsEditOf}

-- ---- places

-- The path names the list in the tree that has it there, and all else of the place is as it was.
pub record StaysThere {S : Type 0} (path : List ℕ) (q : ListAt S) (l : Listing S) : Type 0 where
  pub there : ListAt S
  pub is_there : list_at (q.back l) path ≡ Some there
  pub list : there.list ≡ l
  pub bracket : there.bracket ≡ q.bracket
  pub before : there.before ≡ q.before
  pub behind : there.behind ≡ q.behind
  pub back : (x : Listing S) → there.back x ≡ q.back x

-- A list put where a path names one is found there.
abbrev pub ListsStay : Type 0
ListsStay = (t : Plain) (path : List ℕ) (q : ListAt Nowhere) → list_at t path ≡ Some q → (l : Listing Nowhere) → StaysThere path q l

-- ---- depth

-- A tree grows no deeper than its list does.
abbrev pub DepthsGrow : Type 0
DepthsGrow = (t : Plain) (path : List ℕ) (q : ListAt Nowhere) → list_at t path ≡ Some q → (l : Listing Nowhere) (k : ℕ)
    → listing_depth l ≤ listing_depth q.list + k
    → file_depth (q.back l) ≤ file_depth t + k

-- No list is deeper than its tree.
abbrev pub ListsAreShallow : Type 0
ListsAreShallow = (t : Plain) (path : List ℕ) (q : ListAt Nowhere) → list_at t path ≡ Some q → listing_depth q.list ≤ file_depth t

-- the depth of what an edit of a list inserts, of an assigned value, and of new statements
abbrev pub new_depth : Edit → ℕ
new_depth (First path new) = argument_depth new.node
new_depth (After path n new) = argument_depth new.node
new_depth (Remove path n) = 0
new_depth (Replace path n new) = expression_depth new.node
new_depth (Wrap path n) = 1
new_depth (RemoveStatement blank path n) = 0
new_depth (Append new) = 0
new_depth (Assign path new) = expression_depth new.node
new_depth (Lines place new) = statements_depth (statements_of new.node)

-- An edit of a list makes the tree deeper by no more than what it inserts.
abbrev pub EditsDeepen : Type 0
EditsDeepen = (e : Edit) (path : List ℕ) → IsEditOf path e → (t now : Plain) → edited e t ≡ Some now → file_depth now ≤ file_depth t + new_depth e

-- Without an element the tree is no deeper.
abbrev pub RemovalsStayWithin : Type 0
RemovalsStayWithin = (path : List ℕ) (n : ℕ) (t now : Plain) → edited (Remove path n) t ≡ Some now → file_depth now ≤ file_depth t

-- Nor is it with one more element in which nothing nests, such as a string.
abbrev pub FirstsStayWithin : Type 0
FirstsStayWithin = (path : List ℕ) (new : Written (Argument Nowhere)) → argument_depth new.node ≡ 0 → (t now : Plain) → edited (First path new) t ≡ Some now
    → file_depth now ≤ file_depth t

abbrev pub InsertionsStayWithin : Type 0
InsertionsStayWithin =
    (path : List ℕ) (n : ℕ) (new : Written (Argument Nowhere)) → argument_depth new.node ≡ 0 → (t now : Plain) → edited (After path n new) t ≡ Some now
    → file_depth now ≤ file_depth t

-- An edit that inserts at most one construct, and the array around a value, make the tree at most one deeper.
abbrev pub EditsDeepenByOne : Type 0
EditsDeepenByOne = (e : Edit) (path : List ℕ) → IsEditOf path e → new_depth e ≤ 1 → (t now : Plain) → edited e t ≡ Some now → file_depth now ≤ file_depth t + 1

-- Another assigned value makes the tree deeper by no more than that value; if nothing nests in it, the tree is no deeper.
abbrev pub AssignmentsDeepen : Type 0
AssignmentsDeepen =
    (path : List ℕ) (new : Written (Expression Nowhere)) (t now : Plain) → edited (Assign path new) t ≡ Some now
    → file_depth now ≤ file_depth t + expression_depth new.node

-- New statements make it deeper by no more than they are.
abbrev pub LineEditsDeepen : Type 0
LineEditsDeepen =
    (place : LinePlace) (new : Written (List (Statement Nowhere))) (t now : Plain) → edited (Lines place new) t ≡ Some now
    → file_depth now ≤ file_depth t + statements_depth (statements_of new.node)

-- ---- levels

-- An edit keeps the levels of a tree.
abbrev pub Levels : Edit → Type 0
Levels e = (t now : Plain) → LevelFile t → edited e t ≡ Some now → LevelFile now

abbrev pub RemovalsKeepLevels : Type 0
RemovalsKeepLevels = (path : List ℕ) (n : ℕ) → Levels (Remove path n)

abbrev pub WrapsKeepLevels : Type 0
WrapsKeepLevels = (path : List ℕ) (n : ℕ) → Levels (Wrap path n)

abbrev pub ReplacementsKeepLevels : Type 0
ReplacementsKeepLevels = (path : List ℕ) (n : ℕ) (new : Written (Expression Nowhere)) → LevelExpression new.node → Levels (Replace path n new)

abbrev pub AssignmentsKeepLevels : Type 0
AssignmentsKeepLevels = (path : List ℕ) (new : Written (Expression Nowhere)) → LevelExpression new.node → Levels (Assign path new)

abbrev pub LinesKeepLevels : Type 0
LinesKeepLevels = (place : LinePlace) (new : Written (List (Statement Nowhere))) → LevelStatements (statements_of new.node) → Levels (Lines place new)

-- An element may be the first of a list of its bracket.
abbrev pub FirstsKeepLevels : Type 0
FirstsKeepLevels = (path : List ℕ) (new : Written (Argument Nowhere)) (t now : Plain) (q : ListAt Nowhere) → list_at t path ≡ Some q
    → LevelArgument new.node q.bracket false
    → LevelFile t → edited (First path new) t ≡ Some now → LevelFile now

-- Whether an element may follow another one, before these. In an array it has no name; in a dictionary it has a key. In a call it has no name after one
-- without, or it has a name after the last.
abbrev pub MayFollow : Bracket → (it : Argument Nowhere) → (behind : List (Argument Nowhere)) → (new : Argument Nowhere) → Type 0
MayFollow bracket.Square it behind (plain e) = LevelExpression e
MayFollow bracket.Curly it behind (pair s k v) = LevelExpression k × LevelExpression v
MayFollow bracket.Round it behind (plain e) = (is_named it ≡ false) × LevelExpression e
MayFollow bracket.Round it behind (named s x e) = (behind ≡ []) × LevelExpression e
MayFollow b it behind new = ⊥

abbrev pub InsertionsKeepLevels : Type 0
InsertionsKeepLevels = (path : List ℕ) (n : ℕ) (new : Written (Argument Nowhere)) (t now : Plain) (q : ListAt Nowhere) → list_at t path ≡ Some q
    → (it : Argument Nowhere) → nth (elements q.list) n ≡ Some it → MayFollow q.bracket it (drop (suc n) (elements q.list)) new.node
    → LevelFile t → edited (After path n new) t ≡ Some now → LevelFile now
