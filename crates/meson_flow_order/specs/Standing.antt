-- What is known of a variable is made by assignments to it that stand in the project.
use Rattle.std.specs.Prelude.{◌≡◌, ℕ, ⊤, true, List, bytes_eq, None, Some}
use Rattle.std.specs.List.{AllByRecursion, Contains}
use Rattle.meson_lex.specs.declared.kinds.Span.{Span}
use Rattle.meson_syntax.specs.Tree.{Expression, Name, assign}
use Rattle.meson_syntax.specs.declared.operator.Assignment.{Assignment}
use Rattle.meson_calls.specs.declared.call.CallRef.{CallRef}
use Rattle.meson_calls.specs.Parts.{a_statement, parts}
use Rattle.meson_calls.specs.Project.{Project, child, placed}
use Rattle.meson_following.specs.Flows.{known_at, maker}
use Rattle.meson_following.specs.Makers.{Known, Maker, are_same}

-- The maker is an assignment to the variable: its value with its place is that of the assignment, and it is added where that adds.
pub record Stands (p : Project Span) (x : List ℕ) (m : Maker Span) : Type 0 where
  pub statement : CallRef
  pub span : Span
  pub name : Name Span
  pub operator : Assignment
  pub expression : Expression Span
  pub part : Contains (parts p) (placed statement (a_statement (assign span name operator expression)))
  pub variable : bytes_eq name.text x ≡ true
  pub value : m.value ≡ placed (child statement 0) expression
  pub adds : (let made = maker statement operator expression in m.adds ≡ made.adds)

abbrev pub AllStand : Project Span → List ℕ → Known Span → Type 0
AllStand p x None = ⊤
AllStand p x (Some m) = AllByRecursion (Stands p x) m.makers

-- wherever the variable is read
abbrev pub MakersStand : Type 0
MakersStand = (p : Project Span) (x : List ℕ) (c : CallRef) → AllStand p x (known_at p x c)

-- Assignments whose values stand at one place have one value, and are added alike.
abbrev pub AddAlike : Type 0
AddAlike =
    (p : Project Span) (x : List ℕ) (m n : Maker Span) → Stands p x m → Stands p x n → are_same m n ≡ true → (m.value ≡ n.value) × (m.adds ≡ n.adds)
