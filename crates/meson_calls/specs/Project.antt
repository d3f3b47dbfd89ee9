-- A project: build files in order, each with its name and its tree; and the places of what is in it.
use Rattle.std.specs.Prelude.{ℕ, zero, suc, List, [], ◌∷◌, ◌++◌, Option, Some, None, option_and_then}
use Rattle.meson_syntax.specs.Tree.{Expression, File}
use Rattle.meson_syntax.specs.Paths as paths
use Rattle.meson_calls.specs.declared.call.CallRef.{CallRef}
use Rattle.meson_calls.specs.declared.call.BorrowedPlace.{BorrowedPlace}

pub record BuildFile (S : Type 0) : Type 0 where
  pub name : List ℕ
  pub tree : File S

abbrev pub Project : Type 0 → Type 0
Project S = List (BuildFile S)

-- ---- places: the number of a file, and the path in it

abbrev pub place : ℕ → List ℕ → CallRef
place file path = record { file = file; path = record { steps = path } }

-- with a borrowed path
abbrev pub place_at : BorrowedPlace → CallRef
place_at p = place p.file p.path.now

-- of the n-th child of what is there
abbrev pub child : CallRef → ℕ → CallRef
child p n = place p.file (p.path.steps ++ n ∷ [])

pub record Placed (X : Type 0) : Type 0 where
  pub place : CallRef
  pub it : X

abbrev pub placed : {X : Type 0} → CallRef → X → Placed X
placed p x = record { place = p; it = x }

-- ---- what is at a place

abbrev pub nth_file : {S : Type 0} → Project S → ℕ → Option (BuildFile S)
nth_file [] n = None
nth_file (f ∷ files) zero = Some f
nth_file (f ∷ files) (suc n) = nth_file files n

abbrev pub expression_at : {S : Type 0} → Project S → CallRef → Option (Expression S)
expression_at p at_ = option_and_then (λ f. paths.expression_on_path f.tree at_.path.steps) (nth_file p at_.file)
