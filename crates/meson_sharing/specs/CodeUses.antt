-- The uses that the code finds.
use Rattle.std.specs.Prelude.{ℕ, ◌≡◌, ◌<◌, false, List, [], take, Option, Some, None}
use Rattle.meson_syntax.specs.Tree.{Expression}
use Rattle.meson_calls.specs.declared.call.CallRef.{CallRef}
use Rattle.meson_calls.specs.Project.{Project, expression_at, place}
use Rattle.meson_following.specs.Following.{one_of_places}
use Rattle.meson_sharing.specs.Sharing.{uses_of_expression}

-- of what is at a place, if there is an expression
abbrev pub uses_there : {S : Type 0} → CallRef → Option (Expression S) → List CallRef
uses_there q None = []
uses_there q (Some e) = uses_of_expression q e

abbrev pub uses_at : {S : Type 0} → Project S → CallRef → List CallRef
uses_at p q = uses_there q (expression_at p q)

-- the place of what is around it, this number of steps up
abbrev pub around : CallRef → ℕ → CallRef
around q n = place q.file (take n q.path.steps)

-- none of the calls around a place, at fewer steps, makes it a use
abbrev pub NoneBefore : {S : Type 0} → Project S → CallRef → ℕ → Type 0
NoneBefore p q i = (n : ℕ) → n < i → one_of_places (uses_at p (around q n)) q ≡ false
