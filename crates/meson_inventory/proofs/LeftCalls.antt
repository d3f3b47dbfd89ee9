-- The `subdir` calls that enter none of the files, by their places.
use Rattle.std.proofs.Common.{◌≡◌, ℕ, List, [], ◌∷◌, ◌++◌, Some, refl, ap, ◌∙◌, subst}
use Rattle.std.specs.Prelude.{All, Bool, true, false, not, cond, option_and_then}
use Rattle.std.proofs.lemmas.List.Elements.{All-head, All-tail}
use Rattle.meson_lex.specs.declared.kinds.Span.{Span}
use Rattle.meson_syntax.proofs.paths.Every.{Every}
use Rattle.meson_calls.specs.declared.call.Reading.{Reading}
use Rattle.meson_calls.specs.Calls.{Call, call_of, calls, calls_function}
use Rattle.meson_calls.specs.Loading.{Loaded, project}
use Rattle.meson_calls.specs.Project.{Placed, Project, placed}
use Rattle.meson_calls.specs.Roles.{places}
use Rattle.meson_calls.proofs.CallsReached.{every_chosen}
use Rattle.meson_inventory.specs.Holdings.{calls_of, enters_one, function_calls, not_entered, with_function}
use Rattle.meson_inventory.specs.inside.Holdings.{call_enters, enters_at, not_entered_at}
use Rattle.meson_inventory.proofs.FoundListed.{Standing, every_call_stands, some_if}

pub in_middle : {X : Type 0} (P : X → Type 0) (xs ys : List X) (y : X) → All P (xs ++ y ∷ ys) → P y
in_middle P [] ys y all = All-head P y ys all
in_middle P (x ∷ xs) ys y all = in_middle P xs ys y (All-tail P x (xs ++ y ∷ ys) all)

function_stand : (p : Project Span) (f : List ℕ) → Every (Standing p) (function_calls p f)
function_stand p f = every_chosen (Standing p) (Standing p) (with_function f) step (calls p) (every_call_stands p)
  where
    step : (q : Placed (Call Span)) (c : Call Span) → Standing p q → with_function f q.it ≡ Some c → Standing p (placed q.place c)
    step q c stands is = subst (λ d. Standing p (placed q.place d)) (some_if (calls_function f q.it) q.it c is).1 stands

module _ (reading : Reading) (l : Loaded) where
  enters_same : (c : Placed (Call Span)) → Standing (project l) c → enters_at reading l c.place ≡ enters_one reading l c
  enters_same c stands =
      ap (λ o. call_enters reading l c.place (option_and_then call_of o)) stands.is_at ∙ ap (call_enters reading l c.place) stands.is_call

  left_at : (cs : List (Placed (Call Span))) → Every (Standing (project l)) cs → not_entered_at reading l (places cs) ≡ places (not_entered reading l cs)
  left_at [] every = refl
  left_at (c ∷ cs) every =
      ap (λ b. cond (not b) (c.place ∷ not_entered_at reading l (places cs)) (not_entered_at reading l (places cs))) (enters_same c every.0)
      ∙ kept (enters_one reading l c) (left_at cs every.1)
    where
      kept : (b : Bool) → not_entered_at reading l (places cs) ≡ places (not_entered reading l cs)
          → cond (not b) (c.place ∷ not_entered_at reading l (places cs)) (not_entered_at reading l (places cs))
          ≡ places (cond (not b) (c ∷ not_entered reading l cs) (not_entered reading l cs))
      kept true rest = rest
      kept false rest = ap (λ ps. c.place ∷ ps) rest

  pub left_places : (f : List ℕ) → not_entered_at reading l (calls_of (project l) f) ≡ places (not_entered reading l (function_calls (project l) f))
  left_places f = left_at (function_calls (project l) f) (function_stand (project l) f)
