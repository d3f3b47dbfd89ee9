use Rattle.std.proofs.Common.{◌≡◌, ℕ, List, [], ◌∷◌, length, map, Err, refl, sym, subst, arith}
use Rattle.std.specs.Prelude.{◌≢◌, MatchResult}
use Rattle.meson_syntax.specs.Tree.{Expression, Nowhere}
use Rattle.meson_edit.specs.Edits.{Replace, Written}
use Rattle.meson_calls.specs.declared.call.CallRef.{CallRef}
use Rattle.meson_calls.specs.declared.refusal.Refusal.TheVariants.{OutOfMemory}
use Rattle.meson_calls.specs.Loading.{Loaded}
use Rattle.meson_steps.specs.Meanings.{AreMeant}
use Rattle.meson_steps.specs.Steps.{step_in}
use Rattle.meson_steps.specs.declared.given.Given.{Given}
use Rattle.meson_places.specs.Names.{loaded_in}
use Rattle.meson_places.specs.NewElements.{array_with, beside}
use Rattle.meson_places.specs.Room.{if_room}
use Rattle.meson_places.specs.Values.{given_bytes}
use Rattle.meson_places.proofs.lone_values.add_beside.Goals as goal

some_new : (l : Loaded) (list : CallRef) (n : ℕ) (old : Written (Expression Nowhere)) (ws : List (Written (Expression Nowhere))) (vs : List Given) → map (λ w. w.bytes) ws ≡ map given_bytes vs → (length vs ≡ 0 → ⊥)
    → beside l list n old ws ≡ if_room l list (array_with old ws).node (step_in list (Replace list.path.steps n (array_with old ws)) ∷ [])
some_new l list n old [] [] same some = absurd (some refl)
some_new l list n old [] (v ∷ vs) same some = absurd (let no : ⊥ = cc in no)
some_new l list n old (w ∷ ws) vs same some = refl

as_long : {X Y : Type 0} (f : X → Y) (xs : List X) → length (map f xs) ≡ 0 → length xs ≡ 0
as_long f [] none = refl
as_long f (x ∷ xs) none = absurd (omega (arith, none))

pub returns : goal.returns
returns c = record {
  made = λ old ws is same v.
      let l = loaded_in c.args.sources in
      let list = c.args.held.list.now in
      let n = c.args.held.number in
      let new = c.args.new.now in
      let whole = some_new l list n old ws (map (λ x. x.now) new) same (λ none. let empty = as_long (λ x. x.now) new none in let no : ⊥ = grind (arith, c.is_empty.ensures, c.if-is_empty.false, empty) in no) in
      subst (λ m. MatchResult c.become_array.result (λ steps. AreMeant m steps.items) (λ e. e ≢ OutOfMemory → m ≡ Err e)) (sym whole) (c.become_array.ensures.made old ws is same v);
}
