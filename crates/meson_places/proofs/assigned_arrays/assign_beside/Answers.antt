use Rattle.std.proofs.Common.{◌≡◌, ℕ, List, [], ◌∷◌, ◌++◌, length, map, Err, refl, sym, ap₂, ◌∙◌, subst, arith}
use Rattle.std.specs.Prelude.{◌≢◌, MatchResult}
use Rattle.meson_syntax.specs.Tree.{Expression, Nowhere}
use Rattle.meson_edit.specs.Edits.{Written}
use Rattle.meson_calls.specs.declared.call.CallRef.{CallRef}
use Rattle.meson_calls.specs.declared.refusal.Refusal.TheVariants.{OutOfMemory}
use Rattle.meson_steps.specs.Meanings.{AreMeant}
use Rattle.meson_steps.specs.WrittenTexts.{comma_between}
use Rattle.meson_steps.specs.declared.given.Given.{Given}
use Rattle.meson_places.specs.AssignedArrays.{array_assigned, array_beside}
use Rattle.meson_places.specs.NewElements.{array_with}
use Rattle.meson_places.specs.Values.{given_bytes}
use Rattle.meson_places.proofs.assigned_arrays.assign_beside.Goals as goal

some_new : (key : List ℕ) (at_ : CallRef) (old : Written (Expression Nowhere)) (ws : List (Written (Expression Nowhere))) (vs : List Given) → map (λ w. w.bytes) ws ≡ map given_bytes vs → (length vs ≡ 0 → ⊥)
    → array_beside key at_ old ws ≡ array_assigned key at_ (array_with old ws)
some_new key at_ old [] [] same some = absurd (some refl)
some_new key at_ old [] (v ∷ vs) same some = absurd (let no : ⊥ = cc in no)
some_new key at_ old (w ∷ ws) vs same some = refl

as_long : {X Y : Type 0} (f : X → Y) (xs : List X) → length (map f xs) ≡ 0 → length xs ≡ 0
as_long f [] none = refl
as_long f (x ∷ xs) none = absurd (omega (arith, none))

pub returns : goal.returns
returns c = record {
  made = λ old ws is same v.
      let key = c.args.key.now in
      let at_ = c.args.lone.place.now in
      let new = c.args.new.now in
      let whole = some_new key at_ old ws (map (λ x. x.now) new) same (λ none. let empty = as_long (λ x. x.now) new none in let no : ⊥ = grind (arith, c.is_empty.ensures, c.if-is_empty.false, empty) in no) in
      let bytes = sym (ap₂ (λ t bs. 91 ∷ (comma_between (t ∷ bs) ++ 93 ∷ [])) is same) in
      subst (λ m. MatchResult c.assign_array.result (λ steps. AreMeant m steps.items) (λ e. e ≢ OutOfMemory → m ≡ Err e)) (sym whole)
      (c.assign_array.ensures.made (array_with old ws) (sym (c.in_ok-array.ensures.done ∙ bytes)) v.value v.is_node);
}
