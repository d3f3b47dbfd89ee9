use Rattle.std.proofs.Common.{◌≡◌, ℕ, zero, suc, ◌+◌, ◌<◌, List, [], ◌∷◌, ◌++◌, append_assoc, drop, get_or, length, map, refl, sym, ap, ◌∙◌, arith, add-one}
use Rattle.std.specs.Prelude.{Some}
use Rattle.std.proofs.lemmas.List.{get_or-map, length-map, map-append}
use Rattle.meson_syntax.specs.Tree.{Expression, Nowhere}
use Rattle.meson_edit.specs.Edits.{Written}
use Rattle.meson_calls.specs.declared.call.CallRef.{CallRef}
use Rattle.meson_steps.specs.declared.step.ListStep.{ListStep}
use Rattle.meson_steps.specs.ListSteps.{bare}
use Rattle.meson_steps.specs.declared.given.Given.{Given}
use Rattle.meson_places.specs.Several.{put_at, put_each}
use Rattle.meson_places.specs.Values.{given_bytes}
use Rattle.meson_places.proofs.new_elements.put_behind.Goals as goal

record At (ws : List (Written (Expression Nowhere))) (i : ℕ) (bytes : List ℕ) : Type 0 where
  w : Written (Expression Nowhere)
  is : w.bytes ≡ bytes
  rest : drop i ws ≡ w ∷ drop (suc i) ws

written_at : (ws : List (Written (Expression Nowhere))) (gs : List Given) → map (λ w. w.bytes) ws ≡ map given_bytes gs → (i : ℕ) (d : Given) → i < length gs → At ws i (given_bytes (get_or gs i d))
written_at ws [] same i d within = absurd (omega (arith, within))
written_at [] (g ∷ gs) same i d within = absurd (let no : ⊥ = cc in no)
written_at (w ∷ ws) (g ∷ gs) same zero d within = record { w = w; is = cc; rest = refl }
written_at (w ∷ ws) (g ∷ gs) same (suc i) d within = let tail : map (λ v. v.bytes) ws ≡ map given_bytes gs = cc in let a = written_at ws gs tail i d (omega (arith, within)) in record { w = a.w; is = a.is; rest = a.rest }

one_more : (old new : List ListStep) (s : ListStep) (list : CallRef) (many j : ℕ) (w : Written (Expression Nowhere)) (rest : List (Written (Expression Nowhere))) → new ≡ old ++ s ∷ [] → bare (put_at list many j w) ≡ Some s
    → map Some new ++ map bare (put_each list many (suc j) rest) ≡ map Some old ++ map bare (put_each list many j (w ∷ rest))
one_more old new s list many j w rest is is_bare =
    let behind = map bare (put_each list many (suc j) rest) in
    ap (λ l. map Some l ++ behind) is ∙ ap (λ l. l ++ behind) (map-append Some old (s ∷ [])) ∙ append_assoc (map Some old) (Some s ∷ []) behind ∙ ap (λ o. map Some old ++ o ∷ behind) (sym is_bare)

pub loop-i-preserved : goal.loop-i-preserved
loop-i-preserved c = λ ws same.
    let vs = map (λ x. x.now) c.args.values.now in
    let i = c.loop-i.i in
    let d = c.index-values-i.result in
    let list = c.args.list.now in
    let many = c.args.many in
    let test = c.loop-i-test.true in
    let one : i < length vs = omega (arith, test, length-map c.args.values.now (λ y. y.now)) in
    let value : get_or vs i d.now ≡ d.now = get_or-map (λ y. y.now) c.args.values.now i d d.now test ∙ ap (λ y. y.now) (sym c.index-values-i.is) in
    let a = written_at ws vs same i d.now one in
    let new = c.push_edit.new.steps.items in
    let next : many + (i + 1) ≡ suc (many + i) = omega arith in
    let bytes = a.is ∙ ap given_bytes value ∙ sym c.in_ok-new.ensures.done in
    ap (λ n. map Some new ++ map bare (put_each list many n (drop (i + 1) ws))) next
    ∙ ap (λ n. map Some new ++ map bare (put_each list many (suc (many + i)) (drop n ws))) (add-one i)
    ∙ one_more c.loop-i.steps.items new _ list many (many + i) a.w (drop (suc i) ws) c.in_ok-push_edit.ensures (c.put_at-edit.ensures list a.w bytes)
    ∙ ap (λ l. map Some c.loop-i.steps.items ++ map bare (put_each list many (many + i) l)) (sym a.rest)
    ∙ c.loop-i.invariant ws same
