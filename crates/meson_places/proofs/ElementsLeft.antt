-- What values leave of an array whose elements they replace, and a text of an array of texts.
use Rattle.std.proofs.Common.{◌≡◌, ℕ, zero, suc, ◌-◌, ◌≤◌, true, false, List, [], ◌∷◌, length, map, Some, Ok, Err, refl, sym, ap, ◌∙◌, arith}
use Rattle.std.specs.Prelude.{Bool, ◌&&◌, nat_lt, not, if◌then◌else◌}
use Rattle.std.specs.List.{list_all}
use Rattle.std.proofs.lemmas.Bool.{and_parts, lt-ltb}
use Rattle.std.proofs.lemmas.List.{length-map}
use Rattle.meson_lex.specs.declared.kinds.Span.{Span}
use Rattle.meson_syntax.specs.Tree.{plain, Expression, Nowhere, Plain, erase, erase_argument, erase_listing}
use Rattle.meson_edit.specs.Edits.{Replace, Written, elements}
use Rattle.meson_calls.specs.declared.call.CallRef.{CallRef}
use Rattle.meson_calls.specs.declared.refusal.Refusal.TheVariants.{OtherKind, TooDeep}
use Rattle.meson_calls.specs.Loading.{Loaded, project}
use Rattle.meson_calls.specs.Project.{child, expression_at}
use Rattle.meson_calls.proofs.ExpressionsAt.{list_here}
use Rattle.meson_steps.specs.ResultLimits.{plain_trees}
use Rattle.meson_steps.specs.Steps.{Step, all_stepped, step_in}
use Rattle.meson_steps.specs.declared.given.Given.{Given}
use Rattle.meson_steps.specs.declared.given.Given.TheVariants as given
use Rattle.meson_steps.proofs.PlainTrees.{erased_elements, plain_place, tree_is}
use Rattle.meson_places.specs.ArrayEffects.{HasValues}
use Rattle.meson_places.specs.Changes.{alone_in_array, behind_all, element_child, replaces_texts, rest_removed, set_there}
use Rattle.meson_places.specs.Room.{has_room, list_in_trees}
use Rattle.meson_places.specs.Several.{AllMayBeGiven, all_written, is_text_given, put_all, set_elements}
use Rattle.meson_places.specs.Slots.{Child, elements_in}
use Rattle.meson_places.specs.Values.{are_texts, is_array, is_text, keeps_kind}
use Rattle.meson_places.proofs.ArrayLeft.{has_values}
use Rattle.meson_places.proofs.ListsThere.{element_there}
use Rattle.meson_places.proofs.SlotsDoable.{array_list}

module _ (l : Loaded) (inner : CallRef) (e : Expression Span) (at_ : expression_at (project l) inner ≡ Some e) (array_there : is_array e ≡ true) (after : List Plain) where
  abbrev many : ℕ
  many = length (elements_in e)

  values_put : (w : Written (Expression Nowhere)) (ws : List (Written (Expression Nowhere))) → all_stepped (put_all inner many (w ∷ ws)) (plain_trees l) ≡ Some after
      → HasValues inner (map (λ v. v.node) (w ∷ ws)) (plain_trees l) after
  values_put w ws done =
      let a = array_list e array_there in
      let h = list_here (project l) inner e _ at_ a.1 in
      let t = h.there in
      let q = plain_place t.file.tree inner.path.steps t.list t.is_list in
      let are = ap elements (q.list ∙ ap erase_listing h.same_list) ∙ erased_elements a.0 in
      let count : length (elements q.place.list) ≡ many = ap length are ∙ length-map (elements a.0) erase_argument ∙ ap length a.2 in
      has_values (plain_trees l) inner (erase t.file.tree) (tree_is l inner t) q.place q.is_place w ws many count after done

  -- several values
  pub elements_set : (gs : List Given) (may : AllMayBeGiven gs) (key : List ℕ) (steps : List Step) → set_elements l gs may key inner e ≡ Ok steps → all_stepped steps (plain_trees l) ≡ Some after → 1 ≤ length gs
      → HasValues inner (map (λ w. w.node) (all_written gs may)) (plain_trees l) after
  elements_set [] may key steps made done some = absurd (omega (arith, some))
  elements_set (g ∷ gs) may key steps made done some =
      go (list_all is_text_given (g ∷ gs) && not (are_texts e)) (list_all (λ w. has_room w.node (list_in_trees (plain_trees l) inner)) (all_written (g ∷ gs) may)) made
    where
      all : List Step
      all = put_all inner many (all_written (g ∷ gs) may)

      go : (a b : Bool) → (if a then Err (OtherKind key) else (if b then Ok all else Err TooDeep)) ≡ Ok steps → HasValues inner (map (λ w. w.node) (all_written (g ∷ gs) may)) (plain_trees l) after
      go true b m = absurd (let no : ⊥ = cc in no)
      go false true m = let same : all ≡ steps = cc in values_put _ (all_written gs may.1) (ap (λ ss. all_stepped ss (plain_trees l)) same ∙ done)
      go false false m = absurd (let no : ⊥ = cc in no)

  -- one alone
  pub alone_set : (w : Written (Expression Nowhere)) → all_stepped (alone_in_array inner many w) (plain_trees l) ≡ Some after → HasValues inner (w.node ∷ []) (plain_trees l) after
  alone_set w done = values_put w [] (ap (λ ss. all_stepped ss (plain_trees l)) (sym (alone many)) ∙ done)
    where
      alone : (m : ℕ) → alone_in_array inner m w ≡ put_all inner m (w ∷ [])
      alone zero = refl
      alone (suc m) =
          let one : suc m - 1 ≡ m = omega arith in
          let there : nat_lt 0 (suc m) ≡ true = lt-ltb 0 (suc m) (omega arith) in
          let replaced = step_in inner (Replace inner.path.steps 0 w) in
          ap (λ k. replaced ∷ rest_removed inner 1 k) (sym one)
          ∙ ap (λ b. (if b then replaced else behind_all inner 0 (record { bytes = w.bytes; node = plain w.node })) ∷ rest_removed inner 1 (suc m - 1)) (sym there)

pub texts_in : (g : Given) (e : Expression Span) → replaces_texts g e ≡ true → is_array e ≡ true
texts_in (given.Text text) e h = (and_parts (is_array e) (list_all is_text (elements_in e)) h).0
texts_in (given.Switch b) e h = absurd (let no : ⊥ = cc in no)
texts_in (given.Code code) e h = absurd (let no : ⊥ = cc in no)

-- a text in the place of an array of texts
pub text_alone : (l : Loaded) (g : Given) (w : Written (Expression Nowhere)) (key : List ℕ) (list : CallRef) (n : ℕ) (steps : List Step) (after : List Plain) → all_stepped steps (plain_trees l) ≡ Some after → (v : Child Span)
    → element_child (project l) list n ≡ Some v → set_there g w key list n (Some v) ≡ Ok steps → keeps_kind g v.value ≡ false → replaces_texts g v.value ≡ true → HasValues (child list v.number) (w.node ∷ []) (plain_trees l) after
text_alone l g w key list n steps after done v is made other texts =
    let inner = child list v.number in
    let all = alone_in_array inner (length (elements_in v.value)) w in
    let meant : set_there g w key list n (Some v) ≡ Ok all = ap (λ b. if b then Ok (step_in list (Replace list.path.steps n w) ∷ []) else (if replaces_texts g v.value then Ok all else Err (OtherKind key))) other
    ∙ ap (λ b. if b then Ok all else Err (OtherKind key)) texts in
    let same : all ≡ steps = let e = sym meant ∙ made in cc in
    alone_set l inner v.value (element_there (project l) list n v is).at_child (texts_in g v.value texts) after w (ap (λ ss. all_stepped ss (plain_trees l)) same ∙ done)
