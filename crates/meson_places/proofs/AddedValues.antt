-- What adding values leaves: one list has them behind its elements, and all else stays.
use Rattle.std.proofs.Common.{◌≡◌, ℕ, zero, suc, ◌≤◌, true, false, List, [], ◌∷◌, ◌++◌, append_assoc, length, length-append, map, Some, Ok, Err, refl, sym, ap, ap₂, ◌∙◌, arith}
use Rattle.std.specs.Prelude.{Bool, ◌||◌, not, nat_lt, slice_set, option_and_then, option_map, if◌then◌else◌}
use Rattle.std.specs.List.{list_all, list_any}
use Rattle.std.proofs.lemmas.Bool.{and_from, ltb-true}
use Rattle.std.proofs.lemmas.List.{length-map, take_all}
use Rattle.meson_lex.specs.declared.kinds.Span.{Span}
use Rattle.meson_splice.specs.Files.{bytes_at}
use Rattle.meson_syntax.specs.Paths.{ListAt, list_at, nth}
use Rattle.meson_syntax.specs.Tree.{Argument, plain, Expression, Listing, listing, Nowhere, Plain, arguments_of, erase, erase_argument, erase_listing}
use Rattle.meson_edit.specs.Edits.{After, First, Replace, Written, edited, element_added, elements, is_empty, with_elements}
use Rattle.meson_calls.specs.declared.call.CallRef.{CallRef}
use Rattle.meson_calls.specs.declared.refusal.Refusal.TheVariants.{TooDeep}
use Rattle.meson_calls.specs.Loading.{Loaded, project}
use Rattle.meson_calls.proofs.ExpressionsAt.{list_here}
use Rattle.meson_steps.specs.ResultLimits.{plain_trees}
use Rattle.meson_steps.specs.Steps.{Step, all_stepped, step_in, stepped}
use Rattle.meson_steps.specs.declared.given.Given.{Given}
use Rattle.meson_steps.proofs.Insertable.{edited_there, elements_with, first_there, there_again}
use Rattle.meson_steps.proofs.PlainTrees.{erased_elements, plain_place, tree_is}
use Rattle.meson_steps.proofs.WithOne.{change_there, changed_there}
use Rattle.meson_places.specs.Changes.{behind_all}
use Rattle.meson_places.specs.Equality.{fresh, lists_say, same_given}
use Rattle.meson_places.specs.Laws.{AddsToOneList, HasAlso, NewAreUnknown}
use Rattle.meson_places.specs.NewElements.{add_to_last, add_to_list, fresh_written}
use Rattle.meson_places.specs.Several.{AllMayBeGiven, put_each}
use Rattle.meson_places.specs.ValueLists.{ValueList, lists_of}
use Rattle.meson_places.proofs.ListStands.{last_there, no_elements}
use Rattle.meson_places.proofs.SeveralDoable.{all_room}
use Rattle.meson_places.proofs.ValueListsThere as there

-- ---- one tree of some becomes another one, and again

abbrev nodes : List (Written (Expression Nowhere)) → List (Argument Nowhere)
nodes ws = map plain (map (λ w. w.node) ws)

pub set_twice : {X : Type 0} (xs : List X) (i : ℕ) (a b : X) → slice_set (slice_set xs i a) i b ≡ slice_set xs i b
set_twice [] i a b = refl
set_twice (x ∷ xs) zero a b = refl
set_twice (x ∷ xs) (suc i) a b = ap (λ l. x ∷ l) (set_twice xs i a b)

-- ---- one list gets elements, one after another

with_twice : (l : Listing Nowhere) (ys zs : List (Argument Nowhere)) (a : Argument Nowhere) → with_elements (with_elements l (ys ++ a ∷ [])) ((ys ++ a ∷ []) ++ zs) ≡ with_elements l ((ys ++ a ∷ []) ++ zs)
with_twice (listing s trailing list) ys zs a =
    ap (λ t. listing s (if is_empty ((ys ++ a ∷ []) ++ zs) then false else (if t then false else trailing)) (arguments_of ((ys ++ a ∷ []) ++ zs))) (some_there ys)
  where
    some_there : (xs : List (Argument Nowhere)) → is_empty (xs ++ a ∷ []) ≡ false
    some_there [] = refl
    some_there (x ∷ xs) = refl

module _ (c : CallRef) (many : ℕ) where
  abbrev path : List ℕ
  path = c.path.steps

  -- the edit of an element behind all others
  pub edit_behind : (t : Plain) (q : ListAt Nowhere) → list_at t path ≡ Some q → (new : Written (Argument Nowhere)) (i : ℕ) → length (elements q.list) ≡ i → (trees : List Plain) → nth trees c.file ≡ Some t
      → stepped (behind_all c i new) trees ≡ Some (slice_set trees c.file (q.back (with_elements q.list (elements q.list ++ new.node ∷ []))))
  edit_behind t q at_ new zero count trees is_tree =
      let xs = elements q.list in
      let nothing = no_elements xs count in
      let made = edited_there t path q at_ (First path new) (xs ++ new.node ∷ []) (first_there new.node xs nothing ∙ ap (λ ys. Some (ys ++ new.node ∷ [])) (sym nothing)) in
      change_there (edited (First path new)) trees c.file t _ is_tree made
  edit_behind t q at_ new (suc m) count trees is_tree =
      let xs = elements q.list in
      let last = last_there xs m count in
      let whole = ap₂ (λ front back. front ++ new.node ∷ back) (take_all (suc m) xs (omega (arith, count))) last.2 in
      let made = edited_there t path q at_ (After path m new) (xs ++ new.node ∷ []) (ap (option_map (element_added m new.node xs)) last.1 ∙ ap Some whole) in
      change_there (edited (After path m new)) trees c.file t _ is_tree made

  abbrev More : (t : Plain) (q : ListAt Nowhere) (ws : List (Written (Expression Nowhere))) (trees after : List Plain) → Type 0
  More t q [] trees after = after ≡ trees
  More t q (w ∷ ws) trees after = after ≡ slice_set trees c.file (q.back (with_elements q.list (elements q.list ++ nodes (w ∷ ws))))

  more : (ws : List (Written (Expression Nowhere))) (i : ℕ) → many ≤ i → (trees : List Plain) (t : Plain) → nth trees c.file ≡ Some t → (q : ListAt Nowhere) → list_at t path ≡ Some q → length (elements q.list) ≡ i
      → (after : List Plain) → all_stepped (put_each c many i ws) trees ≡ Some after → More t q ws trees after
  more [] i past trees t is_tree q at_ count after done = cc
  more (w ∷ ws) i past trees t is_tree q at_ count after done = go (nat_lt i many) refl done (λ ts u is_u r at_r n stepped_so. more ws (suc i) (omega (arith, past)) ts u is_u r at_r n after stepped_so)
    where
      new : Written (Argument Nowhere)
      new = record { bytes = w.bytes; node = plain w.node }

      ys : List (Argument Nowhere)
      ys = elements q.list

      now : Plain
      now = q.back (with_elements q.list (ys ++ plain w.node ∷ []))

      go : (x : Bool) → nat_lt i many ≡ x → all_stepped ((if x then step_in c (Replace path i w) else behind_all c i new) ∷ put_each c many (suc i) ws) trees ≡ Some after
          → ((ts : List Plain) (u : Plain) → nth ts c.file ≡ Some u → (r : ListAt Nowhere) → list_at u path ≡ Some r → length (elements r.list) ≡ suc i → all_stepped (put_each c many (suc i) ws) ts ≡ Some after → More u r ws ts after)
          → More t q (w ∷ ws) trees after
      go true h d rest = let within = ltb-true i many h in absurd (omega (arith, within, past))
      go false h d rest =
          let trees1 = slice_set trees c.file now in
          let one = edit_behind t q at_ new i count trees is_tree in
          let later : all_stepped (put_each c many (suc i) ws) trees1 ≡ Some after = sym (ap (option_and_then (all_stepped (put_each c many (suc i) ws))) one) ∙ d in
          let again = there_again t path q at_ (ys ++ plain w.node ∷ []) in
          let are = ap elements again.list ∙ elements_with q.list (ys ++ plain w.node ∷ []) in
          let longer : length (elements again.there.list) ≡ suc i = omega (arith, ap length are, length-append ys (plain w.node ∷ []), count) in
          all ws again.there again.list again.back are (rest trees1 now (changed_there trees c.file t now is_tree) again.there again.is_there longer later)
        where
          all : (us : List (Written (Expression Nowhere))) (r : ListAt Nowhere) → r.list ≡ with_elements q.list (ys ++ plain w.node ∷ []) → ((m : Listing Nowhere) → r.back m ≡ q.back m)
              → elements r.list ≡ ys ++ plain w.node ∷ [] → More now r us (slice_set trees c.file now) after → after ≡ slice_set trees c.file (q.back (with_elements q.list (ys ++ nodes (w ∷ us))))
          all [] r list back are m = m
          all (u ∷ us) r list back are m =
              let tail = nodes (u ∷ us) in
              let same : r.back (with_elements r.list (elements r.list ++ tail)) ≡ q.back (with_elements q.list (ys ++ nodes (w ∷ u ∷ us))) =
              back (with_elements r.list (elements r.list ++ tail)) ∙ ap q.back (ap₂ (λ l es. with_elements l (es ++ tail)) list are ∙ with_twice q.list ys tail (plain w.node) ∙ ap (with_elements q.list) (append_assoc ys (plain w.node ∷ []) tail)) in
              m ∙ set_twice trees c.file now (r.back (with_elements r.list (elements r.list ++ tail))) ∙ ap (slice_set trees c.file) same

  has_also : (trees : List Plain) (t : Plain) → nth trees c.file ≡ Some t → (q : ListAt Nowhere) → list_at t path ≡ Some q → length (elements q.list) ≡ many → (ws : List (Written (Expression Nowhere)))
      → (after : List Plain) → all_stepped (put_each c many many ws) trees ≡ Some after → HasAlso c (map (λ w. w.node) ws) trees after
  has_also trees t is_tree q at_ count [] after done = more [] many (omega arith) trees t is_tree q at_ count after done
  has_also trees t is_tree q at_ count (w ∷ ws) after done =
      let m = more (w ∷ ws) many (omega arith) trees t is_tree q at_ count after done in
      let now = q.back (with_elements q.list (elements q.list ++ nodes (w ∷ ws))) in
      record { tree = t; is_tree = is_tree; place = q; is_place = at_; is_after = change_there (λ u. Some now) trees c.file t now is_tree refl ∙ ap Some (sym m) }

-- ---- the law

module _ (l : Loaded) (gs : List Given) (may : AllMayBeGiven gs) where
  pub to_list_also : (known : Given → Bool) (list : ValueList Span) → there.ListThere (project l) list → (steps : List Step) → add_to_list l known gs may list ≡ Ok steps → (after : List Plain) → all_stepped steps (plain_trees l) ≡ Some after
      → HasAlso list.place (map (λ w. w.node) (fresh_written known [] gs may)) (plain_trees l) after
  to_list_also known list stands steps made after done = go (all_room (plain_trees l) list.place gs may) made
    where
      many : ℕ
      many = length list.elements

      all : List Step
      all = put_each list.place many many (fresh_written known [] gs may)

      go : (b : Bool) → (if b then Ok all else Err TooDeep) ≡ Ok steps → HasAlso list.place (map (λ w. w.node) (fresh_written known [] gs may)) (plain_trees l) after
      go false m = absurd (let no : ⊥ = cc in no)
      go true m =
          let same : all ≡ steps = cc in
          let h = list_here (project l) list.place stands.value stands.list stands.is_at stands.is_list in
          let t = h.there in
          let q = plain_place t.file.tree list.place.path.steps t.list t.is_list in
          let are = ap elements (q.list ∙ ap erase_listing h.same_list) ∙ erased_elements stands.list.list ∙ ap (map erase_argument) stands.are in
          let count : length (elements q.place.list) ≡ many = ap length are ∙ length-map list.elements erase_argument in
          has_also list.place many (plain_trees l) (erase t.file.tree) (tree_is l list.place t) q.place q.is_place count (fresh_written known [] gs may) after (ap (λ ss. all_stepped ss (plain_trees l)) same ∙ done)

pub adds_to_one_list : AddsToOneList
adds_to_one_list l gs may otherwise c e at_ list last steps made after done =
    let known = lists_say (bytes_at c.file l.files) (lists_of c e) in
    let stands = there.last_there (project l) (lists_of c e) (there.lists_there (project l) c e at_) list last in
    to_list_also l gs may known list stands steps (sym (ap (add_to_last l known gs may otherwise) last) ∙ made) after done

-- ---- what is new

new_unknown : (known : Given → Bool) (before gs : List Given) → list_all (λ g. not (known g)) (fresh known before gs) ≡ true
new_unknown known before [] = refl
new_unknown known before (g ∷ gs) = go (known g) refl (list_any (same_given g) before) (new_unknown known (before ++ g ∷ []) gs)
  where
    rest : List Given
    rest = fresh known (before ++ g ∷ []) gs

    go : (k : Bool) → known g ≡ k → (b : Bool) → list_all (λ h. not (known h)) rest ≡ true → list_all (λ h. not (known h)) (if k || b then rest else g ∷ rest) ≡ true
    go true is b all = all
    go false is true all = all
    go false is false all = and_from (not (known g)) _ (ap not is) all

pub new_are_unknown : NewAreUnknown
new_are_unknown = new_unknown
