-- What putting values after an element leaves: the list has them there, and all else stays.
use Rattle.std.proofs.Common.{◌≡◌, ℕ, zero, suc, ◌≤◌, ◌<◌, true, false, List, [], ◌∷◌, ◌++◌, append_assoc, drop, length, map, take, Option, Some, None, Ok, refl, sym, ap, ap₂, ◌∙◌, subst, arith}
use Rattle.std.specs.Prelude.{Bool, nat_lt, slice_set, option_and_then, option_map, if◌then◌else◌}
use Rattle.std.proofs.lemmas.Bool.{ltb-true}
use Rattle.std.proofs.lemmas.List.{length-map}
use Rattle.meson_lex.specs.declared.kinds.Span.{Span}
use Rattle.meson_splice.specs.Files.{bytes_at}
use Rattle.meson_syntax.specs.Paths.{ListAt, list_at, nth}
use Rattle.meson_syntax.specs.Tree.{Argument, plain, Expression, Listing, listing, Nowhere, Plain, arguments_of, erase, erase_argument, erase_listing}
use Rattle.meson_edit.specs.Edits.{After, Replace, Written, edited, element_added, elements, is_empty, with_elements}
use Rattle.meson_calls.specs.declared.call.CallRef.{CallRef}
use Rattle.meson_calls.specs.Loading.{Loaded, project}
use Rattle.meson_calls.specs.Project.{Placed, expression_at}
use Rattle.meson_calls.proofs.ExpressionsAt.{list_here}
use Rattle.meson_steps.specs.ResultLimits.{plain_trees}
use Rattle.meson_steps.specs.Steps.{Step, all_stepped, step_in, stepped}
use Rattle.meson_steps.specs.declared.given.Given.{Given}
use Rattle.meson_steps.proofs.Insertable.{edited_there, elements_with, there_again}
use Rattle.meson_steps.proofs.PlainTrees.{erased_elements, plain_place, tree_is}
use Rattle.meson_steps.proofs.WithOne.{change_there, changed_there}
use Rattle.meson_places.specs.declared.slots.Slot.{Slot}
use Rattle.meson_places.specs.Behind.{placed_value}
use Rattle.meson_places.specs.Changes.{behind_all}
use Rattle.meson_places.specs.Effects.{ValuesPutBehind}
use Rattle.meson_places.specs.Equality.{lists_say}
use Rattle.meson_places.specs.Insertions.{find_mark, insert_into, insert_steps}
use Rattle.meson_places.specs.Laws.{AlsoBetween, PutBehind, PutsBehindFirst}
use Rattle.meson_places.specs.NewElements.{fresh_written}
use Rattle.meson_places.specs.Several.{AllMayBeGiven, put_each}
use Rattle.meson_places.specs.ValueLists.{lists_of}
use Rattle.meson_places.proofs.AddedValues.{set_twice}
use Rattle.meson_places.proofs.BetweenDoable.{Inserted, by_mark, nth_is_within, one_longer, placed_there, there_among}
use Rattle.meson_places.proofs.Marks.{first_found}
use Rattle.meson_places.proofs.SlotsDoable.{nth_within}
use Rattle.meson_places.proofs.ValueListsThere.{AllThere, ListThere, lists_there}

abbrev nodes : List (Written (Expression Nowhere)) → List (Argument Nowhere)
nodes ws = map plain (map (λ w. w.node) ws)

-- ---- lists

pub with_again : (l : Listing Nowhere) (xs zs : List (Argument Nowhere)) → is_empty xs ≡ false → with_elements (with_elements l xs) zs ≡ with_elements l zs
with_again (listing s trailing list) xs zs some =
    ap (λ t. listing s (if is_empty zs then false else (if t then false else trailing)) (arguments_of zs)) some

pub some_there : (xs ys : List (Argument Nowhere)) (a : Argument Nowhere) → is_empty (xs ++ a ∷ ys) ≡ false
some_there [] ys a = refl
some_there (x ∷ xs) ys a = refl

take_between : {X : Type 0} (k : ℕ) (ys : List X) (a : X) → k ≤ length ys → take (suc k) (take k ys ++ a ∷ drop k ys) ≡ take k ys ++ a ∷ []
take_between zero ys a within = refl
take_between (suc k) [] a within = absurd (omega (arith, within))
take_between (suc k) (y ∷ ys) a within = ap (λ l. y ∷ l) (take_between k ys a (omega (arith, within)))

drop_between : {X : Type 0} (k : ℕ) (ys : List X) (a : X) → k ≤ length ys → drop (suc k) (take k ys ++ a ∷ drop k ys) ≡ drop k ys
drop_between zero ys a within = refl
drop_between (suc k) [] a within = absurd (omega (arith, within))
drop_between (suc k) (y ∷ ys) a within = drop_between k ys a (omega (arith, within))

-- ---- one list gets elements, one after another

module _ (c : CallRef) (many : ℕ) where
  abbrev path : List ℕ
  path = c.path.steps

  abbrev with_new : List (Argument Nowhere) → ℕ → List (Argument Nowhere) → List (Argument Nowhere)
  with_new ys k new = take k ys ++ (new ++ drop k ys)

  -- the edit of an element after another one
  edit_between : (t : Plain) (q : ListAt Nowhere) → list_at t path ≡ Some q → (new : Written (Argument Nowhere)) (m : ℕ) → m < length (elements q.list) → (trees : List Plain) → nth trees c.file ≡ Some t
      → stepped (step_in c (After path m new)) trees ≡ Some (slice_set trees c.file (q.back (with_elements q.list (with_new (elements q.list) (suc m) (new.node ∷ [])))))
  edit_between t q at_ new m within trees is_tree =
      let ys = elements q.list in
      let it = nth_within ys m within in
      let made = edited_there t path q at_ (After path m new) (with_new ys (suc m) (new.node ∷ [])) (ap (option_map (element_added m new.node ys)) it.1) in
      change_there (edited (After path m new)) trees c.file t _ is_tree made

  abbrev More : (t : Plain) (q : ListAt Nowhere) (k : ℕ) (ws : List (Written (Expression Nowhere))) (trees after : List Plain) → Type 0
  More t q k [] trees after = after ≡ trees
  More t q k (w ∷ ws) trees after = after ≡ slice_set trees c.file (q.back (with_elements q.list (with_new (elements q.list) k (nodes (w ∷ ws)))))

  more : (ws : List (Written (Expression Nowhere))) (m : ℕ) → many ≤ suc m → (trees : List Plain) (t : Plain) → nth trees c.file ≡ Some t → (q : ListAt Nowhere) → list_at t path ≡ Some q → m < length (elements q.list)
      → (after : List Plain) → all_stepped (put_each c many (suc m) ws) trees ≡ Some after → More t q (suc m) ws trees after
  more [] m past trees t is_tree q at_ within after done = cc
  more (w ∷ ws) m past trees t is_tree q at_ within after done = go (nat_lt (suc m) many) refl done (λ ts u is_u r at_r n stepped_so. more ws (suc m) (omega (arith, past)) ts u is_u r at_r n after stepped_so)
    where
      new : Written (Argument Nowhere)
      new = record { bytes = w.bytes; node = plain w.node }

      ys : List (Argument Nowhere)
      ys = elements q.list

      zs : List (Argument Nowhere)
      zs = with_new ys (suc m) (plain w.node ∷ [])

      now : Plain
      now = q.back (with_elements q.list zs)

      go : (x : Bool) → nat_lt (suc m) many ≡ x → all_stepped ((if x then step_in c (Replace path (suc m) w) else behind_all c (suc m) new) ∷ put_each c many (suc (suc m)) ws) trees ≡ Some after
          → ((ts : List Plain) (u : Plain) → nth ts c.file ≡ Some u → (r : ListAt Nowhere) → list_at u path ≡ Some r → suc m < length (elements r.list) → all_stepped (put_each c many (suc (suc m)) ws) ts ≡ Some after → More u r (suc (suc m)) ws ts after)
          → More t q (suc m) (w ∷ ws) trees after
      go true h d rest = let below = ltb-true (suc m) many h in absurd (omega (arith, below, past))
      go false h d rest =
          let trees1 = slice_set trees c.file now in
          let one = edit_between t q at_ new m within trees is_tree in
          let later : all_stepped (put_each c many (suc (suc m)) ws) trees1 ≡ Some after = sym (ap (option_and_then (all_stepped (put_each c many (suc (suc m)) ws))) one) ∙ d in
          let again = there_again t path q at_ zs in
          let are = ap elements again.list ∙ elements_with q.list zs in
          let longer : suc m < length (elements again.there.list) = omega (arith, ap length are, one_longer (suc m) ys (plain w.node), within) in
          all ws again.there again.list again.back are (rest trees1 now (changed_there trees c.file t now is_tree) again.there again.is_there longer later)
        where
          all : (us : List (Written (Expression Nowhere))) (r : ListAt Nowhere) → r.list ≡ with_elements q.list zs → ((l : Listing Nowhere) → r.back l ≡ q.back l)
              → elements r.list ≡ zs → More now r (suc (suc m)) us (slice_set trees c.file now) after → after ≡ slice_set trees c.file (q.back (with_elements q.list (with_new ys (suc m) (nodes (w ∷ us)))))
          all [] r list back are d2 = d2
          all (u ∷ us) r list back are d2 =
              let tail = nodes (u ∷ us) in
              let front = take (suc m) ys in
              let end = drop (suc m) ys in
              let whole : with_new zs (suc (suc m)) tail ≡ with_new ys (suc m) (nodes (w ∷ u ∷ us)) =
              ap₂ (λ a b. a ++ (tail ++ b)) (take_between (suc m) ys (plain w.node) (omega (arith, within))) (drop_between (suc m) ys (plain w.node) (omega (arith, within)))
              ∙ append_assoc front (plain w.node ∷ []) (tail ++ end) in
              let same : r.back (with_elements r.list (with_new (elements r.list) (suc (suc m)) tail)) ≡ q.back (with_elements q.list (with_new ys (suc m) (nodes (w ∷ u ∷ us)))) =
              back (with_elements r.list (with_new (elements r.list) (suc (suc m)) tail))
              ∙ ap q.back (ap₂ (λ l es. with_elements l (with_new es (suc (suc m)) tail)) list are ∙ with_again q.list zs (with_new zs (suc (suc m)) tail) (some_there front end (plain w.node)) ∙ ap (with_elements q.list) whole) in
              d2 ∙ set_twice trees c.file now (r.back (with_elements r.list (with_new (elements r.list) (suc (suc m)) tail))) ∙ ap (slice_set trees c.file) same

  pub also_between : (trees : List Plain) (t : Plain) → nth trees c.file ≡ Some t → (q : ListAt Nowhere) → list_at t path ≡ Some q → (m : ℕ) → many ≤ suc m → m < length (elements q.list) → (ws : List (Written (Expression Nowhere)))
      → (after : List Plain) → all_stepped (put_each c many (suc m) ws) trees ≡ Some after → AlsoBetween c (suc m) (map (λ w. w.node) ws) trees after
  also_between trees t is_tree q at_ m past within [] after done = more [] m past trees t is_tree q at_ within after done
  also_between trees t is_tree q at_ m past within (w ∷ ws) after done =
      let d = more (w ∷ ws) m past trees t is_tree q at_ within after done in
      let now = q.back (with_elements q.list (with_new (elements q.list) (suc m) (nodes (w ∷ ws)))) in
      record { tree = t; is_tree = is_tree; place = q; is_place = at_; is_after = change_there (λ u. Some now) trees c.file t now is_tree refl ∙ ap Some (sym d) }

-- ---- the law

module _ (l : Loaded) (it : Given) (gs : List Given) (may : AllMayBeGiven gs) where
  put_there : (c : CallRef) (e : Expression Span) → expression_at (project l) c ≡ Some e → (steps : List Step)
      → Inserted l (lists_say (bytes_at c.file l.files) (lists_of c e)) gs may (find_mark (bytes_at c.file l.files) it (lists_of c e)) steps
      → (after : List Plain) → all_stepped steps (plain_trees l) ≡ Some after → PutBehind l it gs may c e (plain_trees l) after
  put_there c e at_ steps k after done =
      let source = bytes_at c.file l.files in
      let ls = lists_of c e in
      let m = k.mark in
      let f = first_found source it ls m k.is_mark in
      let there = subst (λ (d : CallRef). ListThere (project l) (record { place = d; elements = f.list.elements })) f.is_place
      (there_among l f.front f.list f.back (subst (AllThere (project l)) f.are (lists_there (project l) c e at_))) in
      let h = list_here (project l) m.list there.value there.list there.is_at there.is_list in
      let t = h.there in
      let q = plain_place t.file.tree m.list.path.steps t.list t.is_list in
      let are = ap elements (q.list ∙ ap erase_listing h.same_list) ∙ erased_elements there.list.list ∙ ap (map erase_argument) there.are in
      let count : length (elements q.place.list) ≡ length f.list.elements = ap length are ∙ length-map f.list.elements erase_argument in
      let within : m.number < length (elements q.place.list) = omega (arith, count, nth_is_within f.list.elements m.number f.element f.is_element) in
      record {
        mark = m;
        is_first = f;
        now = also_between m.list (suc m.number) (plain_trees l) (erase t.file.tree) (tree_is l m.list t) q.place q.is_place m.number (omega arith) within
            (fresh_written (lists_say source ls) [] gs may) after (ap (λ ss. all_stepped ss (plain_trees l)) k.are ∙ done);
      }

pub puts_behind_first : PutsBehindFirst
puts_behind_first l it gs may key c e at_ steps made after done =
    put_there l it gs may c e at_ steps (by_mark l key (bytes_at c.file l.files) it gs may e (lists_of c e) steps made) after done

pub values_put_behind : (l : Loaded) (it : Given) (gs : List Given) (may : AllMayBeGiven gs) (key : List ℕ) (s : Slot) (steps : List Step) (after : List Plain) → insert_steps l it gs may key s ≡ Ok steps
    → all_stepped steps (plain_trees l) ≡ Some after → ValuesPutBehind l it gs s (plain_trees l) after
values_put_behind l it gs may key s steps after made done = go (placed_value (project l) s) refl made
  where
    go : (o : Option (Placed (Expression Span))) → placed_value (project l) s ≡ o → insert_into l key it gs may o ≡ Ok steps → ValuesPutBehind l it gs s (plain_trees l) after
    go None is m = absurd (let no : ⊥ = cc in no)
    go (Some v) is m = record {
      may = may;
      value = v;
      is_value = is;
      put = puts_behind_first l it gs may key v.place v.it (placed_there l s v is) steps m after done;
    }
