-- What values leave of the list in whose elements' places they are put: its elements have these values.
use Rattle.std.proofs.Common.{◌≡◌, ℕ, zero, suc, ◌+◌, ◌-◌, ◌<◌, ◌≤◌, true, false, List, [], ◌∷◌, ◌++◌, append_assoc, drop, length, length-append, map, take, Option, Some, refl, sym, ap, ap₂, ◌∙◌, arith}
use Rattle.std.specs.Prelude.{Bool, max, nat_lt, option_and_then, option_map, slice_set, if◌then◌else◌}
use Rattle.std.proofs.lemmas.Bool.{ltb-false, ltb-true}
use Rattle.std.proofs.lemmas.List.{append-nil, length-map, length-take-le, map-append, take-append-drop, take-append-le, take-map, take_all}
use Rattle.meson_syntax.specs.Paths.{ListAt, list_at, nth, value_of}
use Rattle.meson_syntax.specs.Tree.{Argument, plain, named, pair, Expression, Listing, listing, Nowhere, Plain}
use Rattle.meson_syntax.proofs.parsing.Steps.{some-injective}
use Rattle.meson_edit.specs.Edits.{After, Edit, First, Remove, Replace, Written, edited, edited_elements, edited_list, element_added, element_removed, elements, exchanged, with_elements, with_value}
use Rattle.meson_calls.specs.declared.call.CallRef.{CallRef}
use Rattle.meson_steps.specs.Steps.{Step, all_stepped, step_in, stepped}
use Rattle.meson_steps.proofs.Insertable.{edited_there, elements_with, first_there, there_again}
use Rattle.meson_steps.proofs.WithOne.{change_there, changed_there}
use Rattle.meson_places.specs.ArrayEffects.{HasValues}
use Rattle.meson_places.specs.Changes.{behind_all, rest_removed}
use Rattle.meson_places.specs.Several.{put_all, put_at, put_each}
use Rattle.meson_places.proofs.AddedValues.{set_twice}
use Rattle.meson_places.proofs.ListStands.{last_there, no_elements}
use Rattle.meson_places.proofs.SlotsDoable.{as_many, nth_within, one_fewer, some_value}

abbrev Node : Type 0
Node = Expression Nowhere

abbrev vals : List (Argument Nowhere) → List (Option Node)
vals ys = map value_of ys

value_set : (v : Node) (a : Argument Nowhere) → value_of (with_value v a) ≡ Some v
value_set v (plain e) = refl
value_set v (named s x e) = refl
value_set v (pair s k e) = refl

drop_map : {X Y : Type 0} (f : X → Y) (n : ℕ) (xs : List X) → map f (drop n xs) ≡ drop n (map f xs)
drop_map f zero xs = refl
drop_map f (suc n) [] = refl
drop_map f (suc n) (x ∷ xs) = drop_map f n xs

seam : {X : Type 0} (xs : List X) (y : X) (r : List X) (i : ℕ) → length xs ≡ i → take (suc i) (xs ++ y ∷ r) ≡ xs ++ y ∷ []
seam [] y r zero is = refl
seam [] y r (suc i) is = absurd (omega (arith, is))
seam (x ∷ xs) y r zero is = absurd (omega (arith, is))
seam (x ∷ xs) y r (suc i) is = let fewer : length xs ≡ i = omega (arith, is) in ap (λ l. x ∷ l) (seam xs y r i fewer)

with_again : (l : Listing Nowhere) (ys zs : List (Argument Nowhere)) → 1 ≤ length ys → with_elements (with_elements l ys) zs ≡ with_elements l zs
with_again (listing s trailing list) [] zs some = absurd (omega (arith, some))
with_again (listing s trailing list) (y ∷ ys) zs some = refl

-- an edit of the list at a path
abbrev Edits : Edit → List ℕ → Type 0
Edits e path = (f : Plain) → edited e f ≡ edited_list e path f

-- an element behind all others
record Behind (c : CallRef) (i : ℕ) (new : Written (Argument Nowhere)) (ys : List (Argument Nowhere)) : Type 0 where
  edit : Edit
  is : behind_all c i new ≡ step_in c edit
  edits : Edits edit c.path.steps
  made : edited_elements edit ys ≡ Some (ys ++ new.node ∷ [])

behind : (c : CallRef) (i : ℕ) (new : Written (Argument Nowhere)) (ys : List (Argument Nowhere)) → length ys ≡ i → Behind c i new ys
behind c zero new ys count =
    let nothing = no_elements ys count in
    record { edit = First c.path.steps new; is = refl; edits = λ f. refl; made = first_there new.node ys nothing ∙ ap (λ zs. Some (zs ++ new.node ∷ [])) (sym nothing) }
behind c (suc m) new ys count =
    let last = last_there ys m count in
    let whole = ap₂ (λ front back. front ++ new.node ∷ back) (take_all (suc m) ys (omega (arith, count))) last.2 in
    record { edit = After c.path.steps m new; is = refl; edits = λ f. refl; made = ap (option_map (element_added m new.node ys)) last.1 ∙ ap Some whole }

-- a value in the place of the i-th element, or behind all
record Put (c : CallRef) (many i : ℕ) (w : Written Node) (ys : List (Argument Nowhere)) : Type 0 where
  edit : Edit
  is : put_at c many i w ≡ step_in c edit
  edits : Edits edit c.path.steps
  zs : List (Argument Nowhere)
  made : edited_elements edit ys ≡ Some zs
  are : take (suc i) (vals zs) ≡ take i (vals ys) ++ Some w.node ∷ []
  long : length zs ≡ max many (suc i)

put : (c : CallRef) (many i : ℕ) (w : Written Node) (ys : List (Argument Nowhere)) → length ys ≡ max many i → Put c many i w ys
put c many i w ys count = go (nat_lt i many) refl
  where
    new : Written (Argument Nowhere)
    new = record { bytes = w.bytes; node = plain w.node }

    small : i ≤ length (vals ys)
    small = omega (arith, count, length-map ys value_of)

    go : (b : Bool) → nat_lt i many ≡ b → Put c many i w ys
    go true h =
        let within : i < length ys = omega (arith, count, ltb-true i many h) in
        let it = nth_within ys i within in
        let v = some_value it.0 in
        let rest = drop (suc i) ys in
        let all = take i ys ++ with_value w.node it.0 ∷ rest in
        let whole : vals all ≡ take i (vals ys) ++ Some w.node ∷ vals rest =
        map-append value_of (take i ys) (with_value w.node it.0 ∷ rest) ∙ ap₂ (λ a b. a ++ b ∷ vals rest) (sym (take-map value_of i ys)) (value_set w.node it.0) in
        record {
          edit = Replace c.path.steps i w;
          is = ap (λ b. if b then step_in c (Replace c.path.steps i w) else behind_all c i new) h;
          edits = λ f. refl;
          zs = all;
          made = ap (option_and_then (exchanged i (λ v. w.node) ys)) it.1 ∙ ap (option_map (λ (x : Node). all)) v.1;
          are = ap (take (suc i)) whole ∙ seam (take i (vals ys)) (Some w.node) (vals rest) i (length-take-le i (vals ys) small);
          long = omega (arith, as_many ys i (with_value w.node it.0) within, count, ltb-true i many h);
        }
    go false h =
        let past = ltb-false i many h in
        let here : length ys ≡ i = omega (arith, count, past) in
        let b = behind c i new ys here in
        let front : take i (vals ys) ≡ vals ys = take_all i (vals ys) (omega (arith, here, length-map ys value_of)) in
        let whole : vals (ys ++ plain w.node ∷ []) ≡ take i (vals ys) ++ Some w.node ∷ [] = map-append value_of ys (plain w.node ∷ []) ∙ ap (λ a. a ++ Some w.node ∷ []) (sym front) in
        record {
          edit = b.edit;
          is = ap (λ x. if x then step_in c (Replace c.path.steps i w) else behind_all c i new) h ∙ b.is;
          edits = b.edits;
          zs = ys ++ plain w.node ∷ [];
          made = b.made;
          are = ap (take (suc i)) whole ∙ seam (take i (vals ys)) (Some w.node) [] i (length-take-le i (vals ys) small);
          long = omega (arith, length-append ys (plain w.node ∷ []), here, past);
        }

module _ (trees : List Plain) (c : CallRef) (t : Plain) (is_tree : nth trees c.file ≡ Some t) (q : ListAt Nowhere) (is_place : list_at t c.path.steps ≡ Some q) where
  abbrev path : List ℕ
  path = c.path.steps

  -- the tree with these elements in the list
  abbrev grown : List (Argument Nowhere) → Plain
  grown ys = q.back (with_elements q.list ys)

  abbrev At : List Plain → List (Argument Nowhere) → Type 0
  At ts ys = ts ≡ slice_set trees c.file (grown ys)

  first_step : (e : Edit) → Edits e path → (zs : List (Argument Nowhere)) → edited_elements e (elements q.list) ≡ Some zs → stepped (step_in c e) trees ≡ Some (slice_set trees c.file (grown zs))
  first_step e edits zs made = change_there (edited e) trees c.file t (grown zs) is_tree (edits t ∙ edited_there t path q is_place e zs made)

  later_step : (e : Edit) → Edits e path → (ys zs : List (Argument Nowhere)) → 1 ≤ length ys → edited_elements e ys ≡ Some zs → (ts : List Plain) → At ts ys
      → stepped (step_in c e) ts ≡ Some (slice_set trees c.file (grown zs))
  later_step e edits ys zs some made ts at_ =
      let now = grown ys in
      let again = there_again t path q is_place ys in
      let are = ap elements again.list ∙ elements_with q.list ys in
      let next = again.there.back (with_elements again.there.list zs) in
      let step = change_there (edited e) (slice_set trees c.file now) c.file now next (changed_there trees c.file t now is_tree)
      (edits now ∙ edited_there now path again.there again.is_there e zs (ap (edited_elements e) are ∙ made)) in
      let same : next ≡ grown zs = again.back (with_elements again.there.list zs) ∙ ap q.back (ap (λ l. with_elements l zs) again.list ∙ with_again q.list ys zs some) in
      ap (stepped (step_in c e)) at_ ∙ step ∙ ap Some (set_twice trees c.file now next ∙ ap (slice_set trees c.file) same)

  shorter : (from m : ℕ) (ys rest : List (Argument Nowhere)) → from + m ≤ length ys → take from (take (from + m) ys ++ rest) ≡ take from ys
  shorter from m ys rest within =
      let n = length-take-le (from + m) ys within in
      let fits : from ≤ length (take (from + m) ys) = omega (arith, n) in
      take-append-le from (take (from + m) ys) rest fits ∙ sym (take-append-le from (take (from + m) ys) (drop (from + m) ys) fits) ∙ ap (take from) (take-append-drop (from + m) ys)

  removed : (from m : ℕ) (ts : List Plain) (ys : List (Argument Nowhere)) → At ts ys → length ys ≡ from + m → (after : List Plain) → all_stepped (rest_removed c from m) ts ≡ Some after → At after (take from ys)
  removed from zero ts ys at_ count after done =
      sym (some-injective ts after done) ∙ at_ ∙ ap (λ zs. slice_set trees c.file (grown zs)) (sym (take_all from ys (omega (arith, count))))
  removed from (suc m) ts ys at_ count after done =
      let within : from + m < length ys = omega (arith, count) in
      let it = nth_within ys (from + m) within in
      let zs = element_removed (from + m) ys it.0 in
      let one = later_step (Remove path (from + m)) (λ f. refl) ys zs (omega (arith, within)) (ap (option_map (element_removed (from + m) ys)) it.1) ts at_ in
      let ts1 = slice_set trees c.file (grown zs) in
      let rest : all_stepped (rest_removed c from m) ts1 ≡ Some after = sym (ap (option_and_then (all_stepped (rest_removed c from m))) one) ∙ done in
      let fewer : length zs ≡ from + m = omega (arith, one_fewer ys (from + m) within, count) in
      removed from m ts1 zs refl fewer after rest ∙ ap (λ xs. slice_set trees c.file (grown xs)) (shorter from m ys (drop (suc (from + m)) ys) (omega (arith, count)))

  -- what is there when some are put, and what is left to do
  record AllPut (n many : ℕ) (values : List (Option Node)) (rest : List Step) (after : List Plain) : Type 0 where
    now : List Plain
    ys : List (Argument Nowhere)
    at_ : At now ys
    count : length ys ≡ max many n
    are : take n (vals ys) ≡ values
    left : all_stepped rest now ≡ Some after

  all_put : (ws : List (Written Node)) (i many : ℕ) (ts : List Plain) (ys : List (Argument Nowhere)) → At ts ys → 1 ≤ length ys → length ys ≡ max many i → (values : List (Option Node)) → take i (vals ys) ≡ values
      → (rest : List Step) (after : List Plain) → all_stepped (put_each c many i ws ++ rest) ts ≡ Some after → AllPut (i + length ws) many (values ++ map Some (map (λ w. w.node) ws)) rest after
  all_put [] i many ts ys at_ some count values are rest after done =
      let same : i + 0 ≡ i = omega arith in
      record { now = ts; ys = ys; at_ = at_; count = count ∙ ap (max many) (sym same); are = ap (λ n. take n (vals ys)) same ∙ are ∙ sym (append-nil values); left = done }
  all_put (w ∷ ws) i many ts ys at_ some count values are rest after done =
      let p = put c many i w ys count in
      let ts1 = slice_set trees c.file (grown p.zs) in
      let one = ap (λ s. stepped s ts) p.is ∙ later_step p.edit p.edits ys p.zs some p.made ts at_ in
      let further : all_stepped (put_each c many (suc i) ws ++ rest) ts1 ≡ Some after = sym (ap (option_and_then (all_stepped (put_each c many (suc i) ws ++ rest))) one) ∙ done in
      let r = all_put ws (suc i) many ts1 p.zs refl (omega (arith, p.long)) p.long (values ++ Some w.node ∷ []) (p.are ∙ ap (λ vs. vs ++ Some w.node ∷ []) are) rest after further in
      let same : i + length (w ∷ ws) ≡ suc i + length ws = omega arith in
      record {
        now = r.now;
        ys = r.ys;
        at_ = r.at_;
        count = r.count ∙ ap (max many) (sym same);
        are = ap (λ n. take n (vals r.ys)) same ∙ r.are ∙ append_assoc values (Some w.node ∷ []) (map Some (map (λ v. v.node) ws));
        left = r.left;
      }

  pub has_values : (w : Written Node) (ws : List (Written Node)) (many : ℕ) → length (elements q.list) ≡ many → (after : List Plain) → all_stepped (put_all c many (w ∷ ws)) trees ≡ Some after
      → HasValues c (map (λ v. v.node) (w ∷ ws)) trees after
  has_values w ws many count after done =
      let n = length (w ∷ ws) in
      let rest = rest_removed c n (many - n) in
      let p = put c many 0 w (elements q.list) (omega (arith, count)) in
      let ts1 = slice_set trees c.file (grown p.zs) in
      let one = ap (λ s. stepped s trees) p.is ∙ first_step p.edit p.edits p.zs p.made in
      let further : all_stepped (put_each c many 1 ws ++ rest) ts1 ≡ Some after = sym (ap (option_and_then (all_stepped (put_each c many 1 ws ++ rest))) one) ∙ done in
      let a = all_put ws 1 many ts1 p.zs refl (omega (arith, p.long)) p.long (Some w.node ∷ []) p.are rest after further in
      let same : 1 + length ws ≡ n = omega arith in
      let gone = removed n (many - n) a.now a.ys a.at_ (omega (arith, a.count)) after a.left in
      let new = take n a.ys in
      record {
        tree = t;
        is_tree = is_tree;
        place = q;
        is_place = is_place;
        new = new;
        are = sym (take-map value_of n a.ys) ∙ ap (λ k. take k (vals a.ys)) (sym same) ∙ a.are;
        is_after = change_there (λ u. Some (grown new)) trees c.file t (grown new) is_tree refl ∙ ap Some (sym gone);
      }
