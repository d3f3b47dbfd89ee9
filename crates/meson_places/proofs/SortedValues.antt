-- Values that are put in their places in the last list of a value: the steps may be done one after another, and what they leave.
use Rattle.std.proofs.Common.{◌≡◌, ℕ, ◌-◌, ◌≤◌, true, false, List, [], ◌∷◌, ◌++◌, append-nil, length, map, Option, Some, None, Result, Ok, Err, refl, sym, ap, ◌∙◌, subst, arith, inl, inr}
use Rattle.std.specs.Prelude.{◌⊎◌, Bool, All, option_and_then, option_map, slice_set, if◌then◌else◌}
use Rattle.std.proofs.lemmas.List.{length-map}
use Rattle.meson_lex.specs.declared.kinds.Span.{Span}
use Rattle.meson_splice.specs.Files.{bytes_at}
use Rattle.meson_syntax.specs.declared.operator.Bracket.{Bracket}
use Rattle.meson_syntax.specs.Grammar.{expression_depth}
use Rattle.meson_syntax.specs.Paths.{ListIn, list_in}
use Rattle.meson_syntax.specs.Tree.{Argument, plain, named, pair, Expression, array, dictionary, call, identifier, string, Nowhere, Plain, erase_argument, erase_expression}
use Rattle.meson_syntax.proofs.parsing.Steps.{some-injective}
use Rattle.meson_edit.specs.Standing.{expression_span}
use Rattle.meson_edit.specs.Edits.{Written, elements, with_elements}
use Rattle.meson_calls.specs.declared.call.CallRef.{CallRef}
use Rattle.meson_calls.specs.declared.refusal.Refusal.{Refusal}
use Rattle.meson_calls.specs.declared.refusal.Refusal.TheVariants.{TooDeep}
use Rattle.meson_calls.specs.Loading.{IsProject, Loaded, project}
use Rattle.meson_calls.specs.Project.{Placed, child, expression_at}
use Rattle.meson_steps.specs.ListSteps.{AreDoable, MayStandBetween, none}
use Rattle.meson_steps.specs.OrderedLists.{Added, Ordered, all_elements, all_put, comment_after, first_of, lone_token, lone_written, sort_keys}
use Rattle.meson_steps.specs.ResultLimits.{plain_trees}
use Rattle.meson_steps.specs.Steps.{Step, all_stepped, changed_at}
use Rattle.meson_steps.specs.declared.given.Given.{Given}
use Rattle.meson_steps.proofs.PlainTrees.{trees_stand}
use Rattle.meson_steps.proofs.WithOne.{change_there}
use Rattle.meson_places.specs.declared.slots.Slot.{Slot}
use Rattle.meson_places.specs.AssignedArrays.{added_steps}
use Rattle.meson_places.specs.Behind.{placed_value}
use Rattle.meson_places.specs.Changes.{element_child}
use Rattle.meson_places.specs.Equality.{is_old, lists_say}
use Rattle.meson_places.specs.Laws.{HasSorted, SortsIntoOneList}
use Rattle.meson_places.specs.NewElements as places
use Rattle.meson_places.specs.Several.{AllMayBeGiven}
use Rattle.meson_places.specs.Slots.{elements_in, nth_child, child_of}
use Rattle.meson_places.specs.SortedAdditions.{fresh_added, given_key, order_of, sort_into_last, sort_into_list, sort_into_lists, sort_into_value, sorted_steps}
use Rattle.meson_places.specs.SortedEffects.{AlsoAmong}
use Rattle.meson_places.specs.ValueLists.{ValueList, last_of, lists_of}
use Rattle.meson_places.specs.Values.{written_given}
use Rattle.meson_places.proofs.BetweenDoable.{placed_there}
use Rattle.meson_places.proofs.GivenWritten.{given_level, given_written}
use Rattle.meson_places.proofs.ListStands.{ListStands, xs}
use Rattle.meson_places.proofs.ListsThere.{element_there, stands_with}
use Rattle.meson_places.proofs.LoneValues.{lone_low, lone_stands}
use Rattle.meson_places.proofs.NewElementsDoable.{Fits, erased_open}
use Rattle.meson_places.proofs.SeveralDoable.{AllLow, all_room, deepest, lower}
use Rattle.meson_places.proofs.SortedLists.{AllFitting, IsFirst, Suits, put_all_there}
use Rattle.meson_places.proofs.SortedOrder.{AllSort, among_all, erased_keys, fits_ascend, fresh_sort, stays_in_order}
use Rattle.meson_places.proofs.ValueListsThere.{IsOpen, ListThere, last_there, lists_there}

-- ---- the order of a list that is there

keys_short : (xs : List (Argument Span)) → length (sort_keys xs) ≤ length xs
keys_short [] = omega arith
keys_short (plain e ∷ xs) = omega (arith, keys_short xs)
keys_short (named s x e ∷ xs) = omega arith
keys_short (pair s k v ∷ xs) = omega arith

elements_are : (e : Expression Span) (l : ListIn Span) → list_in e ≡ Some l → elements_in e ≡ elements l.list
elements_are (array l) m is = ap (λ (k : ListIn Span). elements k.list) (some-injective _ m is)
elements_are (dictionary l) m is = ap (λ (k : ListIn Span). elements k.list) (some-injective _ m is)
elements_are (call s f l) m is = ap (λ (k : ListIn Span). elements k.list) (some-injective _ m is)
elements_are _ m is = absurd (let no : ⊥ = cc in no)

same_token : (e : Expression Span) → lone_token e ≡ places.lone_token e
same_token (identifier s x) = refl
same_token (string s q x) = refl
same_token _ = refl

abbrev lone : Expression Span → List ℕ → Written (Expression Nowhere)
lone e token = record { bytes = token; node = erase_expression e }

lone_flat : (e : Expression Span) (x : List ℕ) → lone_token e ≡ Some x → expression_depth (erase_expression e) ≡ 0
lone_flat (identifier s y) x is = refl
lone_flat (string s q y) x is = refl
lone_flat _ x is = absurd (let no : ⊥ = cc in no)

module _ (old : Loaded) (is : IsProject old) (list : ValueList Span) (there : ListThere (project old) list) (limit : ℕ) (some : 1 ≤ limit) (source : List ℕ) where
  first_fits : (e : Expression Span) (rest : List (Argument Span)) → list.elements ≡ plain e ∷ rest → (token : List ℕ) → lone_token e ≡ Some token → Fits limit (lone e token)
  first_fits e rest are token is_token =
      let v = child_of 0 (plain e) in
      let here : element_child (project old) list.place 0 ≡ Some v =
      ap (option_and_then (λ x. nth_child 0 (elements_in x) 0)) there.is_at ∙ ap (λ l. nth_child 0 l 0) (elements_are there.value there.list there.is_list ∙ there.are ∙ are) in
      let t = element_there (project old) list.place 0 v here in
      let found = sym (same_token e) ∙ is_token in
      record {
        writes = lone_stands old is.parsed (child list.place v.number) e t.at_child token found;
        level = (lone_low e token found).0;
        small = omega (arith, lone_flat e token is_token, some);
      }

  first_is : (xs : List (Argument Span)) → list.elements ≡ xs → (w : Written (Expression Nowhere)) → first_of source xs ≡ Some w → IsFirst limit (map erase_argument xs) w
  first_is [] are w h = absurd (let no : ⊥ = cc in no)
  first_is (named s x e ∷ rest) are w h = absurd (let no : ⊥ = cc in no)
  first_is (pair s k v ∷ rest) are w h = absurd (let no : ⊥ = cc in no)
  first_is (plain e ∷ rest) are w h = by_comment (comment_after source (expression_span e).to) h
    where
      by_token : (o : Option (List ℕ)) → lone_token e ≡ o → option_map (lone e) o ≡ Some w → IsFirst limit (map erase_argument (plain e ∷ rest)) w
      by_token None token k = absurd (let no : ⊥ = cc in no)
      by_token (Some x) token k =
          let same : lone e x ≡ w = some-injective (lone e x) w k in
          subst (IsFirst limit (map erase_argument (plain e ∷ rest))) same (record { rest = map erase_argument rest; are = refl; fits = first_fits e rest are x token })

      by_comment : (b : Bool) → (if b then None else lone_written e) ≡ Some w → IsFirst limit (map erase_argument (plain e ∷ rest)) w
      by_comment true k = absurd (let no : ⊥ = cc in no)
      by_comment false k = by_token (lone_token e) refl k

  suits : Suits limit (order_of source list) (map erase_argument list.elements)
  suits =
      let count = length-map list.elements erase_argument in
      record { from = refl; end = sym count; keys = omega (arith, keys_short list.elements, count); first = first_is list.elements refl }

-- ---- into a list

module _ (c : CallRef) (b : Bracket) (limit : ℕ) (known : Given → Bool) where
  added_fit : (before gs : List Given) (mays : AllMayBeGiven gs) → AllLow (limit - 1) gs mays → 1 ≤ limit → AllFitting c b limit (fresh_added known before gs mays)
  added_fit before [] mays low some = tt
  added_fit before (g ∷ gs) mays low some = go (is_old known before g) (added_fit (before ++ g ∷ []) gs mays.1 low.1 some)
    where
      rest : List Added
      rest = fresh_added known (before ++ g ∷ []) gs mays.1

      go : (x : Bool) → AllFitting c b limit rest → AllFitting c b limit (if x then rest else record { key = given_key g; written = written_given g mays.0 } ∷ rest)
      go true fit = fit
      go false fit = let l = low.0 in (record { writes = given_written g mays.0; level = given_level g mays.0; small = omega (arith, l, some) }, fit)

-- The steps may be done, and this is left.
pub record Puts (c : CallRef) (o : Ordered) (new : List Added) (trees : List Plain) (steps : List Step) : Type 0 where
  pub doable : AreDoable steps trees
  pub left : (after : List Plain) → all_stepped steps trees ≡ Some after → AlsoAmong c o new trees after

module _ (c : CallRef) (b : Bracket) (limit : ℕ) (trees : List Plain) (all : All MayStandBetween trees) (s : ListStands c b limit trees) (o : Ordered) (ys : List (Argument Nowhere)) (are : xs c b limit trees all s ≡ ys) (u : Suits limit o ys)
    (opened : IsOpen b ys) (keys : sort_keys ys ≡ o.keys) where
  puts : (new : List Added) → AllFitting c b limit new → AllSort new → Puts c o new trees (all_put c o new)
  puts [] fit sorts = record { doable = none trees; left = λ after done. let same : after ≡ trees = cc in same }
  puts (a ∷ more) fit sorts =
      let steps = all_put c o (a ∷ more) in
      let lead = put_all_there c b limit a more fit.0 fit.1 o ys u opened trees all s are in
      record {
        doable = subst (λ l. AreDoable l trees) (append-nil steps) (lead.done.doable [] (none lead.now));
        left = λ after done.
            let here = elements s.place.list in
            let now = s.place.back (with_elements s.place.list (all_elements o (a ∷ more) here)) in
            let here_keys : sort_keys here ≡ o.keys = ap sort_keys are ∙ keys in
            let same : lead.now ≡ after = some-injective lead.now after (sym lead.done.made ∙ done) in
            let whole = ap (λ es. slice_set trees c.file (s.place.back (with_elements s.place.list (all_elements o (a ∷ more) es)))) (sym are) in
            record {
              tree = s.tree;
              is_tree = s.is_tree;
              place = s.place;
              is_place = s.is_place;
              now = all_elements o (a ∷ more) here;
              are = refl;
              among = among_all o (a ∷ more) here;
              in_order = λ i. stays_in_order o (a ∷ more) here u.from here_keys sorts (fits_ascend o a.key (map (λ d. d.key) more) i) i;
              is_after = change_there (λ t. Some now) trees c.file s.tree now s.is_tree refl ∙ ap Some (sym (sym same ∙ lead.is_now ∙ whole));
            };
      }

module _ (old : Loaded) (is : IsProject old) (gs : List Given) (mays : AllMayBeGiven gs) where
  abbrev before : List Plain
  before = plain_trees old

  to_list : (source : List ℕ) (known : Given → Bool) (list : ValueList Span) → ListThere (project old) list → (steps : List Step) → sort_into_list old source known gs mays list ≡ Ok steps
      → Puts list.place (order_of source list) (fresh_added known [] gs mays) before steps
  to_list source known list there steps made = go (all_room before list.place gs mays) refl made
    where
      new : List Added
      new = fresh_added known [] gs mays

      all : List Step
      all = all_put list.place (order_of source list) new

      put : all_room before list.place gs mays ≡ true → Puts list.place (order_of source list) new before all
      put room =
          let d = deepest old is list.place gs mays room in
          let s = stands_with old is list.place there.value there.list there.is_at there.is_list d.node d.room in
          let stand = trees_stand old.files old.parsed is.parsed in
          let some : 1 ≤ s.limit = omega (arith, s.room) in
          let low = lower (expression_depth d.node) (s.limit - 1) (omega (arith, s.room)) gs mays d.low in
          let are = s.are ∙ ap (map erase_argument) there.are in
          puts list.place there.list.bracket s.limit before stand s.stands (order_of source list) (map erase_argument list.elements) are (suits old is list there s.limit some source)
          (erased_open there.list.bracket list.elements there.opened) (erased_keys list.elements) new
          (added_fit list.place there.list.bracket s.limit known [] gs mays low some) (fresh_sort known [] gs mays)

      go : (b : Bool) → all_room before list.place gs mays ≡ b → (if b then Ok all else Err TooDeep) ≡ Ok steps → Puts list.place (order_of source list) new before steps
      go true room m = let same : all ≡ steps = cc in subst (Puts list.place (order_of source list) new before) same (put room)
      go false room m = absurd (let no : ⊥ = cc in no)

  module _ (otherwise : Result (List Step) Refusal) (steps : List Step) where
    pub record Into (c : CallRef) (e : Expression Span) : Type 0 where
      pub list : ValueList Span
      pub is_last : last_of (lists_of c e) ≡ Some list
      pub puts : Puts list.place (order_of (bytes_at c.file old.files) list) (fresh_added (lists_say (bytes_at c.file old.files) (lists_of c e)) [] gs mays) before steps

    -- into the last list of a value; or it has no list
    pub into_value : (c : CallRef) (e : Expression Span) → expression_at (project old) c ≡ Some e → sort_into_lists old (bytes_at c.file old.files) gs mays otherwise (lists_of c e) ≡ Ok steps
        → Into c e ⊎ ((last_of (lists_of c e) ≡ None) × (otherwise ≡ Ok steps))
    into_value c e at_ made = go (last_of (lists_of c e)) refl made
      where
        source : List ℕ
        source = bytes_at c.file old.files

        known : Given → Bool
        known = lists_say source (lists_of c e)

        go : (o : Option (ValueList Span)) → last_of (lists_of c e) ≡ o → sort_into_last old source known gs mays otherwise o ≡ Ok steps → Into c e ⊎ ((last_of (lists_of c e) ≡ None) × (otherwise ≡ Ok steps))
        go None no_list m = inr (no_list, m)
        go (Some l) found m =
            inl (record { list = l; is_last = found; puts = to_list source known l (last_there (project old) (lists_of c e) (lists_there (project old) c e at_) l found) steps m })

  pub sorted_doable : (key : List ℕ) (s : Slot) (steps : List Step) → (added_steps old gs mays key s ≡ Ok steps → AreDoable steps before) → sorted_steps old gs mays key s ≡ Ok steps → AreDoable steps before
  sorted_doable key s steps other made = go (placed_value (project old) s) refl made
    where
      by : (v : Placed (Expression Span)) → Into (added_steps old gs mays key s) steps v.place v.it ⊎ ((last_of (lists_of v.place v.it) ≡ None) × (added_steps old gs mays key s ≡ Ok steps)) → AreDoable steps before
      by v (inl i) = i.puts.doable
      by v (inr m) = other m.1

      go : (o : Option (Placed (Expression Span))) → placed_value (project old) s ≡ o → sort_into_value old gs mays (added_steps old gs mays key s) o ≡ Ok steps → AreDoable steps before
      go None at_ m = other m
      go (Some v) at_ m = by v (into_value (added_steps old gs mays key s) steps v.place v.it (placed_there old s v at_) m)

has_sorted : (c : CallRef) (o : Ordered) (new : List Added) (before after : List Plain) → AlsoAmong c o new before after → HasSorted c o new before after
has_sorted c o [] before after same = same
has_sorted c o (a ∷ more) before after h = record {
  tree = h.tree;
  is_tree = h.is_tree;
  place = h.place;
  is_place = h.is_place;
  is_after = ap (λ es. changed_at c.file (λ t. Some (h.place.back (with_elements h.place.list es))) before) (sym h.are) ∙ h.is_after;
}

pub sorts_into_one_list : SortsIntoOneList
sorts_into_one_list l is gs may otherwise c e at_ list last steps made after done =
    let source = bytes_at c.file l.files in
    let known = lists_say source (lists_of c e) in
    let there = last_there (project l) (lists_of c e) (lists_there (project l) c e at_) list last in
    let puts = to_list l is gs may source known list there steps (sym (ap (sort_into_last l source known gs may otherwise) last) ∙ made) in
    has_sorted list.place (order_of source list) (fresh_added known [] gs may) (plain_trees l) after (puts.left after done)
