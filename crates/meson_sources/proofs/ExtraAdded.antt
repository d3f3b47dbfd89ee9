-- The extra files that are added come into their list, into a new argument, or behind a lone value.
use Rattle.meson_calls.specs.Calls as calls
use Rattle.meson_sources.specs.SourceEdits as edits
use Rattle.meson_sources.proofs.Words.{Ok, option_and_then, option_map, Result, [], ap, arith, drop, length, List, None, Option, refl, Some, subst, suc, sym}
use Rattle.meson_sources.proofs.Words.{take, zero, ℕ, ◌++◌, ◌-◌, ◌<◌, ◌∙◌, ◌∷◌, ◌≡◌, Span, LevelFile, holds_pairs, list_at, ListAt, nth, value_of, Argument}
use Rattle.meson_sources.proofs.Words.{erase, erase_argument, erase_expression, Expression, Nowhere, Plain, plain, some-injective, and-then-some, After}
use Rattle.meson_sources.proofs.Words.{array_of, Edit, edited, edited_elements, edited_list, element_added, elements, exchanged, with_elements, with_value}
use Rattle.meson_sources.proofs.Words.{Wrap, Call, keyword, Numbered, IsProject, Loaded, project, child, Placed, CallRef, Refusal, Mark, first_empty}
use Rattle.meson_sources.proofs.Words.{first_list, or_option, MayStandBetween, plain_trees, all_stepped, Step, step_in, stepped, string_of, edited_there}
use Rattle.meson_sources.proofs.Words.{elements_with, there_again, element_erased, plain_place, PlainPlace, tree_is, value_erased, then_was, all_nth}
use Rattle.meson_sources.proofs.Words.{change_made, ArgumentComes, ArgumentGrows, ArgumentHolds, array_holding, elements_found, extra_argument, ExtraComes}
use Rattle.meson_sources.proofs.Words.{ExtraIsAdded, strings, array_with, behind_value, checked_extra, elements_there, extra_inserted, extra_key, extra_marks}
use Rattle.meson_sources.proofs.Words.{inserted_in, into_new_list, new_names, without_home, written_keyword}
use Rattle.meson_sources.proofs.SourcesAdded.{gets}
use Rattle.meson_sources.proofs.added.Counts.{elements_are, plain_count}
use Rattle.meson_sources.proofs.added.Homes.{as_many, checked_marks, not_empty, Home, all_stand, marked_home, keyword_there, some_first}
use Rattle.meson_sources.proofs.added.Lists.{Holding, all_more, arguments_are, other_there, put_last, keyword_grown, last_there, wrapped_grown}
use Rattle.meson_sources.proofs.met.Standing.{TargetThere, targets_stand}
use Rattle.meson_sources.proofs.met.Targets.{files_stand}

-- a list cut at one of its elements
record CutAt {A : Type 0} (xs : List A) (n : ℕ) (x : A) : Type 0 where
  front : List A
  back : List A
  number : n ≡ length front
  joined : xs ≡ front ++ x ∷ back

cut_at : {A : Type 0} (xs : List A) (n : ℕ) (x : A) → nth xs n ≡ Some x → CutAt xs n x
cut_at [] n x is = absurd cc
cut_at (y ∷ xs) zero x is = record { front = []; back = xs; number = refl; joined = ap (λ z. z ∷ xs) (some-injective y x is) }
cut_at (y ∷ xs) (suc n) x is = let c = cut_at xs n x is in record { front = y ∷ c.front; back = c.back; number = ap suc c.number; joined = ap (λ l. y ∷ l) c.joined }

module _ (old : Loaded) (is : IsProject old) (c : Placed (Call Span)) (t : TargetThere (project old) c) where
  abbrev path : List ℕ
  path = c.place.path.steps

  abbrev trees : List Plain
  trees = plain_trees old

  abbrev tree : Plain
  tree = erase t.there.file.tree

  abbrev q : PlainPlace t.there.file.tree path t.there.list
  q = plain_place t.there.file.tree path t.there.list t.there.is_list

  abbrev xs : List (Argument Nowhere)
  xs = elements q.place.list

  level : LevelFile tree
  level = (all_nth MayStandBetween trees c.place.file tree (all_stand old is.parsed c.place) (tree_is old c.place t.there)).0

  had : elements_found c.place trees ≡ Some xs
  had =
      ap (λ o. option_and_then (λ t. option_map (λ (l : ListAt Nowhere). elements l.list) (list_at t path)) o) (tree_is old c.place t.there) ∙ ap (option_map (λ (l : ListAt Nowhere). elements l.list)) q.is_place

  -- an edit of the call's list that leaves an array in one argument
  held_after : (e : Edit) → ((u : Plain) → edited e u ≡ edited_list e path u) → (n : ℕ) (a : Argument Nowhere) (v : Expression Nowhere) (is_value : value_of a ≡ Some v) (front back : List (Argument Nowhere)) (is_number : n ≡ length front)
      → (inner ys : List (Argument Nowhere)) → edited_elements e xs ≡ Some ys → ys ≡ front ++ with_value (array_holding inner) a ∷ back → (now : Plain) → edited e tree ≡ Some now → LevelFile now
      → (between : List Plain) → stepped (step_in c.place e) trees ≡ Some between → Holding c.place n a v is_value front back is_number trees inner between
  held_after e of_list n a v is_value front back is_number inner ys made ys_are now is_now low between done =
      let m = change_made c.place.file (edited e) trees between done in
      let same_tree : m.old ≡ tree = some-injective _ _ (sym m.was ∙ tree_is old c.place t.there) in
      let is_new : edited e tree ≡ Some m.new = ap (edited e) (sym same_tree) ∙ m.is in
      let again = there_again tree path q.place q.is_place ys in
      let put : q.place.back (with_elements q.place.list ys) ≡ m.new = some-injective _ _ (sym (of_list tree ∙ edited_there tree path q.place q.is_place e ys made) ∙ is_new) in
      record {
        tree = m.new;
        is_tree = m.now;
        level = subst LevelFile (some-injective _ _ (sym is_now ∙ is_new)) low;
        place = again.there;
        is_place = ap (λ u. list_at u path) (sym put) ∙ again.is_there;
        no_pairs = ap holds_pairs (again.bracket ∙ q.bracket ∙ t.is_round);
        are = ap elements again.list ∙ elements_with q.place.list ys ∙ ys_are;
        only = record {
          tree = tree;
          was = tree_is old c.place t.there;
          place = q.place;
          is_place = q.is_place;
          other = with_elements q.place.list ys;
          now = m.now ∙ ap Some (sym put);
          others = m.others;
        };
      }

  new_argument : (name : List ℕ) (more : List (List ℕ)) (after : List Plain) → all_stepped (into_new_list (project old) c.place (name ∷ more)) trees ≡ Some after
      → ArgumentComes c.place (extra_argument (name ∷ more)) trees after
  new_argument name more after done = go (length (elements_there (project old) c.place)) refl done
    where
      go : (n : ℕ) → length (elements_there (project old) c.place) ≡ n → all_stepped (step_in c.place (After path (n - 1) (written_keyword name)) ∷ edits.insertion_steps (child c.place n) 1 more) trees ≡ Some after
          → ArgumentComes c.place (extra_argument (name ∷ more)) trees after
      go zero many made = absurd (not_empty (elements t.there.list.list) (subst (λ l. 0 < plain_count (elements l)) (sym t.is_list) (some_first c.it t.first t.is_first)) (ap length (sym (elements_are (project old) c.place t.there)) ∙ many))
      go (suc m) many made =
          let new = written_keyword name in
          let all : length xs ≡ suc m = ap (λ l. length (elements l)) q.list ∙ as_many t.there.list.list ∙ ap length (sym (elements_are (project old) c.place t.there)) ∙ many in
          let less : suc m - 1 ≡ m = omega arith in
          let made_there : all_stepped (step_in c.place (After path m new) ∷ edits.insertion_steps (child c.place (suc m)) 1 more) trees ≡ Some after =
          ap (λ k. all_stepped (step_in c.place (After path k new) ∷ edits.insertion_steps (child c.place (suc m)) 1 more) trees) (sym less) ∙ made in
          let s = and-then-some (all_stepped (edits.insertion_steps (child c.place (suc m)) 1 more)) (stepped (step_in c.place (After path m new)) trees) after made_there in
          let g = keyword_grown tree path q.place q.is_place level (q.bracket ∙ t.is_round) m all name in
          let last = last_there xs m all in
          let first = plain (string_of name) ∷ [] in
          let h = held_after (After path m new) (λ u. refl) (suc m) new.node (array_with name) refl xs [] (sym all) first (element_added m new.node xs last.0) (ap (option_map (element_added m new.node xs)) last.1) (put_last xs m new.node last.0 all)
          g.now g.is g.level s.0 s.1 in
          let held = all_more c.place (suc m) new.node (array_with name) refl xs [] (sym all) trees more first 0 s.0 after refl h s.2 in
          record {
            arguments = xs;
            had = had;
            has = arguments_are c.place (suc m) new.node (array_with name) refl xs [] (sym all) trees (first ++ strings more) after held;
            only = held.only;
          }

  module _ (v : Numbered (Expression Span)) (others : List (Numbered (Expression Span))) (is_there : keyword extra_key c.it ≡ v ∷ others) where
    grown : (names : List (List ℕ)) (after : List Plain) → all_stepped (step_in c.place (Wrap path v.number) ∷ edits.insertion_steps (child c.place v.number) 1 names) trees ≡ Some after
        → ArgumentGrows c.place v.number names trees after
    grown names after done =
        let k = keyword_there extra_key c.it v others is_there in
        let n = v.number in
        let a = erase_argument k.it in
        let w = erase_expression v.value in
        let in_list : nth (elements t.there.list.list) n ≡ Some k.it = ap (λ l. nth (elements l) n) t.is_list ∙ k.is_it in
        let there : nth xs n ≡ Some a = ap (λ l. nth (elements l) n) q.list ∙ element_erased t.there.list.list n k.it in_list in
        let is_value = value_erased k.it v.value k.is_value in
        let g = wrapped_grown tree path q.place q.is_place level (ap holds_pairs (q.bracket ∙ t.is_round)) n a w there is_value in
        let cut = cut_at xs n a there in
        let s = and-then-some (all_stepped (edits.insertion_steps (child c.place n) 1 names)) (stepped (step_in c.place (Wrap path n)) trees) after done in
        let one : List (Argument Nowhere) = plain w ∷ [] in
        let ys = take n xs ++ with_value (array_of w) a ∷ drop (suc n) xs in
        let made = ap (option_and_then (exchanged n array_of xs)) there ∙ ap (option_map (λ x. take n xs ++ with_value (array_of x) a ∷ drop (suc n) xs)) is_value in
        let ys_are : ys ≡ cut.front ++ with_value (array_holding one) a ∷ cut.back =
        ap (λ l. take n l ++ with_value (array_of w) a ∷ drop (suc n) l) cut.joined ∙ other_there cut.front a (with_value (array_of w) a) cut.back n cut.number in
        let h = held_after (Wrap path n) (λ u. refl) n a w is_value cut.front cut.back cut.number one ys made ys_are g.now g.is g.level s.0 s.1 in
        let held = all_more c.place n a w is_value cut.front cut.back cut.number trees names one 0 s.0 after refl h s.2 in
        record {
          front = cut.front;
          it = a;
          back = cut.back;
          value = w;
          is_number = cut.number;
          is_value = is_value;
          had = had ∙ ap Some cut.joined;
          has = arguments_are c.place n a w is_value cut.front cut.back cut.number trees (one ++ strings names) after held;
          only = held.only;
        }

    by_literal : (text : Option (List ℕ)) (names : List (List ℕ)) (steps : List Step) (after : List Plain) → behind_value c.place v.number text names ≡ Ok steps → all_stepped steps trees ≡ Some after
        → ArgumentGrows c.place v.number names trees after
    by_literal None names steps after made done = absurd cc
    by_literal (Some text) names steps after made done =
        let same : step_in c.place (Wrap path v.number) ∷ edits.insertion_steps (child c.place v.number) 1 names ≡ steps = cc in
        grown names after (ap (λ s. all_stepped s trees) same ∙ done)

  without_list : (values : List (Numbered (Expression Span))) → keyword extra_key c.it ≡ values → (name : List ℕ) (more : List (List ℕ)) (steps : List Step) (after : List Plain)
      → without_home (project old) c.place values (name ∷ more) ≡ Ok steps → all_stepped steps trees ≡ Some after → ArgumentHolds c.place values (name ∷ more) trees after
  without_list [] is_there name more steps after made done =
      let same : into_new_list (project old) c.place (name ∷ more) ≡ steps = cc in
      new_argument name more after (ap (λ s. all_stepped s trees) same ∙ done)
  without_list (v ∷ others) is_there name more steps after made done = by_literal v others is_there (calls.literal_of v.value) (name ∷ more) steps after made done

  comes : (list : Option CallRef) → ((l : CallRef) → list ≡ Some l → Home (project old) l) → (names : List (List ℕ)) (steps : List Step) (after : List Plain)
      → extra_inserted (project old) c list names ≡ Ok steps → all_stepped steps trees ≡ Some after → ExtraComes c list names trees after
  comes list homes [] steps after made done =
      let same : [] ≡ steps = cc in
      sym (some-injective _ _ (ap (λ s. all_stepped s trees) same ∙ done))
  comes None homes (name ∷ more) steps after made done = without_list (keyword extra_key c.it) refl name more steps after made done
  comes (Some l) homes (name ∷ more) steps after made done =
      let same : inserted_in (project old) l (name ∷ more) ≡ steps = cc in
      gets old is l (homes l refl) (name ∷ more) after (ap (λ s. all_stepped s trees) same ∙ done)

pub extra-is-added : ExtraIsAdded
extra-is-added old is id c found names steps after made done =
    let p = project old in
    let t = targets_stand p id c found in
    let marks = extra_marks p c in
    let by : List (Mark Span) → Result (List Step) Refusal = λ ms. extra_inserted p c (or_option (first_list ms) (first_empty ms)) (new_names ms names) in
    let o = then_was (checked_extra p c names) by steps made in
    let same = checked_marks p c names o.0 o.1 in
    comes old is c t (or_option (first_list marks) (first_empty marks)) (λ l home. marked_home p marks l (files_stand old is.parsed id c found).extras.stand home) (new_names marks names) steps after (ap by same ∙ o.2) done
