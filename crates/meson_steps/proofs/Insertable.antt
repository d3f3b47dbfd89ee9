-- A list with an element without a name, behind which strings are put one after another.
use Rattle.meson_steps.proofs.Words.{◌≡◌, ℕ, zero, suc, ◌≤◌, false, List, [], ◌∷◌, ◌++◌, take, drop, Some, refl, ap, ◌∙◌, true, option_map, option_and_then}
use Rattle.meson_steps.proofs.Words.{LevelExpression, LevelArgument, LevelFile, argument_depth, file_depth, holds_values, ListAt, list_at, nth, Nowhere, Plain}
use Rattle.meson_steps.proofs.Words.{Expression, Listing, listing, Argument, plain, is_named, argument_list, arguments_of, Bracket, Written, Edit, First, After}
use Rattle.meson_steps.proofs.Words.{elements, with_elements, element_added, first_element, edited, edited_elements, MayFollow, StaysThere, lists-stay}
use Rattle.meson_syntax.specs.declared.operator.Bracket.TheVariants as bracket
use Rattle.meson_edit.proofs.sequences.Deepened.{firsts-stay-within, insertions-stay-within}
use Rattle.meson_edit.proofs.sequences.Levelled.{firsts-keep-levels, insertions-keep-levels}

-- ---- lists

pub elements_back : {S : Type 0} (xs : List (Argument S)) → argument_list (arguments_of xs) ≡ xs
elements_back [] = refl
elements_back (x ∷ xs) = ap (λ l. x ∷ l) (elements_back xs)

pub elements_with : {S : Type 0} (l : Listing S) (xs : List (Argument S)) → elements (with_elements l xs) ≡ xs
elements_with (listing s trailing list) xs = elements_back xs

pub nth_inserted : {A : Type 0} (xs : List A) (n : ℕ) (it a : A) → nth xs n ≡ Some it → nth (take (suc n) xs ++ a ∷ drop (suc n) xs) (suc n) ≡ Some a
nth_inserted [] n it a is = absurd cc
nth_inserted (x ∷ xs) zero it a is = refl
nth_inserted (x ∷ xs) (suc n) it a is = nth_inserted xs n it a is

pub first_there : (a : Argument Nowhere) (xs : List (Argument Nowhere)) → xs ≡ [] → first_element a xs ≡ Some (a ∷ [])
first_there a [] none = refl
first_there a (x ∷ xs) none = absurd cc

-- ---- edits of a list that is there

-- the list of a place has these elements after an edit
pub edited_there : (t : Plain) (path : List ℕ) (q : ListAt Nowhere) → list_at t path ≡ Some q → (e : Edit) → (xs : List (Argument Nowhere)) → edited_elements e (elements q.list) ≡ Some xs
    → option_and_then (λ (p : ListAt Nowhere). option_map (λ list. p.back (with_elements p.list list)) (edited_elements e (elements p.list))) (list_at t path) ≡ Some (q.back (with_elements q.list xs))
edited_there t path q is e xs made =
    ap (option_and_then (λ (p : ListAt Nowhere). option_map (λ list. p.back (with_elements p.list list)) (edited_elements e (elements p.list)))) is
    ∙ ap (option_map (λ list. q.back (with_elements q.list list))) made

-- the list with these elements, where it was
pub there_again : (t : Plain) (path : List ℕ) (q : ListAt Nowhere) → list_at t path ≡ Some q → (xs : List (Argument Nowhere)) → StaysThere path q (with_elements q.list xs)
there_again t path q is xs = lists-stay t path q is (with_elements q.list xs)

-- ---- an element without a name

pub record Room (t : Plain) (path : List ℕ) (n : ℕ) : Type 0 where
  pub place : ListAt Nowhere
  pub is_place : list_at t path ≡ Some place
  pub it : Argument Nowhere
  pub is_it : nth (elements place.list) n ≡ Some it
  pub no_name : is_named it ≡ false
  pub holds : holds_values place.bracket ≡ true

may_follow : (b : Bracket) (it : Argument Nowhere) (behind : List (Argument Nowhere)) (e : Expression Nowhere) → holds_values b ≡ true → is_named it ≡ false → LevelExpression e → MayFollow b it behind (plain e)
may_follow bracket.Square it behind e holds no_name level = level
may_follow bracket.Round it behind e holds no_name level = (no_name, level)
may_follow bracket.Curly it behind e holds no_name level = absurd cc

level_first : (b : Bracket) (e : Expression Nowhere) → holds_values b ≡ true → LevelExpression e → LevelArgument (plain e) b false
level_first bracket.Square e holds level = (refl, refl, level)
level_first bracket.Round e holds level = (refl, refl, level)
level_first bracket.Curly e holds level = absurd cc

-- a tree after an edit that puts a string at number n of a list
pub record Grown (t : Plain) (path : List ℕ) (n : ℕ) (e : Edit) : Type 0 where
  pub now : Plain
  pub is : edited e t ≡ Some now
  pub level : LevelFile now
  pub depth : file_depth now ≤ file_depth t
  pub room : Room now path n

module _ (t : Plain) (path : List ℕ) (level : LevelFile t) (bytes : List ℕ) (e : Expression Nowhere) (low : LevelExpression e) (flat : argument_depth (plain e) ≡ 0) where
  abbrev new : Written (Argument Nowhere)
  new = record { bytes = bytes; node = plain e }

  pub grown_behind : (n : ℕ) → Room t path n → Grown t path (suc n) (After path n new)
  grown_behind n r =
      let q = r.place in
      let xs = element_added n (plain e) (elements q.list) r.it in
      let is : edited (After path n new) t ≡ Some (q.back (with_elements q.list xs)) =
      edited_there t path q r.is_place (After path n new) xs (ap (option_map (element_added n (plain e) (elements q.list))) r.is_it) in
      let again = there_again t path q r.is_place xs in
      let follows = may_follow q.bracket r.it (drop (suc n) (elements q.list)) e r.holds r.no_name low in
      record {
        now = q.back (with_elements q.list xs);
        is = is;
        level = insertions-keep-levels path n new t _ q r.is_place r.it r.is_it follows level is;
        depth = insertions-stay-within path n new flat t _ is;
        room = record {
          place = again.there;
          is_place = again.is_there;
          it = plain e;
          is_it = ap (λ l. nth (elements l) (suc n)) again.list ∙ ap (λ l. nth l (suc n)) (elements_with q.list xs) ∙ nth_inserted (elements q.list) n r.it (plain e) r.is_it;
          no_name = refl;
          holds = ap holds_values again.bracket ∙ r.holds;
        };
      }

  pub grown_first : (q : ListAt Nowhere) → list_at t path ≡ Some q → holds_values q.bracket ≡ true → elements q.list ≡ [] → Grown t path 0 (First path new)
  grown_first q is_q holds none =
      let xs : List (Argument Nowhere) = plain e ∷ [] in
      let is : edited (First path new) t ≡ Some (q.back (with_elements q.list xs)) = edited_there t path q is_q (First path new) xs (first_there (plain e) (elements q.list) none) in
      let again = there_again t path q is_q xs in
      record {
        now = q.back (with_elements q.list xs);
        is = is;
        level = firsts-keep-levels path new t _ q is_q (level_first q.bracket e holds low) level is;
        depth = firsts-stay-within path new flat t _ is;
        room = record {
          place = again.there;
          is_place = again.is_there;
          it = plain e;
          is_it = ap (λ l. nth (elements l) 0) again.list ∙ ap (λ l. nth l 0) (elements_with q.list xs);
          no_name = refl;
          holds = ap holds_values again.bracket ∙ holds;
        };
      }
