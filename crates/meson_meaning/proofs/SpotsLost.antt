-- Trees without the elements at some spots are the placed trees without the literals there.
use Rattle.std.proofs.Common.{◌≡◌, ℕ, suc, ◌+◌, List, [], ◌∷◌, ◌++◌, length, refl, sym, ap, ap₂, subst, ◌∙◌, inl, inr, arith}
use Rattle.std.specs.Prelude.{◌⊎◌, Bool, true, false, ◌&&◌, map, if◌then◌else◌}
use Rattle.std.proofs.lemmas.List.{append_assoc, append-nil}
use Rattle.std.proofs.Math.Path.{fun_ext}
use Rattle.meson_syntax.specs.Children.{arguments_parts, branches_parts, tail_parts}
use Rattle.meson_syntax.specs.Tree.{Name, Nowhere, Expression, identifier, boolean, integer, string, paren, array, dictionary, call, unary, row, postfix, conditional, Operands, no_operands, operand, Tail, method, index, Tails, no_tails, tail, Listing, listing, Argument, plain, named, pair, Arguments, no_arguments, argument, arguments_of, Statement, evaluate, assign, selection, iteration, breaks, continues, Branches, no_branches, branch, Otherwise, nothing_else, otherwise, Statements, no_statements, statement, Block, block, File, file, erase, erase_arguments, erase_block, erase_branches, erase_expression, erase_listing, erase_name, erase_names, erase_operands, erase_otherwise, erase_statement, erase_statements, erase_tail, erase_tails}
use Rattle.meson_syntax.proofs.paths.Every.{Every}
use Rattle.meson_edit.specs.Edits.{with_elements}
use Rattle.meson_calls.specs.declared.call.CallRef.{CallRef}
use Rattle.meson_calls.specs.Parts.{Part, arguments_child_count, branches_child_count, parts, parts_from, parts_of_arguments, parts_of_block, parts_of_branches, parts_of_expression, parts_of_file, parts_of_listing, parts_of_operands, parts_of_otherwise, parts_of_statement, parts_of_statements, parts_of_tail, parts_of_tails, tail_child_count}
use Rattle.meson_calls.specs.Project.{Placed, Project, child, place}
use Rattle.meson_sources.specs.Effects.{goes, trees_without}
use Rattle.meson_sources.specs.SourceEdits.{Spot}
use Rattle.meson_sources.specs.Without.{Gone, but, each_without, from_child}
use Rattle.meson_sources.specs.Without as cut
use Rattle.meson_meaning.specs.Expressions.{call_with, literal_in, sort_of}
use Rattle.meson_meaning.specs.Laws.{bare, bare_trees, names, trees}
use Rattle.meson_meaning.specs.Placing.{arguments_placed, block_placed, branches_placed, expression_placed, listing_placed, name_placed, operands_placed, otherwise_placed, placed_from, statement_placed, statements_placed, tail_placed, tails_placed, tree_placed}
use Rattle.meson_meaning.specs.Spots.{is_literal, is_spot}
use Rattle.meson_meaning.specs.Without.{Loses, after_unnamed, arguments_without, block_without, branches_without, comma_left, each_one, expression_without, file_without, kept_before, later_ones, listing_without, literal_goes, loses, may_go, name_as, nothing, operands_without, otherwise_without, statement_without, statements_without, tail_without, tails_without, tree_without}
use Rattle.meson_meaning.proofs.PlacedCalls.{literal_test, sort_placed, spot_here}
use Rattle.meson_meaning.proofs.SpotParts.{ElementsMayGo, ListingMayGo, PartFits}

pub plus_zero : (n : ℕ) → n + 0 ≡ n
plus_zero n = omega arith

pub zero_plus : (k : ℕ) → k ≡ 0 + k
zero_plus k = omega arith

pub next_step : (n k : ℕ) → n + suc k ≡ suc n + k
next_step n k = omega arith

pub more_by_one : (n : ℕ) → n + 1 ≡ suc n
more_by_one n = omega arith

pub more_by_two : (n : ℕ) → n + 2 ≡ suc (suc n)
more_by_two n = omega arith

pub left : {X : Type 0} (P : X → Type 0) (xs ys : List X) → Every P (xs ++ ys) → Every P xs
left P [] ys all = tt
left P (x ∷ xs) ys all = (all.0, left P xs ys all.1)

pub right : {X : Type 0} (P : X → Type 0) (xs ys : List X) → Every P (xs ++ ys) → Every P ys
right P [] ys all = all
right P (x ∷ xs) ys all = right P xs ys all.1

-- ---- numbers of children

counted : {S : Type 0} (list : Arguments S) → length (arguments_parts (erase_arguments list)) ≡ arguments_child_count list
counted no_arguments = refl
counted (argument (plain e) more) = let rest = counted more in omega (arith, rest)
counted (argument (named s x e) more) = let rest = counted more in omega (arith, rest)
counted (argument (pair s e f) more) = let rest = counted more in omega (arith, rest)

tail_counted : {S : Type 0} (t : Tail S) → length (tail_parts (erase_tail t)) ≡ tail_child_count t
tail_counted (method s f (listing r trailing list)) = counted list
tail_counted (index s e) = refl

branches_counted : {S : Type 0} (bs : Branches S) → length (branches_parts (erase_branches bs)) ≡ branches_child_count bs
branches_counted no_branches = refl
branches_counted (branch e b more) = let rest = branches_counted more in omega (arith, rest)

-- ---- lists

may_not : (m : Loses) → may_go m false ≡ false
may_not nothing = refl
may_not later_ones = refl
may_not each_one = refl

but_none : (d : ℕ → Bool) → ((k : ℕ) → d k ≡ false) → (xs : List (Argument Nowhere)) → but d xs ≡ xs
but_none d none [] = refl
but_none d none (x ∷ xs) =
    ap (λ b. if b then but (λ k. d (suc k)) xs else x ∷ but (λ k. d (suc k)) xs) (none 0) ∙ ap (λ ys. x ∷ ys) (but_none (λ k. d (suc k)) (λ k. none (suc k)) xs)

put : (t b : Bool) → t ≡ b → (x y : Argument Nowhere) → x ≡ y → (xs : Arguments Nowhere) (ys : List (Argument Nowhere)) → xs ≡ arguments_of ys
    → kept_before t x xs ≡ arguments_of (if b then ys else y ∷ ys)
put t true is x y same xs ys rest = ap (λ b. kept_before b x xs) is ∙ rest
put t false is x y same xs ys rest = ap (λ b. kept_before b x xs) is ∙ ap₂ argument same rest

comma : (trailing : Bool) (list : Arguments Nowhere) (ys : List (Argument Nowhere))
    → listing tt (comma_left trailing (arguments_of ys)) (arguments_of ys) ≡ with_elements (listing tt trailing list) ys
comma trailing list [] = refl
comma trailing list (y ∷ ys) = refl

-- what is removed is said by paths from a place on
pub record Agrees (spots : List Spot) (q : CallRef) (g : Gone) : Type 0 where
  pub at_path : (path : List ℕ) (k : ℕ) → g path k ≡ goes spots (place q.file (q.path.steps ++ path)) k

module _ (spots : List Spot) where
  abbrev gone : CallRef → Bool
  gone = is_spot spots

  child_agrees : (q : CallRef) (g : Gone) (n : ℕ) → Agrees spots q g → Agrees spots (child q n) (from_child n g)
  child_agrees q g n agrees = record {
    at_path = λ path k. agrees.at_path (n ∷ path) k ∙ ap (λ steps. goes spots (place q.file steps) k) (sym (append_assoc q.path.steps (n ∷ []) path));
  }

  here_agrees : (q : CallRef) (g : Gone) (k : ℕ) → Agrees spots q g → g [] k ≡ goes spots q k
  here_agrees q g k agrees = agrees.at_path [] k ∙ ap (λ steps. goes spots (place q.file steps) k) (append-nil q.path.steps)

  -- ---- whether an element goes

  drop_test : {S : Type 0} (m : Loses) (e : Expression S) (c : CallRef) (b : Bool) → gone c ≡ b → (b ≡ true → may_go m (is_literal e) ≡ true)
      → may_go m (literal_goes gone (literal_in (expression_placed c e))) ≡ b
  drop_test m e c true is may = ap (may_go m) (literal_test gone c e ∙ ap (λ t. t && is_literal e) is) ∙ may refl
  drop_test m e c false is may = ap (may_go m) (literal_test gone c e ∙ ap (λ t. t && is_literal e) is) ∙ may_not m

  -- no further element of a list goes
  abbrev Quiet : Loses → CallRef → ℕ → Type 0
  Quiet m q n = (m ≡ nothing) ⊎ ((k : ℕ) → goes spots q (n + k) ≡ false)

  quiet_test : {S : Type 0} (m : Loses) (q : CallRef) (n : ℕ) (e : Expression S) → Quiet m q n → may_go m (literal_goes gone (literal_in (expression_placed (child q n) e))) ≡ false
  quiet_test m q n e (inl is) = ap (λ l. may_go l (literal_goes gone (literal_in (expression_placed (child q n) e)))) is
  quiet_test m q n e (inr none) = drop_test m e (child q n) false (spot_here spots q n ∙ sym (ap (goes spots q) (plus_zero n)) ∙ none 0) (λ is. absurd cc)

  quiet_more : (m : Loses) (q : CallRef) (n : ℕ) → Quiet m q n → Quiet m q (suc n)
  quiet_more m q n (inl is) = inl is
  quiet_more m q n (inr none) = inr (λ k. sym (ap (goes spots q) (next_step n k)) ∙ none (suc k))

  quiet_unnamed : (m : Loses) (q : CallRef) (n : ℕ) → Quiet m q n → Quiet (after_unnamed m) q n
  quiet_unnamed m q n (inl is) = inl (ap after_unnamed is)
  quiet_unnamed m q n (inr none) = inr none

  -- ---- expressions, of which each part fits

  module _ {S : Type 0} where
    abbrev Fine : List (Placed (Part S)) → Type 0
    Fine qs = Every (PartFits spots) qs

    fine_left : (xs ys : List (Placed (Part S))) → Fine (xs ++ ys) → Fine xs
    fine_left xs ys fine = left (PartFits spots) xs ys fine

    fine_right : (xs ys : List (Placed (Part S))) → Fine (xs ++ ys) → Fine ys
    fine_right xs ys fine = right (PartFits spots) xs ys fine

    -- of further children
    fine_next : (of : ℕ → List (Placed (Part S))) (m n : ℕ) → m ≡ n → Fine (of m) → Fine (of n)
    fine_next of m n is fine = subst (λ k. Fine (of k)) is fine

    abbrev ew : Expression S → CallRef → Expression Nowhere
    ew e q = expression_without bare gone (expression_placed q e)

    abbrev cutting : Gone → Expression S → Expression Nowhere
    cutting g e = cut.expression_without g (erase_expression e)

    -- what is after an argument, and the parts of an entry
    one_more : (e : Expression S) (n : ℕ) (q : CallRef) (more : Arguments S) → Fine (parts_of_expression (child q n) e ++ parts_of_arguments q (n + 1) more) → Fine (parts_of_arguments q (suc n) more)
    one_more e n q more fine =
        fine_next (λ k. parts_of_arguments q k more) (n + 1) (suc n) (more_by_one n) (fine_right (parts_of_expression (child q n) e) (parts_of_arguments q (n + 1) more) fine)

    abbrev entry_parts : Expression S → Expression S → ℕ → CallRef → List (Placed (Part S))
    entry_parts e f n q = parts_of_expression (child q n) e ++ parts_of_expression (child q (n + 1)) f

    two_more : (e f : Expression S) (n : ℕ) (q : CallRef) (more : Arguments S) → Fine (entry_parts e f n q ++ parts_of_arguments q (n + 2) more) → Fine (parts_of_arguments q (suc (suc n)) more)
    two_more e f n q more fine = fine_next (λ k. parts_of_arguments q k more) (n + 2) (suc (suc n)) (more_by_two n) (fine_right (entry_parts e f n q) (parts_of_arguments q (n + 2) more) fine)

    key_fine : (e f : Expression S) (n : ℕ) (q : CallRef) (more : Arguments S) → Fine (entry_parts e f n q ++ parts_of_arguments q (n + 2) more) → Fine (parts_of_expression (child q n) e)
    key_fine e f n q more fine = fine_left (parts_of_expression (child q n) e) (parts_of_expression (child q (n + 1)) f) (fine_left (entry_parts e f n q) (parts_of_arguments q (n + 2) more) fine)

    value_fine : (e f : Expression S) (n : ℕ) (q : CallRef) (more : Arguments S) → Fine (entry_parts e f n q ++ parts_of_arguments q (n + 2) more) → Fine (parts_of_expression (child q (suc n)) f)
    value_fine e f n q more fine =
        fine_next (λ k. parts_of_expression (child q k) f) (n + 1) (suc n) (more_by_one n)
        (fine_right (parts_of_expression (child q n) e) (parts_of_expression (child q (n + 1)) f) (fine_left (entry_parts e f n q) (parts_of_arguments q (n + 2) more) fine))

    mutual
      expression_lost : (e : Expression S) (q : CallRef) (g : Gone) → Agrees spots q g → Fine (parts_of_expression q e) → ew e q ≡ cutting g e
      expression_lost (identifier s x) q g agrees fine = refl
      expression_lost (boolean s b) q g agrees fine = refl
      expression_lost (integer s x) q g agrees fine = refl
      expression_lost (string s k x) q g agrees fine = refl
      expression_lost (paren s e) q g agrees fine = ap (paren tt) (expression_lost e (child q 0) (from_child 0 g) (child_agrees q g 0 agrees) fine.1)
      expression_lost (array l) q g agrees fine = ap array (listing_lost each_one l q g agrees fine.0 fine.1)
      expression_lost (dictionary l) q g agrees fine = ap dictionary (listing_lost nothing l q g agrees fine.0 fine.1)
      expression_lost (call s f l) q g agrees fine =
          ap (λ m. call tt (erase_name f) (listing_without bare gone (loses m) (listing_placed q l))) (sort_placed f.text q l)
          ∙ ap (λ k. call tt (erase_name f) k) (listing_lost (loses (sort_of (call_with f.text l))) l q g agrees fine.0 fine.1)
      expression_lost (unary s o e) q g agrees fine = ap (unary tt o) (expression_lost e (child q 0) (from_child 0 g) (child_agrees q g 0 agrees) fine.1)
      expression_lost (row s e os) q g agrees fine =
          ap₂ (row tt) (expression_lost e (child q 0) (from_child 0 g) (child_agrees q g 0 agrees) (fine_left (parts_of_expression (child q 0) e) (parts_of_operands q 1 os) fine.1))
          (operands_lost os 1 q g agrees (fine_right (parts_of_expression (child q 0) e) (parts_of_operands q 1 os) fine.1))
      expression_lost (postfix s e ts) q g agrees fine =
          ap₂ (postfix tt) (expression_lost e (child q 0) (from_child 0 g) (child_agrees q g 0 agrees) (fine_left (parts_of_expression (child q 0) e) (parts_of_tails q 1 ts) fine.1))
          (tails_lost ts 1 q g agrees (fine_right (parts_of_expression (child q 0) e) (parts_of_tails q 1 ts) fine.1))
      expression_lost (conditional s c y n) q g agrees fine =
          let later = fine_right (parts_of_expression (child q 0) c) (parts_of_expression (child q 1) y ++ parts_of_expression (child q 2) n) fine.1 in
          ap (λ d. conditional tt d (ew y (child q 1)) (ew n (child q 2)))
          (expression_lost c (child q 0) (from_child 0 g) (child_agrees q g 0 agrees) (fine_left (parts_of_expression (child q 0) c) (parts_of_expression (child q 1) y ++ parts_of_expression (child q 2) n) fine.1))
          ∙ ap₂ (conditional tt (cutting (from_child 0 g) c))
          (expression_lost y (child q 1) (from_child 1 g) (child_agrees q g 1 agrees) (fine_left (parts_of_expression (child q 1) y) (parts_of_expression (child q 2) n) later))
          (expression_lost n (child q 2) (from_child 2 g) (child_agrees q g 2 agrees) (fine_right (parts_of_expression (child q 1) y) (parts_of_expression (child q 2) n) later))

      operands_lost : (os : Operands S) (n : ℕ) (q : CallRef) (g : Gone) → Agrees spots q g → Fine (parts_of_operands q n os)
          → operands_without bare gone (operands_placed q n os) ≡ cut.operands_without g n (erase_operands os)
      operands_lost no_operands n q g agrees fine = refl
      operands_lost (operand o e more) n q g agrees fine =
          ap₂ (operand o) (expression_lost e (child q n) (from_child n g) (child_agrees q g n agrees) (fine_left (parts_of_expression (child q n) e) (parts_of_operands q (n + 1) more) fine))
          (operands_lost more (suc n) q g agrees
          (fine_next (λ k. parts_of_operands q k more) (n + 1) (suc n) (more_by_one n) (fine_right (parts_of_expression (child q n) e) (parts_of_operands q (n + 1) more) fine)))

      tail_lost : (t : Tail S) (n : ℕ) (q : CallRef) (g : Gone) → Agrees spots q g → Fine (parts_of_tail q n t)
          → tail_without bare gone (tail_placed q n t) ≡ cut.tail_without g n (erase_tail t)
      tail_lost (method s f (listing r trailing list)) n q g agrees fine =
          ap (λ xs. method tt (erase_name f) (listing tt trailing xs)) (quiet_lost nothing list n q g agrees (inl refl) fine)
      tail_lost (index s e) n q g agrees fine = ap (index tt) (expression_lost e (child q n) (from_child n g) (child_agrees q g n agrees) fine)

      tails_lost : (ts : Tails S) (n : ℕ) (q : CallRef) (g : Gone) → Agrees spots q g → Fine (parts_of_tails q n ts)
          → tails_without bare gone (tails_placed q n ts) ≡ cut.tails_without g n (erase_tails ts)
      tails_lost no_tails n q g agrees fine = refl
      tails_lost (tail t more) n q g agrees fine =
          ap₂ tail (tail_lost t n q g agrees (fine_left (parts_of_tail q n t) (parts_of_tails q (n + tail_child_count t) more) fine))
          (tails_lost more (n + tail_child_count t) q g agrees (fine_right (parts_of_tail q n t) (parts_of_tails q (n + tail_child_count t) more) fine)
          ∙ ap (λ k. cut.tails_without g (n + k) (erase_tails more)) (sym (tail_counted t)))

      listing_lost : (m : Loses) (l : Listing S) (q : CallRef) (g : Gone) → Agrees spots q g → ListingMayGo m (λ k. goes spots q k) l → Fine (parts_of_listing q 0 l)
          → listing_without bare gone m (listing_placed q l) ≡ cut.listing_without g (erase_listing l)
      listing_lost m (listing s trailing list) q g agrees fits fine =
          ap (λ xs. listing tt (comma_left trailing xs) xs)
          (elements_lost m list 0 q g (λ k. goes spots q k) agrees (λ k. ap (goes spots q) (zero_plus k)) fits fine)
          ∙ comma trailing (erase_arguments list) (but (λ k. goes spots q k) (cut.arguments_without g 0 (erase_arguments list)))
          ∙ ap (λ d. with_elements (listing tt trailing (erase_arguments list)) (but d (cut.arguments_without g 0 (erase_arguments list)))) (sym (fun_ext (λ k. here_agrees q g k agrees)))

      -- of a list from which nothing more goes
      quiet_lost : (m : Loses) (list : Arguments S) (n : ℕ) (q : CallRef) (g : Gone) → Agrees spots q g → Quiet m q n → Fine (parts_of_arguments q n list)
          → arguments_without bare gone m (arguments_placed q n list) ≡ arguments_of (cut.arguments_without g n (erase_arguments list))
      quiet_lost m no_arguments n q g agrees quiet fine = refl
      quiet_lost m (argument (plain e) more) n q g agrees quiet fine =
          put (may_go m (literal_goes gone (literal_in (expression_placed (child q n) e)))) false (quiet_test m q n e quiet)
          (plain (ew e (child q n))) (plain (cutting (from_child n g) e))
          (ap {B = Argument Nowhere} plain (expression_lost e (child q n) (from_child n g) (child_agrees q g n agrees) (fine_left (parts_of_expression (child q n) e) (parts_of_arguments q (n + 1) more) fine)))
          (arguments_without bare gone (after_unnamed m) (arguments_placed q (suc n) more)) (cut.arguments_without g (suc n) (erase_arguments more))
          (quiet_lost (after_unnamed m) more (suc n) q g agrees (quiet_unnamed m q (suc n) (quiet_more m q n quiet)) (one_more e n q more fine))
      quiet_lost m (argument (named s x e) more) n q g agrees quiet fine =
          put (may_go m false) false (may_not m)
          (named tt (erase_name x) (ew e (child q n))) (named tt (erase_name x) (cutting (from_child n g) e))
          (ap (named tt (erase_name x)) (expression_lost e (child q n) (from_child n g) (child_agrees q g n agrees) (fine_left (parts_of_expression (child q n) e) (parts_of_arguments q (n + 1) more) fine)))
          (arguments_without bare gone m (arguments_placed q (suc n) more)) (cut.arguments_without g (suc n) (erase_arguments more))
          (quiet_lost m more (suc n) q g agrees (quiet_more m q n quiet) (one_more e n q more fine))
      quiet_lost m (argument (pair s e f) more) n q g agrees quiet fine =
          put (may_go m false) false (may_not m)
          (pair tt (ew e (child q n)) (ew f (child q (suc n)))) (pair tt (cutting (from_child n g) e) (cutting (from_child (suc n) g) f))
          (ap₂ (pair tt) (expression_lost e (child q n) (from_child n g) (child_agrees q g n agrees) (key_fine e f n q more fine)) (expression_lost f (child q (suc n)) (from_child (suc n) g) (child_agrees q g (suc n) agrees) (value_fine e f n q more fine)))
          (arguments_without bare gone m (arguments_placed q (suc (suc n)) more)) (cut.arguments_without g (suc (suc n)) (erase_arguments more))
          (quiet_lost m more (suc (suc n)) q g agrees (quiet_more m q (suc n) (quiet_more m q n quiet)) (two_more e f n q more fine))

      elements_lost : (m : Loses) (list : Arguments S) (n : ℕ) (q : CallRef) (g : Gone) (d : ℕ → Bool) → Agrees spots q g → ((k : ℕ) → d k ≡ goes spots q (n + k))
          → ElementsMayGo m d list → Fine (parts_of_arguments q n list)
          → arguments_without bare gone m (arguments_placed q n list) ≡ arguments_of (but d (cut.arguments_without g n (erase_arguments list)))
      elements_lost m no_arguments n q g d agrees number elements fine = refl
      elements_lost m (argument (plain e) more) n q g d agrees number elements fine =
          put (may_go m (literal_goes gone (literal_in (expression_placed (child q n) e)))) (d 0)
          (drop_test m e (child q n) (d 0) (spot_here spots q n ∙ sym (number 0 ∙ ap (goes spots q) (plus_zero n))) elements.0)
          (plain (ew e (child q n))) (plain (cutting (from_child n g) e))
          (ap {B = Argument Nowhere} plain (expression_lost e (child q n) (from_child n g) (child_agrees q g n agrees) (fine_left (parts_of_expression (child q n) e) (parts_of_arguments q (n + 1) more) fine)))
          (arguments_without bare gone (after_unnamed m) (arguments_placed q (suc n) more)) (but (λ k. d (suc k)) (cut.arguments_without g (suc n) (erase_arguments more)))
          (elements_lost (after_unnamed m) more (suc n) q g (λ k. d (suc k)) agrees (λ k. number (suc k) ∙ ap (goes spots q) (next_step n k)) elements.1 (one_more e n q more fine))
      elements_lost m (argument (named s x e) more) n q g d agrees number elements fine =
          put (may_go m false) (d 0) (may_not m ∙ sym elements.0)
          (named tt (erase_name x) (ew e (child q n))) (named tt (erase_name x) (cutting (from_child n g) e))
          (ap (named tt (erase_name x)) (expression_lost e (child q n) (from_child n g) (child_agrees q g n agrees) (fine_left (parts_of_expression (child q n) e) (parts_of_arguments q (n + 1) more) fine)))
          (arguments_without bare gone m (arguments_placed q (suc n) more)) (but (λ k. d (suc k)) (cut.arguments_without g (suc n) (erase_arguments more)))
          (elements_lost m more (suc n) q g (λ k. d (suc k)) agrees (λ k. number (suc k) ∙ ap (goes spots q) (next_step n k)) elements.1 (one_more e n q more fine))
      elements_lost m (argument (pair s e f) more) n q g d agrees number elements fine =
          put (may_go m false) false (may_not m)
          (pair tt (ew e (child q n)) (ew f (child q (suc n)))) (pair tt (cutting (from_child n g) e) (cutting (from_child (suc n) g) f))
          (ap₂ (pair tt) (expression_lost e (child q n) (from_child n g) (child_agrees q g n agrees) (key_fine e f n q more fine)) (expression_lost f (child q (suc n)) (from_child (suc n) g) (child_agrees q g (suc n) agrees) (value_fine e f n q more fine)))
          (arguments_without bare gone m (arguments_placed q (suc (suc n)) more)) (cut.arguments_without g (suc (suc n)) (erase_arguments more))
          (quiet_lost m more (suc (suc n)) q g agrees (quiet_more m q (suc n) (quiet_more m q n (inr (λ k. sym (number k) ∙ elements k)))) (two_more e f n q more fine))
          ∙ ap arguments_of (sym (but_none d elements (cut.arguments_without g n (erase_arguments (argument (pair s e f) more)))))

    -- ---- statements

    names_lost : (q : CallRef) (xs : List (Name S)) → map (name_as bare gone) (map (name_placed q) xs) ≡ erase_names xs
    names_lost q [] = refl
    names_lost q (x ∷ xs) = ap (λ ys. erase_name x ∷ ys) (names_lost q xs)

    mutual
      statement_lost : (s : Statement S) (q : CallRef) (g : Gone) → Agrees spots q g → Fine (parts_of_statement q s)
          → statement_without bare gone (statement_placed q s) ≡ cut.statement_without g (erase_statement s)
      statement_lost (evaluate e) q g agrees fine = ap evaluate (expression_lost e (child q 0) (from_child 0 g) (child_agrees q g 0 agrees) fine.1)
      statement_lost (assign s x a e) q g agrees fine = ap (assign tt (erase_name x) a) (expression_lost e (child q 0) (from_child 0 g) (child_agrees q g 0 agrees) fine.1)
      statement_lost (selection s bs o) q g agrees fine =
          ap₂ (selection tt) (branches_lost bs 0 q g agrees (fine_left (parts_of_branches q 0 bs) (parts_of_otherwise q (branches_child_count bs) o) fine.1))
          (otherwise_lost o (branches_child_count bs) q g agrees (fine_right (parts_of_branches q 0 bs) (parts_of_otherwise q (branches_child_count bs) o) fine.1)
          ∙ ap (λ k. cut.otherwise_without g k (erase_otherwise o)) (sym (branches_counted bs)))
      statement_lost (iteration s xs e b) q g agrees fine =
          ap (λ ys. iteration tt ys (ew e (child q 0)) (block_without bare gone (block_placed (child q 1) b))) (names_lost q xs)
          ∙ ap₂ (iteration tt (erase_names xs)) (expression_lost e (child q 0) (from_child 0 g) (child_agrees q g 0 agrees) (fine_left (parts_of_expression (child q 0) e) (parts_of_block (child q 1) b) fine.1))
          (block_lost b (child q 1) (from_child 1 g) (child_agrees q g 1 agrees) (fine_right (parts_of_expression (child q 0) e) (parts_of_block (child q 1) b) fine.1))
      statement_lost (breaks s) q g agrees fine = refl
      statement_lost (continues s) q g agrees fine = refl

      branches_lost : (bs : Branches S) (n : ℕ) (q : CallRef) (g : Gone) → Agrees spots q g → Fine (parts_of_branches q n bs)
          → branches_without bare gone (branches_placed q n bs) ≡ cut.branches_without g n (erase_branches bs)
      branches_lost no_branches n q g agrees fine = refl
      branches_lost (branch e b more) n q g agrees fine =
          let later = fine_right (parts_of_expression (child q n) e) (parts_of_block (child q (n + 1)) b ++ parts_of_branches q (n + 2) more) fine in
          let inner = fine_next (λ k. parts_of_block (child q k) b) (n + 1) (suc n) (more_by_one n) (fine_left (parts_of_block (child q (n + 1)) b) (parts_of_branches q (n + 2) more) later) in
          let others = fine_next (λ k. parts_of_branches q k more) (n + 2) (suc (suc n)) (more_by_two n) (fine_right (parts_of_block (child q (n + 1)) b) (parts_of_branches q (n + 2) more) later) in
          ap (λ f. branch f (block_without bare gone (block_placed (child q (suc n)) b)) (branches_without bare gone (branches_placed q (suc (suc n)) more)))
          (expression_lost e (child q n) (from_child n g) (child_agrees q g n agrees) (fine_left (parts_of_expression (child q n) e) (parts_of_block (child q (n + 1)) b ++ parts_of_branches q (n + 2) more) fine))
          ∙ ap₂ (branch (cutting (from_child n g) e)) (block_lost b (child q (suc n)) (from_child (suc n) g) (child_agrees q g (suc n) agrees) inner) (branches_lost more (suc (suc n)) q g agrees others)

      otherwise_lost : (o : Otherwise S) (n : ℕ) (q : CallRef) (g : Gone) → Agrees spots q g → Fine (parts_of_otherwise q n o)
          → otherwise_without bare gone (otherwise_placed q n o) ≡ cut.otherwise_without g n (erase_otherwise o)
      otherwise_lost nothing_else n q g agrees fine = refl
      otherwise_lost (otherwise b) n q g agrees fine = ap otherwise (block_lost b (child q n) (from_child n g) (child_agrees q g n agrees) fine)

      statements_lost : (ss : Statements S) (n : ℕ) (q : CallRef) (g : Gone) → Agrees spots q g → Fine (parts_of_statements q n ss)
          → statements_without bare gone (statements_placed q n ss) ≡ cut.statements_without g n (erase_statements ss)
      statements_lost no_statements n q g agrees fine = refl
      statements_lost (statement s more) n q g agrees fine =
          ap₂ statement (statement_lost s (child q n) (from_child n g) (child_agrees q g n agrees) (fine_left (parts_of_statement (child q n) s) (parts_of_statements q (n + 1) more) fine))
          (statements_lost more (suc n) q g agrees
          (fine_next (λ k. parts_of_statements q k more) (n + 1) (suc n) (more_by_one n) (fine_right (parts_of_statement (child q n) s) (parts_of_statements q (n + 1) more) fine)))

      block_lost : (b : Block S) (q : CallRef) (g : Gone) → Agrees spots q g → Fine (parts_of_block q b) → block_without bare gone (block_placed q b) ≡ cut.block_without g (erase_block b)
      block_lost (block s list) q g agrees fine = ap (block tt) (statements_lost list 0 q g agrees fine)

    -- ---- files

    tree_lost : (t : File S) (n : ℕ) (g : Gone) → Agrees spots (place n []) g → Fine (parts_of_file n t) → tree_without bare gone (tree_placed n t) ≡ cut.tree_without g (erase t)
    tree_lost (file s b) n g agrees fine = ap (file tt) (block_lost b (place n []) g agrees fine)

    trees_lost : (p : Project S) (n : ℕ) (gs : ℕ → Gone) → ((k : ℕ) → Agrees spots (place (n + k) []) (gs k)) → Fine (parts_from n p)
        → trees (map (file_without bare gone) (placed_from n p)) ≡ each_without gs (bare_trees p)
    trees_lost [] n gs agrees fine = refl
    trees_lost (f ∷ files) n gs agrees fine =
        ap₂ (λ t ts. t ∷ ts)
        (tree_lost f.tree n (gs 0) (subst (λ m. Agrees spots (place m []) (gs 0)) (plus_zero n) (agrees 0)) (fine_left (parts_of_file n f.tree) (parts_from (n + 1) files) fine))
        (trees_lost files (suc n) (λ k. gs (suc k)) (λ k. subst (λ m. Agrees spots (place m []) (gs (suc k))) (next_step n k) (agrees (suc k)))
        (fine_next (λ k. parts_from k files) (n + 1) (suc n) (more_by_one n) (fine_right (parts_of_file n f.tree) (parts_from (n + 1) files) fine)))

    names_from : (p : Project S) (n : ℕ) → names (map (file_without bare gone) (placed_from n p)) ≡ names p
    names_from [] n = refl
    names_from (f ∷ files) n = ap (λ xs. f.name ∷ xs) (names_from files (suc n))

    pub names_kept : (p : Project S) → names (map (file_without bare gone) (placed_from 0 p)) ≡ names p
    names_kept p = names_from p 0

    pub all_lost : (p : Project S) → Every (PartFits spots) (parts p) → trees (map (file_without bare gone) (placed_from 0 p)) ≡ trees_without spots (bare_trees p)
    all_lost p fine =
        trees_lost p 0 (λ n path k. goes spots (place n path) k) (λ k. record { at_path = λ path i. ap (λ n. goes spots (place n path) i) (zero_plus k) }) fine
