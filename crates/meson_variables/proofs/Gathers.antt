-- Marks gathered one after another.
use Rattle.meson_variables.proofs.Words.{◌≡◌, ◌≢◌, ℕ, zero, suc, ◌+◌, ◌<◌, ◌≤◌, List, [], ◌∷◌, ◌++◌, length, drop, get_or, refl, sym, ap, ◌∙◌, subst, arith}
use Rattle.meson_variables.proofs.Words.{Bool, true, false, ◌&&◌, ◌==◌, if◌then◌else◌, Option, Some, None, Result, OnOk, at_drop_more, at_drop_all, Span}
use Rattle.meson_variables.proofs.Words.{Expression, identifier, boolean, integer, string, paren, array, dictionary, call, unary, row, postfix, conditional}
use Rattle.meson_variables.proofs.Words.{Operands, no_operands, operand, operands_of, Listing, listing, Argument, plain, named, pair, Arguments, no_arguments}
use Rattle.meson_variables.proofs.Words.{argument, arguments_of, expr_view, arg_view, args_view, operand_view, operands_view, Arg, Operand, Project, Placed}
use Rattle.meson_variables.proofs.Words.{one_of, CallRef, operand_value, fixed, Mark, opaque, empty, Expansion, Stand, met, then_expand, element, operand_at}
use Rattle.meson_variables.proofs.Words.{or_empty, within, is_files, are_plus, is_list_operand, literal_item, expand_by, expand_operands, expand_listing}
use Rattle.meson_variables.proofs.Words.{follow_single, of_variable, expand, Tally, tally_and, all_marked, Gathered, expanded, with_mark, follow_of}
use Rattle.meson_variables.proofs.Words.{expand_left, single, listing_left, each_left, argument_left, operands_left, sum_left}
use Rattle.std.proofs.lemmas.Bool.Decides.{nat_tests}
use Rattle.meson_lex.specs.Literals.{value}
use Rattle.meson_syntax.specs.Operators.{string_kind}

pub all_marked-append : (t : Tally) (xs ys : List (Mark Span)) → all_marked t (xs ++ ys) ≡ all_marked (all_marked t xs) ys
all_marked-append t [] ys = refl
all_marked-append t (x ∷ xs) ys = all_marked-append (tally_and t x) xs ys

-- one thing and then another
pub expanded_twice : (g : Gathered) (first next : List (List ℕ) → Expansion Span) → expanded g (λ f. then_expand (first f) next) ≡ expanded (expanded g first) next
expanded_twice g first next =
    ap (λ t. record { tally = t; followed = (next (first g.followed).followed).followed }) (all_marked-append g.tally (first g.followed).marks (next (first g.followed).followed).marks)

-- ---- what an expansion gives by a project's variables

pub expand_follow : (p : Project Span) (left : ℕ) → expand p left ≡ expand_left p left
expand_follow p zero = refl
expand_follow p (suc left) = refl

-- ---- a list with an element gives a mark, so it is not empty

gives_within : (p : CallRef) (e : Expansion Span) → (within p e).marks ≢ []
gives_within p e = go e.marks
  where
    go : (ms : List (Mark Span)) → or_empty p ms ≢ []
    go [] = λ is. cc
    go (m ∷ ms) = λ is. cc

gives_if : (b : Bool) (x y : Expansion Span) → x.marks ≢ [] → y.marks ≢ [] → (if b then x else y).marks ≢ []
gives_if true x y a b = a
gives_if false x y a b = b

gives_literal : (at_ : Span) (s : Stand) (f : List (List ℕ)) (o : Option (List ℕ)) → (literal_item at_ s f o).marks ≢ []
gives_literal at_ s f None = λ is. cc
gives_literal at_ s f (Some text) = λ is. cc

joined_some : (xs ys : List (Mark Span)) → xs ≢ [] → xs ++ ys ≢ []
joined_some [] ys some = absurd (some refl)
joined_some (x ∷ xs) ys some = λ is. cc

module _ (is_list : Expression Span → Bool) (follow : List ℕ → List (List ℕ) → Expansion Span) (some : (x : List ℕ) (f : List (List ℕ)) → (follow x f).marks ≢ []) where
  gives_by : (e : Expression Span) (s : Stand) (f : List (List ℕ)) → (expand_by is_list follow e s f).marks ≢ []
  gives_by (string at_ q x) s f = gives_literal at_ s f (value (string_kind q) x)
  gives_by (array l) s f = gives_within s.place (expand_listing is_list follow l s f)
  gives_by (call at_ x l) s f =
      gives_if (is_files x.text l) (within s.place (expand_listing is_list follow l s f)) (met opaque f) (gives_within s.place (expand_listing is_list follow l s f)) (λ is. cc)
  gives_by (identifier at_ x) s f = gives_if (one_of f x) (met opaque f) (follow x f) (λ is. cc) (some x f)
  gives_by (boolean at_ b) s f = λ is. cc
  gives_by (integer at_ x) s f = λ is. cc
  gives_by (paren at_ e) s f = λ is. cc
  gives_by (dictionary l) s f = λ is. cc
  gives_by (unary at_ o e) s f = λ is. cc
  gives_by (row at_ e os) s f =
      let first = expand_by is_list follow e (operand_at s 0) f in
      let more : List (List ℕ) → Expansion Span = λ now. expand_operands is_list follow os 1 s now in
      gives_if (are_plus os && is_list e) (then_expand first more) (met opaque f) (joined_some first.marks (more first.followed).marks (gives_by e (operand_at s 0) f)) (λ is. cc)
  gives_by (postfix at_ e ts) s f = λ is. cc
  gives_by (conditional at_ c y n) s f = λ is. cc

module _ (p : Project Span) where
  gives_single : (left : ℕ) (x : List ℕ) (f : List (List ℕ)) (o : Option (Placed (Expression Span))) → ((y : List ℕ) (g : List (List ℕ)) → (follow_of p left y g).marks ≢ []) → (follow_single (expand_left p left) x f o).marks ≢ []
  gives_single left x f None some = λ is. cc
  gives_single left x f (Some v) some = gives_by (is_list_operand p) (follow_of p left) some v.it (of_variable x v.place) (x ∷ f)

  gives_follow : (left : ℕ) (x : List ℕ) (f : List (List ℕ)) → (follow_of p left x f).marks ≢ []
  gives_follow zero x f = λ is. cc
  gives_follow (suc left) x f =
      subst (λ inner. (follow_single inner x f (single p x)).marks ≢ []) (sym (expand_follow p left)) (gives_single left x f (single p x) (λ y g. gives_follow left y g))

  gives : (left : ℕ) (e : Expression Span) (s : Stand) (f : List (List ℕ)) → (expand_left p left e s f).marks ≢ []
  gives left e s f = gives_by (is_list_operand p) (follow_of p left) (gives_follow left) e s f

  gives_argument : (left : ℕ) (a : Argument Span) (s : Stand) (f : List (List ℕ)) → (argument_left p left a s f).marks ≢ []
  gives_argument left (plain e) s f = gives left e s f
  gives_argument left (named at_ x e) s f = λ is. cc
  gives_argument left (pair at_ e g) s f = λ is. cc

  full : (q : CallRef) (e : Expansion Span) → e.marks ≢ [] → within q e ≡ e
  full q e some = go e.marks e.followed some
    where
      go : (ms : List (Mark Span)) (f : List (List ℕ)) → ms ≢ [] → within q (record { marks = ms; followed = f }) ≡ record { marks = ms; followed = f }
      go [] f none = absurd (none refl)
      go (m ∷ ms) f none = refl

  pub full_list : (left : ℕ) (q : CallRef) (a : Argument Span) (more : Arguments Span) (n : ℕ) (s : Stand) (f : List (List ℕ)) →
      within q (each_left p left (argument a more) n s f) ≡ each_left p left (argument a more) n s f
  full_list left q a more n s f =
      full q (each_left p left (argument a more) n s f)
      (joined_some (argument_left p left a (element s n) f).marks (each_left p left more (n + 1) s (argument_left p left a (element s n) f).followed).marks
      (gives_argument left a (element s n) f))

  -- where the list itself stands does not matter to its elements
  abbrev pub at_place : Stand → Stand
  at_place s = record { place = s.place; slot = fixed; variable = s.variable }

  pub each_alike : (left : ℕ) (list : Arguments Span) (n : ℕ) (s : Stand) (f : List (List ℕ)) → each_left p left list n s f ≡ each_left p left list n (at_place s) f
  each_alike left no_arguments n s f = refl
  each_alike left (argument a more) n s f =
      let first = argument_left p left a (element s n) f in
      ap (λ e. record { marks = first.marks ++ e.marks; followed = e.followed }) (each_alike left more (n + 1) s first.followed)

  pub listing_alike : (left : ℕ) (l : Listing Span) (s : Stand) (f : List (List ℕ)) → listing_left p left l s f ≡ listing_left p left l (at_place s) f
  listing_alike left (listing at_ trailing list) s f = each_alike left list 0 s f

  operands_alike : (left : ℕ) (os : Operands Span) (n : ℕ) (s : Stand) (f : List (List ℕ)) → operands_left p left os n s f ≡ operands_left p left os n (at_place s) f
  operands_alike left no_operands n s f = refl
  operands_alike left (operand o e more) n s f =
      let first = expand_left p left e (operand_at s n) f in
      ap (λ e. record { marks = first.marks ++ e.marks; followed = e.followed }) (operands_alike left more (n + 1) s first.followed)

  pub sum_alike : (left : ℕ) (e : Expression Span) (os : Operands Span) (s : Stand) (f : List (List ℕ)) → sum_left p left e os s f ≡ sum_left p left e os (at_place s) f
  sum_alike left e os s f =
      let first = expand_left p left e (operand_at s 0) f in
      ap (λ e. record { marks = first.marks ++ e.marks; followed = e.followed }) (operands_alike left os 1 s first.followed)

  -- ---- one element after another

  abbrev pub args_left : ℕ → List ℕ → List Arg → ℕ → Stand → List (List ℕ) → Expansion Span
  args_left left source args n s = each_left p left (arguments_of (args_view source args)) n s

  pub arg_turn : (left : ℕ) (source : List ℕ) (args : List Arg) (i : ℕ) (d : Arg) (s : Stand) (before after whole : Gathered) → i < length args →
      after ≡ expanded before (argument_left p left (arg_view source (get_or args i d)) (element s i)) →
      expanded before (args_left left source (drop i args) i s) ≡ whole → expanded after (args_left left source (drop (i + 1) args) (i + 1) s) ≡ whole
  arg_turn left source args i d s before after whole inside step so_far =
      ap (λ g. expanded g (args_left left source (drop (i + 1) args) (i + 1) s)) step
      ∙ sym (expanded_twice before (argument_left p left (arg_view source (get_or args i d)) (element s i)) (args_left left source (drop (i + 1) args) (i + 1) s))
      ∙ sym (at_drop_more (λ xs. expanded before (args_left left source xs i s)) args i d inside)
      ∙ so_far

  pub no_element : (left : ℕ) (source : List ℕ) (args : List Arg) (q : CallRef) (s : Stand) (g : Gathered) → (length args == 0) ≡ true →
      expanded g (λ f. within q (args_left left source args 0 s f)) ≡ with_mark g (empty q)
  no_element left source [] q s g none = refl
  no_element left source (a ∷ args) q s g none = absurd (grind (arith, nat_tests))

  pub some_element : (left : ℕ) (source : List ℕ) (args : List Arg) (q : CallRef) (s : Stand) (f : List (List ℕ)) → (length args == 0) ≡ false →
      within q (args_left left source args 0 s f) ≡ args_left left source args 0 s f
  some_element left source [] q s f some = absurd (grind (arith, nat_tests))
  some_element left source (a ∷ args) q s f some = full_list left q (arg_view source a) (arguments_of (args_view source args)) 0 s f

  -- ---- one operand after another

  abbrev pub rest_left : ℕ → List ℕ → List Operand → ℕ → Stand → List (List ℕ) → Expansion Span
  rest_left left source rest n s = operands_left p left (operands_of (operands_view source rest)) n s

  pub operand_turn : (left : ℕ) (source : List ℕ) (rest : List Operand) (i : ℕ) (d : Operand) (s : Stand) (before after whole : Gathered) → i < length rest →
      after ≡ expanded before (expand_left p left (expr_view source (get_or rest i d).value) (operand_at s (i + 1))) →
      expanded before (rest_left left source (drop i rest) (i + 1) s) ≡ whole → expanded after (rest_left left source (drop (i + 1) rest) ((i + 1) + 1) s) ≡ whole
  operand_turn left source rest i d s before after whole inside step so_far =
      let x = get_or rest i d in
      let more = rest_left left source (drop (i + 1) rest) ((i + 1) + 1) s in
      ap (λ g. expanded g more) step
      ∙ ap (λ e. expanded (expanded before (expand_left p left e (operand_at s (i + 1)))) more) (sym (operand_value source x))
      ∙ sym (expanded_twice before (expand_left p left (operand_view source x).1 (operand_at s (i + 1))) more)
      ∙ sym (at_drop_more (λ xs. expanded before (rest_left left source xs (i + 1) s)) rest i d inside)
      ∙ so_far

  pub rest_ended : (left : ℕ) (source : List ℕ) (rest : List Operand) (i : ℕ) (s : Stand) (g whole : Gathered) → length rest ≤ i → expanded g (rest_left left source (drop i rest) (i + 1) s) ≡ whole → g ≡ whole
  rest_ended left source rest i s g whole past so_far = sym (at_drop_all (λ xs. expanded g (rest_left left source xs (i + 1) s)) rest i past) ∙ so_far

  -- ---- a variable

  pub followed_value : (k : ℕ) (x : List ℕ) (v : Placed (Expression Span)) (g : Gathered) → single p x ≡ Some v → one_of g.followed x ≡ false →
      expanded g (λ f. if one_of f x then met opaque f else follow_of p (suc k) x f)
      ≡ expanded (record { tally = g.tally; followed = x ∷ g.followed }) (expand_left p k v.it (of_variable x v.place))
  followed_value k x v g is new =
      let after : Expansion Span → Gathered = λ e. record { tally = all_marked g.tally e.marks; followed = e.followed } in
      ap (λ b. after (if b then met opaque g.followed else follow_of p (suc k) x g.followed)) new
      ∙ ap (λ o. after (follow_single (expand p k) x g.followed o)) is
      ∙ ap (λ inner. after (inner v.it (of_variable x v.place) (x ∷ g.followed))) (expand_follow p k)

-- ---- one of two

pub first_of : {X E : Type 0} (r : Result X E) (g after : Gathered) (x y : List (List ℕ) → Expansion Span) (b : Bool) → b ≡ true → OnOk r (after ≡ expanded g x) → OnOk r (after ≡ expanded g (λ f. if b then x f else y f))
first_of r g after x y true is so = so
first_of r g after x y false is so = cc

pub second_of : {X E : Type 0} (r : Result X E) (g after : Gathered) (x y : List (List ℕ) → Expansion Span) (b : Bool) → b ≡ false → OnOk r (after ≡ expanded g y) → OnOk r (after ≡ expanded g (λ f. if b then x f else y f))
second_of r g after x y true is so = cc
second_of r g after x y false is so = so
