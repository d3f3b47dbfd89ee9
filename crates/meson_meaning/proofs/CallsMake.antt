-- Targets are made by calls, of the literals that stand in these.
use Rattle.std.proofs.Common.{◌≡◌, ℕ, suc, ◌+◌, List, [], ◌∷◌, ◌++◌, Option, Some, None, refl, sym, subst}
use Rattle.std.specs.Prelude.{Bool, true, false, flat_map, if◌then◌else◌}
use Rattle.std.specs.List.{All, Contains}
use Rattle.std.proofs.lemmas.List.Elements.{All-append, All-cons, All-contains_itself, All-nil, All-weaker, Contains-append_left, Contains-append_right}
use Rattle.meson_lex.specs.declared.kinds.Span.{Span}
use Rattle.meson_syntax.specs.declared.operator.Operator.{Operator}
use Rattle.meson_syntax.specs.Tree.{Expression, identifier, boolean, integer, string, paren, array, dictionary, call, unary, row, postfix, conditional, Operands, no_operands, operand, Tail, method, index, Tails, no_tails, tail, listing, plain, named, pair, Arguments, no_arguments, argument}
use Rattle.meson_syntax.proofs.paths.Every.{Every, every-append}
use Rattle.meson_calls.specs.declared.call.CallRef.{CallRef}
use Rattle.meson_calls.specs.declared.call.Role.TheVariants as role
use Rattle.meson_calls.specs.Calls.{call_of}
use Rattle.meson_calls.specs.Parts.{Part, an_expression, a_statement, parts_of_arguments, parts_of_expression, parts_of_operands, parts_of_tail, parts_of_tails, tail_child_count}
use Rattle.meson_calls.specs.Project.{Placed, Project, child, expression_at}
use Rattle.meson_calls.specs.Roles.{has_role, one_of}
use Rattle.meson_variables.specs.Expansion.{are_plus, is_files}
use Rattle.meson_meaning.specs.Expressions.{Sort, builtin_objects, call_with, called, eval, eval_arguments, eval_operands, eval_sum, eval_tail, eval_tails, is_logical, literal_in, making, may_end, named_atoms, of_another, of_files, of_target, sort_by, sort_of, sources_of, sum, unnamed_atoms, used_in, after_first, literal_at}
use Rattle.meson_meaning.specs.Placing.{arguments_placed, expression_placed, listing_placed, operands_placed, tail_placed, tails_placed}
use Rattle.meson_meaning.specs.States.{Choices, Going, State, and_then, asks, chosen, on, with_use}
use Rattle.meson_meaning.specs.Values.{Atom, Given, Literal, Value, a_named, an_entry, atoms_of, element, elements_of, given, several, values_of}
use Rattle.meson_meaning.specs.Written.{IsMadeByCall, literal_element, literals_behind, literals_in, IsReal}
use Rattle.meson_meaning.proofs.RealValues.{Real, RealGiven, RealLiteral, elements_real, folders_real, given_real, sources_real}
use Rattle.meson_lex.specs.Literals.{value}
use Rattle.meson_syntax.specs.declared.operator.StringKind.{StringKind}
use Rattle.meson_syntax.specs.Operators.{string_kind}
use Rattle.meson_meaning.proofs.Keeping.{Any, Keeps, another_keeps, keeps_asks, keeps_chosen, keeps_if, keeps_on, keeps_step, keeps_then, read_keeps, sum_keeps, used_keeps}
use Rattle.meson_meaning.proofs.PlacedCalls.{sort_placed}
use Rattle.meson_meaning.proofs.SpotsLost.{left, more_by_one, more_by_two, right}

-- ---- what is given by arguments

-- an argument is given by a value, as a literal if it is one
abbrev IsGiven : {S : Type 0} → (Value S → Given S) → Given S → Type 0
IsGiven {S} form g = (v : Value S) × (g ≡ form v)

abbrev IsEntry : {S : Type 0} → Given S → Type 0
IsEntry {S} g = (v : Value S) × (w : Value S) × (g ≡ an_entry v w)

abbrev pub AreGiven : {S : Type 0} → Arguments S → List (Given S) → Type 0
AreGiven no_arguments gs = Unit {0}
AreGiven (argument a more) [] = ⊥
AreGiven (argument (plain e) more) (g ∷ gs) = IsGiven (given (literal_in e)) g × AreGiven more gs
AreGiven (argument (named s x e) more) (g ∷ gs) = IsGiven (a_named x.text) g × AreGiven more gs
AreGiven (argument (pair s e f) more) (g ∷ gs) = IsEntry g × AreGiven more gs

module _ {S : Type 0} where
  behind : (xs ys zs : List (Atom S)) → All (Contains ys) zs → All (Contains (xs ++ ys)) zs
  behind xs ys zs all = All-weaker (Contains ys) (Contains (xs ++ ys)) (λ z there. Contains-append_right xs ys z there) zs all

  before : (xs ys zs : List (Atom S)) → All (Contains xs) zs → All (Contains (xs ++ ys)) zs
  before xs ys zs all = All-weaker (Contains xs) (Contains (xs ++ ys)) (λ z there. Contains-append_left xs ys z there) zs all

  one_literal : (o : Option (Literal S)) (v : Value S) → All (Contains (unnamed_atoms (given o v))) (literal_element o)
  one_literal None v = All-nil (Contains (atoms_of v))
  one_literal (Some l) v = All-contains_itself (element l None ∷ [])

  literals_given : (list : Arguments S) (gs : List (Given S)) → AreGiven list gs → All (Contains (flat_map unnamed_atoms gs)) (literals_in list)
  literals_given no_arguments gs are = All-nil (Contains (flat_map unnamed_atoms gs))
  literals_given (argument a more) [] are = absurd are
  literals_given (argument (plain e) more) (g ∷ gs) are =
      let form = given (literal_in e) are.0.0 in
      let rest = flat_map unnamed_atoms gs in
      subst (λ h. All (Contains (unnamed_atoms h ++ rest)) (literal_element (literal_in e) ++ literals_in more)) (sym are.0.1)
      (All-append (Contains (unnamed_atoms form ++ rest)) (literal_element (literal_in e)) (literals_in more)
      (before (unnamed_atoms form) rest (literal_element (literal_in e)) (one_literal (literal_in e) are.0.0)) (behind (unnamed_atoms form) rest (literals_in more) (literals_given more gs are.1)))
  literals_given (argument (named s x e) more) (g ∷ gs) are =
      subst (λ h. All (Contains (unnamed_atoms h ++ flat_map unnamed_atoms gs)) (literals_in more)) (sym are.0.1) (literals_given more gs are.1)
  literals_given (argument (pair s e f) more) (g ∷ gs) are =
      subst (λ h. All (Contains (unnamed_atoms h ++ flat_map unnamed_atoms gs)) (literals_in more)) (sym are.0.2) (literals_given more gs are.1)

  after_given : (o : Option (Literal S)) (v : Value S) (gs : List (Given S)) → after_first (given o v ∷ gs) ≡ gs
  after_given None v gs = refl
  after_given (Some l) v gs = refl

  abbrev BehindGiven : Arguments S → List (Given S) → Type 0
  BehindGiven list gs = All (Contains (flat_map unnamed_atoms (after_first gs))) (literals_behind list)

  behind_given : (list : Arguments S) (gs : List (Given S)) → AreGiven list gs → BehindGiven list gs
  behind_given no_arguments gs are = All-nil (Contains (flat_map unnamed_atoms (after_first gs)))
  behind_given (argument a more) [] are = absurd are
  behind_given (argument (plain e) more) (g ∷ gs) are =
      subst (λ h. All (Contains (flat_map unnamed_atoms (after_first (h ∷ gs)))) (literals_in more)) (sym are.0.1)
      (subst (λ hs. All (Contains (flat_map unnamed_atoms hs)) (literals_in more)) (sym (after_given (literal_in e) are.0.0 gs)) (literals_given more gs are.1))
  behind_given (argument (named s x e) more) (g ∷ gs) are =
      subst (λ h. All (Contains (flat_map unnamed_atoms (after_first (h ∷ gs)))) (literals_behind more)) (sym are.0.1) (behind_given more gs are.1)
  behind_given (argument (pair s e f) more) (g ∷ gs) are =
      subst (λ h. All (Contains (flat_map unnamed_atoms (after_first (h ∷ gs)))) (literals_behind more)) (sym are.0.2) (behind_given more gs are.1)

  sources_given : (list : Arguments S) (gs : List (Given S)) → AreGiven list gs → All (Contains (sources_of gs)) (literals_behind list)
  sources_given list gs are = before (flat_map unnamed_atoms (after_first gs)) (flat_map named_atoms gs) (literals_behind list) (behind_given list gs are)

all_of : {X : Type 0} (P : X → Type 0) (xs : List X) → Every P xs → All P xs
all_of P [] all = All-nil P
all_of P (x ∷ xs) all = All-cons P x xs all.0 (all_of P xs all.1)

role_is : (files target : Bool) → sort_by files target ≡ of_target → target ≡ true
role_is true target is = absurd cc
role_is false true is = refl
role_is false false is = absurd cc

-- ---- evaluation

module _ (p : Project Span) (ch : Choices) (n : ℕ) where
  -- an expression among the parts stands at its place
  abbrev pub StandsThere : CallRef → Part Span → Type 0
  StandsThere q (an_expression e) = expression_at p q ≡ Some e
  StandsThere q (a_statement s) = Unit {0}

  abbrev pub PartStands : Placed (Part Span) → Type 0
  PartStands x = StandsThere x.place x.it

  abbrev pub Stand : List (Placed (Part Span)) → Type 0
  Stand qs = Every PartStands qs

  stand_left : (xs ys : List (Placed (Part Span))) → Stand (xs ++ ys) → Stand xs
  stand_left xs ys stand = left PartStands xs ys stand

  stand_right : (xs ys : List (Placed (Part Span))) → Stand (xs ++ ys) → Stand ys
  stand_right xs ys stand = right PartStands xs ys stand

  stand_next : (of : ℕ → List (Placed (Part Span))) (m k : ℕ) → m ≡ k → Stand (of m) → Stand (of k)
  stand_next of m k is stand = subst (λ i. Stand (of i)) is stand

  abbrev Gives : (State CallRef → Going CallRef (Value CallRef)) → Type 0
  Gives m = Keeps p (Real p) m

  abbrev List_of : (State CallRef → Going CallRef (List (Value CallRef))) → Type 0
  List_of m = Keeps p (Any p) m

  -- ---- literals

  literal_real : (q : CallRef) (s : Span) (k : StringKind) (x : List ℕ) → expression_at p q ≡ Some (string s k x) → RealLiteral p (literal_at q (value (string_kind k) x))
  literal_real q s k x stands = go (value (string_kind k) x) refl
    where
      go : (o : Option (List ℕ)) → value (string_kind k) x ≡ o → RealLiteral p (literal_at q o)
      go None is = tt
      go (Some t) is = record { expression = string s k x; stands = stands; is_text = is }

  itself_stands : (e : Expression Span) (q : CallRef) → Stand (parts_of_expression q e) → expression_at p q ≡ Some e
  itself_stands (identifier s x) q stand = stand.0
  itself_stands (boolean s b) q stand = stand.0
  itself_stands (integer s x) q stand = stand.0
  itself_stands (string s k x) q stand = stand.0
  itself_stands (paren s e) q stand = stand.0
  itself_stands (array l) q stand = stand.0
  itself_stands (dictionary l) q stand = stand.0
  itself_stands (call s f l) q stand = stand.0
  itself_stands (unary s o e) q stand = stand.0
  itself_stands (row s e os) q stand = stand.0
  itself_stands (postfix s e ts) q stand = stand.0
  itself_stands (conditional s c y m) q stand = stand.0

  placed_real : (e : Expression Span) (q : CallRef) → expression_at p q ≡ Some e → RealLiteral p (literal_in (expression_placed q e))
  placed_real (string s k x) q stands = literal_real q s k x stands
  placed_real (identifier s x) q stands = tt
  placed_real (boolean s b) q stands = tt
  placed_real (integer s x) q stands = tt
  placed_real (paren s e) q stands = tt
  placed_real (array l) q stands = tt
  placed_real (dictionary l) q stands = tt
  placed_real (call s f l) q stands = tt
  placed_real (unary s o e) q stands = tt
  placed_real (row s e os) q stands = tt
  placed_real (postfix s e ts) q stands = tt
  placed_real (conditional s c y m) q stands = tt

  -- ---- calls

  abbrev pub AllGiven : Arguments CallRef → List (Given CallRef) → Type 0
  AllGiven list gs = AreGiven list gs × Every (RealGiven p) gs

  called_keeps : (q : CallRef) (f : List ℕ) (it : Expression Span) (r : Span) (trailing : Bool) (list : Arguments Span) → n ≡ q.file → expression_at p q ≡ Some it
      → (call_of it ≡ Some (call_with f (listing r trailing list))) → (sort : Sort) → sort_of (call_with f (listing r trailing list)) ≡ sort → (gs : List (Given CallRef))
      → AllGiven (arguments_placed q 0 list) gs → Gives (called ch n q (call_with f (listing_placed q (listing r trailing list))) sort gs)
  called_keeps q f it r trailing list here stands is_call of_files is gs are = record { at_state = λ st good. (folders_real p n (flat_map elements_of gs) (elements_real p gs are.1), good) }
  called_keeps q f it r trailing list here stands is_call of_target is gs are = record {
    at_state = λ st good. (
      tt,
      (
        every-append (IsMadeByCall p) st.made (making n q gs ∷ []) good.0 (
          record {
            expression = it;
            stands = stands;
            call = call_with f (listing r trailing list);
            is_call = is_call;
            is_target = role_is (is_files f (listing r trailing list)) (has_role role.Target (call_with f (listing r trailing list))) is;
            same_file = here;
            written = sources_given (arguments_placed q 0 list) gs are.0;
            real = all_of (IsReal p) (sources_of gs) (sources_real p gs are.1);
          },
          tt,
        ),
        good.1,
      ),
    );
  }
  called_keeps q f it r trailing list here stands is_call of_another is gs are =
      keeps_step p (with_use q (flat_map values_of gs)) (λ st good. good) (another_keeps p ch (call_with f (listing_placed q (listing r trailing list))))

  end_keeps : (o : Operator) (m : State CallRef → Going CallRef (List (Value CallRef))) → List_of m → List_of (may_end ch o [] m)
  end_keeps o m keeps = keeps_if p (is_logical o) (keeps_asks p ch (λ a. chosen a m (on [])) (λ a. keeps_chosen p a keeps (keeps_on p (Any p) [] tt))) keeps

  -- ---- expressions

  abbrev ev : Expression Span → CallRef → State CallRef → Going CallRef (Value CallRef)
  ev e q = eval ch n (expression_placed q e)

  abbrev evs : Arguments Span → ℕ → CallRef → State CallRef → Going CallRef (List (Given CallRef))
  evs list k q = eval_arguments ch n (arguments_placed q k list)

  mutual
    pub expression_keeps : (e : Expression Span) (q : CallRef) → n ≡ q.file → Stand (parts_of_expression q e) → Gives (ev e q)
    expression_keeps (identifier s x) q here stand = record { at_state = λ st good. read_keeps p (one_of builtin_objects x) (st.variables x) st (good.1 x) good }
    expression_keeps (boolean s b) q here stand = record { at_state = λ st good. (tt, good) }
    expression_keeps (integer s x) q here stand = record { at_state = λ st good. (tt, good) }
    expression_keeps (string s k x) q here stand = record { at_state = λ st good. (literal_real q s k x stand.0, good) }
    expression_keeps (paren s e) q here stand = expression_keeps e (child q 0) here stand.1
    expression_keeps (array (listing r trailing list)) q here stand =
        keeps_then p (λ gs. on (several (flat_map elements_of gs))) (arguments_keep list 0 q here stand.1) (λ gs are. keeps_on p (Real p) (several (flat_map elements_of gs)) (elements_real p gs are.1))
    expression_keeps (dictionary (listing r trailing list)) q here stand =
        keeps_then p (λ gs. used_in q (flat_map values_of gs)) (arguments_keep list 0 q here stand.1) (λ gs are. used_keeps p q (flat_map values_of gs))
    expression_keeps (call s f (listing r trailing list)) q here stand =
        let c = call_with f.text (listing_placed q (listing r trailing list)) in
        keeps_then p (called ch n q c (sort_of c)) (arguments_keep list 0 q here stand.1)
        (λ gs are. called_keeps q f.text (call s f (listing r trailing list)) r trailing list here stand.0 refl (sort_of c) (sym (sort_placed f.text q (listing r trailing list))) gs are)
    expression_keeps (unary s o e) q here stand =
        keeps_then p (λ v. used_in q (v ∷ [])) (expression_keeps e (child q 0) here stand.1) (λ v any. used_keeps p q (v ∷ []))
    expression_keeps (row s e os) q here stand =
        keeps_then p
        (λ v now. if are_plus (operands_placed q 1 os) then eval_sum ch n (operands_placed q 1 os) v now else and_then (eval_operands ch n (operands_placed q 1 os) now) (λ vs. used_in q (v ∷ vs)))
        (expression_keeps e (child q 0) here (stand_left (parts_of_expression (child q 0) e) (parts_of_operands q 1 os) stand.1))
        (λ v any. keeps_if p (are_plus (operands_placed q 1 os)) (sums_keep os v any 1 q here (stand_right (parts_of_expression (child q 0) e) (parts_of_operands q 1 os) stand.1))
        (keeps_then p (λ vs. used_in q (v ∷ vs)) (operands_keep os 1 q here (stand_right (parts_of_expression (child q 0) e) (parts_of_operands q 1 os) stand.1)) (λ vs any. used_keeps p q (v ∷ vs))))
    expression_keeps (postfix s e ts) q here stand =
        keeps_then p (λ v now. and_then (eval_tails ch n (tails_placed q 1 ts) now) (λ vs. used_in q (v ∷ vs)))
        (expression_keeps e (child q 0) here (stand_left (parts_of_expression (child q 0) e) (parts_of_tails q 1 ts) stand.1))
        (λ v any. keeps_then p (λ vs. used_in q (v ∷ vs)) (tails_keep ts 1 q here (stand_right (parts_of_expression (child q 0) e) (parts_of_tails q 1 ts) stand.1)) (λ vs any. used_keeps p q (v ∷ vs)))
    expression_keeps (conditional s c y m) q here stand =
        let later = stand_right (parts_of_expression (child q 0) c) (parts_of_expression (child q 1) y ++ parts_of_expression (child q 2) m) stand.1 in
        keeps_then p (λ v now. asks ch (λ a. chosen a (ev y (child q 1)) (ev m (child q 2))) (with_use q (v ∷ []) now))
        (expression_keeps c (child q 0) here (stand_left (parts_of_expression (child q 0) c) (parts_of_expression (child q 1) y ++ parts_of_expression (child q 2) m) stand.1))
        (λ v any. keeps_step p (with_use q (v ∷ [])) (λ st good. good)
        (keeps_asks p ch (λ a. chosen a (ev y (child q 1)) (ev m (child q 2)))
        (λ a. keeps_chosen p a (expression_keeps y (child q 1) here (stand_left (parts_of_expression (child q 1) y) (parts_of_expression (child q 2) m) later))
        (expression_keeps m (child q 2) here (stand_right (parts_of_expression (child q 1) y) (parts_of_expression (child q 2) m) later)))))

    sums_keep : (os : Operands Span) (v : Value CallRef) → Real p v → (k : ℕ) (q : CallRef) → n ≡ q.file → Stand (parts_of_operands q k os) → Gives (eval_sum ch n (operands_placed q k os) v)
    sums_keep no_operands v real k q here stand = record { at_state = λ st good. (real, good) }
    sums_keep (operand o e more) v real k q here stand =
        keeps_then p (λ w now. and_then (sum ch v w now) (λ u after. eval_sum ch n (operands_placed q (suc k) more) u after))
        (expression_keeps e (child q k) here (stand_left (parts_of_expression (child q k) e) (parts_of_operands q (k + 1) more) stand))
        (λ w any. keeps_then p (λ u after. eval_sum ch n (operands_placed q (suc k) more) u after) (sum_keeps p ch v w real any)
        (λ u fine. sums_keep more u fine (suc k) q here (stand_next (λ i. parts_of_operands q i more) (k + 1) (suc k) (more_by_one k) (stand_right (parts_of_expression (child q k) e) (parts_of_operands q (k + 1) more) stand))))

    operands_keep : (os : Operands Span) (k : ℕ) (q : CallRef) → n ≡ q.file → Stand (parts_of_operands q k os) → List_of (eval_operands ch n (operands_placed q k os))
    operands_keep no_operands k q here stand = record { at_state = λ st good. (tt, good) }
    operands_keep (operand o e more) k q here stand =
        end_keeps o (λ now. and_then (ev e (child q k) now) (λ v after. and_then (eval_operands ch n (operands_placed q (suc k) more) after) (λ vs. on (v ∷ vs))))
        (keeps_then p (λ v after. and_then (eval_operands ch n (operands_placed q (suc k) more) after) (λ vs. on (v ∷ vs)))
        (expression_keeps e (child q k) here (stand_left (parts_of_expression (child q k) e) (parts_of_operands q (k + 1) more) stand))
        (λ v any. keeps_then p (λ vs. on (v ∷ vs))
        (operands_keep more (suc k) q here (stand_next (λ i. parts_of_operands q i more) (k + 1) (suc k) (more_by_one k) (stand_right (parts_of_expression (child q k) e) (parts_of_operands q (k + 1) more) stand)))
        (λ vs any. keeps_on p (Any p) (v ∷ vs) tt)))

    tail_keeps : (t : Tail Span) (k : ℕ) (q : CallRef) → n ≡ q.file → Stand (parts_of_tail q k t) → List_of (eval_tail ch n (tail_placed q k t))
    tail_keeps (method s f (listing r trailing list)) k q here stand =
        keeps_then p (λ gs. on (flat_map values_of gs)) (arguments_keep list k q here stand) (λ gs are. keeps_on p (Any p) (flat_map values_of gs) tt)
    tail_keeps (index s e) k q here stand = keeps_then p (λ v. on (v ∷ [])) (expression_keeps e (child q k) here stand) (λ v any. keeps_on p (Any p) (v ∷ []) tt)

    tails_keep : (ts : Tails Span) (k : ℕ) (q : CallRef) → n ≡ q.file → Stand (parts_of_tails q k ts) → List_of (eval_tails ch n (tails_placed q k ts))
    tails_keep no_tails k q here stand = record { at_state = λ st good. (tt, good) }
    tails_keep (tail t more) k q here stand =
        keeps_then p (λ vs now. and_then (eval_tails ch n (tails_placed q (k + tail_child_count t) more) now) (λ ws. on (vs ++ ws)))
        (tail_keeps t k q here (stand_left (parts_of_tail q k t) (parts_of_tails q (k + tail_child_count t) more) stand))
        (λ vs any. keeps_then p (λ ws. on (vs ++ ws)) (tails_keep more (k + tail_child_count t) q here (stand_right (parts_of_tail q k t) (parts_of_tails q (k + tail_child_count t) more) stand))
        (λ ws any. keeps_on p (Any p) (vs ++ ws) tt))

    pub arguments_keep : (list : Arguments Span) (k : ℕ) (q : CallRef) → n ≡ q.file → Stand (parts_of_arguments q k list) → Keeps p (AllGiven (arguments_placed q k list)) (evs list k q)
    arguments_keep no_arguments k q here stand = record { at_state = λ st good. ((tt, tt), good) }
    arguments_keep (argument (plain e) more) k q here stand =
        keeps_then p (λ v now. and_then (evs more (suc k) q now) (λ gs. on (given (literal_in (expression_placed (child q k) e)) v ∷ gs)))
        (expression_keeps e (child q k) here (stand_left (parts_of_expression (child q k) e) (parts_of_arguments q (k + 1) more) stand))
        (λ v any. keeps_then p (λ gs. on (given (literal_in (expression_placed (child q k) e)) v ∷ gs))
        (arguments_keep more (suc k) q here (stand_next (λ i. parts_of_arguments q i more) (k + 1) (suc k) (more_by_one k) (stand_right (parts_of_expression (child q k) e) (parts_of_arguments q (k + 1) more) stand)))
        (λ gs are. keeps_on p (AllGiven (arguments_placed q k (argument (plain e) more))) (given (literal_in (expression_placed (child q k) e)) v ∷ gs) (((v, refl), are.0), (given_real p (literal_in (expression_placed (child q k) e)) v (placed_real e (child q k) (itself_stands e (child q k) (stand_left (parts_of_expression (child q k) e) (parts_of_arguments q (k + 1) more) stand))) any, are.1))))
    arguments_keep (argument (named s x e) more) k q here stand =
        keeps_then p (λ v now. and_then (evs more (suc k) q now) (λ gs. on (a_named x.text v ∷ gs)))
        (expression_keeps e (child q k) here (stand_left (parts_of_expression (child q k) e) (parts_of_arguments q (k + 1) more) stand))
        (λ v any. keeps_then p (λ gs. on (a_named x.text v ∷ gs))
        (arguments_keep more (suc k) q here (stand_next (λ i. parts_of_arguments q i more) (k + 1) (suc k) (more_by_one k) (stand_right (parts_of_expression (child q k) e) (parts_of_arguments q (k + 1) more) stand)))
        (λ gs are. keeps_on p (AllGiven (arguments_placed q k (argument (named s x e) more))) (a_named x.text v ∷ gs) (((v, refl), are.0), (any, are.1))))
    arguments_keep (argument (pair s e f) more) k q here stand =
        let both = parts_of_expression (child q k) e ++ parts_of_expression (child q (k + 1)) f in
        let own = stand_left both (parts_of_arguments q (k + 2) more) stand in
        keeps_then p (λ v now. and_then (ev f (child q (suc k)) now) (λ w after. and_then (evs more (suc (suc k)) q after) (λ gs. on (an_entry v w ∷ gs))))
        (expression_keeps e (child q k) here (stand_left (parts_of_expression (child q k) e) (parts_of_expression (child q (k + 1)) f) own))
        (λ v any. keeps_then p (λ w after. and_then (evs more (suc (suc k)) q after) (λ gs. on (an_entry v w ∷ gs)))
        (expression_keeps f (child q (suc k)) here (stand_next (λ i. parts_of_expression (child q i) f) (k + 1) (suc k) (more_by_one k) (stand_right (parts_of_expression (child q k) e) (parts_of_expression (child q (k + 1)) f) own)))
        (λ w any. keeps_then p (λ gs. on (an_entry v w ∷ gs))
        (arguments_keep more (suc (suc k)) q here (stand_next (λ i. parts_of_arguments q i more) (k + 2) (suc (suc k)) (more_by_two k) (stand_right both (parts_of_arguments q (k + 2) more) stand)))
        (λ gs are. keeps_on p (AllGiven (arguments_placed q k (argument (pair s e f) more))) (an_entry v w ∷ gs) (((v, w, refl), are.0), (tt, are.1)))))
