-- What is met in an expression that stays, and in one in which another node stands.
use Rattle.meson_syntax.specs.declared.operator.Bracket.TheVariants as bracket
use Rattle.meson_syntax.specs.declared.operator.Operator.{Operator}
use Rattle.meson_sources.proofs.Words.{bytes_eq, codes, if◌then◌else◌, not, ◌&&◌, [], ap, ap₂, arith, Bool, false, List, None, Option, refl, Some, subst, suc}
use Rattle.meson_sources.proofs.Words.{sym, true, zero, ℕ, ◌+◌, ◌∙◌, ◌∷◌, ◌≡◌, ◌≤◌, value, an_expression, Any, arguments_parts, LevelArguments, LevelExpression}
use Rattle.meson_sources.proofs.Words.{LevelOperands, holds_pairs, string_kind, Argument, argument, Arguments, array, call, Expression, identifier, is_named}
use Rattle.meson_sources.proofs.Words.{Listing, listing, named, no_arguments, no_operands, Nowhere, operand, Operands, pair, plain, row, string, Bracket}
use Rattle.meson_sources.proofs.Words.{expression_parts, operands_parts, child, one_of, CallRef, are_plus, both_expanded, element, expand_argument, expand_by}
use Rattle.meson_sources.proofs.Words.{expand_each, expand_listing, expand_operands, Expansion, has_names, in_list, is_files, is_operand_by, is_plus}
use Rattle.meson_sources.proofs.Words.{literal_item, met, opaque, operand_at, Slot, Stand, list_of_slot, Differ}
use Rattle.meson_sources.proofs.met.Outcomes.{Outcome, stays, joined, nothing_both, opaque_both, outcome_within, Along, still, along_same, along_first}
use Rattle.meson_sources.proofs.met.Outcomes.{along_behind, along_within}
use Rattle.meson_sources.proofs.trees.Places.{below, below_child}
use Rattle.meson_sources.proofs.trees.Shapes.{Shape, an_array, a_call, a_leaf, another, shape, Becomes, differ_none, differ_here, differ_there}
use Rattle.meson_sources.proofs.trees.Skeletons.{blanks, list_blanks, operators, same_arguments, same_operands}

-- ==== An expression that is the same in two projects, and what is met in it where variables may stand for something else.

-- a place from which no bad list is met
module _ (new : List (List ℕ)) (bad : CallRef → Type 0) (seen : List (List ℕ) → Bool) (away : CallRef → Type 0) (deeper : (p : CallRef) (n : ℕ) → away p → away (child p n)) (apart : (p : CallRef) → away p → bad p → ⊥)
    (lists lists2 : Expression Nowhere → Bool) (alike : (e : Expression Nowhere) → lists2 e ≡ lists e) (follow follow2 : List ℕ → List (List ℕ) → Expansion Nowhere)
    (follows : (x : List ℕ) (f : List (List ℕ)) → one_of f x ≡ false → Outcome new bad seen f (follow x f) (follow2 x f)) where
  abbrev Out : List (List ℕ) → Expansion Nowhere → Expansion Nowhere → Type 0
  Out = Outcome new bad seen

  abbrev pub SlotClear : Slot → Type 0
  SlotClear slot = (q : CallRef) → list_of_slot slot ≡ Some q → bad q → ⊥

  pub slot_clear : (p : CallRef) (n : ℕ) → (bad p → ⊥) → SlotClear (in_list p n)
  slot_clear p n fine q is b = let same : p ≡ q = cc in fine (rw same b)

  -- the children from the n-th on
  abbrev pub AwayFrom : CallRef → ℕ → Type 0
  AwayFrom p n = (k : ℕ) → n ≤ k → away (child p k)

  next_away : (p : CallRef) (n : ℕ) → AwayFrom p n → AwayFrom p (n + 1)
  next_away p n all k le = all k (omega (arith, le))

  here_away : (p : CallRef) (n : ℕ) → AwayFrom p n → away (child p n)
  here_away p n all = all n (omega arith)

  literal_same : (s t : Stand) (f g : List (List ℕ)) → g ≡ f → SlotClear s.slot → (o : Option (List ℕ)) → Out f (literal_item tt s f o) (literal_item tt t g o)
  literal_same s t f g same clear None = opaque_both new bad seen f g same
  literal_same s t f g same clear (Some x) = record { followed = same; how = stays refl (λ q is. clear q is, tt) refl }

  variable_same : (b : Bool) (x : List ℕ) (f : List (List ℕ)) → one_of f x ≡ b → Out f (if b then met opaque f else follow x f) (if b then met opaque f else follow2 x f)
  variable_same true x f is = opaque_both new bad seen f f refl
  variable_same false x f is = follows x f is

  either_same : (b : Bool) (e now : Expansion Nowhere) (f g : List (List ℕ)) → g ≡ f → Out f e now → Out f (if b then e else met opaque f) (if b then now else met opaque g)
  either_same true e now f g same o = o
  either_same false e now f g same o = opaque_both new bad seen f g same

  mutual
    pub expression_same : (e : Expression Nowhere) (s t : Stand) (f g : List (List ℕ)) → g ≡ f → away s.place → SlotClear s.slot → Out f (expand_by lists follow e s f) (expand_by lists2 follow2 e t g)
    expression_same (string at_ q x) s t f g same a clear = literal_same s t f g same clear (value (string_kind q) x)
    expression_same (array l) s t f g same a clear = outcome_within new bad seen f s.place t.place _ _ (apart s.place a) (listing_same l s t f g same a)
    expression_same (call at_ n l) s t f g same a clear =
        either_same (is_files n.text l) _ _ f g same (outcome_within new bad seen f s.place t.place _ _ (apart s.place a) (listing_same l s t f g same a))
    expression_same (identifier at_ x) s t f g same a clear =
        subst (λ h. Out f (if one_of f x then met opaque f else follow x f) (if one_of h x then met opaque h else follow2 x h)) (sym same) (variable_same (one_of f x) x f refl)
    expression_same (row at_ e os) s t f g same a clear =
        let first = expand_by lists follow e (operand_at s 0) f in
        let second = expand_by lists2 follow2 e (operand_at t 0) g in
        let one = expression_same e (operand_at s 0) (operand_at t 0) f g same (deeper s.place 0 a) (λ q is. absurd cc) in
        let all = joined new bad seen f first (expand_operands lists follow os 1 s first.followed) second (expand_operands lists2 follow2 os 1 t second.followed) one
        (operands_same os 1 1 s t first.followed second.followed one.followed (λ k le. deeper s.place k a)) in
        subst (λ b. Out f (if are_plus os && lists e then both_expanded first (expand_operands lists follow os 1 s first.followed) else met opaque f)
        (if are_plus os && b then both_expanded second (expand_operands lists2 follow2 os 1 t second.followed) else met opaque g)) (sym (alike e))
        (either_same (are_plus os && lists e) _ _ f g same all)
    expression_same _ s t f g same a clear = opaque_both new bad seen f g same

    pub operands_same : (os : Operands Nowhere) (n m : ℕ) (s t : Stand) (f g : List (List ℕ)) → g ≡ f → AwayFrom s.place n → Out f (expand_operands lists follow os n s f) (expand_operands lists2 follow2 os m t g)
    operands_same no_operands n m s t f g same a = nothing_both new bad seen f g same
    operands_same (operand o e more) n m s t f g same a =
        let one = expression_same e (operand_at s n) (operand_at t m) f g same (here_away s.place n a) (λ q is. absurd cc) in
        joined new bad seen f _ _ _ _ one (operands_same more (n + 1) (m + 1) s t _ _ one.followed (next_away s.place n a))

    listing_same : (l : Listing Nowhere) (s t : Stand) (f g : List (List ℕ)) → g ≡ f → away s.place → Out f (expand_listing lists follow l s f) (expand_listing lists2 follow2 l t g)
    listing_same (listing at_ trailing list) s t f g same a = each_same list 0 0 s t f g same (apart s.place a) (λ k le. deeper s.place k a)

    pub each_same : (list : Arguments Nowhere) (n m : ℕ) (s t : Stand) (f g : List (List ℕ)) → g ≡ f → (bad s.place → ⊥) → AwayFrom s.place n → Out f (expand_each lists follow list n s f) (expand_each lists2 follow2 list m t g)
    each_same no_arguments n m s t f g same fine a = nothing_both new bad seen f g same
    each_same (argument x more) n m s t f g same fine a =
        let one = argument_same x (element s n) (element t m) f g same (here_away s.place n a) (slot_clear s.place n fine) in
        joined new bad seen f _ _ _ _ one (each_same more (n + 1) (m + 1) s t _ _ one.followed fine (next_away s.place n a))

    pub argument_same : (x : Argument Nowhere) (s t : Stand) (f g : List (List ℕ)) → g ≡ f → away s.place → SlotClear s.slot → Out f (expand_argument lists follow x s f) (expand_argument lists2 follow2 x t g)
    argument_same (plain e) s t f g same a clear = expression_same e s t f g same a clear
    argument_same (named at_ k e) s t f g same a clear = opaque_both new bad seen f g same
    argument_same (pair at_ e d) s t f g same a clear = opaque_both new bad seen f g same

-- ==== An expression in which another node stands where a path leads, and what is met in it.

-- ---- what shapes tell

any_named : List (Argument Nowhere) → Bool
any_named [] = false
any_named (a ∷ more) = if is_named a then true else any_named more

names_are : (list : Arguments Nowhere) → has_names list ≡ any_named (blanks list)
unfolding any_named
names_are no_arguments = refl
names_are (argument (plain e) more) = names_are more
names_are (argument (named s x e) more) = refl
names_are (argument (pair s e f) more) = names_are more

files_by : List ℕ → List (Argument Nowhere) → Bool
files_by f bs = bytes_eq f (codes "files") && not (any_named bs)

files_are : (f : List ℕ) (l : Listing Nowhere) → is_files f l ≡ files_by f (list_blanks l)
unfolding files_by
files_are f (listing s trailing list) = ap (λ b. bytes_eq f (codes "files") && not b) (names_are list)

pub files_alike : (f g : List ℕ) (l m : Listing Nowhere) → g ≡ f → list_blanks m ≡ list_blanks l → is_files g m ≡ is_files f l
files_alike f g l m same bs = files_are g m ∙ ap₂ files_by same bs ∙ sym (files_are f l)

all_plus : List Operator → Bool
all_plus [] = true
all_plus (o ∷ os) = is_plus o && all_plus os

plus_are : (os : Operands Nowhere) → are_plus os ≡ all_plus (operators os)
unfolding all_plus
plus_are no_operands = refl
plus_are (operand o e more) = ap (λ b. is_plus o && b) (plus_are more)

pub plus_alike : (os ps : Operands Nowhere) → operators ps ≡ operators os → are_plus ps ≡ are_plus os
plus_alike os ps same = plus_are ps ∙ ap all_plus same ∙ sym (plus_are os)

-- whether it is a list, of what is no leaf
kind_by : Shape → Bool
kind_by (an_array bs) = true
kind_by (a_call f bs) = files_by f bs
kind_by _ = false

kind_is : (holds : List ℕ → Bool) (e : Expression Nowhere) → (shape (an_expression e) ≡ a_leaf → ⊥) → is_operand_by holds e ≡ kind_by (shape (an_expression e))
unfolding kind_by
kind_is holds (array l) inner = refl
kind_is holds (call s f l) inner = files_are f.text l
kind_is holds (identifier s x) inner = absurd (inner refl)
kind_is holds _ inner = refl

no_leaf : (e : Expression Nowhere) (old new : Any Nowhere) (n : ℕ) (ys : List (Any Nowhere)) → Differ old new n (expression_parts e) ys → shape (an_expression e) ≡ a_leaf → ⊥
no_leaf (identifier s x) old new n ys d is = differ_none old new n ys d
no_leaf (string s q x) old new n ys d is = differ_none old new n ys d
no_leaf _ old new n ys d is = absurd cc

pub operand_alike : (holds holds2 : List ℕ → Bool) → ((x : List ℕ) → holds2 x ≡ holds x) → (e : Expression Nowhere) → is_operand_by holds2 e ≡ is_operand_by holds e
operand_alike holds holds2 alike (identifier s x) = alike x
operand_alike holds holds2 alike _ = refl

-- ---- along the path

module _ (new : List (List ℕ)) (bad : CallRef → Type 0) (seen : List (List ℕ) → Bool) (away : CallRef → Type 0) (deeper : (p : CallRef) (n : ℕ) → away p → away (child p n)) (apart : (p : CallRef) → away p → bad p → ⊥)
    (holds holds2 : List ℕ → Bool) (same_holds : (x : List ℕ) → holds2 x ≡ holds x) (older newer : Expression Nowhere) (kind : is_operand_by holds2 newer ≡ is_operand_by holds older) where
  abbrev OnWay : List ℕ → Any Nowhere → Any Nowhere → Type 0
  OnWay = Becomes (an_expression older) (an_expression newer)

  pub kind_along : (path : List ℕ) (e e2 : Expression Nowhere) → OnWay path (an_expression e) (an_expression e2) → is_operand_by holds2 e2 ≡ is_operand_by holds e
  kind_along [] e e2 w =
      let one : e ≡ older = cc in
      let two : e2 ≡ newer = cc in
      ap (is_operand_by holds2) two ∙ kind ∙ sym (ap (is_operand_by holds) one)
  kind_along (n ∷ path) e e2 w =
      let inner = no_leaf e w.0 w.1 n (expression_parts e2) w.2.parts in
      kind_is holds2 e2 (λ is. inner (sym w.2.shapes ∙ is)) ∙ ap kind_by w.2.shapes ∙ sym (kind_is holds e inner)

  module _ (follow follow2 : List ℕ → List (List ℕ) → Expansion Nowhere) (follows : (x : List ℕ) (f : List (List ℕ)) → one_of f x ≡ false → Outcome new bad seen f (follow x f) (follow2 x f))
      (t : CallRef) (b : Bool) (aside : (p : CallRef) (n m : ℕ) (path : List ℕ) → t ≡ below p (n ∷ path) → (n ≡ m → ⊥) → away (child p m))
      (above : (p : CallRef) (n : ℕ) (path : List ℕ) → t ≡ below p (n ∷ path) → bad p → ⊥)
      (base : (s u : Stand) (f g : List (List ℕ)) → t ≡ below s.place [] → g ≡ f → seen f ≡ true
      → Along new bad seen b (expand_by (is_operand_by holds) follow older s f) (expand_by (is_operand_by holds2) follow2 newer u g)) where
    abbrev many : Expression Nowhere → Bool
    many = is_operand_by holds

    abbrev many2 : Expression Nowhere → Bool
    many2 = is_operand_by holds2

    lists_alike : (e : Expression Nowhere) → many2 e ≡ many e
    lists_alike = operand_alike holds holds2 same_holds

    abbrev Way : Expansion Nowhere → Expansion Nowhere → Type 0
    Way = Along new bad seen b

    abbrev Inner : List ℕ → Type 0
    Inner path = (e e2 : Expression Nowhere) (s u : Stand) (f g : List (List ℕ)) → OnWay path (an_expression e) (an_expression e2) → LevelExpression e → t ≡ below s.place path → g ≡ f → seen f ≡ true
        → Way (expand_by many follow e s f) (expand_by many2 follow2 e2 u g)

    same_node : (e e2 : Expression Nowhere) → an_expression e ≡ an_expression e2 → e2 ≡ e
    same_node e e2 is = cc

    on_way : (path : List ℕ) (e e2 : Expression Nowhere) (y next : Any Nowhere) → an_expression e ≡ y → an_expression e2 ≡ next → OnWay path y next → OnWay path (an_expression e) (an_expression e2)
    on_way path e e2 y next one two w = subst (λ z. OnWay path z (an_expression e2)) (sym one) (subst (OnWay path y) (sym two) w)

    at_child : (p : CallRef) (m k : ℕ) (path : List ℕ) → m ≡ k → t ≡ below p (m ∷ path) → t ≡ below (child p k) path
    at_child p m k path same is = is ∙ ap (λ i. below p (i ∷ path)) same ∙ sym (below_child p k path)

    abbrev each_from : (s u : Stand) (k m : ℕ) (path : List ℕ) → m ≡ k → t ≡ below s.place (m ∷ path) → (list : Arguments Nowhere) (f g : List (List ℕ)) → g ≡ f
        → Outcome new bad seen f (expand_each many follow list (k + 1) s f) (expand_each many2 follow2 list (k + 1) u g)
    each_from s u k m path same is list f g equal =
        each_same new bad seen away deeper apart many many2 lists_alike follow follow2 follows list (k + 1) (k + 1) s u f g equal (above s.place m path is)
        (λ j le. aside s.place m j path is (λ equal2. omega (arith, le, same, equal2)))

    each_along : (path : List ℕ) → Inner path → (y next : Any Nowhere) → OnWay path y next → (list list2 : Arguments Nowhere) (k n m : ℕ) → m ≡ k + n → blanks list2 ≡ blanks list → Differ y next n (arguments_parts list) (arguments_parts list2)
        → (br : Bracket) (named_before : Bool) → holds_pairs br ≡ false → LevelArguments list br named_before → (s u : Stand) (f g : List (List ℕ)) → t ≡ below s.place (m ∷ path) → g ≡ f → seen f ≡ true
        → Way (expand_each many follow list k s f) (expand_each many2 follow2 list2 k u g)
    each_along path inner y next w no_arguments list2 k n m number bs d br nb none level s u f g is equal behind = absurd (differ_none y next n (arguments_parts list2) d)
    each_along path inner y next w (argument a more) no_arguments k n m number bs d br nb none level s u f g is equal behind = absurd cc
    each_along path inner y next w (argument (plain e) more) (argument (plain e2) more2) k zero m number bs d br nb none level s u f g is equal behind =
        let h = differ_here y next (an_expression e) (an_expression e2) (arguments_parts more) (arguments_parts more2) d in
        let tails : blanks more2 ≡ blanks more = cc in
        let same = same_arguments more more2 tails h.2 in
        let first : m ≡ k = omega (arith, number) in
        let a = inner e e2 (element s k) (element u k) f g (on_way path e e2 y next h.0 h.1 w) level.0.2 (at_child s.place m k path first is) equal behind in
        let rest = each_from s u k m path first is more _ _ a.followed in
        subst (λ l. Way (expand_each many follow (argument (plain e) more) k s f) (expand_each many2 follow2 (argument (plain e2) l) k u g)) (sym same) (along_first new bad seen b _ _ _ _ a rest)
    each_along path inner y next w (argument (plain e) more) (argument (plain e2) more2) k (suc n) m number bs d br nb none level s u f g is equal behind =
        let h = differ_there y next n (an_expression e) (an_expression e2) (arguments_parts more) (arguments_parts more2) d in
        let tails : blanks more2 ≡ blanks more = cc in
        let o = expression_same new bad seen away deeper apart many many2 lists_alike follow follow2 follows e (element s k) (element u k) f g equal
        (aside s.place m k path is (λ equal2. omega (arith, number, equal2)))
        (slot_clear new bad seen away deeper apart many many2 lists_alike follow follow2 follows s.place k (above s.place m path is)) in
        let a = each_along path inner y next w more more2 (k + 1) n m (omega (arith, number)) tails h.1 br false none level.1 s u _ _ is o.followed (still new bad seen f _ _ behind o).behind in
        subst (λ v. Way (expand_each many follow (argument (plain e) more) k s f) (expand_each many2 follow2 (argument (plain v) more2) k u g)) (sym (same_node e e2 h.0)) (along_behind new bad seen b f _ _ _ _ behind o a)
    each_along path inner y next w (argument (named r x v) more) (argument (named r2 x2 v2) more2) k zero m number bs d br nb none level s u f g is equal behind =
        let h = differ_here y next (an_expression v) (an_expression v2) (arguments_parts more) (arguments_parts more2) d in
        let tails : blanks more2 ≡ blanks more = cc in
        let same = same_arguments more more2 tails h.2 in
        let first : m ≡ k = omega (arith, number) in
        let rest = each_from s u k m path first is more f g equal in
        subst (λ l. Way (expand_each many follow (argument (named r x v) more) k s f) (expand_each many2 follow2 (argument (named r2 x2 v2) l) k u g)) (sym same)
        (along_same new bad seen b f _ _ behind (joined new bad seen f (met opaque f) _ (met opaque g) _ (opaque_both new bad seen f g equal) rest))
    each_along path inner y next w (argument (named r x v) more) (argument (named r2 x2 v2) more2) k (suc n) m number bs d br nb none level s u f g is equal behind =
        let h = differ_there y next n (an_expression v) (an_expression v2) (arguments_parts more) (arguments_parts more2) d in
        let tails : blanks more2 ≡ blanks more = cc in
        let a = each_along path inner y next w more more2 (k + 1) n m (omega (arith, number)) tails h.1 br true none level.1 s u f g is equal behind in
        along_behind new bad seen b f (met opaque f) _ (met opaque g) _ behind (opaque_both new bad seen f g equal) a
    each_along path inner y next w (argument (pair r v z) more) (argument a2 more2) k n m number bs d br nb none level s u f g is equal behind =
        let both : true ≡ false = sym level.0.0 ∙ none in absurd cc
    each_along path inner y next w (argument (plain e) more) (argument _ more2) k n m number bs d br nb none level s u f g is equal behind = absurd cc
    each_along path inner y next w (argument (named r x v) more) (argument _ more2) k n m number bs d br nb none level s u f g is equal behind = absurd cc

    operands_along : (path : List ℕ) → Inner path → (y next : Any Nowhere) → OnWay path y next → (os os2 : Operands Nowhere) (k n m : ℕ) → m ≡ k + n → operators os2 ≡ operators os → Differ y next n (operands_parts os) (operands_parts os2)
        → (loose : ℕ) → LevelOperands os loose → (s u : Stand) (f g : List (List ℕ)) → t ≡ below s.place (m ∷ path) → g ≡ f → seen f ≡ true
        → Way (expand_operands many follow os k s f) (expand_operands many2 follow2 os2 k u g)
    operands_along path inner y next w no_operands os2 k n m number signs d loose level s u f g is equal behind = absurd (differ_none y next n (operands_parts os2) d)
    operands_along path inner y next w (operand o e more) no_operands k n m number signs d loose level s u f g is equal behind = absurd cc
    operands_along path inner y next w (operand o e more) (operand o2 e2 more2) k zero m number signs d loose level s u f g is equal behind =
        let h = differ_here y next (an_expression e) (an_expression e2) (operands_parts more) (operands_parts more2) d in
        let tails : operators more2 ≡ operators more = cc in
        let same = same_operands more more2 tails h.2 in
        let first : m ≡ k = omega (arith, number) in
        let a = inner e e2 (operand_at s k) (operand_at u k) f g (on_way path e e2 y next h.0 h.1 w) level.2 (at_child s.place m k path first is) equal behind in
        let rest = operands_same new bad seen away deeper apart many many2 lists_alike follow follow2 follows more (k + 1) (k + 1) s u _ _ a.followed (λ j le. aside s.place m j path is (λ equal2. omega (arith, le, first, equal2))) in
        subst (λ l. Way (expand_operands many follow (operand o e more) k s f) (expand_operands many2 follow2 (operand o2 e2 l) k u g)) (sym same) (along_first new bad seen b _ _ _ _ a rest)
    operands_along path inner y next w (operand o e more) (operand o2 e2 more2) k (suc n) m number signs d loose level s u f g is equal behind =
        let h = differ_there y next n (an_expression e) (an_expression e2) (operands_parts more) (operands_parts more2) d in
        let tails : operators more2 ≡ operators more = cc in
        let one = expression_same new bad seen away deeper apart many many2 lists_alike follow follow2 follows e (operand_at s k) (operand_at u k) f g equal
        (aside s.place m k path is (λ equal2. omega (arith, number, equal2))) (λ q none. absurd cc) in
        let a = operands_along path inner y next w more more2 (k + 1) n m (omega (arith, number)) tails h.1 loose level.3 s u _ _ is one.followed (still new bad seen f _ _ behind one).behind in
        subst (λ v. Way (expand_operands many follow (operand o e more) k s f) (expand_operands many2 follow2 (operand o2 v more2) k u g)) (sym (same_node e e2 h.0)) (along_behind new bad seen b f _ _ _ _ behind one a)

    other_opaque : (e : Expression Nowhere) (u : Stand) (g : List (List ℕ)) → shape (an_expression e) ≡ another → expand_by many2 follow2 e u g ≡ met opaque g
    other_opaque (array l) u g is = absurd cc
    other_opaque (call s f l) u g is = absurd cc
    other_opaque (row s e os) u g is = absurd cc
    other_opaque (identifier s x) u g is = absurd cc
    other_opaque (string s q x) u g is = absurd cc
    other_opaque _ u g is = refl

    either_along : (c c2 : Bool) → c2 ≡ c → (e now : Expansion Nowhere) (f g : List (List ℕ)) → g ≡ f → seen f ≡ true → Way e now → Way (if c then e else met opaque f) (if c2 then now else met opaque g)
    either_along true c2 is e now f g equal behind a = subst (λ d. Way e (if d then now else met opaque g)) (sym is) a
    either_along false c2 is e now f g equal behind a = subst (λ d. Way (met opaque f) (if d then now else met opaque g)) (sym is) (along_same new bad seen b f _ _ behind (opaque_both new bad seen f g equal))

    array_along : (n : ℕ) (path : List ℕ) → Inner path → (l : Listing Nowhere) (e2 : Expression Nowhere) (s u : Stand) (f g : List (List ℕ)) → OnWay (n ∷ path) (an_expression (array l)) (an_expression e2) → LevelExpression (array l)
        → t ≡ below s.place (n ∷ path) → g ≡ f → seen f ≡ true → Way (expand_by many follow (array l) s f) (expand_by many2 follow2 e2 u g)
    array_along n path inner (listing r trailing xs) (array (listing r2 trailing2 xs2)) s u f g w level is equal behind =
        let bs : blanks xs2 ≡ blanks xs = cc in
        along_within new bad seen b s.place u.place _ _ (above s.place n path is)
        (each_along path inner w.0 w.1 w.3 xs xs2 0 n n (omega arith) bs w.2.parts bracket.Square false refl level.1 s u f g is equal behind)
    array_along n path inner l _ s u f g w level is equal behind = let shapes = w.2.shapes in absurd cc

    call_along : (n : ℕ) (path : List ℕ) → Inner path → (r : Nowhere) (x : _) (l : Listing Nowhere) (e2 : Expression Nowhere) (s u : Stand) (f g : List (List ℕ)) → OnWay (n ∷ path) (an_expression (call r x l)) (an_expression e2) → LevelExpression (call r x l)
        → t ≡ below s.place (n ∷ path) → g ≡ f → seen f ≡ true → Way (expand_by many follow (call r x l) s f) (expand_by many2 follow2 e2 u g)
    call_along n path inner r x (listing z trailing xs) (call r2 x2 (listing z2 trailing2 xs2)) s u f g w level is equal behind =
        let bs : blanks xs2 ≡ blanks xs = cc in
        let name : x2.text ≡ x.text = cc in
        either_along (is_files x.text (listing z trailing xs)) (is_files x2.text (listing z2 trailing2 xs2)) (files_alike x.text x2.text (listing z trailing xs) (listing z2 trailing2 xs2) name bs) _ _ f g equal behind
        (along_within new bad seen b s.place u.place _ _ (above s.place n path is)
        (each_along path inner w.0 w.1 w.3 xs xs2 0 n n (omega arith) bs w.2.parts bracket.Round false refl level.1 s u f g is equal behind))
    call_along n path inner r x l _ s u f g w level is equal behind = let shapes = w.2.shapes in absurd cc

    row_along : (n : ℕ) (path : List ℕ) → Inner path → (r : Nowhere) (e : Expression Nowhere) (os : Operands Nowhere) (e2 : Expression Nowhere) (s u : Stand) (f g : List (List ℕ)) → OnWay (n ∷ path) (an_expression (row r e os)) (an_expression e2) → LevelExpression (row r e os)
        → t ≡ below s.place (n ∷ path) → g ≡ f → seen f ≡ true → Way (expand_by many follow (row r e os) s f) (expand_by many2 follow2 e2 u g)
    row_along zero path inner r e os (row r2 d os2) s u f g w level is equal behind =
        let h = differ_here w.0 w.1 (an_expression e) (an_expression d) (operands_parts os) (operands_parts os2) w.2.parts in
        let signs : operators os2 ≡ operators os = cc in
        let way = on_way path e d w.0 w.1 h.0 h.1 w.3 in
        let a = inner e d (operand_at s 0) (operand_at u 0) f g way level.2 (at_child s.place 0 0 path refl is) equal behind in
        let rest = operands_same new bad seen away deeper apart many many2 lists_alike follow follow2 follows os 1 1 s u _ _ a.followed (λ j le. aside s.place 0 j path is (λ equal2. omega (arith, le, equal2))) in
        subst (λ l. Way (expand_by many follow (row r e os) s f) (expand_by many2 follow2 (row r2 d l) u g)) (sym (same_operands os os2 signs h.2))
        (either_along (are_plus os && many e) (are_plus os && many2 d) (ap (λ c. are_plus os && c) (kind_along path e d way)) _ _ f g equal behind (along_first new bad seen b _ _ _ _ a rest))
    row_along (suc n) path inner r e os (row r2 d os2) s u f g w level is equal behind =
        let h = differ_there w.0 w.1 n (an_expression e) (an_expression d) (operands_parts os) (operands_parts os2) w.2.parts in
        let signs : operators os2 ≡ operators os = cc in
        let one = expression_same new bad seen away deeper apart many many2 lists_alike follow follow2 follows e (operand_at s 0) (operand_at u 0) f g equal (aside s.place (suc n) 0 path is (λ equal2. omega (arith, equal2))) (λ q none. absurd cc) in
        let a = operands_along path inner w.0 w.1 w.3 os os2 1 n (suc n) (omega arith) signs h.1 _ level.3 s u _ _ is one.followed (still new bad seen f _ _ behind one).behind in
        subst (λ v. Way (expand_by many follow (row r e os) s f) (expand_by many2 follow2 (row r2 v os2) u g)) (sym (same_node e d h.0))
        (either_along (are_plus os && many e) (are_plus os2 && many2 e) (ap₂ (λ p c. p && c) (plus_alike os os2 signs) (lists_alike e)) _ _ f g equal behind (along_behind new bad seen b f _ _ _ _ behind one a))
    row_along n path inner r e os _ s u f g w level is equal behind = let shapes = w.2.shapes in absurd cc

    node_along : (n : ℕ) (path : List ℕ) → Inner path → Inner (n ∷ path)
    node_along n path inner (array l) e2 s u f g w level is equal behind = array_along n path inner l e2 s u f g w level is equal behind
    node_along n path inner (call r x l) e2 s u f g w level is equal behind = call_along n path inner r x l e2 s u f g w level is equal behind
    node_along n path inner (row r e os) e2 s u f g w level is equal behind = row_along n path inner r e os e2 s u f g w level is equal behind
    node_along n path inner (identifier r x) e2 s u f g w level is equal behind = absurd (differ_none w.0 w.1 n _ w.2.parts)
    node_along n path inner (string r q x) e2 s u f g w level is equal behind = absurd (differ_none w.0 w.1 n _ w.2.parts)
    node_along n path inner _ e2 s u f g w level is equal behind =
        subst (λ (x : Expansion Nowhere). Way (met opaque f) x) (sym (other_opaque e2 u g w.2.shapes)) (along_same new bad seen b f _ _ behind (opaque_both new bad seen f g equal))

    pub along : (path : List ℕ) → Inner path
    along [] e e2 s u f g w level is equal behind =
        let one : older ≡ e = cc in
        let two : newer ≡ e2 = cc in
        subst (λ x. Way (expand_by many follow x s f) (expand_by many2 follow2 e2 u g)) one
        (subst (λ x. Way (expand_by many follow older s f) (expand_by many2 follow2 x u g)) two (base s u f g is equal behind))
    along (n ∷ path) e e2 s u f g w level is equal behind = node_along n path (along path) e e2 s u f g w level is equal behind
