-- What a tree tells is the same when a node in it becomes another one.
use Rattle.meson_sources.proofs.trees.Shapes as shapes
use Rattle.meson_sources.proofs.told.Variables as tells
use Rattle.meson_syntax.specs.declared.operator.Assignment.TheVariants as assignment
use Rattle.meson_sources.proofs.Words.{cons_option, list_any, if◌then◌else◌, is_some, option_and_then, option_map, ◌&&◌, ◌⊎◌, [], ap, ap₂, Bool, false, inl}
use Rattle.meson_sources.proofs.Words.{inr, List, map, None, Option, refl, Some, subst, sym, true, ℕ, ◌++◌, ◌+◌, ◌∙◌, ◌∷◌, ◌≡◌, a_block, a_statement}
use Rattle.meson_sources.proofs.Words.{an_expression, Any, arguments_parts, list_in, ListIn, Argument, argument, Arguments, arguments_of, array, assign, call}
use Rattle.meson_sources.proofs.Words.{dictionary, Expression, identifier, Listing, listing, Name, named, no_arguments, Nowhere, pair, plain, string}
use Rattle.meson_sources.proofs.Words.{child_nodes, some-injective, first_literal, literal_of, child, is_target_call, one_of, target_functions, CallRef, Differ}
use Rattle.meson_sources.proofs.Words.{here, there, strings, is_plain}
use Rattle.meson_sources.proofs.told.Targets.{first_is, first_plain, Naming, a_target, a_variable, in_any, in_all, in_arguments, in_expression, in_listing, own}
use Rattle.meson_sources.proofs.told.Targets.{node_tells, call_by, call_tells}
use Rattle.meson_sources.proofs.told.Variables.{Told, matters, name_texts, of_any, of_children, own as own_told, node_told, children_alike}
use Rattle.meson_sources.proofs.trees.Shapes.{Shape, a_leaf, shape, Becomes, differ_none, a_call, an_assignment}
use Rattle.meson_sources.proofs.trees.Skeletons.{blanks}

-- ==== What a node tells is the same when a list in it gets strings.

-- ---- the first argument, if it is a literal

abbrev literal_first : Arguments Nowhere → Option (List ℕ)
literal_first list = option_and_then literal_of (first_plain list)

literal_is : (f : List ℕ) (r : Nowhere) (trailing : Bool) (list : Arguments Nowhere) → first_literal (record { function = f; arguments = listing r trailing list }) ≡ literal_first list
literal_is f r trailing list = ap (option_and_then literal_of) (first_is 0 list)

abbrev pub literal_any : Any Nowhere → Option (List ℕ)
literal_any (an_expression e) = literal_of e
literal_any (a_statement s) = None
literal_any (a_block b) = None

-- ---- what is seen of the children

-- of the first argument without a name
abbrev first_of_seen : {V : Type 0} → List (Argument Nowhere) → List V → Option V
first_of_seen (plain e ∷ bs) (s ∷ ss) = Some s
first_of_seen (named t x e ∷ bs) (s ∷ ss) = first_of_seen bs ss
first_of_seen (pair t e f ∷ bs) (s ∷ z ∷ ss) = first_of_seen bs ss
first_of_seen _ _ = None

module _ {V : Type 0} (see : Any Nowhere → V) where
  first_seen : (list : Arguments Nowhere) → option_map (λ e. see (an_expression e)) (first_plain list) ≡ first_of_seen (blanks list) (map see (arguments_parts list))
  first_seen no_arguments = refl
  first_seen (argument (plain e) more) = refl
  first_seen (argument (named s x e) more) = first_seen more
  first_seen (argument (pair s e f) more) = first_seen more

  children_seen : (y next : Any Nowhere) (n : ℕ) (xs ys : List (Any Nowhere)) → see next ≡ see y → Differ y next n xs ys → map see ys ≡ map see xs
  children_seen y next n xs ys same (here {xs = more}) = ap (λ s. s ∷ map see more) same
  children_seen y next n xs ys same (there {x = x} {n = m} {xs = us} {ys = vs} d) = ap (λ l. see x ∷ l) (children_seen y next m us vs same d)

literal_seen : (first : Option (Expression Nowhere)) → option_and_then literal_of first ≡ option_and_then (λ o. o) (option_map (λ e. literal_any (an_expression e)) first)
literal_seen None = refl
literal_seen (Some e) = refl

-- ---- a node's own

abbrev told_by : CallRef → Shape → List (Option (List ℕ)) → Option Told
told_by p (shapes.a_call f bs) lits = if matters f then Some (tells.a_call p.file f (option_and_then (λ o. o) (first_of_seen bs lits))) else None
told_by p (shapes.an_assignment x a) lits = Some (tells.an_assignment p x a)
told_by p (shapes.a_loop xs) lits = Some (tells.a_loop (name_texts xs))
told_by p _ lits = None

told_is : (p : CallRef) (x : Any Nowhere) → own_told p x ≡ told_by p (shape x) (map literal_any (child_nodes x))
told_is p (an_expression (call s f (listing r trailing list))) =
    ap (λ l. if matters f.text then Some (tells.a_call p.file f.text l) else None)
    (literal_is f.text r trailing list ∙ literal_seen (first_plain list) ∙ ap (option_and_then (λ o. o)) (first_seen literal_any list))
told_is p (an_expression _) = refl
told_is p (a_statement (assign s x a e)) = refl
told_is p (a_statement _) = refl
told_is p (a_block b) = refl

-- what has children is no literal
leaf_none : (x : Any Nowhere) → (shape x ≡ a_leaf → ⊥) → literal_any x ≡ None
leaf_none (an_expression (identifier s x)) inner = absurd (inner refl)
leaf_none (an_expression (string s q x)) inner = absurd (inner refl)
leaf_none (an_expression _) inner = refl
leaf_none (a_statement s) inner = refl
leaf_none (a_block b) inner = refl

pub no_leaf : (x : Any Nowhere) (old new : Any Nowhere) (n : ℕ) (ys : List (Any Nowhere)) → Differ old new n (child_nodes x) ys → shape x ≡ a_leaf → ⊥
no_leaf (an_expression (identifier s x)) old new n ys d is = differ_none old new n ys d
no_leaf (an_expression (string s q x)) old new n ys d is = differ_none old new n ys d
no_leaf (an_expression _) old new n ys d is = absurd cc
no_leaf (a_statement (assign s x a e)) old new n ys d is = absurd cc
no_leaf (a_statement _) old new n ys d is = absurd cc
no_leaf (a_block b) old new n ys d is = absurd cc

-- ---- along a path

module _ (older newer : Any Nowhere) (literals : literal_any newer ≡ literal_any older) (base : (p : CallRef) → of_any p newer ≡ of_any p older) where
  literal_along : (path : List ℕ) (x now : Any Nowhere) → Becomes older newer path x now → literal_any now ≡ literal_any x
  literal_along [] x now b = ap literal_any b.1 ∙ literals ∙ sym (ap literal_any b.0)
  literal_along (n ∷ path) x now b =
      let inner = no_leaf x b.0 b.1 n (child_nodes now) b.2.parts in
      leaf_none now (λ is. inner (sym b.2.shapes ∙ is)) ∙ sym (leaf_none x inner)

  children_stay : (y next : Any Nowhere) (p : CallRef) (k n : ℕ) (xs ys : List (Any Nowhere)) → ((q : CallRef) → of_any q next ≡ of_any q y) → Differ y next n xs ys → of_children p k ys ≡ of_children p k xs
  children_stay y next p k n xs ys same (here {xs = more}) = ap (λ l. l ++ of_children p (k + 1) more) (same (child p k))
  children_stay y next p k n xs ys same (there {x = x} {n = m} {xs = us} {ys = vs} d) = ap (λ l. of_any (child p k) x ++ l) (children_stay y next p (k + 1) m us vs same d)

  pub told_along : (path : List ℕ) (x now : Any Nowhere) → Becomes older newer path x now → (p : CallRef) → of_any p now ≡ of_any p x
  told_along [] x now b p = ap (of_any p) b.1 ∙ base p ∙ sym (ap (of_any p) b.0)
  told_along (n ∷ path) x now b p =
      let step = b.2 in
      let owns : own_told p now ≡ own_told p x =
      told_is p now ∙ ap₂ (told_by p) step.shapes (children_seen literal_any b.0 b.1 n (child_nodes x) (child_nodes now) (literal_along path b.0 b.1 b.3) step.parts) ∙ sym (told_is p x) in
      node_told p now ∙ ap₂ cons_option owns (children_stay b.0 b.1 p 0 n (child_nodes x) (child_nodes now) (told_along path b.0 b.1 b.3) step.parts) ∙ sym (node_told p x)

-- ---- a list that gets strings

strings_told : (p : CallRef) (names : List (List ℕ)) (back : List (Argument Nowhere)) (k m : ℕ) → of_children p k (arguments_parts (arguments_of (strings names ++ back))) ≡ of_children p m (arguments_parts (arguments_of back))
strings_told p [] back k m = children_alike p k m (arguments_of back)
strings_told p (name ∷ names) back k m = strings_told p names back (k + 1) m

pub grown_told : (p : CallRef) (names : List (List ℕ)) (front back : List (Argument Nowhere)) (k : ℕ)
    → of_children p k (arguments_parts (arguments_of (front ++ (strings names ++ back)))) ≡ of_children p k (arguments_parts (arguments_of (front ++ back)))
grown_told p names [] back k = strings_told p names back k k
grown_told p names (plain e ∷ front) back k = ap (λ l. of_any (child p k) (an_expression e) ++ l) (grown_told p names front back (k + 1))
grown_told p names (named s x e ∷ front) back k = ap (λ l. of_any (child p k) (an_expression e) ++ l) (grown_told p names front back (k + 1))
grown_told p names (pair s e f ∷ front) back k = ap (λ l. of_any (child p k) (an_expression e) ++ (of_any (child p (k + 1)) (an_expression f) ++ l)) (grown_told p names front back (k + 1 + 1))

pub array_told : (p : CallRef) (names : List (List ℕ)) (front back : List (Argument Nowhere)) (r r2 : Nowhere) (trailing trailing2 : Bool)
    → of_any p (an_expression (array (listing r2 trailing2 (arguments_of (front ++ (strings names ++ back)))))) ≡ of_any p (an_expression (array (listing r trailing (arguments_of (front ++ back)))))
array_told p names front back r r2 trailing trailing2 =
    node_told p (an_expression (array (listing r2 trailing2 (arguments_of (front ++ (strings names ++ back)))))) ∙ grown_told p names front back 0 ∙ sym (node_told p (an_expression (array (listing r trailing (arguments_of (front ++ back))))))

pub either_none : (b : Bool) → b ≡ false → (u v : Option Told) → (if b then u else None) ≡ (if b then v else None)
either_none true is u v = absurd cc
either_none false is u v = refl

pub call_told : (p : CallRef) (names : List (List ℕ)) (front back : List (Argument Nowhere)) (s : Nowhere) (f : Name Nowhere) (r r2 : Nowhere) (trailing trailing2 : Bool) → matters f.text ≡ false
    → of_any p (an_expression (call s f (listing r2 trailing2 (arguments_of (front ++ (strings names ++ back)))))) ≡ of_any p (an_expression (call s f (listing r trailing (arguments_of (front ++ back)))))
call_told p names front back s f r r2 trailing trailing2 is =
    node_told p (an_expression (call s f (listing r2 trailing2 (arguments_of (front ++ (strings names ++ back))))))
    ∙ ap₂ cons_option (either_none (matters f.text) is _ _) (grown_told p names front back 0)
    ∙ sym (node_told p (an_expression (call s f (listing r trailing (arguments_of (front ++ back))))))

-- ==== What a tree tells of targets is the same when a node in it becomes another one that tells the same.

-- ---- what is seen of a node from above it

-- its text if it is a literal, and whether it is the call of a target
pub record Sight : Type 0 where
  pub literal : Option (List ℕ)
  pub target : Bool

abbrev nothing : Sight
nothing = record { literal = None; target = false }

abbrev pub sight : Any Nowhere → Sight
sight (an_expression e) = record { literal = literal_of e; target = is_target_call (Some e) }
sight (a_statement s) = nothing
sight (a_block b) = nothing

abbrev plain_sight : Option (Expression Nowhere) → Option Sight
plain_sight first = option_map (λ e. sight (an_expression e)) first

abbrev call_sight : List ℕ → Option Sight → Option Naming
call_sight f first = if one_of target_functions f && is_some first then Some (a_target f (option_and_then (λ s. s.literal) first)) else None

by_sight : (f : List ℕ) (first : Option (Expression Nowhere)) → call_by f first ≡ call_sight f (plain_sight first)
by_sight f None = refl
by_sight f (Some e) = refl

some_sight : (first : Option (Expression Nowhere)) → is_some first ≡ is_some (plain_sight first)
some_sight None = refl
some_sight (Some e) = refl

-- ---- what a node tells itself, by its shape and what is seen of its children

abbrev own_by : Shape → List Sight → Option Naming
own_by (a_call f bs) ss = call_sight f (first_of_seen bs ss)
own_by (an_assignment x assignment.Set) (s ∷ ss) = if s.target then Some (a_variable x) else None
own_by _ ss = None

own_is : (x : Any Nowhere) → own x ≡ own_by (shape x) (map sight (child_nodes x))
own_is (an_expression (call s f (listing r trailing list))) = call_tells f.text r trailing list ∙ by_sight f.text (first_plain list) ∙ ap (call_sight f.text) (first_seen sight list)
own_is (an_expression _) = refl
own_is (a_statement (assign s x assignment.Set e)) = refl
own_is (a_statement _) = refl
own_is (a_block b) = refl

abbrev plain_seen : Bool → Sight
plain_seen target = record { literal = None; target = target }

abbrev call_seen : List ℕ → Bool → Sight
call_seen f first = plain_seen (one_of target_functions f && first)

abbrev sight_by : Shape → List Sight → Sight
sight_by (a_call f bs) ss = call_seen f (is_some (first_of_seen bs ss))
sight_by _ ss = nothing

sight_is : (x : Any Nowhere) → (shape x ≡ a_leaf → ⊥) → sight x ≡ sight_by (shape x) (map sight (child_nodes x))
sight_is (an_expression (call s f (listing r trailing list))) inner = ap (call_seen f.text) (ap is_some (first_is 0 list) ∙ some_sight (first_plain list) ∙ ap is_some (first_seen sight list))
sight_is (an_expression (identifier s x)) inner = absurd (inner refl)
sight_is (an_expression (string s q x)) inner = absurd (inner refl)
sight_is (an_expression _) inner = refl
sight_is (a_statement (assign s x a e)) inner = refl
sight_is (a_statement _) inner = refl
sight_is (a_block b) inner = refl

-- ---- along a path

module _ (y next : Any Nowhere) where
  children_tell : (n : ℕ) (xs ys : List (Any Nowhere)) → in_any next ≡ in_any y → Differ y next n xs ys → in_all ys ≡ in_all xs
  children_tell n xs ys same (here {xs = more}) = ap (λ l. l ++ in_all more) same
  children_tell n xs ys same (there {x = x} {n = m} {xs = us} {ys = vs} d) = ap (λ l. in_any x ++ l) (children_tell m us vs same d)

-- two nodes of which the same is seen and told
pub record Alike (older newer : Any Nowhere) : Type 0 where
  pub seen : sight newer ≡ sight older
  pub tells : in_any newer ≡ in_any older
  pub owns : own newer ≡ own older

module _ (older newer : Any Nowhere) (same : Alike older newer) where
  pub alike_along : (path : List ℕ) (x now : Any Nowhere) → Becomes older newer path x now → Alike x now
  alike_along [] x now b = record {
    seen = ap sight b.1 ∙ same.seen ∙ sym (ap sight b.0);
    tells = ap in_any b.1 ∙ same.tells ∙ sym (ap in_any b.0);
    owns = ap own b.1 ∙ same.owns ∙ sym (ap own b.0);
  }
  alike_along (n ∷ path) x now b =
      let inner = no_leaf x b.0 b.1 n (child_nodes now) b.2.parts in
      let r = alike_along path b.0 b.1 b.3 in
      let seen = children_seen sight b.0 b.1 n (child_nodes x) (child_nodes now) r.seen b.2.parts in
      let owns : own now ≡ own x = own_is now ∙ ap₂ own_by b.2.shapes seen ∙ sym (own_is x) in
      record {
        seen = sight_is now (λ is. inner (sym b.2.shapes ∙ is)) ∙ ap₂ sight_by b.2.shapes seen ∙ sym (sight_is x inner);
        tells = node_tells now ∙ ap₂ cons_option owns (children_tell b.0 b.1 n (child_nodes x) (child_nodes now) r.tells b.2.parts) ∙ sym (node_tells x);
        owns = owns;
      }

-- ---- another list in the place of one

abbrev pub first_in : Listing Nowhere → Option (Expression Nowhere)
first_in (listing r trailing list) = first_plain list

-- if it is that of a call of a target, its first argument without a name is the same
abbrev pub FirstKept : Expression Nowhere → Listing Nowhere → Type 0
FirstKept (call s f l) m = (one_of target_functions f.text ≡ false) ⊎ (first_in m ≡ first_in l)
FirstKept _ m = Unit {0}

module _ (s : Nowhere) (f : Name Nowhere) (r r2 : Nowhere) (trailing trailing2 : Bool) (xs ys : Arguments Nowhere) where
  abbrev older : Expression Nowhere
  older = call s f (listing r trailing xs)

  abbrev newer : Expression Nowhere
  newer = call s f (listing r2 trailing2 ys)

  call_owned : FirstKept older (listing r2 trailing2 ys) → call_by f.text (first_plain ys) ≡ call_by f.text (first_plain xs)
  call_owned (inl other) =
      ap (λ b. if b && is_some (first_plain ys) then Some (a_target f.text (option_and_then literal_of (first_plain ys))) else None) other
      ∙ sym (ap (λ b. if b && is_some (first_plain xs) then Some (a_target f.text (option_and_then literal_of (first_plain xs))) else None) other)
  call_owned (inr same) = ap (call_by f.text) same

  call_viewed : FirstKept older (listing r2 trailing2 ys) → call_seen f.text (is_some (first_plain ys)) ≡ call_seen f.text (is_some (first_plain xs))
  call_viewed (inl other) = ap (λ b. plain_seen (b && is_some (first_plain ys))) other ∙ sym (ap (λ b. plain_seen (b && is_some (first_plain xs))) other)
  call_viewed (inr same) = ap (λ o. call_seen f.text (is_some o)) same

  call_alike : in_listing (listing r2 trailing2 ys) ≡ in_listing (listing r trailing xs) → FirstKept older (listing r2 trailing2 ys) → Alike (an_expression older) (an_expression newer)
  call_alike told kept =
      let owns : own (an_expression newer) ≡ own (an_expression older) = call_tells f.text r2 trailing2 ys ∙ call_owned kept ∙ sym (call_tells f.text r trailing xs) in
      record {
        seen = ap (λ o. call_seen f.text (is_some o)) (first_is 0 ys) ∙ call_viewed kept ∙ sym (ap (λ o. call_seen f.text (is_some o)) (first_is 0 xs));
        tells = node_tells (an_expression newer) ∙ ap₂ cons_option owns told ∙ sym (node_tells (an_expression older));
        owns = owns;
      }

pub calls_alike : (s : Nowhere) (f : Name Nowhere) (l m : Listing Nowhere) → in_listing m ≡ in_listing l → FirstKept (call s f l) m → Alike (an_expression (call s f l)) (an_expression (call s f m))
calls_alike s f (listing r trailing xs) (listing r2 trailing2 ys) told kept = call_alike s f r r2 trailing trailing2 xs ys told kept

pub lists_alike : (e : Expression Nowhere) (o : ListIn Nowhere) → list_in e ≡ Some o → (m : Listing Nowhere) → in_listing m ≡ in_listing o.list → FirstKept e m → Alike (an_expression e) (an_expression (o.back m))
lists_alike (array l) o is m told kept =
    subst (λ (u : ListIn Nowhere). in_listing m ≡ in_listing u.list → Alike (an_expression (array l)) (an_expression (u.back m))) (some-injective _ _ is)
    (λ same. record { seen = refl; tells = node_tells (an_expression (array m)) ∙ same ∙ sym (node_tells (an_expression (array l))); owns = refl }) told
lists_alike (dictionary l) o is m told kept =
    subst (λ (u : ListIn Nowhere). in_listing m ≡ in_listing u.list → Alike (an_expression (dictionary l)) (an_expression (u.back m))) (some-injective _ _ is)
    (λ same. record { seen = refl; tells = node_tells (an_expression (dictionary m)) ∙ same ∙ sym (node_tells (an_expression (dictionary l))); owns = refl }) told
lists_alike (call s f l) o is m told kept =
    subst (λ (u : ListIn Nowhere). in_listing m ≡ in_listing u.list → Alike (an_expression (call s f l)) (an_expression (u.back m))) (some-injective _ _ is) (λ same. calls_alike s f l m same kept) told
lists_alike _ o is m told kept = absurd cc

-- ---- strings that come

pub grown_tells : (names : List (List ℕ)) (front back : List (Argument Nowhere)) → in_arguments (arguments_of (front ++ (strings names ++ back))) ≡ in_arguments (arguments_of (front ++ back))
grown_tells [] [] back = refl
grown_tells (name ∷ names) [] back = grown_tells names [] back
grown_tells names (plain e ∷ front) back = ap (λ l. in_expression e ++ l) (grown_tells names front back)
grown_tells names (named s x e ∷ front) back = ap (λ l. in_expression e ++ l) (grown_tells names front back)
grown_tells names (pair s e f ∷ front) back = ap (λ l. in_expression e ++ (in_expression f ++ l)) (grown_tells names front back)

-- where an argument without a name stands before them
pub first_grown : (front more back : List (Argument Nowhere)) → list_any is_plain front ≡ true → first_plain (arguments_of (front ++ more)) ≡ first_plain (arguments_of (front ++ back))
first_grown [] more back is = absurd cc
first_grown (plain e ∷ front) more back is = refl
first_grown (named s x e ∷ front) more back is = first_grown front more back is
first_grown (pair s e f ∷ front) more back is = first_grown front more back is
