-- What makes a place a use is a call around it.
use Rattle.std.proofs.Common.{◌≡◌, ℕ, ◌+◌, ◌<◌, ◌≤◌, List, [], ◌∷◌, ◌++◌, flat_map, length, take, refl, sym, ap, subst, ◌∙◌, inl, inr, ◌⊎◌, append_assoc, arith}
use Rattle.std.specs.Prelude.{Bool, true, false, if◌then◌else◌, Option, Some, None}
use Rattle.std.specs.List.{All, Contains}
use Rattle.std.proofs.Math.Seq.{take-append_seam}
use Rattle.std.proofs.lemmas.Bool.{cases_lt, false≢true}
use Rattle.std.proofs.lemmas.List.{length-append}
use Rattle.std.proofs.lemmas.List.Elements.{All-append, All-cons, All-contains, All-nil, All-weaker, Contains-append_cases, Contains-append_left, Contains-append_right}
use Rattle.meson_lex.specs.declared.kinds.Span.{Span}
use Rattle.meson_syntax.specs.Tree.{Expression, call, postfix, Tail, method, index, Tails, no_tails, tail, Listing, listing, Argument, plain, named, pair, Arguments, no_arguments, argument}
use Rattle.meson_calls.specs.declared.call.CallRef.{CallRef}
use Rattle.meson_calls.specs.Parts.{Part, an_expression, a_statement, argument_child_count, parts, tail_child_count}
use Rattle.meson_calls.specs.Project.{Project, Placed, child, expression_at, place, placed}
use Rattle.meson_calls.proofs.PartsContained.{parts-are-all}
use Rattle.meson_following.specs.Following.{one_of_places}
use Rattle.meson_sharing.specs.CodeUses.{NoneBefore, around, uses_at, uses_there}
use Rattle.meson_sharing.specs.Sharing.{is_use, passes_on, uses, uses_of_argument, uses_of_arguments, uses_of_expression, uses_of_listing, uses_of_part, uses_of_tail, uses_of_tails, ways}
use Rattle.meson_sharing.proofs.ApartReads.{IsWithin, ways_within}
use Rattle.meson_sharing.proofs.Sharing.{is_one, one_of}

-- ---- uses are below their call

record IsBelow (base q : CallRef) : Type 0 where
  in_file : q.file ≡ base.file
  first : ℕ
  others : List ℕ
  is_path : q.path.steps ≡ base.path.steps ++ (first ∷ others)

child_below : (base : CallRef) (n : ℕ) (q : CallRef) → IsWithin (child base n) q → IsBelow base q
child_below base n q w =
    record { in_file = w.in_file; first = n; others = w.steps; is_path = w.is_path ∙ append_assoc base.path.steps (n ∷ []) w.steps }

ways_below : {S : Type 0} (base : CallRef) (n : ℕ) (e : Expression S) → All (IsBelow base) (ways (child base n) e)
ways_below base n e = All-weaker (IsWithin (child base n)) (IsBelow base) (child_below base n) (ways (child base n) e) (ways_within e (child base n))

unless : (base : CallRef) (b : Bool) (qs : List CallRef) → All (IsBelow base) qs → All (IsBelow base) (if b then [] else qs)
unless base true qs all = All-nil (IsBelow base)
unless base false qs all = all

module _ {S : Type 0} (base : CallRef) where
  argument_below : (n : ℕ) (a : Argument S) → All (IsBelow base) (uses_of_argument base n a)
  argument_below n (plain e) = ways_below base n e
  argument_below n (named s x e) = ways_below base n e
  argument_below n (pair s e f) = All-nil (IsBelow base)

  arguments_below : (n : ℕ) (as_ : Arguments S) → All (IsBelow base) (uses_of_arguments base n as_)
  arguments_below n no_arguments = All-nil (IsBelow base)
  arguments_below n (argument a more) =
      All-append (IsBelow base) (uses_of_argument base n a) (uses_of_arguments base (n + argument_child_count a) more) (argument_below n a)
      (arguments_below (n + argument_child_count a) more)

  listing_below : (n : ℕ) (l : Listing S) → All (IsBelow base) (uses_of_listing base n l)
  listing_below n (listing s trailing list) = arguments_below n list

  tail_below : (n : ℕ) (t : Tail S) → All (IsBelow base) (uses_of_tail base n t)
  tail_below n (method s f l) = listing_below n l
  tail_below n (index s e) = All-nil (IsBelow base)

  tails_below : (n : ℕ) (ts : Tails S) → All (IsBelow base) (uses_of_tails base n ts)
  tails_below n no_tails = All-nil (IsBelow base)
  tails_below n (tail t more) =
      All-append (IsBelow base) (uses_of_tail base n t) (uses_of_tails base (n + tail_child_count t) more) (tail_below n t)
      (tails_below (n + tail_child_count t) more)

  uses_below : (e : Expression S) → All (IsBelow base) (uses_of_expression base e)
  uses_below (call s f l) = unless base (passes_on f.text) (uses_of_listing base 0 l) (listing_below 0 l)
  uses_below (postfix s e ts) = tails_below 1 ts
  uses_below _ = All-nil (IsBelow base)

-- ---- what is taken of one of a list

module _ {X C : Type 0} (f : X → List C) where
  one_has : (xs : List X) (c : C) → Contains (flat_map f xs) c → (x : X) × Contains xs x × Contains (f x) c
  one_has [] c has = absurd (let n = has.1 in omega (arith, n))
  one_has (x ∷ xs) c has =
      elim (Contains-append_cases (f x) (flat_map f xs) c has) [
        | inl here ↦ (x, (0, omega arith, refl), here)
        | inr there ↦ let one = one_has xs c there in (one.0, Contains-append_right (x ∷ []) xs one.0 one.1, one.2)
      ]

  has_one : (xs : List X) (x : X) (c : C) → Contains xs x → Contains (f x) c → Contains (flat_map f xs) c
  has_one xs x c has here = All-contains (λ y. Contains (f y) c → Contains (flat_map f xs) c) xs x (each xs) has here
    where
      each : (ys : List X) → All (λ y. Contains (f y) c → Contains (flat_map f ys) c) ys
      each [] = All-nil (λ y. Contains (f y) c → Contains (flat_map f []) c)
      each (y ∷ ys) =
          All-cons (λ z. Contains (f z) c → Contains (flat_map f (y ∷ ys)) c) y ys (Contains-append_left (f y) (flat_map f ys) c)
          (All-weaker (λ z. Contains (f z) c → Contains (flat_map f ys) c) (λ z. Contains (f z) c → Contains (flat_map f (y ∷ ys)) c)
          (λ z so within. Contains-append_right (f y) (flat_map f ys) c (so within)) ys (each ys))

-- ---- the calls around a place

module _ (p : Project Span) (q : CallRef) where
  -- a call makes it a use
  pub makes_use : (a : CallRef) → one_of_places (uses_at p a) q ≡ true → is_use p q ≡ true
  makes_use a is = go (expression_at p a) refl (one_of (uses_at p a) q is)
    where
      go : (o : Option (Expression Span)) → expression_at p a ≡ o → Contains (uses_there a o) q → is_use p q ≡ true
      go None at_ has = absurd (let n = has.1 in omega (arith, n))
      go (Some e) at_ has = is_one (uses p) q (has_one uses_of_part (parts p) (placed a (an_expression e)) q ((parts-are-all p a e).1 at_) has)

  abbrev OneAround : Type 0
  OneAround = (n : ℕ) × (n < length q.path.steps) × (one_of_places (uses_at p (around q n)) q ≡ true)

  below_is : (a : CallRef) (e : Expression Span) → expression_at p a ≡ Some e → Contains (uses_of_expression a e) q → OneAround
  below_is a e at_ has =
      let below : IsBelow a q = All-contains (IsBelow a) (uses_of_expression a e) q (uses_below a e) has in
      let n = length a.path.steps in
      let steps : take n q.path.steps ≡ a.path.steps = ap (take n) below.is_path ∙ take-append_seam a.path.steps (below.first ∷ below.others) in
      let here : around q n ≡ a = ap (λ f. place f (take n q.path.steps)) below.in_file ∙ ap (place a.file) steps in
      let uses_are : uses_at p (around q n) ≡ uses_of_expression a e = ap (uses_at p) here ∙ ap (uses_there a) at_ in
      let shorter : n < length q.path.steps = omega (arith, ap length below.is_path, length-append a.path.steps (below.first ∷ below.others)) in
      (n, shorter, ap (λ us. one_of_places us q) uses_are ∙ is_one (uses_of_expression a e) q has)

  part_is : (r : Placed (Part Span)) → Contains (parts p) r → Contains (uses_of_part r) q → OneAround
  part_is r has within = go r.it has within
    where
      go : (part : Part Span) → Contains (parts p) (placed r.place part) → Contains (uses_of_part (placed r.place part)) q → OneAround
      go (an_expression e) has within = below_is r.place e ((parts-are-all p r.place e).0 has) within
      go (a_statement s) has within = absurd (let n = within.1 in omega (arith, n))

  -- each use has one around it
  use_around : is_use p q ≡ true → OneAround
  use_around is = let one = one_has uses_of_part (parts p) q (one_of (uses p) q is) in part_is one.0 one.1 one.2

  pub no_use : (i : ℕ) → length q.path.steps ≤ i → NoneBefore p q i → false ≡ is_use p q
  no_use i past none = go (is_use p q) refl
    where
      go : (b : Bool) → is_use p q ≡ b → false ≡ is_use p q
      go true is = let one = use_around is in absurd (false≢true (sym (none one.0 (let n = one.1 in omega (arith, n, past))) ∙ one.2))
      go false is = sym is

  pub none_yet : (i : ℕ) → one_of_places (uses_at p (around q i)) q ≡ false → NoneBefore p q i → NoneBefore p q (i + 1)
  none_yet i fails none n less = go (cases_lt n i)
    where
      go : (n < i) ⊎ (i ≤ n) → one_of_places (uses_at p (around q n)) q ≡ false
      go (inl before) = none n before
      go (inr after) = let same : i ≡ n = omega (arith, less, after) in subst (λ m. one_of_places (uses_at p (around q m)) q ≡ false) same fails
