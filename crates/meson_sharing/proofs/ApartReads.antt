-- Ways are within their expression. So what is read by one call alone is read by no call beside it.
use Rattle.std.proofs.Common.{◌≡◌, ◌⊎◌, inl, inr, ℕ, ◌+◌, ◌≤◌, List, [], ◌∷◌, ◌++◌, length, take, refl, sym, ap, ◌∙◌, arith}
use Rattle.std.specs.Prelude.{◌==◌, nat_eq, Bool, true, false, if◌then◌else◌, Option, Some, None}
use Rattle.std.specs.List.{All, Contains, starts_with}
use Rattle.std.proofs.Math.Seq.{take-append_seam}
use Rattle.std.proofs.lemmas.Bool.{and_from, cases_lt, eq-eqb, false≢true}
use Rattle.std.proofs.lemmas.List.{append_assoc, append-nil, take-append-le}
use Rattle.std.proofs.lemmas.List.Elements.{All-append, All-cons, All-contains, All-contains_itself, All-nil, All-weaker}
use Rattle.std.proofs.lemmas.Slice.Eq.{bytes_eq-Decides}
use Rattle.meson_lex.specs.declared.kinds.Span.{Span}
use Rattle.meson_syntax.specs.Tree.{Expression, identifier, paren, array, call, row, conditional, Operands, no_operands, operand, Listing, listing, Argument, plain, named, pair, Arguments, no_arguments, argument}
use Rattle.meson_calls.specs.declared.call.CallRef.{CallRef}
use Rattle.meson_calls.specs.Calls.{Call, Numbered, keyword, positional}
use Rattle.meson_calls.specs.NamedArguments.{rest, sources_key}
use Rattle.meson_calls.specs.Project.{Project, Placed, placed, child, expression_at}
use Rattle.meson_variables.specs.Expansion.{are_plus, is_files}
use Rattle.meson_following.specs.Flows.{is_in}
use Rattle.meson_sharing.specs.Laws.{AreApart, IsElsewhere, IsReadBy, at_once, through, ReadFor, by_the_call, by_one, ReadNothingOf}
use Rattle.meson_sharing.specs.Sharing.{from_maker, is_getter, is_own, reads_of, ways, ways_at, ways_of_target, ways_of_element, ways_of_elements, ways_of_listing, ways_of_operands, ways_of_values, ways_there}
use Rattle.meson_sharing.proofs.Sharing.{own_reads}

-- ---- one place within another

pub record IsWithin (base q : CallRef) : Type 0 where
  pub in_file : q.file ≡ base.file
  pub steps : List ℕ
  pub is_path : q.path.steps ≡ base.path.steps ++ steps

itself_within : (q : CallRef) → IsWithin q q
itself_within q = record { in_file = refl; steps = []; is_path = sym (append-nil q.path.steps) }

child_within : (base : CallRef) (n : ℕ) (q : CallRef) → IsWithin (child base n) q → IsWithin base q
child_within base n q w =
    record { in_file = w.in_file; steps = n ∷ w.steps; is_path = w.is_path ∙ append_assoc base.path.steps (n ∷ []) w.steps }

-- of two that begin one list, the longer one begins with the other
begins : (a b r s : List ℕ) → a ++ r ≡ b ++ s → length b ≤ length a → starts_with nat_eq a b ≡ true
begins a b r s same short =
    let kept : take (length b) a ≡ b = sym (take-append-le (length b) a r short) ∙ ap (take (length b)) same ∙ take-append_seam b s in
    (bytes_eq-Decides b (take (length b) a)).1 (sym kept)

is_inside : (c d q : CallRef) → IsWithin c q → IsWithin d q → length d.path.steps ≤ length c.path.steps → is_in c d ≡ true
is_inside c d q v w short =
    and_from (c.file == d.file) (starts_with nat_eq c.path.steps d.path.steps) (eq-eqb c.file d.file (sym v.in_file ∙ w.in_file))
    (begins c.path.steps d.path.steps v.steps w.steps (sym v.is_path ∙ w.is_path) short)

-- nothing is within both of two that are apart
apart : (c d q : CallRef) → AreApart c d → IsWithin c q → IsWithin d q → ⊥
apart c d q are v w =
    elim (cases_lt (length c.path.steps) (length d.path.steps)) [
      | inl shorter ↦ false≢true (sym are.1 ∙ is_inside d c q w v (omega (arith, shorter)))
      | inr longer ↦ false≢true (sym are.0 ∙ is_inside c d q v w (omega (arith, longer)))
    ]

-- ---- ways are within

in_child : (base : CallRef) (n : ℕ) (qs : List CallRef) → All (IsWithin (child base n)) qs → All (IsWithin base) qs
in_child base n qs all = All-weaker (IsWithin (child base n)) (IsWithin base) (child_within base n) qs all

if_so : (base : CallRef) (b : Bool) (qs : List CallRef) → All (IsWithin base) qs → All (IsWithin base) (if b then qs else [])
if_so base true qs all = all
if_so base false qs all = All-nil (IsWithin base)

either_so : (base : CallRef) (b : Bool) (qs rs : List CallRef) → All (IsWithin base) qs → All (IsWithin base) rs → All (IsWithin base) (if b then qs else rs)
either_so base true qs rs first second = first
either_so base false qs rs first second = second

module _ {S : Type 0} where
  mutual
    pub ways_within : (e : Expression S) (base : CallRef) → All (IsWithin base) (ways base e)
    ways_within (identifier s x) base = All-cons (IsWithin base) base [] (itself_within base) (All-nil (IsWithin base))
    ways_within (array l) base = listing_within l base
    ways_within (call s f l) base =
        either_so base (is_getter f.text) (base ∷ []) (if is_files f.text l then ways_of_listing base l else [])
        (All-cons (IsWithin base) base [] (itself_within base) (All-nil (IsWithin base)))
        (if_so base (is_files f.text l) (ways_of_listing base l) (listing_within l base))
    ways_within (paren s e) base = in_child base 0 (ways (child base 0) e) (ways_within e (child base 0))
    ways_within (conditional s c y n) base =
        All-append (IsWithin base) (ways (child base 1) y) (ways (child base 2) n)
        (in_child base 1 (ways (child base 1) y) (ways_within y (child base 1)))
        (in_child base 2 (ways (child base 2) n) (ways_within n (child base 2)))
    ways_within (row s e os) base =
        if_so base (are_plus os) (ways (child base 0) e ++ ways_of_operands base 1 os)
        (All-append (IsWithin base) (ways (child base 0) e) (ways_of_operands base 1 os)
        (in_child base 0 (ways (child base 0) e) (ways_within e (child base 0))) (operands_within os base 1))
    ways_within _ base = All-nil (IsWithin base)

    operands_within : (os : Operands S) (base : CallRef) (n : ℕ) → All (IsWithin base) (ways_of_operands base n os)
    operands_within no_operands base n = All-nil (IsWithin base)
    operands_within (operand o e more) base n =
        All-append (IsWithin base) (ways (child base n) e) (ways_of_operands base (n + 1) more)
        (in_child base n (ways (child base n) e) (ways_within e (child base n))) (operands_within more base (n + 1))

    listing_within : (l : Listing S) (base : CallRef) → All (IsWithin base) (ways_of_listing base l)
    listing_within (listing s trailing list) base = elements_within list base 0

    elements_within : (as_ : Arguments S) (base : CallRef) (n : ℕ) → All (IsWithin base) (ways_of_elements base n as_)
    elements_within no_arguments base n = All-nil (IsWithin base)
    elements_within (argument a more) base n =
        All-append (IsWithin base) (ways_of_element base n a) (ways_of_elements base (n + 1) more)
        (element_within a base n) (elements_within more base (n + 1))

    element_within : (a : Argument S) (base : CallRef) (n : ℕ) → All (IsWithin base) (ways_of_element base n a)
    element_within (plain e) base n = in_child base n (ways (child base n) e) (ways_within e (child base n))
    element_within (named s x e) base n = All-nil (IsWithin base)
    element_within (pair s e f) base n = All-nil (IsWithin base)

  values_within : (base : CallRef) (n : ℕ) (vs : List (Numbered (Expression S))) → All (IsWithin base) (ways_of_values base n vs)
  values_within base n [] = All-nil (IsWithin base)
  values_within base n (v ∷ vs) =
      let at_ : CallRef = child base (n + v.number) in
      All-append (IsWithin base) (ways at_ v.value) (ways_of_values base n vs)
      (in_child base (n + v.number) (ways at_ v.value) (ways_within v.value at_)) (values_within base n vs)

  there_within : (base : CallRef) (o : Option (Expression S)) → All (IsWithin base) (ways_there base o)
  there_within base None = All-nil (IsWithin base)
  there_within base (Some e) = ways_within e base

call_within : (c : Placed (Call Span)) → All (IsWithin c.place) (ways_of_target c)
call_within c = values_within c.place 0 (rest (positional c.it) ++ keyword sources_key c.it)

at_within : (p : Project Span) (v : CallRef) → All (IsWithin v) (ways_at p v)
at_within p v = there_within v (expression_at p v)

-- ---- the law

module _ (p : Project Span) (c : Placed (Call Span)) (m e : CallRef) (own : is_own p c m ≡ true) (else_where : IsElsewhere p c m e) where
  not_read : (q : CallRef) → IsWithin e q → ReadFor p c (from_maker p c m) q → ⊥
  not_read q here (by_the_call has) = apart e c.place q else_where.0 here (All-contains (IsWithin c.place) (ways_of_target c) q (call_within c) has)
  not_read q here (by_one v made has) =
      apart e v q (All-contains (AreApart e) (from_maker p c m) v else_where.1 made) here (All-contains (IsWithin v) (ways_at p v) q (at_within p v) has)

  nothing_read : (qs : List CallRef) → All (IsWithin e) qs → ReadNothingOf p c m qs
  nothing_read qs within =
      All-weaker (λ v. All (ReadFor p c (from_maker p c m)) (reads_of p (v ∷ [])))
      (λ v. (q : CallRef) → Contains qs q → Contains (reads_of p (v ∷ [])) q → ⊥)
      (λ v all_read q has seen. not_read q (All-contains (IsWithin e) qs q within has)
      (All-contains (ReadFor p c (from_maker p c m)) (reads_of p (v ∷ [])) q all_read seen))
      (from_maker p c m) (own_reads p c m own)

  pub others_read_nothing : ((d : Call Span) → ReadNothingOf p c m (ways_of_target (placed e d))) × ReadNothingOf p c m (ways_at p e)
  others_read_nothing = (λ d. nothing_read (ways_of_target (placed e d)) (call_within (placed e d)), nothing_read (ways_at p e) (at_within p e))

-- ---- through other values

module _ (p : Project Span) (c : Placed (Call Span)) (m : CallRef) (d : Placed (Call Span)) (own : is_own p c m ≡ true) (beside : IsElsewhere p c m d.place)
    (others : (u : CallRef) → IsReadBy p d u → Contains (from_maker p c m) u ⊎ IsElsewhere p c m u) where
  abbrev None_of : List CallRef → CallRef → Type 0
  None_of qs v = (q : CallRef) → Contains qs q → Contains (reads_of p (v ∷ [])) q → ⊥

  unread : (v : CallRef) → IsReadBy p d v → Contains (from_maker p c m) v → ⊥
  unread _ (at_once v q way seen) made =
      All-contains (None_of (ways_of_target d)) (from_maker p c m) v ((others_read_nothing p c m d.place own beside).0 d.it) made q way seen
  unread _ (through u v q first way seen) made =
      elim (others u first) [
        | inl one ↦ unread u first one
        | inr else_where ↦ All-contains (None_of (ways_at p u)) (from_maker p c m) v (others_read_nothing p c m u own else_where).1 made q way seen
      ]

  pub reach_no_other : All (λ v. IsReadBy p d v → ⊥) (from_maker p c m)
  reach_no_other =
      All-weaker (Contains (from_maker p c m)) (λ v. IsReadBy p d v → ⊥) (λ v made is_read. unread v is_read made) (from_maker p c m)
      (All-contains_itself (from_maker p c m))
