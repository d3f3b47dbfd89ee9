-- What is met in an expression, and behind variables that it names, stands where it says, and is met once.
use Rattle.meson_sources.proofs.Words.{bytes_eq, if◌then◌else◌, ◌&&◌, ◌||◌, ◌⊎◌, [], ap, arith, Bool, false, inl, inr, List, None, Option, refl, Some, subst}
use Rattle.meson_sources.proofs.Words.{suc, sym, true, zero, ℕ, ◌++◌, ◌+◌, ◌∙◌, ◌∷◌, ◌≡◌, ◌≤◌, or_left, or_right, bytes_eq-Decides, value, Span, holds_values}
use Rattle.meson_sources.proofs.Words.{string_kind, list_in, ListIn, Argument, argument, argument_list, Arguments, array, call, Expression, identifier, Listing}
use Rattle.meson_sources.proofs.Words.{listing, named, no_arguments, no_operands, operand, Operands, pair, plain, row, string, StringKind, elements, child}
use Rattle.meson_sources.proofs.Words.{expression_at, Placed, Project, one_of, CallRef, child_stands, list_here, are_plus, both_expanded, element, expand}
use Rattle.meson_sources.proofs.Words.{expand_argument, expand_by, expand_each, expand_listing, expand_operands, Expansion, follow_single, is_files}
use Rattle.meson_sources.proofs.Words.{is_list_operand, Item, literal_item, met, nothing_met, of_variable, opaque, operand_at, Stand, within, items, single}
use Rattle.meson_sources.proofs.gone.Named.{every_weaker}
use Rattle.meson_sources.proofs.met.Regions.{Beneath, From, Known, Meets, New, both_once, from_beneath, none_met, opaque_once, other_child, some_within, wider}
use Rattle.meson_sources.proofs.met.Regions.{within_once, MeetsWithin}
use Rattle.meson_sources.proofs.met.Standing.{ElementAt, Elements, Operated, SlotOf, elements_stand, first_stands, others_stand, row_stands, slot_stands}
use Rattle.meson_sources.proofs.met.Standing.{SlotFits}
use Rattle.meson_sources.proofs.trees.Elements.{AreLevel}
use Rattle.meson_sources.proofs.trees.Places.{below_itself, single_stands}

abbrev NoPlace : CallRef → Type 0
NoPlace q = ⊥

either_false : (b c : Bool) → (b || c) ≡ false → c ≡ false
either_false true c is = absurd cc
either_false false c is = is

module _ (p : Project Span) (levels : AreLevel p) (In : Option (List ℕ) → CallRef → Type 0) (one_region : (a b : Option (List ℕ)) (q : CallRef) → In a q → In b q → a ≡ b)
    (child_inside : (v : Option (List ℕ)) (q : CallRef) (e : Expression Span) → expression_at p q ≡ Some e → MeetsWithin e → In v q → (n : ℕ) → In v (child q n)) where
  -- an expression at its place, in its slot, and in the region of the variable here
  pub record Here (s : Stand) (e : Expression Span) (f : List (List ℕ)) : Type 0 where
    pub is_at : expression_at p s.place ≡ Some e
    pub slot : SlotOf p s.slot e
    pub inside : In s.variable s.place
    pub fits : SlotFits s.slot s.place
    pub known : Known p In s.variable f

  abbrev OnceFrom : ℕ → CallRef → Option (List ℕ) → List (List ℕ) → Expansion Span → Type 0
  OnceFrom n c v f e = Meets p In (From n c) v f e

  -- of an expression at least one mark is met
  pub record Once (Own : CallRef → Type 0) (v : Option (List ℕ)) (f : List (List ℕ)) (e : Expansion Span) : Type 0 where
    pub it : Meets p In Own v f e
    pub some : e.marks ≡ [] → ⊥

  nothing_known : (Own : CallRef → Type 0) (v : Option (List ℕ)) (f : List (List ℕ)) → Once Own v f (met opaque f)
  nothing_known Own v f = record { it = opaque_once p In Own v f; some = λ none. cc }

  not_empty : {X : Type 0} (xs ys : List X) → (xs ≡ [] → ⊥) → xs ++ ys ≡ [] → ⊥
  not_empty [] ys some none = some refl
  not_empty (x ∷ xs) ys some none = cc

  -- one child, and those behind it
  child_then : (n : ℕ) (c : CallRef) (v : Option (List ℕ)) (f : List (List ℕ)) (e rest : Expansion Span) → Known p In v f → Once (Beneath (child c n)) v f e → OnceFrom (n + 1) c v e.followed rest → OnceFrom n c v f (both_expanded e rest)
  child_then n c v f e rest known m r =
      both_once p In one_region (Beneath (child c n)) (From (n + 1) c) (From n c) (λ q u. let le : n ≤ n = omega arith in (n, le, u))
      (λ q w. let more = w.1 in let le : n ≤ w.0 = omega (arith, more) in (w.0, le, w.2))
      (λ q u w. let same = other_child c q n w.0 u w.2 in let more = w.1 in omega (arith, same, more)) v f known e rest m.it r

  children_once : (c : CallRef) (v : Option (List ℕ)) (f : List (List ℕ)) (e : Expansion Span) → OnceFrom 0 c v f e → Meets p In (Beneath c) v f e
  children_once c v f e m = wider p In (From 0 c) (Beneath c) v f e (from_beneath c 0) m

  module _ (lists : Expression Span → Bool) (follow : List ℕ → List (List ℕ) → Expansion Span) (follows : (x : List ℕ) (f : List (List ℕ)) → one_of f x ≡ false → (v : Option (List ℕ)) → Once NoPlace v f (follow x f)) where
    abbrev one : Expression Span → Stand → List (List ℕ) → Expansion Span
    one = expand_by lists follow

    literal_once : (at : Span) (q : StringKind) (x : List ℕ) (s : Stand) (f : List (List ℕ)) → Here s (string at q x) f → (o : Option (List ℕ)) → Once (Beneath s.place) s.variable f (literal_item at s f o)
    literal_once at q x s f h None = nothing_known (Beneath s.place) s.variable f
    literal_once at q x s f h (Some text) = record {
      it = record {
        more = λ y is. is;
        stand = (slot_stands p s.slot at q x h.slot, tt);
        each = (record { inside = h.inside; fits = h.fits; from = inl (refl, ([], sym (below_itself s.place))) }, tt);
        differ = (tt, tt);
      };
      some = λ none. cc;
    }

    variable_once : (x : List ℕ) (c : CallRef) (v : Option (List ℕ)) (f : List (List ℕ)) (b : Bool) → one_of f x ≡ b → Once (Beneath c) v f (if b then met opaque f else follow x f)
    variable_once x c v f true seen = nothing_known (Beneath c) v f
    variable_once x c v f false new = let m = follows x f new v in record { it = wider p In NoPlace (Beneath c) v f (follow x f) (λ q none. absurd none) m.it; some = m.some }

    list_if : (b : Bool) {c : Bool} → c ≡ b → (q : CallRef) (v : Option (List ℕ)) (f : List (List ℕ)) (e : Expansion Span) → (c ≡ true → Once (Beneath q) v f (within q e)) → Once (Beneath q) v f (if b then within q e else met opaque f)
    list_if true is q v f e m = m is
    list_if false is q v f e m = nothing_known (Beneath q) v f

    sum_if : (b : Bool) (q : CallRef) (v : Option (List ℕ)) (f : List (List ℕ)) (e : Expansion Span) → Once (Beneath q) v f e → Once (Beneath q) v f (if b then e else met opaque f)
    sum_if true q v f e m = m
    sum_if false q v f e m = nothing_known (Beneath q) v f

    -- the list of an expression in which there is no element
    empty_once : (e : Expression Span) (l : ListIn Span) (s : Stand) (f : List (List ℕ)) → Here s e f → list_in e ≡ Some l → holds_values l.bracket ≡ true → elements l.list ≡ [] → Once (Beneath s.place) s.variable f (within s.place (nothing_met f))
    empty_once e l s f h is_list values none =
        let here = list_here p s.place e l h.is_at is_list in record {
          it = record { more = λ x is. is; stand = (record { there = here.there; is_empty = ap elements here.same_list ∙ none; values = ap holds_values here.same_bracket ∙ values }, tt); each = tt; differ = tt };
          some = λ none. cc;
        }

    mutual
      pub expression_once : (e : Expression Span) (s : Stand) (f : List (List ℕ)) → Here s e f → Once (Beneath s.place) s.variable f (one e s f)
      expression_once (string at q x) s f h = literal_once at q x s f h (value (string_kind q) x)
      expression_once (array l) s f h = list_once l (array l) s f h tt _ refl refl refl
      expression_once (call at g l) s f h = list_if (is_files g.text l) refl s.place s.variable f _ (λ is. list_once l (call at g l) s f h is _ refl refl refl)
      expression_once (identifier at x) s f h = variable_once x s.place s.variable f (one_of f x) refl
      expression_once (row at e os) s f h =
          let inside = child_inside s.variable s.place (row at e os) h.is_at tt h.inside in
          let first = expression_once e (operand_at s 0) f (record { is_at = child_stands p s.place (row at e os) h.is_at 0 e refl; slot = tt; inside = inside 0; fits = tt; known = h.known }) in
          let now = one e (operand_at s 0) f in
          let rest = expand_operands lists follow os 1 s now.followed in
          let all = operands_once os 1 s now.followed (λ x is. first.it.more x (h.known x is)) inside (row_stands p s.place at e os h.is_at) in
          sum_if (are_plus os && lists e) s.place s.variable f _
          (record { it = children_once s.place s.variable f _ (child_then 0 s.place s.variable f now rest h.known first all); some = not_empty now.marks rest.marks first.some })
      expression_once _ s f h = nothing_known (Beneath s.place) s.variable f

      operands_once : (os : Operands Span) (n : ℕ) (s : Stand) (f : List (List ℕ)) → Known p In s.variable f → ((k : ℕ) → In s.variable (child s.place k)) → Operated p s.place n os
          → OnceFrom n s.place s.variable f (expand_operands lists follow os n s f)
      operands_once no_operands n s f known inside all = none_met p In (From n s.place) s.variable f
      operands_once (operand o e more) n s f known inside all =
          let first = expression_once e (operand_at s n) f (record { is_at = all.0; slot = tt; inside = inside n; fits = tt; known = known }) in
          child_then n s.place s.variable f _ _ known first (operands_once more (n + 1) s (one e (operand_at s n) f).followed (λ x is. first.it.more x (known x is)) inside all.1)

      list_once : (l : Listing Span) (e : Expression Span) (s : Stand) (f : List (List ℕ)) → Here s e f → MeetsWithin e → (it : ListIn Span) → list_in e ≡ Some it → holds_values it.bracket ≡ true → it.list ≡ l
          → Once (Beneath s.place) s.variable f (within s.place (expand_listing lists follow l s f))
      list_once (listing at trailing no_arguments) e s f h way it is_list values same = empty_once e it s f h is_list values (ap elements same)
      list_once (listing at trailing (argument a more)) e s f h way it is_list values same =
          let all = subst (λ l. Elements p s.place 0 (elements l)) same (elements_stand p levels s.place e it h.is_at is_list values) in
          let inside = child_inside s.variable s.place e h.is_at way h.inside in
          let first = element_once a 0 s f h.known inside (first_stands p a more 0 s.place all) in
          let now = expand_argument lists follow a (element s 0) f in
          let rest = expand_each lists follow more (0 + 1) s now.followed in
          let m = child_then 0 s.place s.variable f now rest h.known first (each_once more (0 + 1) s now.followed (λ x is. first.it.more x (h.known x is)) inside (others_stand p a more 0 s.place all)) in
          let some = not_empty now.marks rest.marks first.some in
          record { it = within_once p In (Beneath s.place) s.variable f s.place _ some (children_once s.place s.variable f _ m); some = some_within s.place _ }

      each_once : (list : Arguments Span) (n : ℕ) (s : Stand) (f : List (List ℕ)) → Known p In s.variable f → ((k : ℕ) → In s.variable (child s.place k)) → Elements p s.place n (argument_list list)
          → OnceFrom n s.place s.variable f (expand_each lists follow list n s f)
      each_once no_arguments n s f known inside all = none_met p In (From n s.place) s.variable f
      each_once (argument a more) n s f known inside all =
          let first = element_once a n s f known inside (first_stands p a more n s.place all) in
          child_then n s.place s.variable f _ _ known first
          (each_once more (n + 1) s (expand_argument lists follow a (element s n) f).followed (λ x is. first.it.more x (known x is)) inside (others_stand p a more n s.place all))

      element_once : (a : Argument Span) (n : ℕ) (s : Stand) (f : List (List ℕ)) → Known p In s.variable f → ((k : ℕ) → In s.variable (child s.place k)) → ((e : Expression Span) → a ≡ plain e → ElementAt p s.place n e)
          → Once (Beneath (child s.place n)) s.variable f (expand_argument lists follow a (element s n) f)
      element_once (plain e) n s f known inside stands =
          let h = stands e refl in expression_once e (element s n) f (record { is_at = h.is_at; slot = h.slot; inside = inside n; fits = refl; known = known })
      element_once (named at x e) n s f known inside stands = nothing_known (Beneath (child s.place n)) s.variable f
      element_once (pair at e d) n s f known inside stands = nothing_known (Beneath (child s.place n)) s.variable f

  -- ---- variables that are followed

  module _ (value_inside : (x : List ℕ) (v : Placed (Expression Span)) → single p x ≡ Some v → In (Some x) v.place) where
    from_value : (x : List ℕ) (c : CallRef) (f : List (List ℕ)) (e : Expansion Span) → one_of f x ≡ false → (v : Option (List ℕ)) → Once (Beneath c) (Some x) (x ∷ f) e → Once NoPlace v f e
    from_value x c f e new v m = record {
      it = record { more = earlier; stand = m.it.stand; each = every_weaker _ _ (λ i o. record { inside = o.inside; fits = o.fits; from = inr (go i o.from) }) (items e.marks) m.it.each; differ = m.it.differ };
      some = m.some;
    }
      where
        earlier : (y : List ℕ) → one_of f y ≡ true → one_of e.followed y ≡ true
        earlier y is = m.it.more y (or_right (bytes_eq x y) (one_of f y) is)

        go : (i : Item Span) → ((i.variable ≡ Some x) × Beneath c i.place) ⊎ New p In (x ∷ f) e.followed i.variable → New p In f e.followed i.variable
        go i (inl own) = record { name = x; is = own.0; not_yet = new; now = m.it.more x (or_left (bytes_eq x x) (one_of f x) ((bytes_eq-Decides x x).1 refl)) }
        go i (inr later) = record { name = later.name; is = later.is; not_yet = either_false (bytes_eq x later.name) (one_of f later.name) later.not_yet; now = later.now }

    followed_once : (inner : Expression Span → Stand → List (List ℕ) → Expansion Span) → ((e : Expression Span) (s : Stand) (f : List (List ℕ)) → Here s e f → Once (Beneath s.place) s.variable f (inner e s f))
        → (x : List ℕ) (f : List (List ℕ)) → one_of f x ≡ false → (v : Option (List ℕ)) (o : Option (Placed (Expression Span))) → single p x ≡ o → Once NoPlace v f (follow_single inner x f o)
    followed_once inner each x f new v None is = nothing_known NoPlace v f
    followed_once inner each x f new v (Some d) is =
        from_value x d.place f _ new v
        (each d.it (of_variable x d.place) (x ∷ f)
        (record { is_at = single_stands p x d is; slot = tt; inside = value_inside x d is; fits = tt; known = λ y same. let name : x ≡ y = cc in or_left (bytes_eq x y) (one_of f y) ((bytes_eq-Decides x y).1 name) }))

    pub expand_once : (left : ℕ) (e : Expression Span) (s : Stand) (f : List (List ℕ)) → Here s e f → Once (Beneath s.place) s.variable f (expand p left e s f)
    expand_once zero e s f h = expression_once (is_list_operand p) (λ x g. met opaque g) (λ x g new v. nothing_known NoPlace v g) e s f h
    expand_once (suc left) e s f h =
        expression_once (is_list_operand p) (λ x g. follow_single (expand p left) x g (single p x)) (λ x g new v. followed_once (expand p left) (expand_once left) x g new v (single p x) refl) e s f h
