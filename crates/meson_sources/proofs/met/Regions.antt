-- Whose region a place is in, and that what is met stands where it says and is met once.
use Rattle.meson_syntax.specs.Paths as paths
use Rattle.meson_sources.proofs.Words.{◌⊎◌, [], ap, append-nil, append_assoc, ap₂, Bool, false, inl, inr, List, None, Option, refl, Some, subst, sym, true, ℕ}
use Rattle.meson_sources.proofs.Words.{◌++◌, ◌∙◌, ◌∷◌, ◌≡◌, ◌≤◌, bytes_eq-Decides, Span, a_block, an_expression, Any, block_of, call, Expression, listing}
use Rattle.meson_sources.proofs.Words.{node_at, some-injective, Every, every-append, and-then-some, BuildFile, child, expression_at, nth_file, place, Placed}
use Rattle.meson_sources.proofs.Words.{Project, one_of, CallRef, both_expanded, empty, Expansion, is_files, Item, known, Mark, met, nothing_met, opaque}
use Rattle.meson_sources.proofs.Words.{or_empty, within, items, single}
use Rattle.meson_sources.proofs.gone.Named.{every_weaker}
use Rattle.meson_sources.proofs.gone.Spots.{Pairwise, pairwise_append}
use Rattle.meson_sources.proofs.met.Standing.{MarkStands, OtherPlace, SlotFits}
use Rattle.meson_sources.proofs.trees.Calls.{CallIn}
use Rattle.meson_sources.proofs.trees.Places.{expression_node, below, below_child, below_itself, no_statement, node_between, owner, owner_is, single_named}
use Rattle.meson_sources.proofs.trees.Places.{without_last, below_steps}

-- ==== Whose region a place is in: that of a call's arguments or that of the value of a variable. No place is in two.

abbrev root : BuildFile Span → Any Span
root f = a_block (block_of f.tree)

child_below : (q : CallRef) (path : List ℕ) (n : ℕ) → child (below q path) n ≡ below q (path ++ n ∷ [])
child_below q path n = ap (place q.file) (append_assoc q.path.steps path (n ∷ []))

-- what is met goes on below it, if it is a call
abbrev pub MeetsWithin : Expression Span → Type 0
MeetsWithin (call s f l) = is_files f.text l ≡ true
MeetsWithin _ = Unit {0}

module _ (p : Project Span) (c : CallRef) where
  -- below the call
  abbrev pub BelowCall : CallRef → Type 0
  BelowCall q = (n : ℕ) × (rest : List ℕ) × (q ≡ below c (n ∷ rest))

  -- in the value of a variable, and not below the call
  pub record InValue (x : List ℕ) (q : CallRef) : Type 0 where
    pub value : Placed (Expression Span)
    pub is_value : single p x ≡ Some value
    pub path : List ℕ
    pub leads : q ≡ below value.place path
    pub outside : BelowCall q → ⊥

  abbrev pub InRegion : Option (List ℕ) → CallRef → Type 0
  InRegion None q = BelowCall q
  InRegion (Some x) q = InValue x q

  pub argument_inside : (n : ℕ) → InRegion None (child c n)
  argument_inside n = (n, [], refl)

  -- ---- no place is in two

  record OwnedBy (x : List ℕ) (q : CallRef) : Type 0 where
    file : BuildFile Span
    is_file : nth_file p q.file ≡ Some file
    name : List ℕ
    is_owner : owner (root file) q.path.steps ≡ Some name
    is_name : name ≡ x

  owned : (x : List ℕ) (q : CallRef) → InValue x q → OwnedBy x q
  owned x q i =
      let s = single_named p x i.value i.is_value in
      let at = s.0 in
      let a = s.2 in
      let leads : q ≡ below at (0 ∷ i.path) = i.leads ∙ ap (λ d. below d i.path) s.1 ∙ below_child at 0 i.path in
      record {
        file = a.file;
        is_file = ap (λ (r : CallRef). nth_file p r.file) leads ∙ a.is_file;
        name = a.name.text;
        is_owner = ap (λ (r : CallRef). owner (root a.file) r.path.steps) leads ∙ owner_is at.path.steps 0 i.path (root a.file) a.span a.name a.how a.value a.is_node;
        is_name = (bytes_eq-Decides a.name.text x).0 a.is_name;
      }

  one_owner : (x y : List ℕ) (q : CallRef) → InValue x q → InValue y q → x ≡ y
  one_owner x y q i j =
      let a = owned x q i in
      let b = owned y q j in
      let files : a.file ≡ b.file = some-injective _ _ (sym a.is_file ∙ b.is_file) in
      let names : a.name ≡ b.name = some-injective _ _ (sym a.is_owner ∙ ap (λ f. owner (root f) q.path.steps) files ∙ b.is_owner) in
      sym a.is_name ∙ names ∙ b.is_name

  pub one_region : (a b : Option (List ℕ)) (q : CallRef) → InRegion a q → InRegion b q → a ≡ b
  one_region None None q i j = refl
  one_region None (Some y) q i j = absurd (j.outside i)
  one_region (Some x) None q i j = absurd (i.outside j)
  one_region (Some x) (Some y) q i j = ap Some (one_owner x y q i j)

  -- ---- where no list is a call's

  module _ (t : CallIn p c) (no_list : is_files t.name.text (listing t.brackets t.trailing t.arguments) ≡ false) where
    abbrev it : Expression Span
    it = call t.span t.name (listing t.brackets t.trailing t.arguments)

    not_within : MeetsWithin it → ⊥
    not_within way = let both : true ≡ false = sym way ∙ no_list in cc

    -- nor does what is met below it
    still_outside : (q : CallRef) (e : Expression Span) (n : ℕ) → expression_at p q ≡ Some e → MeetsWithin e → (BelowCall q → ⊥) → BelowCall (child q n) → ⊥
    still_outside q e n is way outside w =
        let file : q.file ≡ c.file = ap (λ (r : CallRef). r.file) w.2 in
        let up = without_last q.path.steps c.path.steps w.1 n w.0 (ap (λ (r : CallRef). r.path.steps) w.2) in
        by file up.0 up.1
      where
        by : q.file ≡ c.file → (more : List ℕ) → q.path.steps ≡ c.path.steps ++ more → ⊥
        by file [] path =
            let same : q ≡ c = ap₂ place file (path ∙ append-nil c.path.steps) in
            let one : e ≡ it = some-injective e it (sym is ∙ ap (expression_at p) same ∙ t.at) in
            not_within (subst MeetsWithin one way)
        by file (k ∷ more) path = outside (k, more, ap₂ place file path)

    pub child_inside : (v : Option (List ℕ)) (q : CallRef) (e : Expression Span) → expression_at p q ≡ Some e → MeetsWithin e → InRegion v q → (n : ℕ) → InRegion v (child q n)
    child_inside None q e is way i n = (i.0, i.1 ++ n ∷ [], ap (λ r. child r n) i.2 ∙ child_below c (i.0 ∷ i.1) n)
    child_inside (Some x) q e is way i n = record {
      value = i.value;
      is_value = i.is_value;
      path = i.path ++ n ∷ [];
      leads = ap (λ r. child r n) i.leads ∙ child_below i.value.place i.path n;
      outside = still_outside q e n is way i.outside;
    }

    -- the value of a variable stands in no expression
    value_outside : (x : List ℕ) (v : Placed (Expression Span)) → single p x ≡ Some v → BelowCall v.place → ⊥
    value_outside x v is w =
        let s = single_named p x v is in
        let at = s.0 in
        let a = s.2 in
        let places : child at 0 ≡ below c (w.0 ∷ w.1) = sym s.1 ∙ w.2 in
        let file : at.file ≡ c.file = ap (λ (r : CallRef). r.file) places in
        let up = without_last at.path.steps c.path.steps w.1 0 w.0 (ap (λ (r : CallRef). r.path.steps) places) in
        let o = and-then-some (λ (g : BuildFile Span). paths.expression_on_path g.tree c.path.steps) (nth_file p c.file) it t.at in
        let same : o.0 ≡ a.file = some-injective _ _ (sym o.1 ∙ ap (nth_file p) (sym file) ∙ a.is_file) in
        let there = expression_node Span o.0.tree c.path.steps it o.2 in
        no_statement up.0 it _
        (sym (node_between c.path.steps up.0 (root o.0) (an_expression it) there) ∙ ap (node_at (root o.0)) (sym up.1) ∙ ap (λ f. node_at (root f) at.path.steps) same ∙ a.is_node)

    pub value_inside : (x : List ℕ) (v : Placed (Expression Span)) → single p x ≡ Some v → InRegion (Some x) v.place
    value_inside x v is = record { value = v; is_value = is; path = []; leads = sym (below_itself v.place); outside = value_outside x v is }

-- ==== What is met stands where it says, and is met once: its items stand at different places.

-- ---- marks

pub items_both : (ms ns : List (Mark Span)) → items (ms ++ ns) ≡ items ms ++ items ns
items_both [] ns = refl
items_both (known i ∷ ms) ns = ap (λ l. i ∷ l) (items_both ms ns)
items_both (opaque ∷ ms) ns = items_both ms ns
items_both (empty c ∷ ms) ns = items_both ms ns

or_empty_same : (c : CallRef) (ms : List (Mark Span)) → (ms ≡ [] → ⊥) → ms ≡ or_empty c ms
or_empty_same c [] some = absurd (some refl)
or_empty_same c (m ∷ ms) some = refl

pub some_within : (c : CallRef) (ms : List (Mark Span)) → or_empty c ms ≡ [] → ⊥
some_within c [] none = cc
some_within c (m ∷ ms) none = cc

-- ---- regions below a place

abbrev pub Beneath : CallRef → CallRef → Type 0
Beneath c q = (rest : List ℕ) × (q ≡ below c rest)

-- below one of its children, of which the first has this number
abbrev pub From : ℕ → CallRef → CallRef → Type 0
From n c q = (k : ℕ) × (n ≤ k) × Beneath (child c k) q

pub from_beneath : (c : CallRef) (n : ℕ) (q : CallRef) → From n c q → Beneath c q
from_beneath c n q w = (w.0 ∷ w.2.0, w.2.1 ∙ below_child c w.0 w.2.0)

pub other_child : (c q : CallRef) (n k : ℕ) → Beneath (child c n) q → Beneath (child c k) q → n ≡ k
other_child c q n k u w =
    let steps : n ∷ u.0 ≡ k ∷ w.0 = below_steps c _ _ (sym (below_child c n u.0) ∙ sym u.1 ∙ w.1 ∙ below_child c k w.0) in cc

-- ---- what is met

module _ (p : Project Span) (In : Option (List ℕ) → CallRef → Type 0) where
  -- of a variable that was followed between
  pub record New (f g : List (List ℕ)) (v : Option (List ℕ)) : Type 0 where
    pub name : List ℕ
    pub is : v ≡ Some name
    pub not_yet : one_of f name ≡ false
    pub now : one_of g name ≡ true

  -- an item of the variable here, or of a new one
  pub record Comes (Own : CallRef → Type 0) (v : Option (List ℕ)) (f g : List (List ℕ)) (i : Item Span) : Type 0 where
    pub inside : In i.variable i.place
    pub fits : SlotFits i.slot i.place
    pub from : ((i.variable ≡ v) × Own i.place) ⊎ New f g i.variable

  -- what is met from a variable on, where those were followed before
  pub record Meets (Own : CallRef → Type 0) (v : Option (List ℕ)) (f : List (List ℕ)) (e : Expansion Span) : Type 0 where
    pub more : (x : List ℕ) → one_of f x ≡ true → one_of e.followed x ≡ true
    pub stand : Every (MarkStands p) e.marks
    pub each : Every (Comes Own v f e.followed) (items e.marks)
    pub differ : Pairwise OtherPlace (items e.marks)

  abbrev pub Known : Option (List ℕ) → List (List ℕ) → Type 0
  Known v f = (x : List ℕ) → v ≡ Some x → one_of f x ≡ true

  pub none_met : (Own : CallRef → Type 0) (v : Option (List ℕ)) (f : List (List ℕ)) → Meets Own v f (nothing_met f)
  none_met Own v f = record { more = λ x is. is; stand = tt; each = tt; differ = tt }

  pub opaque_once : (Own : CallRef → Type 0) (v : Option (List ℕ)) (f : List (List ℕ)) → Meets Own v f (met opaque f)
  opaque_once Own v f = record { more = λ x is. is; stand = (tt, tt); each = tt; differ = tt }

  -- the same of other regions, and where more was followed behind it, or less before it
  comes_too : (Own Wide : CallRef → Type 0) (v : Option (List ℕ)) (f g f2 g2 : List (List ℕ)) → ((q : CallRef) → Own q → Wide q) → ((x : List ℕ) → one_of f x ≡ false → one_of f2 x ≡ false)
      → ((x : List ℕ) → one_of g x ≡ true → one_of g2 x ≡ true) → (i : Item Span) → Comes Own v f g i → Comes Wide v f2 g2 i
  comes_too Own Wide v f g f2 g2 to not_yet now i o = record { inside = o.inside; fits = o.fits; from = go o.from }
    where
      go : ((i.variable ≡ v) × Own i.place) ⊎ New f g i.variable → ((i.variable ≡ v) × Wide i.place) ⊎ New f2 g2 i.variable
      go (inl own) = inl (own.0, to i.place own.1)
      go (inr new) = inr (record { name = new.name; is = new.is; not_yet = not_yet new.name new.not_yet; now = now new.name new.now })

  pub wider : (Own Wide : CallRef → Type 0) (v : Option (List ℕ)) (f : List (List ℕ)) (e : Expansion Span) → ((q : CallRef) → Own q → Wide q) → Meets Own v f e → Meets Wide v f e
  wider Own Wide v f e to m = record {
    more = m.more;
    stand = m.stand;
    each = every_weaker _ _ (comes_too Own Wide v f e.followed f e.followed to (λ x is. is) (λ x is. is)) (items e.marks) m.each;
    differ = m.differ;
  }

  -- in the list at a place, in which something is met
  pub within_once : (Own : CallRef → Type 0) (v : Option (List ℕ)) (f : List (List ℕ)) (c : CallRef) (e : Expansion Span) → (e.marks ≡ [] → ⊥) → Meets Own v f e → Meets Own v f (within c e)
  within_once Own v f c e some m = subst (λ ms. Meets Own v f (record { marks = ms; followed = e.followed })) (or_empty_same c e.marks some) m

  module _ (one_region : (a b : Option (List ℕ)) (q : CallRef) → In a q → In b q → a ≡ b) where
    module _ (Own Next Both : CallRef → Type 0) (to : (q : CallRef) → Own q → Both q) (next : (q : CallRef) → Next q → Both q) (apart : (q : CallRef) → Own q → Next q → ⊥)
        (v : Option (List ℕ)) (f : List (List ℕ)) (known : Known v f) (e rest : Expansion Span) (m : Meets Own v f e) (r : Meets Next v e.followed rest) where
      not_before : (x : List ℕ) → one_of e.followed x ≡ false → one_of f x ≡ false
      not_before x not = go (one_of f x) refl
        where
          go : (b : Bool) → one_of f x ≡ b → b ≡ false
          go false is = refl
          go true is = let both : true ≡ false = sym (m.more x is) ∙ not in absurd cc

      old_or_new : (v2 : Option (List ℕ)) → v2 ≡ v → New f e.followed v2 → ⊥
      old_or_new v2 same new = let both : true ≡ false = sym (known new.name (sym same ∙ new.is)) ∙ new.not_yet in cc

      across : (i j : Item Span) → Comes Own v f e.followed i → Comes Next v e.followed rest.followed j → OtherPlace i j
      across i j a b same = go a.from b.from
        where
          one : i.variable ≡ j.variable
          one = one_region i.variable j.variable j.place (subst (In i.variable) same a.inside) b.inside

          go : ((i.variable ≡ v) × Own i.place) ⊎ New f e.followed i.variable → ((j.variable ≡ v) × Next j.place) ⊎ New e.followed rest.followed j.variable → ⊥
          go (inl own) (inl its) = apart j.place (subst Own same own.1) its.1
          go (inl own) (inr new) = let both : true ≡ false = sym (m.more new.name (known new.name (sym own.0 ∙ one ∙ new.is))) ∙ new.not_yet in cc
          go (inr new) (inl its) = old_or_new i.variable (one ∙ its.0) new
          go (inr new) (inr its) =
              let names : new.name ≡ its.name = some-injective _ _ (sym new.is ∙ one ∙ its.is) in
              let both : true ≡ false = sym new.now ∙ ap (one_of e.followed) names ∙ its.not_yet in cc

      pub both_once : Meets Both v f (both_expanded e rest)
      both_once =
          let is = items e.marks in
          let js = items rest.marks in
          let all = every-append (Comes Both v f rest.followed) is js
          (every_weaker _ _ (comes_too Own Both v f e.followed f rest.followed to (λ x is. is) r.more) is m.each)
          (every_weaker _ _ (comes_too Next Both v e.followed rest.followed f rest.followed next not_before (λ x is. is)) js r.each) in
          let crossed = every_weaker (Comes Own v f e.followed) (λ i. Every (OtherPlace i) js) (λ i a. every_weaker (Comes Next v e.followed rest.followed) (OtherPlace i) (λ j b. across i j a b) js r.each) is m.each in
          record {
            more = λ x is. r.more x (m.more x is);
            stand = every-append (MarkStands p) e.marks rest.marks m.stand r.stand;
            each = subst (Every (Comes Both v f rest.followed)) (sym (items_both e.marks rest.marks)) all;
            differ = subst (Pairwise OtherPlace) (sym (items_both e.marks rest.marks)) (pairwise_append OtherPlace is js m.differ r.differ crossed);
          }
