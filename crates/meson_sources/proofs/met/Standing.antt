-- What a target holds stands where its slot says.
use Rattle.meson_syntax.specs.declared.operator.Bracket.TheVariants as bracket
use Rattle.meson_calls.specs.declared.call.Role.TheVariants as role
use Rattle.meson_sources.proofs.Words.{All, is_some, Ok, Result, ◌&&◌, [], ap, arith, Bool, false, IsUtf8, List, None, Option, refl, Some, subst, suc, true, ℕ}
use Rattle.meson_sources.proofs.Words.{◌+◌, ◌∙◌, ◌≡◌, Span, an_expression, holds_values, list_in, ListIn, nth, Argument, argument, argument_list, Arguments}
use Rattle.meson_sources.proofs.Words.{erase, Expression, no_operands, Nowhere, operand, Operands, Plain, plain, row, string, StringKind, operands_parts, Every}
use Rattle.meson_sources.proofs.Words.{elements, CallThere, ListThere, Call, first_argument, the_call, AreParsed, Loaded, project, child, expression_at, Placed}
use Rattle.meson_sources.proofs.Words.{Project, one_of, target_functions, CallRef, Refusal, calls_stand, role_found, RoleAt, child_stands, list_here}
use Rattle.meson_sources.proofs.Words.{values_no_pairs, empty, fixed, in_list, Item, known, Mark, opaque, Slot, Stand, items, source_marks, AreDoable}
use Rattle.meson_sources.proofs.Words.{plain_trees, Step, element_erased, plain_place, tree_there, extra_added, extra_marks, extra_removed, removal_steps}
use Rattle.meson_sources.proofs.Words.{sources_added, sources_removed, Spot}
use Rattle.meson_sources.proofs.gone.Spots.{Pairwise, AreApart}
use Rattle.meson_sources.proofs.trees.Elements.{IsElementAt, IsStringElement, AreLevel, value_stands}
use Rattle.meson_calls.specs.declared.call.CallName.{CallName}

-- ==== Where what a target holds stands in the trees of its project, and that the steps of commands on it may be done.

-- ---- places

-- its element of this number is a string
pub record StringThere (p : Project Span) (c : CallRef) (n : ℕ) : Type 0 where
  pub there : ListThere p c
  pub span : Span
  pub kind : StringKind
  pub text : List ℕ
  pub is_string : nth (elements there.list.list) n ≡ Some (plain (string span kind text))
  pub values : holds_values there.list.bracket ≡ true

-- it holds nothing, and could hold values
pub record NothingThere (p : Project Span) (c : CallRef) : Type 0 where
  pub there : ListThere p c
  pub is_empty : elements there.list.list ≡ []
  pub values : holds_values there.list.bracket ≡ true

-- the call of a target, which has an argument without a name
pub record TargetThere (p : Project Span) (c : Placed (Call Span)) : Type 0 where
  pub there : ListThere p c.place
  pub is_list : there.list.list ≡ c.it.arguments
  pub is_round : there.list.bracket ≡ bracket.Round
  pub first : Expression Span
  pub is_first : first_argument c.it ≡ Some first

abbrev pub SlotStands : Project Span → Slot → Type 0
SlotStands p (in_list c n) = StringThere p c n
SlotStands p fixed = Unit {0}

abbrev pub MarkStands : Project Span → Mark Span → Type 0
MarkStands p (known i) = SlotStands p i.slot
MarkStands p opaque = Unit {0}
MarkStands p (empty c) = NothingThere p c

abbrev pub SpotStands : Project Span → Spot → Type 0
SpotStands p s = StringThere p s.list s.number

-- ---- what stands

abbrev pub TargetsStand : Type 0
TargetsStand = (p : Project Span) (id : CallName) (c : Placed (Call Span)) → the_call p role.Target id ≡ Ok c → TargetThere p c

-- what stands in the list of a place is its child
abbrev pub SlotFits : Slot → CallRef → Type 0
SlotFits (in_list c n) q = q ≡ child c n
SlotFits fixed q = Unit {0}

abbrev pub ItemFits : Item Span → Type 0
ItemFits i = SlotFits i.slot i.place

abbrev pub OtherPlace : Item Span → Item Span → Type 0
OtherPlace i j = i.place ≡ j.place → ⊥

-- Each mark stands where it says, and each item at a place of its own.
pub record AllStand (p : Project Span) (ms : List (Mark Span)) : Type 0 where
  pub stand : All (MarkStands p) ms
  pub fit : Every ItemFits (items ms)
  pub differ : Pairwise OtherPlace (items ms)

-- ---- what may be done

abbrev pub RemovalsDoable : Type 0
RemovalsDoable = (old : Loaded) → AreParsed old.files old.parsed → (spots : List Spot) → All (SpotStands (project old)) spots → AreApart spots → AreDoable (removal_steps spots) (plain_trees old)

-- a command whose steps may be done, by what its call holds
abbrev pub MayBeDone : (Project Span → Placed (Call Span) → List (Mark Span)) → (Project Span → Placed (Call Span) → List (List ℕ) → Result (List Step) Refusal) → Type 0
MayBeDone marks meant =
    (old : Loaded) → AreParsed old.files old.parsed → (c : Placed (Call Span)) → TargetThere (project old) c → AllStand (project old) (marks (project old) c)
    → (names : List (List ℕ)) → All IsUtf8 names → (steps : List Step) → meant (project old) c names ≡ Ok steps → AreDoable steps (plain_trees old)

abbrev pub SourcesMayBeAdded : Type 0
SourcesMayBeAdded = MayBeDone source_marks sources_added

abbrev pub SourcesMayBeRemoved : Type 0
SourcesMayBeRemoved = MayBeDone source_marks sources_removed

abbrev pub ExtrasMayBeAdded : Type 0
ExtrasMayBeAdded = MayBeDone extra_marks extra_added

abbrev pub ExtrasMayBeRemoved : Type 0
ExtrasMayBeRemoved = MayBeDone extra_marks extra_removed

-- ==== The string at a spot of a project is one in its trees without spans.

-- At the spot in these trees stands a string.
pub record StringIn (trees : List Plain) (s : Spot) : Type 0 where
  pub tree : Plain
  pub is_tree : nth trees s.list.file ≡ Some tree
  pub it : Argument Nowhere
  pub stands : IsElementAt tree s.list.path.steps s.number it
  pub is_string : IsStringElement it

pub spot_in : (old : Loaded) (s : Spot) → SpotStands (project old) s → StringIn (plain_trees old) s
spot_in old s there =
    let list = there.there.list in
    let q = plain_place there.there.file.tree s.list.path.steps list there.there.is_list in
    record {
      tree = erase there.there.file.tree;
      is_tree = tree_there old.files old.parsed s.list.file there.there.file there.there.is_file;
      it = plain (string tt there.kind there.text);
      stands = record {
        place = q.place;
        is_place = q.is_place;
        is_element =
            ap (λ l. nth (elements l) s.number) q.list ∙ element_erased list.list s.number (plain (string there.span there.kind there.text)) there.is_string;
      };
      is_string = record { kind = there.kind; text = there.text; is = refl };
    }

-- ==== The call of a target that an id names stands at its place, and has an argument without a name.

has_first : (a : Bool) (o : Option (Expression Span)) → (a && is_some o) ≡ true → (e : Expression Span) × (o ≡ Some e)
has_first false o h = absurd cc
has_first true None h = absurd cc
has_first true (Some e) h = (e, refl)

target_there : (p : Project Span) (c : Placed (Call Span)) → RoleAt p role.Target c → CallThere p c → TargetThere p c
target_there p c t h =
    let first = has_first (one_of target_functions c.it.function) (first_argument c.it) t.is_one in
    record { there = h.there; is_list = h.is_list; is_round = h.is_round; first = first.0; is_first = first.1 }

pub targets_stand : TargetsStand
targets_stand p id c h = target_there p c (role_found p role.Target id c h) (calls_stand p role.Target id c h)

-- ==== Expressions and their slots.

-- the element of this number of the list at a place is this expression
pub record ElementThere (p : Project Span) (c : CallRef) (n : ℕ) (e : Expression Span) : Type 0 where
  pub there : ListThere p c
  pub is_element : nth (elements there.list.list) n ≡ Some (plain e)
  pub values : holds_values there.list.bracket ≡ true

abbrev pub SlotOf : Project Span → Slot → Expression Span → Type 0
SlotOf p (in_list c n) e = ElementThere p c n e
SlotOf p fixed e = Unit {0}

pub slot_stands : (p : Project Span) (slot : Slot) (at : Span) (q : StringKind) (x : List ℕ) → SlotOf p slot (string at q x) → SlotStands p slot
slot_stands p (in_list c n) at q x h = record { there = h.there; span = at; kind = q; text = x; is_string = h.is_element; values = h.values }
slot_stands p fixed at q x h = tt

-- an expression and its slot
pub record StandsAs (p : Project Span) (s : Stand) (e : Expression Span) : Type 0 where
  pub is_at : expression_at p s.place ≡ Some e
  pub slot : SlotOf p s.slot e

abbrev pub ElementAt : Project Span → CallRef → ℕ → Expression Span → Type 0
ElementAt p c n e = StandsAs p (record { place = child c n; slot = in_list c n; variable = None }) e

-- the elements without a name stand at their numbers, of which the first is n
abbrev pub Elements : Project Span → CallRef → ℕ → List (Argument Span) → Type 0
Elements p c n es = (j : ℕ) (e : Expression Span) → nth es j ≡ Some (plain e) → ElementAt p c (n + j) e

pub first_stands : (p : Project Span) (a : Argument Span) (more : Arguments Span) (n : ℕ) (c : CallRef) → Elements p c n (argument_list (argument a more)) → (e : Expression Span) → a ≡ plain e → ElementAt p c n e
first_stands p a more n c all e is = let k : n + 0 ≡ n = omega arith in subst (λ i. ElementAt p c i e) k (all 0 e (ap (λ b. Some b) is))

pub others_stand : (p : Project Span) (a : Argument Span) (more : Arguments Span) (n : ℕ) (c : CallRef) → Elements p c n (argument_list (argument a more)) → Elements p c (n + 1) (argument_list more)
others_stand p a more n c all = λ j e is. let k : n + suc j ≡ (n + 1) + j = omega arith in subst (λ i. ElementAt p c i e) k (all (suc j) e is)

-- the operands of a row stand at their numbers, of which the first is n
abbrev pub Operated : Project Span → CallRef → ℕ → Operands Span → Type 0
Operated p c n no_operands = Unit {0}
Operated p c n (operand o e more) = (expression_at p (child c n) ≡ Some e) × Operated p c (n + 1) more

operands_stand : (p : Project Span) (c : CallRef) (os : Operands Span) (n : ℕ)
    → ((j : ℕ) (x : Expression Span) → nth (operands_parts os) j ≡ Some (an_expression x) → expression_at p (child c (n + j)) ≡ Some x) → Operated p c n os
operands_stand p c no_operands n all = tt
operands_stand p c (operand o e more) n all =
    let k : n + 0 ≡ n = omega arith in (
      subst (λ i. expression_at p (child c i) ≡ Some e) k (all 0 e refl),
      operands_stand p c more (n + 1) (λ j x is. let m : n + suc j ≡ (n + 1) + j = omega arith in subst (λ i. expression_at p (child c i) ≡ Some x) m (all (suc j) x is)),
    )

pub row_stands : (p : Project Span) (c : CallRef) (at : Span) (e : Expression Span) (os : Operands Span) → expression_at p c ≡ Some (row at e os) → Operated p c 1 os
row_stands p c at e os is =
    operands_stand p c os 1 (λ j x is_child. let k : suc j ≡ 1 + j = omega arith in subst (λ i. expression_at p (child c i) ≡ Some x) k (child_stands p c (row at e os) is (suc j) x is_child))

module _ (p : Project Span) (levels : AreLevel p) where
  pub elements_stand : (c : CallRef) (e : Expression Span) (l : ListIn Span) → expression_at p c ≡ Some e → list_in e ≡ Some l → holds_values l.bracket ≡ true → Elements p c 0 (elements l.list)
  elements_stand c e l is is_list values = λ j x is_element.
      let k : j ≡ 0 + j = omega arith in
      let h = list_here p c e l is is_list in
      let there : nth (elements h.there.list.list) j ≡ Some (plain x) = ap (λ m. nth (elements m) j) h.same_list ∙ is_element in
      subst (λ i. ElementAt p c i x) k
      (record { is_at = value_stands p levels c e l is is_list (values_no_pairs l.bracket values) j (plain x) x is_element refl; slot = record { there = h.there; is_element = there; values = ap holds_values h.same_bracket ∙ values } })
