-- The steps that put values after an element may be done one after another.
use Rattle.std.proofs.Common.{◌≡◌, ℕ, zero, suc, ◌-◌, ◌≤◌, ◌<◌, true, false, List, [], ◌∷◌, ◌++◌, length, map, drop, take, Option, Some, None, Ok, Err, refl, sym, ap, ◌∙◌, subst, arith}
use Rattle.std.specs.Prelude.{Bool, All, nat_lt, option_map, if◌then◌else◌}
use Rattle.std.specs.List.{list_all}
use Rattle.std.proofs.lemmas.Bool.{and_from, and_parts, ltb-true}
use Rattle.std.proofs.lemmas.List.{length-map}
use Rattle.meson_lex.specs.declared.kinds.Span.{Span}
use Rattle.meson_splice.specs.Files.{bytes_at}
use Rattle.meson_syntax.specs.declared.operator.Bracket.{Bracket}
use Rattle.meson_syntax.specs.declared.operator.Bracket.TheVariants as bracket
use Rattle.meson_syntax.specs.Grammar.{expression_depth}
use Rattle.meson_syntax.specs.Paths.{nth}
use Rattle.meson_syntax.specs.Tree.{Argument, plain, Expression, Nowhere, Plain, erase_argument}
use Rattle.meson_syntax.proofs.paths.Reaching.{and-then-some}
use Rattle.meson_edit.specs.Edits.{Replace, Written, elements}
use Rattle.meson_edit.specs.Sequences.{MayFollow}
use Rattle.meson_calls.specs.declared.call.CallRef.{CallRef}
use Rattle.meson_calls.specs.declared.refusal.Refusal.TheVariants.{TooDeep}
use Rattle.meson_calls.specs.Loading.{IsProject, Loaded, project}
use Rattle.meson_calls.specs.Project.{Placed, expression_at, placed}
use Rattle.meson_steps.specs.ListSteps.{AreDoable, MayStandBetween, none}
use Rattle.meson_steps.specs.ResultLimits.{plain_trees}
use Rattle.meson_steps.specs.Steps.{Step, step_in}
use Rattle.meson_steps.specs.declared.given.Given.{Given}
use Rattle.meson_steps.proofs.PlainTrees.{trees_stand}
use Rattle.meson_places.specs.declared.insertions.Mark.{Mark}
use Rattle.meson_places.specs.declared.slots.Slot.{Slot}
use Rattle.meson_places.specs.Behind.{placed_at, placed_value}
use Rattle.meson_places.specs.Changes.{behind_all, slot_place}
use Rattle.meson_places.specs.Equality.{lists_say}
use Rattle.meson_places.specs.Insertions.{find_mark, insert_at, insert_by, insert_into, insert_steps}
use Rattle.meson_places.specs.NewElements.{fresh_written}
use Rattle.meson_places.specs.Several.{AllMayBeGiven, put_each}
use Rattle.meson_places.specs.Slots.{has_no_name}
use Rattle.meson_places.specs.ValueLists.{ValueList, lists_of}
use Rattle.meson_places.proofs.ListStands.{ListStands, insert_step, xs}
use Rattle.meson_places.proofs.ListsThere.{stands_with}
use Rattle.meson_places.proofs.Marks.{first_found}
use Rattle.meson_places.proofs.NewElementsDoable.{AllFit, erased_open, follow_may, fresh_fits}
use Rattle.meson_places.proofs.SeveralDoable.{all_room, deepest, lower}
use Rattle.meson_places.proofs.SlotsDoable.{nth_within}
use Rattle.meson_places.proofs.ValueListsThere.{AllThere, IsOpen, ListThere, lists_there}

-- ---- an expression among others

pub one_longer : {X : Type 0} (k : ℕ) (ys : List X) (y : X) → length (take k ys ++ y ∷ drop k ys) ≡ suc (length ys)
one_longer zero ys y = refl
one_longer (suc k) [] y = refl
one_longer (suc k) (x ∷ ys) y = ap suc (one_longer k ys y)

all_between : (k : ℕ) (ys : List (Argument Nowhere)) (e : Expression Nowhere) → list_all has_no_name ys ≡ true → list_all has_no_name (take k ys ++ plain e ∷ drop k ys) ≡ true
all_between zero ys e all = all
all_between (suc k) [] e all = refl
all_between (suc k) (y ∷ ys) e all = let both = and_parts (has_no_name y) (list_all has_no_name ys) all in and_from (has_no_name y) (list_all has_no_name (take k ys ++ plain e ∷ drop k ys)) both.0 (all_between k ys e both.1)

pub open_between : (b : Bracket) (k : ℕ) (ys : List (Argument Nowhere)) (e : Expression Nowhere) → IsOpen b ys → IsOpen b (take k ys ++ plain e ∷ drop k ys)
open_between bracket.Square k ys e opened = tt
open_between bracket.Round k ys e opened = all_between k ys e opened
open_between bracket.Curly k ys e opened = opened

pub follow_any : (b : Bracket) (it : Argument Nowhere) (behind : List (Argument Nowhere)) (e : Expression Nowhere) → MayFollow b it [] (plain e) → MayFollow b it behind (plain e)
follow_any bracket.Square it behind e may = may
follow_any bracket.Round it behind e may = may
follow_any bracket.Curly it behind e may = may

module _ (c : CallRef) (b : Bracket) (limit many : ℕ) where
  pub between_doable : (ws : List (Written (Expression Nowhere))) → AllFit limit ws → (m : ℕ) → many ≤ suc m → (trees : List Plain) (all : All MayStandBetween trees) (s : ListStands c b limit trees) → m < length (xs c b limit trees all s)
      → IsOpen b (xs c b limit trees all s) → AreDoable (put_each c many (suc m) ws) trees
  between_doable [] fit m past trees all s within opened = none trees
  between_doable (w ∷ ws) fit m past trees all s within opened =
      go (nat_lt (suc m) many) refl (λ ts a t n o. between_doable ws fit.1 (suc m) (omega (arith, past)) ts a t n o)
    where
      ys : List (Argument Nowhere)
      ys = xs c b limit trees all s

      new : Written (Argument Nowhere)
      new = record { bytes = w.bytes; node = plain w.node }

      tail : List Step
      tail = put_each c many (suc (suc m)) ws

      go : (x : Bool) → nat_lt (suc m) many ≡ x
          → ((ts : List Plain) (a : All MayStandBetween ts) (t : ListStands c b limit ts) → suc m < length (xs c b limit ts a t) → IsOpen b (xs c b limit ts a t) → AreDoable tail ts)
          → AreDoable ((if x then step_in c (Replace c.path.steps (suc m) w) else behind_all c (suc m) new) ∷ tail) trees
      go true h next = let below = ltb-true (suc m) many h in absurd (omega (arith, below, past))
      go false h next =
          let f = fit.0 in
          let it = nth_within ys m within in
          let st = insert_step c b limit trees all s m it.0 new it.1 f.writes (follow_any b it.0 (drop (suc m) ys) w.node (follow_may b ys opened m it.0 it.1 w.node f.level)) f.small in
          let longer : suc m < length (elements st.stands.place.list) = omega (arith, ap length st.are, one_longer (suc m) ys (plain w.node), within) in
          st.doable tail (next _ st.all_stand st.stands longer (subst (IsOpen b) (sym st.are) (open_between b (suc m) ys w.node opened)))

-- ---- the list

pub there_among : (l : Loaded) (front : List (ValueList Span)) (one : ValueList Span) (back : List (ValueList Span)) → AllThere (project l) (front ++ one ∷ back) → ListThere (project l) one
there_among l [] one back all = all.0
there_among l (x ∷ front) one back all = there_among l front one back all.1

pub nth_is_within : {X : Type 0} (ys : List X) (n : ℕ) (y : X) → nth ys n ≡ Some y → n < length ys
nth_is_within [] n y is = absurd (let no : ⊥ = cc in no)
nth_is_within (x ∷ ys) zero y is = omega arith
nth_is_within (x ∷ ys) (suc n) y is = omega (arith, nth_is_within ys n y is)

-- how the steps are made
pub record Inserted (l : Loaded) (known : Given → Bool) (gs : List Given) (mays : AllMayBeGiven gs) (o : Option Mark) (steps : List Step) : Type 0 where
  pub mark : Mark
  pub is_mark : o ≡ Some mark
  pub room : all_room (plain_trees l) mark.list gs mays ≡ true
  pub are : put_each mark.list (suc mark.number) (suc mark.number) (fresh_written known [] gs mays) ≡ steps

pub inserted_how : (l : Loaded) (key : List ℕ) (known : Given → Bool) (gs : List Given) (mays : AllMayBeGiven gs) (o : Option Mark) (steps : List Step) → insert_at l key known gs mays o ≡ Ok steps → Inserted l known gs mays o steps
inserted_how l key known gs mays None steps made = absurd (let no : ⊥ = cc in no)
inserted_how l key known gs mays (Some m) steps made = go (all_room (plain_trees l) m.list gs mays) refl made
  where
    all : List Step
    all = put_each m.list (suc m.number) (suc m.number) (fresh_written known [] gs mays)

    go : (b : Bool) → all_room (plain_trees l) m.list gs mays ≡ b → (if b then Ok all else Err TooDeep) ≡ Ok steps → Inserted l known gs mays (Some m) steps
    go true room h = record { mark = m; is_mark = refl; room = room; are = let same : all ≡ steps = cc in same }
    go false room h = absurd (let no : ⊥ = cc in no)

-- of the value at a place
pub by_mark : (l : Loaded) (key source : List ℕ) (it : Given) (gs : List Given) (mays : AllMayBeGiven gs) (e : Expression Span) (ls : List (ValueList Span)) (steps : List Step) → insert_by l key source it gs mays e ls ≡ Ok steps
    → Inserted l (lists_say source ls) gs mays (find_mark source it ls) steps
by_mark l key source it gs mays e [] steps made = absurd (let no : ⊥ = cc in no)
by_mark l key source it gs mays e (one ∷ more) steps made = inserted_how l key (lists_say source (one ∷ more)) gs mays (find_mark source it (one ∷ more)) steps made

pub placed_there : (l : Loaded) (s : Slot) (v : Placed (Expression Span)) → placed_value (project l) s ≡ Some v → expression_at (project l) v.place ≡ Some v.it
placed_there l s v is =
    let a = and-then-some (placed_at (project l)) (slot_place (project l) s) v is in
    go a.0 (expression_at (project l) a.0) refl a.2
  where
    go : (c : CallRef) (o : Option (Expression Span)) → expression_at (project l) c ≡ o → option_map (placed c) o ≡ Some v → expression_at (project l) v.place ≡ Some v.it
    go c None at_ k = absurd (let no : ⊥ = cc in no)
    go c (Some e) at_ k =
        let same : placed c e ≡ v = cc in
        subst (λ (w : Placed (Expression Span)). expression_at (project l) w.place ≡ Some w.it) same at_

-- ---- the steps

module _ (old : Loaded) (is : IsProject old) (it : Given) (gs : List Given) (mays : AllMayBeGiven gs) where
  abbrev before : List Plain
  before = plain_trees old

  at_mark : (known : Given → Bool) (source : List ℕ) (ls : List (ValueList Span)) → AllThere (project old) ls → (steps : List Step) → Inserted old known gs mays (find_mark source it ls) steps → AreDoable steps before
  at_mark known source ls all steps k =
      let m = k.mark in
      let f = first_found source it ls m k.is_mark in
      let there = subst (λ (c : CallRef). ListThere (project old) (record { place = c; elements = f.list.elements })) f.is_place (there_among old f.front f.list f.back (subst (AllThere (project old)) f.are all)) in
      let d = deepest old is m.list gs mays k.room in
      let s = stands_with old is m.list there.value there.list there.is_at there.is_list d.node d.room in
      let stand = trees_stand old.files old.parsed is.parsed in
      let low = lower (expression_depth d.node) (s.limit - 1) (omega (arith, s.room)) gs mays d.low in
      let are = s.are ∙ ap (map erase_argument) there.are in
      let count : length (elements s.stands.place.list) ≡ length f.list.elements = ap length are ∙ length-map f.list.elements erase_argument in
      let opened = subst (IsOpen there.list.bracket) (sym are) (erased_open there.list.bracket f.list.elements there.opened) in
      let within : m.number < length (elements s.stands.place.list) = omega (arith, count, nth_is_within f.list.elements m.number f.element f.is_element) in
      subst (λ ss. AreDoable ss before) k.are
      (between_doable m.list there.list.bracket s.limit (suc m.number) (fresh_written known [] gs mays) (fresh_fits s.limit known [] gs mays low (omega (arith, s.room))) m.number (omega arith) before stand s.stands within opened)

  pub insert_doable : (key : List ℕ) (s : Slot) (steps : List Step) → insert_steps old it gs mays key s ≡ Ok steps → AreDoable steps before
  insert_doable key s steps made = go (placed_value (project old) s) refl made
    where
      go : (o : Option (Placed (Expression Span))) → placed_value (project old) s ≡ o → insert_into old key it gs mays o ≡ Ok steps → AreDoable steps before
      go None at_ m = absurd (let no : ⊥ = cc in no)
      go (Some v) at_ m =
          let source = bytes_at v.place.file old.files in
          let ls = lists_of v.place v.it in
          at_mark (lists_say source ls) source ls (lists_there (project old) v.place v.it (placed_there old s v at_)) steps (by_mark old key source it gs mays v.it ls steps m)
