-- The steps that set a value to several ones may be done one after another.
use Rattle.std.proofs.Common.{◌≡◌, ℕ, suc, ◌+◌, ◌-◌, ◌≤◌, true, false, List, [], ◌∷◌, ◌++◌, length, length-append, Option, Some, None, Result, Ok, Err, refl, sym, ap, subst, arith}
use Rattle.std.specs.Prelude.{Bool, ◌&&◌, not, nat_le, nat_lt, max, All, if◌then◌else◌}
use Rattle.std.specs.List.{list_all}
use Rattle.std.proofs.lemmas.Bool.{and_parts, leb-false, leb-true, ltb-false, ltb-true}
use Rattle.std.proofs.lemmas.List.{length-map}
use Rattle.meson_lex.specs.declared.kinds.Span.{Span}
use Rattle.meson_splice.specs.Files.{bytes_at}
use Rattle.meson_splice.specs.Patch.{then_ok}
use Rattle.meson_syntax.specs.declared.operator.Bracket.TheVariants as bracket
use Rattle.meson_syntax.specs.Grammar.{expression_depth}
use Rattle.meson_syntax.specs.Tree.{Argument, Expression, Nowhere, Plain, plain, erase_argument}
use Rattle.meson_edit.specs.Edits.{Replace, Written, elements, with_value}
use Rattle.meson_calls.specs.declared.call.CallRef.{CallRef}
use Rattle.meson_calls.specs.declared.refusal.Refusal.{Refusal}
use Rattle.meson_calls.specs.declared.refusal.Refusal.TheVariants.{OtherKind, TooDeep}
use Rattle.meson_calls.specs.Loading.{IsProject, Loaded, project}
use Rattle.meson_calls.specs.Project.{child, expression_at}
use Rattle.meson_steps.specs.ListSteps.{AreDoable, MayStandBetween}
use Rattle.meson_steps.specs.ResultLimits.{plain_trees}
use Rattle.meson_steps.specs.Steps.{Step, step_in}
use Rattle.meson_steps.specs.WrittenTexts.{string_of}
use Rattle.meson_steps.proofs.PlainTrees.{parsed_shallow, trees_stand}
use Rattle.meson_places.specs.declared.slots.Slot.{Slot}
use Rattle.meson_places.specs.declared.slots.Slot.TheVariants as slot
use Rattle.meson_steps.specs.declared.given.Given.{Given}
use Rattle.meson_places.specs.Colons.{ends_in_file}
use Rattle.meson_places.specs.Changes.{added_to, behind_all, element_child, rest_removed}
use Rattle.meson_places.specs.Room.{has_room, if_room, list_in_trees}
use Rattle.meson_places.specs.Several.{AllMayBeGiven, all_written, becomes_array, is_text_given, put_all, put_each, set_all, set_all_there, set_array, set_elements, written_array}
use Rattle.meson_places.specs.Slots.{Child, elements_in}
use Rattle.meson_places.specs.Values.{are_texts, given_node, is_array, written_given}
use Rattle.meson_places.proofs.ArrayWritten.{array_value}
use Rattle.meson_places.proofs.GivenWritten.{given_level, given_written}
use Rattle.meson_places.proofs.ListStands.{ListStands, behind_step, replace_step, xs}
use Rattle.meson_places.proofs.ListsThere.{ElementThere, element_there, stands_with}
use Rattle.meson_places.proofs.RoomFound.{flat_room}
use Rattle.meson_places.proofs.SlotsDoable.{KeyIsText, added_doable, array_list, as_many, nth_within, replaced, rest_doable, some_value}

-- ---- values no deeper than a limit

abbrev pub AllLow : ℕ → (gs : List Given) → AllMayBeGiven gs → Type 0
AllLow limit [] mays = Unit {0}
AllLow limit (g ∷ gs) mays = (expression_depth (given_node g mays.0) ≤ limit) × AllLow limit gs mays.1

pub lower : (a b : ℕ) → a ≤ b → (gs : List Given) (mays : AllMayBeGiven gs) → AllLow a gs mays → AllLow b gs mays
lower a b below [] mays all = tt
lower a b below (g ∷ gs) mays all = let first = all.0 in (omega (arith, below, first), lower a b below gs mays.1 all.1)

abbrev pub all_room : List Plain → CallRef → (gs : List Given) → AllMayBeGiven gs → Bool
all_room trees c gs mays = list_all (λ (w : Written (Expression Nowhere)). has_room w.node (list_in_trees trees c)) (all_written gs mays)

-- the deepest of some values, for which there is room
pub record Deepest (trees : List Plain) (c : CallRef) (gs : List Given) (mays : AllMayBeGiven gs) : Type 0 where
  pub node : Expression Nowhere
  pub room : has_room node (list_in_trees trees c) ≡ true
  pub low : AllLow (expression_depth node) gs mays

pub deepest : (old : Loaded) → IsProject old → (c : CallRef) (gs : List Given) (mays : AllMayBeGiven gs) → all_room (plain_trees old) c gs mays ≡ true → Deepest (plain_trees old) c gs mays
deepest old is c [] mays all = record { node = string_of []; room = flat_room (plain_trees old) (parsed_shallow old.files old.parsed is.parsed) c (string_of []) refl; low = tt }
deepest old is c (g ∷ gs) mays all =
    let parts = and_parts (has_room (given_node g mays.0) (list_in_trees (plain_trees old) c)) (all_room (plain_trees old) c gs mays.1) all in
    go (deepest old is c gs mays.1 parts.1) parts.0
  where
    first : Expression Nowhere
    first = given_node g mays.0

    go : Deepest (plain_trees old) c gs mays.1 → has_room first (list_in_trees (plain_trees old) c) ≡ true → Deepest (plain_trees old) c (g ∷ gs) mays
    go d room = by (nat_le (expression_depth first) (expression_depth d.node)) refl
      where
        by : (b : Bool) → nat_le (expression_depth first) (expression_depth d.node) ≡ b → Deepest (plain_trees old) c (g ∷ gs) mays
        by true h = record { node = d.node; room = d.room; low = (leb-true (expression_depth first) (expression_depth d.node) h, d.low) }
        by false h =
            let past = leb-false (expression_depth first) (expression_depth d.node) h in
            record { node = first; room = room; low = (omega arith, lower (expression_depth d.node) (expression_depth first) (omega (arith, past)) gs mays.1 d.low) }

-- ---- the elements of an array

pub written_length : (gs : List Given) (mays : AllMayBeGiven gs) → length (all_written gs mays) ≡ length gs
written_length [] mays = refl
written_length (g ∷ gs) mays = ap suc (written_length gs mays.1)

-- an array between two steps, with this number of elements
abbrev pub Later : CallRef → ℕ → (many : ℕ) → List Step → Type 0
Later c limit many steps = (trees : List Plain) (all : All MayStandBetween trees) (s : ListStands c bracket.Square limit trees) → length (xs c bracket.Square limit trees all s) ≡ many → AreDoable steps trees

pub put_doable : (c : CallRef) (limit many : ℕ) (gs : List Given) (mays : AllMayBeGiven gs) (i : ℕ) → AllLow (limit - 1) gs mays → 1 ≤ limit → (rest : List Step) → Later c limit (max many (i + length gs)) rest
    → Later c limit (max many i) (put_each c many i (all_written gs mays) ++ rest)
put_doable c limit many [] mays i low some rest later trees all s count = later trees all s (omega (arith, count))
put_doable c limit many (g ∷ gs) mays i low some rest later trees all s count =
    go (nat_lt i many) refl (put_doable c limit many gs mays.1 (suc i) low.1 some rest (λ ts a t n. later ts a t (omega (arith, n))))
  where
    w : Written (Expression Nowhere)
    w = written_given g mays.0

    tail : List Step
    tail = put_each c many (suc i) (all_written gs mays.1) ++ rest

    ys : List (Argument Nowhere)
    ys = xs c bracket.Square limit trees all s

    small : suc (expression_depth w.node) ≤ limit
    small = let l = low.0 in omega (arith, l, some)

    go : (b : Bool) → nat_lt i many ≡ b → Later c limit (max many (suc i)) tail → AreDoable ((if b then step_in c (Replace c.path.steps i w) else behind_all c i (record { bytes = w.bytes; node = plain w.node })) ∷ tail) trees
    go true h next =
        let within = ltb-true i many h in
        let it = nth_within ys i (omega (arith, count, within)) in
        let value = some_value it.0 in
        let st = replace_step c bracket.Square limit trees all s i it.0 value.0 w it.1 value.1 (given_written g mays.0) (given_level g mays.0) small in
        st.doable tail (next _ st.all_stand st.stands (omega (arith, ap length st.are, as_many ys i (with_value w.node it.0) (omega (arith, count, within)), count, within)))
    go false h next =
        let past = ltb-false i many h in
        let new : Written (Argument Nowhere) = record { bytes = w.bytes; node = plain w.node } in
        let st = behind_step c bracket.Square limit trees all s new (given_written g mays.0) (refl, refl, given_level g mays.0) (λ m it n there. given_level g mays.0) small in
        let here : length ys ≡ i = omega (arith, count, past) in
        let more = st.step.doable tail (next _ st.step.all_stand st.step.stands (omega (arith, ap length st.step.are, length-append ys (plain w.node ∷ []), count, past))) in
        subst (λ m. AreDoable (behind_all c m new ∷ tail) trees) here (subst (λ x. AreDoable (x ∷ tail) trees) (sym st.is) more)

module _ (old : Loaded) (is : IsProject old) (gs : List Given) (mays : AllMayBeGiven gs) (key : List ℕ) where
  abbrev before : List Plain
  before = plain_trees old

  all_stand : All MayStandBetween before
  all_stand = trees_stand old.files old.parsed is.parsed

  put_all_doable : (v : Expression Span) → is_array v ≡ true → (inner : CallRef) → expression_at (project old) inner ≡ Some v → all_room before inner gs mays ≡ true → AreDoable (put_all inner (length (elements_in v)) (all_written gs mays)) before
  put_all_doable v array_there inner at_ room =
      let l = array_list v array_there in
      let d = deepest old is inner gs mays room in
      let s = stands_with old is inner v _ at_ l.1 d.node d.room in
      let many = length (elements_in v) in
      let count : length (xs inner bracket.Square s.limit before all_stand s.stands) ≡ max many 0 = omega (arith, ap length s.are, length-map (elements l.0) erase_argument, ap length l.2) in
      let low = lower (expression_depth d.node) (s.limit - 1) (omega (arith, s.room)) gs mays d.low in
      let long = written_length gs mays in
      put_doable inner s.limit many gs mays 0 low (omega (arith, s.room)) (rest_removed inner (length (all_written gs mays)) (many - length (all_written gs mays)))
      (λ ts a t n. rest_doable inner bracket.Square s.limit (length (all_written gs mays)) (many - length (all_written gs mays)) ts a t (omega (arith, n, long)))
      before all_stand s.stands count

  set_elements_doable : (v : Expression Span) → is_array v ≡ true → (inner : CallRef) → expression_at (project old) inner ≡ Some v → (steps : List Step) → set_elements old gs mays key inner v ≡ Ok steps → AreDoable steps before
  set_elements_doable v array_there inner at_ steps made = go (list_all is_text_given gs && not (are_texts v)) (all_room before inner gs mays) refl made
    where
      all : List Step
      all = put_all inner (length (elements_in v)) (all_written gs mays)

      go : (a b : Bool) → all_room before inner gs mays ≡ b → (if a then Err (OtherKind key) else (if b then Ok all else Err TooDeep)) ≡ Ok steps → AreDoable steps before
      go true b room m = absurd (let no : ⊥ = cc in no)
      go false true room m = let same : all ≡ steps = cc in subst (λ ss. AreDoable ss before) same (put_all_doable v array_there inner at_ room)
      go false false room m = absurd (let no : ⊥ = cc in no)

  set_array_doable : (v : Child Span) (list : CallRef) (n : ℕ) → ElementThere (project old) list n v → (steps : List Step) → set_array old gs mays key list n v.value ≡ Ok steps → AreDoable steps before
  set_array_doable v list n h steps made = go (becomes_array gs v.value) (has_room new.node (list_in_trees before list)) refl made
    where
      new : Written (Expression Nowhere)
      new = written_array gs mays

      go : (a b : Bool) → has_room new.node (list_in_trees before list) ≡ b → (if a then (if b then Ok (step_in list (Replace list.path.steps n new) ∷ []) else Err TooDeep) else Err (OtherKind key)) ≡ Ok steps → AreDoable steps before
      go true true room m =
          let same : step_in list (Replace list.path.steps n new) ∷ [] ≡ steps = cc in
          let x = array_value gs mays in
          subst (λ ss. AreDoable ss before) same (replaced old is new x.writes x.level list n v h room)
      go true false room m = absurd (let no : ⊥ = cc in no)
      go false b room m = absurd (let no : ⊥ = cc in no)

  all_there_doable : (list : CallRef) (n : ℕ) (o : Option (Child Span)) → element_child (project old) list n ≡ o → (steps : List Step) → set_all_there old gs mays key list n o ≡ Ok steps → AreDoable steps before
  all_there_doable list n None there steps made = absurd (let no : ⊥ = cc in no)
  all_there_doable list n (Some v) there steps made = go (is_array v.value) refl made
    where
      h : ElementThere (project old) list n v
      h = element_there (project old) list n v there

      go : (b : Bool) → is_array v.value ≡ b → (if b then set_elements old gs mays key (child list v.number) v.value else set_array old gs mays key list n v.value) ≡ Ok steps → AreDoable steps before
      go true array_there m = set_elements_doable v.value array_there (child list v.number) h.at_child steps m
      go false other m = set_array_doable v list n h steps m

module _ (old : Loaded) (is : IsProject old) (gs : List Given) (mays : AllMayBeGiven gs) (key : List ℕ) where
  pub set_all_doable : (s : Slot) → KeyIsText s → (steps : List Step) → set_all old gs mays key s ≡ Ok steps → AreDoable steps (plain_trees old)
  set_all_doable (slot.Element list n) text steps made = all_there_doable old is gs mays key list n (element_child (project old) list n) refl steps made
  set_all_doable (slot.Whole c) text steps made = absurd (let no : ⊥ = cc in no)
  set_all_doable (slot.Absent list k) text steps made = go (added_to source ends new k list (expression_at (project old) list)) refl made
    where
      source : List ℕ
      source = bytes_at list.file old.files

      ends : List ℕ
      ends = ends_in_file old list.file

      new : Written (Expression Nowhere)
      new = written_array gs mays

      roomed : (ss : List Step) (b : Bool) → added_to source ends new k list (expression_at (project old) list) ≡ Ok ss → has_room new.node (list_in_trees (plain_trees old) list) ≡ b → (if b then Ok ss else Err TooDeep) ≡ Ok steps → AreDoable steps (plain_trees old)
      roomed ss true h room m =
          let same : ss ≡ steps = cc in
          let x = array_value gs mays in
          subst (λ y. AreDoable y (plain_trees old)) same (added_doable old is new x.writes x.level k text source ends list room (expression_at (project old) list) refl ss h)
      roomed ss false h room m = absurd (let no : ⊥ = cc in no)

      go : (r : Result (List Step) Refusal) → added_to source ends new k list (expression_at (project old) list) ≡ r → then_ok r (if_room old list new.node) ≡ Ok steps → AreDoable steps (plain_trees old)
      go (Ok ss) h m = roomed ss (has_room new.node (list_in_trees (plain_trees old) list)) h refl m
      go (Err e) h m = absurd (let no : ⊥ = cc in no)
