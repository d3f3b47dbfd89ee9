-- The steps that add values to the lists of a value may be done one after another.
use Rattle.std.proofs.Common.{◌≡◌, ℕ, zero, suc, ◌-◌, ◌≤◌, true, false, List, [], ◌∷◌, ◌++◌, length, length-append, map, Option, Some, None, Result, Ok, Err, refl, sym, ap, ◌∙◌, subst, arith}
use Rattle.std.specs.Prelude.{Bool, All, nat_lt, if◌then◌else◌}
use Rattle.std.specs.List.{list_all}
use Rattle.std.proofs.lemmas.Bool.{and_from, and_parts, ltb-true}
use Rattle.std.proofs.lemmas.List.{length-map}
use Rattle.meson_lex.specs.declared.kinds.Span.{Span}
use Rattle.meson_splice.specs.Files.{bytes_at}
use Rattle.meson_syntax.specs.declared.operator.Bracket.{Bracket}
use Rattle.meson_syntax.specs.declared.operator.Bracket.TheVariants as bracket
use Rattle.meson_syntax.specs.Grammar.{LevelArgument, LevelExpression, expression_depth, expression_words}
use Rattle.meson_syntax.specs.Paths.{nth}
use Rattle.meson_syntax.specs.Tree.{Argument, plain, named, pair, Expression, Nowhere, Plain, erase_argument, erase_expression}
use Rattle.meson_edit.specs.Edits.{Replace, Written, elements}
use Rattle.meson_edit.specs.Places.{IsWritten}
use Rattle.meson_edit.specs.Sequences.{MayFollow}
use Rattle.meson_calls.specs.declared.call.CallRef.{CallRef}
use Rattle.meson_calls.specs.declared.refusal.Refusal.{Refusal}
use Rattle.meson_calls.specs.declared.refusal.Refusal.TheVariants.{NotLiteral, TooDeep}
use Rattle.meson_calls.specs.Loading.{IsProject, Loaded, project}
use Rattle.meson_calls.specs.Project.{child, expression_at}
use Rattle.meson_steps.specs.ListSteps.{AreDoable, MayStandBetween, none}
use Rattle.meson_steps.specs.ResultLimits.{plain_trees}
use Rattle.meson_steps.specs.Steps.{Step, step_in}
use Rattle.meson_steps.specs.declared.given.Given.{Given}
use Rattle.meson_steps.proofs.PlainTrees.{trees_stand}
use Rattle.meson_places.specs.declared.slots.Slot.{Slot}
use Rattle.meson_places.specs.declared.slots.Slot.TheVariants as slot
use Rattle.meson_places.specs.Changes.{behind_all, element_child}
use Rattle.meson_places.specs.Equality.{is_old, lists_say, says}
use Rattle.meson_places.specs.NewElements.{add_steps, add_there, add_to_last, add_to_list, add_to_lone, add_to_value, add_to_whole, array_with, beside, fresh_written, lone_token}
use Rattle.meson_places.specs.Room.{has_room, list_in_trees}
use Rattle.meson_places.specs.Several.{AllMayBeGiven, put_each}
use Rattle.meson_places.specs.Slots.{Child, has_no_name}
use Rattle.meson_places.specs.ValueLists.{ValueList, last_of, lists_of}
use Rattle.meson_places.specs.Values.{written_given}
use Rattle.meson_places.proofs.GivenWritten.{given_level, given_written}
use Rattle.meson_places.proofs.ListStands.{ListStands, behind_step, xs}
use Rattle.meson_places.proofs.ListsThere.{ElementThere, element_there, stands_with}
use Rattle.meson_places.proofs.LoneValues.{lone_array, lone_stands}
use Rattle.meson_places.proofs.SeveralDoable.{AllLow, all_room, deepest, lower, set_all_doable}
use Rattle.meson_places.proofs.SlotsDoable.{KeyIsText, replaced}
use Rattle.meson_places.proofs.ValueListsThere.{IsOpen, ListThere, last_there, lists_there}

-- ---- expressions behind all elements of a list

-- it may stand in a list that nests no deeper than a limit
pub record Fits (limit : ℕ) (w : Written (Expression Nowhere)) : Type 0 where
  pub writes : IsWritten w.bytes (expression_words w.node)
  pub level : LevelExpression w.node
  pub small : suc (expression_depth w.node) ≤ limit

abbrev pub AllFit : ℕ → List (Written (Expression Nowhere)) → Type 0
AllFit limit [] = Unit {0}
AllFit limit (w ∷ ws) = Fits limit w × AllFit limit ws

pub first_may : (b : Bracket) (ys : List (Argument Nowhere)) → IsOpen b ys → (e : Expression Nowhere) → LevelExpression e → LevelArgument (plain e) b false
first_may bracket.Square ys opened e level = (refl, refl, level)
first_may bracket.Round ys opened e level = (refl, refl, level)
first_may bracket.Curly ys opened e level = absurd opened

no_name : (it : Argument Nowhere) → has_no_name it ≡ true → (e : Expression Nowhere) → LevelExpression e → MayFollow bracket.Round it [] (plain e)
no_name (plain f) h e level = (refl, level)
no_name (named s x f) h e level = absurd (let no : ⊥ = cc in no)
no_name (pair s k f) h e level = absurd (let no : ⊥ = cc in no)

nth_passes : {X : Type 0} (test : X → Bool) (ys : List X) (m : ℕ) (it : X) → list_all test ys ≡ true → nth ys m ≡ Some it → test it ≡ true
nth_passes test [] m it all is = absurd (let no : ⊥ = cc in no)
nth_passes test (y ∷ ys) zero it all is = let same : y ≡ it = cc in ap test (sym same) ∙ (and_parts (test y) (list_all test ys) all).0
nth_passes test (y ∷ ys) (suc m) it all is = nth_passes test ys m it (and_parts (test y) (list_all test ys) all).1 is

pub follow_may : (b : Bracket) (ys : List (Argument Nowhere)) → IsOpen b ys → (m : ℕ) (it : Argument Nowhere) → nth ys m ≡ Some it → (e : Expression Nowhere) → LevelExpression e → MayFollow b it [] (plain e)
follow_may bracket.Square ys opened m it is e level = level
follow_may bracket.Round ys opened m it is e level = no_name it (nth_passes has_no_name ys m it opened is) e level
follow_may bracket.Curly ys opened m it is e level = absurd opened

all_behind : (ys : List (Argument Nowhere)) (e : Expression Nowhere) → list_all has_no_name ys ≡ true → list_all has_no_name (ys ++ plain e ∷ []) ≡ true
all_behind [] e all = refl
all_behind (y ∷ ys) e all = let both = and_parts (has_no_name y) (list_all has_no_name ys) all in and_from (has_no_name y) (list_all has_no_name (ys ++ plain e ∷ [])) both.0 (all_behind ys e both.1)

pub open_behind : (b : Bracket) (ys : List (Argument Nowhere)) (e : Expression Nowhere) → IsOpen b ys → IsOpen b (ys ++ plain e ∷ [])
open_behind bracket.Square ys e opened = tt
open_behind bracket.Round ys e opened = all_behind ys e opened
open_behind bracket.Curly ys e opened = opened

module _ (c : CallRef) (b : Bracket) (limit many : ℕ) where
  pub behind_doable : (ws : List (Written (Expression Nowhere))) → AllFit limit ws → (i : ℕ) → many ≤ i → (trees : List Plain) (all : All MayStandBetween trees) (s : ListStands c b limit trees) → length (xs c b limit trees all s) ≡ i
      → IsOpen b (xs c b limit trees all s) → AreDoable (put_each c many i ws) trees
  behind_doable [] fit i past trees all s count opened = none trees
  behind_doable (w ∷ ws) fit i past trees all s count opened =
      go (nat_lt i many) refl (λ ts a t n o. behind_doable ws fit.1 (suc i) (omega (arith, past)) ts a t n o)
    where
      ys : List (Argument Nowhere)
      ys = xs c b limit trees all s

      new : Written (Argument Nowhere)
      new = record { bytes = w.bytes; node = plain w.node }

      tail : List Step
      tail = put_each c many (suc i) ws

      go : (x : Bool) → nat_lt i many ≡ x
          → ((ts : List Plain) (a : All MayStandBetween ts) (t : ListStands c b limit ts) → length (xs c b limit ts a t) ≡ suc i → IsOpen b (xs c b limit ts a t) → AreDoable tail ts)
          → AreDoable ((if x then step_in c (Replace c.path.steps i w) else behind_all c i new) ∷ tail) trees
      go true h next = let within = ltb-true i many h in absurd (omega (arith, within, past))
      go false h next =
          let f = fit.0 in
          let st = behind_step c b limit trees all s new f.writes (first_may b ys opened w.node f.level) (λ m it n there. follow_may b ys opened m it there w.node f.level) f.small in
          let longer : length (elements st.step.stands.place.list) ≡ suc i = omega (arith, ap length st.step.are, length-append ys (plain w.node ∷ []), count) in
          let more = st.step.doable tail (next _ st.step.all_stand st.step.stands longer (subst (IsOpen b) (sym st.step.are) (open_behind b ys w.node opened))) in
          subst (λ m. AreDoable (behind_all c m new ∷ tail) trees) count (subst (λ x. AreDoable (x ∷ tail) trees) (sym st.is) more)

-- ---- the values that are not known

pub fresh_fits : (limit : ℕ) (known : Given → Bool) (before gs : List Given) (mays : AllMayBeGiven gs) → AllLow (limit - 1) gs mays → 1 ≤ limit → AllFit limit (fresh_written known before gs mays)
fresh_fits limit known before [] mays low some = tt
fresh_fits limit known before (g ∷ gs) mays low some = go (is_old known before g) (fresh_fits limit known (before ++ g ∷ []) gs mays.1 low.1 some)
  where
    rest : List (Written (Expression Nowhere))
    rest = fresh_written known (before ++ g ∷ []) gs mays.1

    go : (b : Bool) → AllFit limit rest → AllFit limit (if b then rest else written_given g mays.0 ∷ rest)
    go true fit = fit
    go false fit = let l = low.0 in (record { writes = given_written g mays.0; level = given_level g mays.0; small = omega (arith, l, some) }, fit)

pub erased_open : (b : Bracket) (ys : List (Argument Span)) → IsOpen b ys → IsOpen b (map erase_argument ys)
erased_open bracket.Square ys opened = tt
erased_open bracket.Round ys opened = erased ys opened
  where
    one : (y : Argument Span) → has_no_name y ≡ true → has_no_name (erase_argument y) ≡ true
    one (plain e) h = refl
    one (named s x e) h = absurd (let no : ⊥ = cc in no)
    one (pair s k v) h = absurd (let no : ⊥ = cc in no)

    erased : (zs : List (Argument Span)) → list_all has_no_name zs ≡ true → list_all has_no_name (map erase_argument zs) ≡ true
    erased [] all = refl
    erased (z ∷ zs) all = let both = and_parts (has_no_name z) (list_all has_no_name zs) all in and_from _ _ (one z both.0) (erased zs both.1)
erased_open bracket.Curly ys opened = opened

module _ (old : Loaded) (is : IsProject old) (gs : List Given) (mays : AllMayBeGiven gs) where
  abbrev before : List Plain
  before = plain_trees old

  to_list : (known : Given → Bool) (list : ValueList Span) → ListThere (project old) list → (steps : List Step) → add_to_list old known gs mays list ≡ Ok steps → AreDoable steps before
  to_list known list there steps made = go (all_room before list.place gs mays) refl made
    where
      many : ℕ
      many = length list.elements

      all : List Step
      all = put_each list.place many many (fresh_written known [] gs mays)

      doable : all_room before list.place gs mays ≡ true → AreDoable all before
      doable room =
          let d = deepest old is list.place gs mays room in
          let s = stands_with old is list.place there.value there.list there.is_at there.is_list d.node d.room in
          let stand = trees_stand old.files old.parsed is.parsed in
          let low = lower (expression_depth d.node) (s.limit - 1) (omega (arith, s.room)) gs mays d.low in
          let are = s.are ∙ ap (map erase_argument) there.are in
          let count : length (elements s.stands.place.list) ≡ many = ap length are ∙ length-map list.elements erase_argument in
          let opened = subst (IsOpen there.list.bracket) (sym are) (erased_open there.list.bracket list.elements there.opened) in
          behind_doable list.place there.list.bracket s.limit many (fresh_written known [] gs mays) (fresh_fits s.limit known [] gs mays low (omega (arith, s.room))) many (omega arith) before stand s.stands count opened

      go : (b : Bool) → all_room before list.place gs mays ≡ b → (if b then Ok all else Err TooDeep) ≡ Ok steps → AreDoable steps before
      go true room m = let same : all ≡ steps = cc in subst (λ ss. AreDoable ss before) same (doable room)
      go false room m = absurd (let no : ⊥ = cc in no)

  to_value : (otherwise : Result (List Step) Refusal) (c : CallRef) (e : Expression Span) → expression_at (project old) c ≡ Some e → (steps : List Step) → (otherwise ≡ Ok steps → AreDoable steps before) → add_to_value old gs mays otherwise c e ≡ Ok steps
      → AreDoable steps before
  to_value otherwise c e at_ steps other made = go (last_of (lists_of c e)) refl made
    where
      go : (o : Option (ValueList Span)) → last_of (lists_of c e) ≡ o → add_to_last old (lists_say (bytes_at c.file old.files) (lists_of c e)) gs mays otherwise o ≡ Ok steps → AreDoable steps before
      go None no_list m = other m
      go (Some l) found m = to_list (lists_say (bytes_at c.file old.files) (lists_of c e)) l (last_there (project old) (lists_of c e) (lists_there (project old) c e at_) l found) steps m

  module _ (key : List ℕ) (list : CallRef) (n : ℕ) (v : Child Span) (h : ElementThere (project old) list n v) where
    to_lone : (o : Option (List ℕ)) → lone_token v.value ≡ o → (steps : List Step) → add_to_lone old gs mays key list n v.value o ≡ Ok steps → AreDoable steps before
    to_lone None token steps made = absurd (let no : ⊥ = cc in no)
    to_lone (Some x) token steps made = go (fresh_written known [] gs mays) refl made
      where
        known : Given → Bool
        known = λ g. says (bytes_at list.file old.files) g v.value

        lone : Written (Expression Nowhere)
        lone = record { bytes = x; node = erase_expression v.value }

        go : (ws : List (Written (Expression Nowhere))) → fresh_written known [] gs mays ≡ ws → beside old list n lone ws ≡ Ok steps → AreDoable steps before
        go [] are m = let same : [] ≡ steps = cc in subst (λ ss. AreDoable ss before) same (none before)
        go (w ∷ ws) are m = by (has_room (array_with lone (w ∷ ws)).node (list_in_trees before list)) refl m
          where
            new : Written (Expression Nowhere)
            new = array_with lone (w ∷ ws)

            by : (b : Bool) → has_room new.node (list_in_trees before list) ≡ b → (if b then Ok (step_in list (Replace list.path.steps n new) ∷ []) else Err TooDeep) ≡ Ok steps → AreDoable steps before
            by true room k =
                let same : step_in list (Replace list.path.steps n new) ∷ [] ≡ steps = cc in
                let a = subst (λ us. IsWritten (array_with lone us).bytes (expression_words (array_with lone us).node) × LevelExpression (array_with lone us).node) are
                (lone_array known v.value x token (lone_stands old is.parsed (child list v.number) v.value h.at_child x token) gs mays) in
                subst (λ ss. AreDoable ss before) same (replaced old is new a.0 a.1 list n v h room)
            by false room k = absurd (let no : ⊥ = cc in no)

    to_element : (steps : List Step) → add_there old gs mays key list n (Some v) ≡ Ok steps → AreDoable steps before
    to_element steps made =
        to_value (add_to_lone old gs mays key list n v.value (lone_token v.value)) (child list v.number) v.value h.at_child steps (to_lone (lone_token v.value) refl steps) made

  there_doable : (key : List ℕ) (list : CallRef) (n : ℕ) (o : Option (Child Span)) → element_child (project old) list n ≡ o → (steps : List Step) → add_there old gs mays key list n o ≡ Ok steps → AreDoable steps before
  there_doable key list n None there steps made = absurd (let no : ⊥ = cc in no)
  there_doable key list n (Some v) there steps made = to_element key list n v (element_there (project old) list n v there) steps made

  whole_doable : (key : List ℕ) (c : CallRef) (o : Option (Expression Span)) → expression_at (project old) c ≡ o → (steps : List Step) → add_to_whole old gs mays key c o ≡ Ok steps → AreDoable steps before
  whole_doable key c None at_ steps made = absurd (let no : ⊥ = cc in no)
  whole_doable key c (Some e) at_ steps made = to_value (Err (NotLiteral key)) c e at_ steps (λ h. absurd (let no : ⊥ = cc in no)) made

  pub add_doable : (key : List ℕ) (s : Slot) → KeyIsText s → (steps : List Step) → add_steps old gs mays key s ≡ Ok steps → AreDoable steps (plain_trees old)
  add_doable key (slot.Element list n) text steps made = there_doable key list n (element_child (project old) list n) refl steps made
  add_doable key (slot.Absent list k) text steps made = set_all_doable old is gs mays key (slot.Absent list k) text steps made
  add_doable key (slot.Whole c) text steps made = whole_doable key c (expression_at (project old) c) refl steps made
