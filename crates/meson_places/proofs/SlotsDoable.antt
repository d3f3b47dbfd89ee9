-- The steps that set or delete a value may be done one after another.
use Rattle.std.proofs.Common.{◌≡◌, ℕ, zero, suc, ◌+◌, ◌-◌, ◌≤◌, ◌<◌, true, false, List, [], ◌∷◌, ◌++◌, IsUtf8, length, take, drop, Option, Some, None, Result, Ok, Err, refl, sym, ap, ◌∙◌, subst, arith}
use Rattle.std.specs.Prelude.{Bool, All, if◌then◌else◌, option_map}
use Rattle.std.proofs.lemmas.Bool.{and_parts}
use Rattle.std.proofs.lemmas.List.{length-map}
use Rattle.meson_lex.specs.declared.kinds.Span.{Span}
use Rattle.meson_splice.specs.Files.{bytes_at}
use Rattle.meson_splice.specs.Patch.{then_ok}
use Rattle.meson_syntax.specs.declared.operator.Bracket.{Bracket}
use Rattle.meson_syntax.specs.declared.operator.Bracket.TheVariants as bracket
use Rattle.meson_syntax.specs.Grammar.{LevelArgument, LevelExpression, argument_depth, argument_words, expression_depth, expression_words}
use Rattle.meson_syntax.specs.Paths.{list_in, nth, value_of}
use Rattle.meson_syntax.specs.Tree.{Argument, plain, named, pair, Expression, array, call, dictionary, Listing, Nowhere, Plain, erase_argument, erase_expression}
use Rattle.meson_syntax.proofs.paths.Reaching.{map-some}
use Rattle.meson_edit.specs.Edits.{Remove, Replace, Written, elements, with_value}
use Rattle.meson_edit.specs.Places.{IsWritten}
use Rattle.meson_edit.specs.Sequences.{MayFollow}
use Rattle.meson_edit.proofs.paths.Mapped.{nth_map}
use Rattle.meson_calls.specs.declared.call.CallRef.{CallRef}
use Rattle.meson_calls.specs.declared.refusal.Refusal.{Refusal}
use Rattle.meson_calls.specs.declared.refusal.Refusal.TheVariants.{BadName, NotLiteral, OtherKind, TooDeep}
use Rattle.meson_calls.specs.Loading.{IsProject, Loaded, project}
use Rattle.meson_calls.specs.Project.{child, expression_at}
use Rattle.meson_steps.specs.ListSteps.{AreDoable, MayStandBetween, none}
use Rattle.meson_steps.specs.ResultLimits.{plain_trees}
use Rattle.meson_steps.specs.Steps.{Step, step_in}
use Rattle.meson_steps.specs.WrittenTexts.{string_of}
use Rattle.meson_steps.proofs.PlainTrees.{parsed_shallow, trees_stand, value_erased}
use Rattle.meson_places.specs.declared.slots.Slot.{Slot}
use Rattle.meson_places.specs.declared.slots.Slot.TheVariants as slot
use Rattle.meson_steps.specs.declared.given.Given.{Given}
use Rattle.meson_steps.specs.declared.given.Given.TheVariants as given
use Rattle.meson_places.specs.Arguments.{if_room_at, room_at, set_within}
use Rattle.meson_places.specs.AssignedValues.{assign_steps, assigned_room, is_assigned, is_one_line}
use Rattle.meson_places.specs.Changes.{added_there, added_to, alone_in_array, behind_all, delete_steps, element_child, keyword_behind, replaces_texts, rest_removed, set_steps, set_there, set_whole, written_entry, written_keyword}
use Rattle.meson_places.specs.Laws.{SlotIsThere}
use Rattle.meson_places.specs.Room.{has_room, list_in_trees}
use Rattle.meson_places.specs.Slots.{Child, elements_in, list_kind}
use Rattle.meson_steps.specs.GivenWords.{MayBeGiven}
use Rattle.meson_places.specs.Values.{is_array, is_identifier, keeps_kind, written_given}
use Rattle.meson_places.specs.Colons.{colon_text, ends_in_file, is_spaced_in}
use Rattle.meson_places.proofs.AssignedDoable.{assign_doable}
use Rattle.meson_places.proofs.GivenWritten.{given_level, given_written}
use Rattle.meson_places.proofs.LinesWritten.{line_written}
use Rattle.meson_steps.proofs.Identifiers.{identifier_true}
use Rattle.meson_places.proofs.KeyedWritten.{entry_written, keyword_written}
use Rattle.meson_places.proofs.ListStands.{ListStands, behind_step, remove_step, replace_step, xs}
use Rattle.meson_places.proofs.ListsThere.{ElementThere, StandsWith, element_there, stands_with}
use Rattle.meson_places.proofs.RoomFound.{flat_room}

-- ---- elements

pub some_value : (a : Argument Nowhere) → (v : Expression Nowhere) × (value_of a ≡ Some v)
some_value (plain e) = (e, refl)
some_value (named s x e) = (e, refl)
some_value (pair s k e) = (e, refl)

pub nth_within : {A : Type 0} (ys : List A) (n : ℕ) → n < length ys → (y : A) × (nth ys n ≡ Some y)
nth_within [] n within = absurd (omega (arith, within))
nth_within (y ∷ ys) zero within = (y, refl)
nth_within (y ∷ ys) (suc n) within = nth_within ys n (omega (arith, within))

pub one_fewer : {A : Type 0} (ys : List A) (n : ℕ) → n < length ys → length (take n ys ++ drop (suc n) ys) ≡ length ys - 1
one_fewer [] n within = absurd (omega (arith, within))
one_fewer (y ∷ ys) zero within = omega arith
one_fewer (y ∷ ys) (suc n) within = let below : n < length ys = omega (arith, within) in omega (arith, one_fewer ys n below, below)

pub as_many : {A : Type 0} (ys : List A) (n : ℕ) (a : A) → n < length ys → length (take n ys ++ a ∷ drop (suc n) ys) ≡ length ys
as_many [] n a within = absurd (omega (arith, within))
as_many (y ∷ ys) zero a within = omega arith
as_many (y ∷ ys) (suc n) a within = let below : n < length ys = omega (arith, within) in omega (arith, as_many ys n a below)

-- ---- an array whose elements are removed from the last one on

pub rest_doable : (c : CallRef) (b : Bracket) (limit from m : ℕ) (trees : List Plain) (all : All MayStandBetween trees) (s : ListStands c b limit trees) → length (xs c b limit trees all s) ≡ from + m → AreDoable (rest_removed c from m) trees
rest_doable c b limit from zero trees all s many = none trees
rest_doable c b limit from (suc m) trees all s many =
    let ys = xs c b limit trees all s in
    let within : from + m < length ys = omega (arith, many) in
    let it = nth_within ys (from + m) within in
    let st = remove_step c b limit trees all s (from + m) it.0 it.1 in
    let left : length (elements st.stands.place.list) ≡ from + m = omega (arith, ap length st.are, one_fewer ys (from + m) within, many) in
    st.doable (rest_removed c from m) (rest_doable c b limit from m _ st.all_stand st.stands left)

-- ---- arrays

pub array_list : (e : Expression Span) → is_array e ≡ true → (l : Listing Span) × (list_in e ≡ Some (record { list = l; bracket = bracket.Square; ahead = []; back = array })) × (elements l ≡ elements_in e)
array_list (array l) h = (l, refl, refl)
array_list _ h = absurd (let no : ⊥ = cc in no)

-- ---- setting

module _ (old : Loaded) (is : IsProject old) (w : Written (Expression Nowhere)) (writes : IsWritten w.bytes (expression_words w.node)) (level : LevelExpression w.node) where
  abbrev trees : List Plain
  trees = plain_trees old

  all_stand : All MayStandBetween trees
  all_stand = trees_stand old.files old.parsed is.parsed

  pub replaced : (list : CallRef) (n : ℕ) (v : Child Span) → ElementThere (project old) list n v → has_room w.node (list_in_trees trees list) ≡ true → AreDoable (step_in list (Replace list.path.steps n w) ∷ []) trees
  replaced list n v h room =
      let s = stands_with old is list h.expression h.list h.is_at h.is_list w.node room in
      let there = ap (λ ys. nth ys n) s.are ∙ nth_map erase_argument (elements h.list.list) n ∙ ap (option_map erase_argument) h.is_element in
      let st = replace_step list h.list.bracket s.limit trees all_stand s.stands n (erase_argument h.element) (erase_expression v.value) w there (value_erased h.element v.value h.is_value) writes level
      (omega (arith, s.room)) in
      st.doable [] (none _)

  -- an element behind all others of a list
  behind : (list : CallRef) (b : Bracket) (listed : Listing Span) (s : StandsWith list b w.node trees listed) (new : Written (Argument Nowhere)) → IsWritten new.bytes (argument_words new.node) → LevelArgument new.node b false
      → ((it : Argument Nowhere) → MayFollow b it [] new.node) → argument_depth new.node ≤ expression_depth w.node → AreDoable (behind_all list (length (elements listed)) new ∷ []) trees
  behind list b listed s new writes first follows small =
      let st = behind_step list b s.limit trees all_stand s.stands new writes first (λ m it many there. follows it) (omega (arith, s.room, small)) in
      let many : length (elements s.stands.place.list) ≡ length (elements listed) = ap length s.are ∙ length-map (elements listed) erase_argument in
      let one = subst (λ x. AreDoable (x ∷ []) trees) (sym st.is) (st.step.doable [] (none _)) in
      subst (λ m. AreDoable (behind_all list m new ∷ []) trees) many one

  -- a key that is not there
  module _ (key : List ℕ) (utf8 : IsUtf8 key) (source ends : List ℕ) (list : CallRef) (room : has_room w.node (list_in_trees trees list) ≡ true) where
    added : (e : Expression Span) → expression_at (project old) list ≡ Some e → (steps : List Step) → added_there (is_spaced_in source ends e) w key list (list_kind e) (length (elements_in e)) ≡ Ok steps → AreDoable steps trees
    added (call s f l) at_ steps made = go (is_identifier key) refl made
      where
        spaced : Bool
        spaced = is_spaced_in source ends (call s f l)

        go : (b : Bool) → is_identifier key ≡ b → (if b then keyword_behind spaced w key list (length (elements l)) else Err BadName) ≡ Ok steps → AreDoable steps trees
        go true named_key made =
            let new = written_keyword key (colon_text spaced) w in
            let same : behind_all list (length (elements l)) new ∷ [] ≡ steps = cc in
            let s = stands_with old is list (call s f l) _ at_ refl w.node room in
            subst (λ ss. AreDoable ss trees) same
            (behind list bracket.Round l s new (keyword_written key utf8 spaced w writes (identifier_true key named_key)) (refl, level) (λ it. (refl, level)) (omega arith))
        go false other made = absurd (let no : ⊥ = cc in no)
    added (dictionary l) at_ steps made =
        let spaced = is_spaced_in source ends (dictionary l) in
        let new = written_entry key (colon_text spaced) w in
        let same : behind_all list (length (elements l)) new ∷ [] ≡ steps = cc in
        let s = stands_with old is list (dictionary l) _ at_ refl w.node room in
        subst (λ ss. AreDoable ss trees) same
        (behind list bracket.Curly l s new (entry_written key utf8 spaced w writes) (refl, tt, level) (λ it. (tt, level)) (omega arith))
    added (array l) at_ steps made = absurd (let no : ⊥ = cc in no)
    added _ at_ steps made = absurd (let no : ⊥ = cc in no)

    pub added_doable : (o : Option (Expression Span)) → expression_at (project old) list ≡ o → (steps : List Step) → added_to source ends w key list o ≡ Ok steps → AreDoable steps trees
    added_doable None at_ steps made = absurd (let no : ⊥ = cc in no)
    added_doable (Some e) at_ steps made = added e at_ steps made

  -- an array with this value alone
  alone_there : (inner : CallRef) (l : Listing Span) (s : StandsWith inner bracket.Square w.node trees l) (m : ℕ) → length (elements l) ≡ m → AreDoable (alone_in_array inner m w) trees
  alone_there inner l s zero many =
      subst (λ m. AreDoable (behind_all inner m (record { bytes = w.bytes; node = plain w.node }) ∷ []) trees) many
      (behind inner bracket.Square l s (record { bytes = w.bytes; node = plain w.node }) writes (refl, refl, level) (λ it. level) (omega arith))
  alone_there inner l s (suc m) many =
      let ys = xs inner bracket.Square s.limit trees all_stand s.stands in
      let count : length ys ≡ suc m = ap length s.are ∙ length-map (elements l) erase_argument ∙ many in
      let it = nth_within ys 0 (omega (arith, count)) in
      let value = some_value it.0 in
      let st = replace_step inner bracket.Square s.limit trees all_stand s.stands 0 it.0 value.0 w it.1 value.1 writes level (omega (arith, s.room)) in
      let left : length (elements st.stands.place.list) ≡ 1 + m = omega (arith, ap length st.are, as_many ys 0 (with_value w.node it.0) (omega (arith, count)), count) in
      st.doable (rest_removed inner 1 m) (rest_doable inner bracket.Square s.limit 1 m _ st.all_stand st.stands left)

  alone_doable : (v : Expression Span) → is_array v ≡ true → expression_depth w.node ≡ 0 → (inner : CallRef) → expression_at (project old) inner ≡ Some v → AreDoable (alone_in_array inner (length (elements_in v)) w) trees
  alone_doable v array_there flat inner at_ =
      let l = array_list v array_there in
      let room = flat_room trees (parsed_shallow old.files old.parsed is.parsed) inner w.node flat in
      let s = stands_with old is inner v _ at_ l.1 w.node room in
      subst (λ m. AreDoable (alone_in_array inner m w) trees) (ap length l.2) (alone_there inner l.0 s (length (elements l.0)) refl)

-- ---- a value that is given

flat_text : (g : Given) (may : MayBeGiven g) (v : Expression Span) → replaces_texts g v ≡ true → expression_depth (written_given g may).node ≡ 0
flat_text (given.Text text) may v texts = refl
flat_text (given.Switch b) may v texts = absurd (let no : ⊥ = cc in no)
flat_text (given.Code code) may v texts = absurd (let no : ⊥ = cc in no)

array_of_texts : (g : Given) (v : Expression Span) → replaces_texts g v ≡ true → is_array v ≡ true
array_of_texts (given.Text text) v texts = (and_parts (is_array v) _ texts).0
array_of_texts (given.Switch b) v texts = absurd (let no : ⊥ = cc in no)
array_of_texts (given.Code code) v texts = absurd (let no : ⊥ = cc in no)

module _ (old : Loaded) (is : IsProject old) (g : Given) (may : MayBeGiven g) (key : List ℕ) where
  abbrev new : Written (Expression Nowhere)
  new = written_given g may

  abbrev before : List Plain
  before = plain_trees old

  set_there_doable : (list : CallRef) (n : ℕ) (o : Option (Child Span)) → element_child (project old) list n ≡ o → has_room new.node (list_in_trees before list) ≡ true → (steps : List Step) → set_there g new key list n o ≡ Ok steps
      → AreDoable steps before
  set_there_doable list n None there room steps made = absurd (let no : ⊥ = cc in no)
  set_there_doable list n (Some v) there room steps made = go (keeps_kind g v.value) (replaces_texts g v.value) refl made
    where
      h : ElementThere (project old) list n v
      h = element_there (project old) list n v there

      go : (a b : Bool) → replaces_texts g v.value ≡ b
          → (if a then Ok (step_in list (Replace list.path.steps n new) ∷ []) else (if b then Ok (alone_in_array (child list v.number) (length (elements_in v.value)) new) else Err (OtherKind key))) ≡ Ok steps
          → AreDoable steps before
      go true b two made =
          let same : step_in list (Replace list.path.steps n new) ∷ [] ≡ steps = cc in
          subst (λ ss. AreDoable ss before) same (replaced old is new (given_written g may) (given_level g may) list n v h room)
      go false true two made =
          let same : alone_in_array (child list v.number) (length (elements_in v.value)) new ≡ steps = cc in
          subst (λ ss. AreDoable ss before) same
          (alone_doable old is new (given_written g may) (given_level g may) v.value (array_of_texts g v.value two) (flat_text g may v.value two) (child list v.number) h.at_child)
      go false false two made = absurd (let no : ⊥ = cc in no)

-- the key that is absent is a text
abbrev pub KeyIsText : Slot → Type 0
KeyIsText (slot.Element list n) = Unit {0}
KeyIsText (slot.Absent list key) = IsUtf8 key
KeyIsText (slot.Whole c) = Unit {0}

module _ (old : Loaded) (is : IsProject old) (g : Given) (may : MayBeGiven g) (key : List ℕ) where
  whole_doable : (c : CallRef) (o : Option (Expression Span)) → expression_at (project old) c ≡ o → assigned_room c (written_given g may).node ≡ true → (steps : List Step) → set_whole old g (written_given g may) key c o ≡ Ok steps → AreDoable steps (plain_trees old)
  whole_doable c None at_ room steps made = absurd (let no : ⊥ = cc in no)
  whole_doable c (Some e) at_ room steps made = go (is_assigned (project old) c) (keeps_kind g e) (is_one_line g) (replaces_texts g e) refl refl refl made
    where
      go : (a b d t : Bool) → is_assigned (project old) c ≡ a → is_one_line g ≡ d → replaces_texts g e ≡ t
          → (if a then (if b then (if d then Ok (assign_steps c (written_given g may)) else Err (NotLiteral key))
          else (if t then Ok (alone_in_array c (length (elements_in e)) (written_given g may)) else Err (OtherKind key))) else Err (NotLiteral key)) ≡ Ok steps → AreDoable steps (plain_trees old)
      go true true true t there line texts m =
          let same : assign_steps c (written_given g may) ≡ steps = cc in
          subst (λ ss. AreDoable ss (plain_trees old)) same (assign_doable old is c there (written_given g may) (line_written g may line) (given_level g may) room)
      go true false d true there line texts m =
          let same : alone_in_array c (length (elements_in e)) (written_given g may) ≡ steps = cc in
          subst (λ ss. AreDoable ss (plain_trees old)) same
          (alone_doable old is (written_given g may) (given_written g may) (given_level g may) e (array_of_texts g e texts) (flat_text g may e texts) c at_)
      go false b d t there line texts m = absurd (let no : ⊥ = cc in no)
      go true true false t there line texts m = absurd (let no : ⊥ = cc in no)
      go true false d false there line texts m = absurd (let no : ⊥ = cc in no)

  set_doable : (s : Slot) → KeyIsText s → room_at old s (written_given g may).node ≡ true → (steps : List Step) → set_steps old g (written_given g may) key s ≡ Ok steps → AreDoable steps (plain_trees old)
  set_doable (slot.Element list n) text room steps made = set_there_doable old is g may key list n (element_child (project old) list n) refl room steps made
  set_doable (slot.Absent list k) text room steps made = added_doable old is (written_given g may) (given_written g may) (given_level g may) k text (bytes_at list.file old.files) (ends_in_file old list.file) list room (expression_at (project old) list) refl steps made
  set_doable (slot.Whole c) text room steps made = whole_doable c (expression_at (project old) c) refl room steps made

  pub set_within_doable : (s : Slot) → KeyIsText s → (steps : List Step) → set_within old g (written_given g may) key s ≡ Ok steps → AreDoable steps (plain_trees old)
  set_within_doable s text steps made = go (set_steps old g (written_given g may) key s) refl made
    where
      node : Expression Nowhere
      node = (written_given g may).node

      roomed : (ss : List Step) (b : Bool) → set_steps old g (written_given g may) key s ≡ Ok ss → room_at old s node ≡ b → (if b then Ok ss else Err TooDeep) ≡ Ok steps → AreDoable steps (plain_trees old)
      roomed ss true h room m = let same : ss ≡ steps = cc in subst (λ x. AreDoable x (plain_trees old)) same (set_doable s text room ss h)
      roomed ss false h room m = absurd (let no : ⊥ = cc in no)

      go : (r : Result (List Step) Refusal) → set_steps old g (written_given g may) key s ≡ r → then_ok r (if_room_at old s node) ≡ Ok steps → AreDoable steps (plain_trees old)
      go (Ok ss) h m = roomed ss (room_at old s node) h refl m
      go (Err e) h m = absurd (let no : ⊥ = cc in no)

-- ---- deleting

pub delete_doable : (old : Loaded) → IsProject old → (s : Slot) → SlotIsThere (project old) s → (steps : List Step) → delete_steps s ≡ Ok steps → AreDoable steps (plain_trees old)
delete_doable old is (slot.Absent list key) there steps made = let same : [] ≡ steps = cc in subst (λ ss. AreDoable ss (plain_trees old)) same (none (plain_trees old))
delete_doable old is (slot.Whole c) there steps made = absurd (let no : ⊥ = cc in no)
delete_doable old is (slot.Element list n) there steps made =
    let same : step_in list (Remove list.path.steps n) ∷ [] ≡ steps = cc in
    let v = map-some (λ (x : Child Span). x.value) (element_child (project old) list n) there.0 there.1 in
    let h = element_there (project old) list n v.0 v.1 in
    let e = string_of [] in
    let room = flat_room (plain_trees old) (parsed_shallow old.files old.parsed is.parsed) list e refl in
    let s = stands_with old is list h.expression h.list h.is_at h.is_list e room in
    let at_ = ap (λ ys. nth ys n) s.are ∙ nth_map erase_argument (elements h.list.list) n ∙ ap (option_map erase_argument) h.is_element in
    let st = remove_step list h.list.bracket s.limit (plain_trees old) (trees_stand old.files old.parsed is.parsed) s.stands n (erase_argument h.element) at_ in
    subst (λ ss. AreDoable ss (plain_trees old)) same (st.doable [] (none _))
