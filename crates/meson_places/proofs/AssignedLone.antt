-- A literal or an identifier that is assigned, and the array that its assignment assigns then: the steps may be done, and leave that array.
use Rattle.std.proofs.Common.{◌≡◌, ℕ, true, false, List, [], ◌∷◌, Option, Some, None, Ok, Err, refl, ap, ◌∙◌, subst, inl, inr}
use Rattle.std.specs.Prelude.{Bool, ◌⊎◌, if◌then◌else◌, is_some, option_map}
use Rattle.std.proofs.lemmas.Bool.{and_parts}
use Rattle.meson_lex.specs.declared.kinds.Span.{Span}
use Rattle.meson_splice.specs.Files.{bytes_at}
use Rattle.meson_syntax.specs.Grammar.{LevelExpression, expression_words}
use Rattle.meson_syntax.specs.Tree.{Expression, Nowhere, Plain}
use Rattle.meson_edit.specs.Edits.{Written}
use Rattle.meson_edit.specs.Places.{IsWrittenStatement}
use Rattle.meson_calls.specs.declared.call.CallRef.{CallRef}
use Rattle.meson_calls.specs.declared.refusal.Refusal.TheVariants.{NotLiteral, TooDeep}
use Rattle.meson_calls.specs.Calls.{literal_of}
use Rattle.meson_calls.specs.Loading.{IsProject, Loaded, project}
use Rattle.meson_calls.specs.Project.{Project, expression_at}
use Rattle.meson_steps.specs.Code.{IsValue}
use Rattle.meson_steps.specs.ListSteps.{AreDoable, none}
use Rattle.meson_steps.specs.ResultLimits.{plain_trees}
use Rattle.meson_steps.specs.Steps.{Step, all_stepped}
use Rattle.meson_steps.specs.declared.given.Given.{Given}
use Rattle.meson_places.specs.declared.slots.Slot.{Slot}
use Rattle.meson_places.specs.declared.slots.Slot.TheVariants as slot
use Rattle.meson_places.specs.AssignedArrays.{LoneValue, added_by, added_steps, array_assigned, array_beside, assigned_lone, assigned_text, is_line, is_text_at, is_text_in, lone_in, lone_written, set_all_by, set_all_steps}
use Rattle.meson_places.specs.AssignedValues.{assign_steps, assigned_room, is_assigned, statement_of}
use Rattle.meson_places.specs.Effects.{AssignedArray, AssignedBeside, IsAssignedBeside}
use Rattle.meson_places.specs.Equality.{says}
use Rattle.meson_places.specs.Laws.{AssignedIs}
use Rattle.meson_places.specs.NewElements.{add_steps, array_with, fresh_written, lone_token}
use Rattle.meson_places.specs.Several.{AllMayBeGiven, set_all, written_array}
use Rattle.meson_places.specs.inside.Found.{IsArrayValue}
use Rattle.meson_places.proofs.ArrayWritten.{array_value}
use Rattle.meson_places.proofs.AssignedDoable.{assign_doable, assigned_left}
use Rattle.meson_places.proofs.LinesWritten.{value_line}
use Rattle.meson_places.proofs.LoneValues.{lone_stands, lone_value}

-- ---- what is found

pub record LoneThere (p : Project Span) (s : Slot) (v : LoneValue) : Type 0 where
  pub is_slot : s ≡ slot.Whole v.place
  pub is_at : expression_at p v.place ≡ Some v.value
  pub is_token : lone_token v.value ≡ Some v.token
  pub assigned : is_assigned p v.place ≡ true

pub lone_there : (p : Project Span) (s : Slot) (v : LoneValue) → assigned_lone p s ≡ Some v → LoneThere p s v
lone_there p (slot.Element list n) v is = absurd (let no : ⊥ = cc in no)
lone_there p (slot.Absent list key) v is = absurd (let no : ⊥ = cc in no)
lone_there p (slot.Whole c) v is = go (expression_at p c) refl is
  where
    by : (e : Expression Span) → expression_at p c ≡ Some e → (a : Bool) → is_assigned p c ≡ a → (o : Option (List ℕ)) → lone_token e ≡ o
        → (if a then option_map (λ x. record { place = c; value = e; token = x }) o else None) ≡ Some v → LoneThere p (slot.Whole c) v
    by e at_ true assigned (Some x) token h =
        let same : record { place = c; value = e; token = x } ≡ v = cc in
        subst (LoneThere p (slot.Whole c)) same (record { is_slot = refl; is_at = at_; is_token = token; assigned = assigned })
    by e at_ true assigned None token h = absurd (let no : ⊥ = cc in no)
    by e at_ false assigned o token h = absurd (let no : ⊥ = cc in no)

    go : (o : Option (Expression Span)) → expression_at p c ≡ o → lone_in p c o ≡ Some v → LoneThere p (slot.Whole c) v
    go None at_ h = absurd (let no : ⊥ = cc in no)
    go (Some e) at_ h = by e at_ (is_assigned p c) refl (lone_token e) refl h

pub record TextThere (p : Project Span) (s : Slot) (c : CallRef) : Type 0 where
  pub is_slot : s ≡ slot.Whole c
  pub value : Expression Span
  pub is_at : expression_at p c ≡ Some value
  pub literal : is_some (literal_of value) ≡ true
  pub assigned : is_assigned p c ≡ true

pub text_there : (p : Project Span) (s : Slot) (c : CallRef) → assigned_text p s ≡ Some c → TextThere p s c
text_there p (slot.Element list n) c is = absurd (let no : ⊥ = cc in no)
text_there p (slot.Absent list key) c is = absurd (let no : ⊥ = cc in no)
text_there p (slot.Whole d) c is = by (is_text_at p d) refl is
  where
    go : (o : Option (Expression Span)) → expression_at p d ≡ o → is_text_in p d o ≡ true → TextThere p (slot.Whole d) d
    go None at_ h = absurd (let no : ⊥ = cc in no)
    go (Some e) at_ h = let both = and_parts (is_assigned p d) (is_some (literal_of e)) h in record { is_slot = refl; value = e; is_at = at_; literal = both.1; assigned = both.0 }

    by : (b : Bool) → is_text_at p d ≡ b → (if b then Some d else None) ≡ Some c → TextThere p (slot.Whole d) c
    by true there h = let same : d ≡ c = cc in subst (λ x. TextThere p (slot.Whole d) x) same (go (expression_at p d) refl there)
    by false there h = absurd (let no : ⊥ = cc in no)

-- ---- an array that is assigned

record Assigns (c : CallRef) (w : Written (Expression Nowhere)) (steps : List Step) : Type 0 where
  line : is_line w.bytes ≡ true
  room : assigned_room c w.node ≡ true
  are : assign_steps c w ≡ steps

assigns : (key : List ℕ) (c : CallRef) (w : Written (Expression Nowhere)) (steps : List Step) → array_assigned key c w ≡ Ok steps → Assigns c w steps
assigns key c w steps made = go (is_line w.bytes) (assigned_room c w.node) refl refl made
  where
    go : (a b : Bool) → is_line w.bytes ≡ a → assigned_room c w.node ≡ b → (if a then (if b then Ok (assign_steps c w) else Err TooDeep) else Err (NotLiteral key)) ≡ Ok steps → Assigns c w steps
    go true true line room h = record { line = line; room = room; are = let same : assign_steps c w ≡ steps = cc in same }
    go true false line room h = absurd (let no : ⊥ = cc in no)
    go false b line room h = absurd (let no : ⊥ = cc in no)

module _ (l : Loaded) (is : IsProject l) (key : List ℕ) (c : CallRef) (assigned : is_assigned (project l) c ≡ true) where
  array_doable : (w : Written (Expression Nowhere)) (x : IsValue w.bytes) → x.node ≡ w.node → (steps : List Step) → array_assigned key c w ≡ Ok steps → AreDoable steps (plain_trees l)
  array_doable w x node steps made =
      let a = assigns key c w steps made in
      subst (λ ss. AreDoable ss (plain_trees l)) a.are
      (assign_doable l is c assigned w (subst (λ e. IsWrittenStatement w.bytes (expression_words e)) node (value_line w.bytes x a.line)) (subst LevelExpression node x.level) a.room)

  beside_doable : (old : Written (Expression Nowhere)) (ws : List (Written (Expression Nowhere))) → IsArrayValue old ws → (steps : List Step) → array_beside key c old ws ≡ Ok steps → AreDoable steps (plain_trees l)
  beside_doable old [] v steps made = let same : [] ≡ steps = cc in subst (λ ss. AreDoable ss (plain_trees l)) same (none (plain_trees l))
  beside_doable old (w ∷ ws) v steps made = array_doable (array_with old (w ∷ ws)) v.value v.is_node steps made

array_left : (key : List ℕ) (c : CallRef) (w : Written (Expression Nowhere)) (steps : List Step) (before after : List Plain) → array_assigned key c w ≡ Ok steps → all_stepped steps before ≡ Some after → AssignedIs (statement_of c) w.node before after
array_left key c w steps before after made done =
    let a = assigns key c w steps made in
    assigned_left c w before after (ap (λ ss. all_stepped ss before) a.are ∙ done)

beside_left : (key : List ℕ) (c : CallRef) (old : Written (Expression Nowhere)) (ws : List (Written (Expression Nowhere))) (steps : List Step) (before after : List Plain) → array_beside key c old ws ≡ Ok steps
    → all_stepped steps before ≡ Some after → IsAssignedBeside c old ws before after
beside_left key c old [] steps before after made done =
    let empty : [] ≡ steps = cc in
    let same : Some before ≡ Some after = ap (λ ss. all_stepped ss before) empty ∙ done in
    cc
beside_left key c old (w ∷ ws) steps before after made done = array_left key c (array_with old (w ∷ ws)) steps before after made done

-- ---- the steps of a slot

module _ (l : Loaded) (is : IsProject l) (gs : List Given) (may : AllMayBeGiven gs) (key : List ℕ) (s : Slot) (steps : List Step) where
  pub set_all_steps_doable : (set_all l gs may key s ≡ Ok steps → AreDoable steps (plain_trees l)) → set_all_steps l gs may key s ≡ Ok steps → AreDoable steps (plain_trees l)
  set_all_steps_doable other made = go (assigned_text (project l) s) refl made
    where
      go : (o : Option CallRef) → assigned_text (project l) s ≡ o → set_all_by l gs may key s o ≡ Ok steps → AreDoable steps (plain_trees l)
      go None found h = other h
      go (Some c) found h = let t = text_there (project l) s c found in array_doable l is key c t.assigned (written_array gs may) (array_value gs may) refl steps h

  pub added_steps_doable : (add_steps l gs may key s ≡ Ok steps → AreDoable steps (plain_trees l)) → added_steps l gs may key s ≡ Ok steps → AreDoable steps (plain_trees l)
  added_steps_doable other made = go (assigned_lone (project l) s) refl made
    where
      go : (o : Option LoneValue) → assigned_lone (project l) s ≡ o → added_by l gs may key s o ≡ Ok steps → AreDoable steps (plain_trees l)
      go None found h = other h
      go (Some v) found h =
          let t = lone_there (project l) s v found in
          beside_doable l is key v.place t.assigned (lone_written v) (fresh_written (λ g. says (bytes_at v.place.file l.files) g v.value) [] gs may)
          (lone_value (λ g. says (bytes_at v.place.file l.files) g v.value) v.value v.token t.is_token (lone_stands l is.parsed v.place v.value t.is_at v.token t.is_token) gs may) steps h

module _ (l : Loaded) (gs : List Given) (may : AllMayBeGiven gs) (key : List ℕ) (steps : List Step) (after : List Plain) (done : all_stepped steps (plain_trees l) ≡ Some after) where
  abbrev before : List Plain
  before = plain_trees l

  pub assigned_array_left : (c : CallRef) → set_all_steps l gs may key (slot.Whole c) ≡ Ok steps → AssignedArray l gs c before after
  assigned_array_left c made = go (assigned_text (project l) (slot.Whole c)) refl made
    where
      go : (o : Option CallRef) → assigned_text (project l) (slot.Whole c) ≡ o → set_all_by l gs may key (slot.Whole c) o ≡ Ok steps → AssignedArray l gs c before after
      go None found h = absurd (let no : ⊥ = cc in no)
      go (Some d) found h =
          let t = text_there (project l) (slot.Whole c) d found in
          let whole : slot.Whole c ≡ slot.Whole d = t.is_slot in
          let same : d ≡ c = cc in
          subst (λ x. AssignedArray l gs x before after) same
          (record { may = may; value = t.value; is_value = t.is_at; assigned = t.assigned; literal = t.literal; now = array_left key d (written_array gs may) steps before after h done })

  -- values that are added to what is assigned, or else to a list of it
  pub added_left : (c : CallRef) (Other : Type 0) → (add_steps l gs may key (slot.Whole c) ≡ Ok steps → Other) → added_steps l gs may key (slot.Whole c) ≡ Ok steps
      → Other ⊎ ((e : Expression Span) × (expression_at (project l) c ≡ Some e) × AssignedBeside l gs may c e before after)
  added_left c Other other made = go (assigned_lone (project l) (slot.Whole c)) refl made
    where
      go : (o : Option LoneValue) → assigned_lone (project l) (slot.Whole c) ≡ o → added_by l gs may key (slot.Whole c) o ≡ Ok steps
          → Other ⊎ ((e : Expression Span) × (expression_at (project l) c ≡ Some e) × AssignedBeside l gs may c e before after)
      go None found h = inl (other h)
      go (Some v) found h =
          let t = lone_there (project l) (slot.Whole c) v found in
          let whole : slot.Whole c ≡ slot.Whole v.place = t.is_slot in
          let same : v.place ≡ c = cc in
          inr (subst (λ x. (e : Expression Span) × (expression_at (project l) x ≡ Some e) × AssignedBeside l gs may x e before after) same (
            v.value,
            t.is_at,
            record {
              assigned = t.assigned;
              token = v.token;
              is_token = t.is_token;
              now = beside_left key v.place (lone_written v) (fresh_written (λ g. says (bytes_at v.place.file l.files) g v.value) [] gs may) steps before after h done;
            },
          ))
