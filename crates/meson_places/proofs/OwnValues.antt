-- What a variable is set to is changed for a call only where nothing else reads the variable.
use Rattle.std.proofs.Common.{◌≡◌, ℕ, true, false, List, [], ◌∷◌, Option, Some, None, Result, Ok, Err, refl, sym, ap, ap₂, ◌∙◌, subst, inl, inr}
use Rattle.std.specs.Prelude.{Bool, ◌⊎◌, ◌==◌, ◌&&◌, not, bytes_eq, if◌then◌else◌, option_and_then, option_map}
use Rattle.std.specs.List.{Contains, list_any}
use Rattle.std.proofs.lemmas.Bool.{and_parts, eqb-true, or_parts}
use Rattle.std.proofs.lemmas.Slice.Eq.{bytes_eq-Decides}
use Rattle.meson_lex.specs.declared.fault.LexFault.{LexFault}
use Rattle.meson_lex.specs.declared.kinds.Item.{Item}
use Rattle.meson_lex.specs.declared.kinds.Span.{Span}
use Rattle.meson_lex.specs.Scan.{scan}
use Rattle.meson_splice.specs.declared.file_set.File.{File}
use Rattle.meson_splice.specs.Files.{bytes_at}
use Rattle.meson_syntax.specs.Tree.{Expression, evaluate, assign, selection, iteration, breaks, continues}
use Rattle.meson_syntax.specs.View.{text_at}
use Rattle.meson_calls.specs.declared.call.CallRef.{CallRef}
use Rattle.meson_calls.specs.declared.refusal.Refusal.{Refusal}
use Rattle.meson_calls.specs.declared.refusal.Refusal.TheVariants.{Shared}
use Rattle.meson_calls.specs.Calls.{Call, calls, chosen}
use Rattle.meson_calls.specs.Loading.{Loaded, project}
use Rattle.meson_calls.specs.Notes.{a_call, is_set, notes}
use Rattle.meson_calls.specs.Parts.{Part, parts}
use Rattle.meson_calls.specs.Parts as part
use Rattle.meson_calls.specs.Project.{Placed, Project, child, expression_at, placed}
use Rattle.meson_calls.specs.Walks.{part_reads, read_at, read_in}
use Rattle.meson_calls.proofs.CallsReached.{InProject, every_part}
use Rattle.meson_calls.proofs.ExpressionsAt.{assigned_stands}
use Rattle.meson_variables.specs.Variables.{Assigned, all_known, assignments, is_outermost, is_set_otherwise, only_value, part_assigned, single}
use Rattle.meson_steps.specs.declared.argument.ValueChange.TheVariants as change
use Rattle.meson_steps.specs.declared.given.Given.{Given}
use Rattle.meson_steps.specs.declared.given.Given.TheVariants as given
use Rattle.meson_places.specs.declared.slots.Slot.{Slot}
use Rattle.meson_places.specs.declared.slots.Slot.TheVariants as slot
use Rattle.meson_places.specs.Behind.{Behind, added_slot, behind, behind_slot, behind_value, has_lists, placed_at, said_slot, says_one_at, set_slot, variable_of, word_slot}
use Rattle.meson_places.specs.BehindLaws.{ChangesOwnValue, IsBehind, IsOperandOf, ReadByNobodyElse}
use Rattle.meson_places.specs.Changes.{slot_place}
use Rattle.meson_places.specs.Equality.{says}
use Rattle.meson_places.specs.TargetNames.{is_same}
use Rattle.meson_places.specs.Uses.{call_names, is_format, is_formatted, is_named, is_only, is_read_once, item_holds, note_names, occurs, placeholder, source_holds}
use Rattle.meson_places.proofs.Found.{Among, among, call_noted, every_among, given, given_by}

-- ---- tests of lists

none_passes : {X : Type 0} (test : X → Bool) (xs : List X) (x : X) → list_any test xs ≡ false → Among xs x → test x ≡ false
none_passes test [] x none m = absurd m
none_passes test (y ∷ ys) x none (inl same) = ap test (sym same) ∙ (or_parts (test y) (list_any test ys) none).0
none_passes test (y ∷ ys) x none (inr m) = none_passes test ys x (or_parts (test y) (list_any test ys) none).1 m

within : {X : Type 0} (xs : List X) (x : X) → Contains xs x → Among xs x
within xs x c = among xs x c.0 c.1 c.2

not_true : (b : Bool) → not b ≡ true → b ≡ false
not_true true is = absurd (let no : ⊥ = cc in no)
not_true false is = refl

-- ---- places

same_place : (c d : CallRef) → is_same c d ≡ true → c ≡ d
same_place c d is =
    let both = and_parts (c.file == d.file) (bytes_eq c.path.steps d.path.steps) is in
    let files : c.file ≡ d.file = eqb-true c.file d.file both.0 in
    let steps : c.path.steps ≡ d.path.steps = (bytes_eq-Decides c.path.steps d.path.steps).0 both.1 in
    ap₂ (λ (f : ℕ) (ss : List ℕ). record { file = f; path = record { steps = ss } }) files steps

only_place : (c : CallRef) (cs : List CallRef) (d : CallRef) → is_only c cs ≡ true → Among cs d → d ≡ c
only_place c [] d is m = absurd m
only_place c (e ∷ []) d is (inl same) = sym same ∙ same_place e c is
only_place c (e ∷ []) d is (inr never) = absurd never
only_place c (e ∷ f ∷ more) d is m = absurd (let no : ⊥ = cc in no)

-- ---- nobody else

module _ (l : Loaded) (x : List ℕ) (c : CallRef) where
  reads_one : is_only c (read_in x (parts (project l))) ≡ true → (q : Placed (Part Span)) → Contains (parts (project l)) q → part_reads x q.it ≡ true → q.place ≡ c
  reads_one only q there reads =
      let at_ : read_at x q ≡ Some q.place = ap (λ b. if b then Some q.place else None) reads in
      only_place c (read_in x (parts (project l))) q.place only (given (read_at x) (parts (project l)) q q.place (within _ q there) at_)

  calls_none : is_named x (notes (project l)) ≡ false → (k : Placed (Call Span)) → Contains (calls (project l)) k → call_names x k.it ≡ false
  calls_none none k there =
      none_passes (λ m. note_names x m.it) (notes (project l)) (placed k.place (a_call k.it)) none (call_noted (parts (project l)) k (within (calls (project l)) k there))

  held_not : (b o : Bool) → (b && o) ≡ false → b ≡ true → o ≡ false
  held_not true o is holds = is
  held_not false o is holds = absurd (let no : ⊥ = cc in no)

  formats_none : is_formatted x l.files ≡ false → (f : File) → Contains l.files f → (i : Item) → Contains (scan 0 f.bytes) (Ok i) → is_format i.kind ≡ true → occurs (placeholder x) (text_at f.bytes i.span) ≡ false
  formats_none none f there i item format =
      let here = none_passes (λ (g : File). source_holds (placeholder x) g.bytes) l.files f none (within _ f there) in
      let one : Result Item LexFault = Ok i in
      held_not (is_format i.kind) (occurs (placeholder x) (text_at f.bytes i.span)) (none_passes (item_holds f.bytes (placeholder x)) (scan 0 f.bytes) one here (within _ one item)) format

pub read_by_nobody_else : ReadByNobodyElse
read_by_nobody_else l x c once =
    let a = and_parts (is_only c (read_in x (parts (project l)))) (not (is_formatted x l.files) && not (is_named x (notes (project l)))) once in
    let b = and_parts (not (is_formatted x l.files)) (not (is_named x (notes (project l)))) a.1 in
    record {
      reads = reads_one l x c a.0;
      calls = calls_none l x c (not_true (is_named x (notes (project l))) b.1);
      formats = formats_none l x c (not_true (is_formatted x l.files) b.0);
    }

-- ---- the one value of a variable

module _ (p : Project Span) (x : List ℕ) where
  assigned_there : (q : Placed (Part Span)) (a : Placed (Assigned Span)) → InProject 0 p q → chosen (part_assigned x) q ≡ Some a → expression_at p (child a.place 0) ≡ Some a.it.value
  assigned_there q a in_ is = go q.it refl is
    where
      Gives : Part Span → Type 0
      Gives y = option_map (placed q.place) (part_assigned x y) ≡ Some a

      go : (y : Part Span) → q.it ≡ y → Gives y → expression_at p (child a.place 0) ≡ Some a.it.value
      go (part.an_expression e) same h = absurd (let no : ⊥ = cc in no)
      go (part.a_statement (assign s n sets e)) same h = one (bytes_eq n.text x) h
        where
          one : (b : Bool) → option_map (placed q.place) (if b then Some (record { value = e; sets = is_set sets }) else None) ≡ Some a → expression_at p (child a.place 0) ≡ Some a.it.value
          one true k =
              let it : Placed (Assigned Span) = placed q.place (record { value = e; sets = is_set sets }) in
              let alike : it ≡ a = cc in
              subst (λ (b : Placed (Assigned Span)). expression_at p (child b.place 0) ≡ Some b.it.value) alike (assigned_stands p q s n sets e in_ same)
          one false k = absurd (let no : ⊥ = cc in no)
      go (part.a_statement (evaluate e)) same h = absurd (let no : ⊥ = cc in no)
      go (part.a_statement (selection s bs o)) same h = absurd (let no : ⊥ = cc in no)
      go (part.a_statement (iteration s xs e b)) same h = absurd (let no : ⊥ = cc in no)
      go (part.a_statement (breaks s)) same h = absurd (let no : ⊥ = cc in no)
      go (part.a_statement (continues s)) same h = absurd (let no : ⊥ = cc in no)

  -- it is at its place
  pub single_there : (v : Placed (Expression Span)) → single p x ≡ Some v → expression_at p v.place ≡ Some v.it
  single_there v is = known (all_known p && not (is_set_otherwise p x)) is
    where
      lone : (a : Placed (Assigned Span)) → assignments p x ≡ a ∷ [] → (b : Bool) → (if b then Some (placed (child a.place 0) a.it.value) else None) ≡ Some v → expression_at p v.place ≡ Some v.it
      lone a are true h =
          let among_all = subst (λ all. Among all a) (sym are) (inl refl) in
          let g = given_by (chosen (part_assigned x)) (parts p) a among_all in
          let there = assigned_there g.of a (every_among (InProject 0 p) (parts p) g.of (every_part 0 p) g.is_among) g.gives in
          let it : Placed (Expression Span) = placed (child a.place 0) a.it.value in
          let same : it ≡ v = cc in
          subst (λ (w : Placed (Expression Span)). expression_at p w.place ≡ Some w.it) same there
      lone a are false h = absurd (let no : ⊥ = cc in no)

      only : (all : List (Placed (Assigned Span))) → assignments p x ≡ all → only_value all ≡ Some v → expression_at p v.place ≡ Some v.it
      only [] are h = absurd (let no : ⊥ = cc in no)
      only (a ∷ []) are h = lone a are (a.it.sets && is_outermost a.place.path.steps) h
      only (a ∷ b ∷ more) are h = absurd (let no : ⊥ = cc in no)

      known : (b : Bool) → (if b then only_value (assignments p x) else None) ≡ Some v → expression_at p v.place ≡ Some v.it
      known true h = only (assignments p x) refl h
      known false h = absurd (let no : ⊥ = cc in no)

-- ---- the slot that is changed

module _ (l : Loaded) (s : Slot) where
  -- what is behind a slot is a variable, and the value that it is set to
  pub record Is (b : Behind) : Type 0 where
    pub value : Expression Span
    pub is_place : slot_place (project l) s ≡ Some b.read_at
    pub is_value : expression_at (project l) b.read_at ≡ Some value
    pub is_variable : variable_of value ≡ Some b.variable
    pub set_to : Placed (Expression Span)
    pub is_set : single (project l) b.variable ≡ Some set_to
    pub is_set_at : b.value_at ≡ set_to.place

  pub is_behind : (gs : List Given) (b : Behind) → behind_slot l.files (project l) gs s ≡ Some b → Is b
  is_behind gs b is = at_place (slot_place (project l) s) refl is
    where
      at_single : (c : CallRef) (e : Expression Span) (x : List ℕ) → slot_place (project l) s ≡ Some c → expression_at (project l) c ≡ Some e → variable_of e ≡ Some x → (o : Option (Placed (Expression Span))) → single (project l) x ≡ o
          → option_map (λ v. record { variable = x; read_at = c; value_at = v.place }) o ≡ Some b → Is b
      at_single c e x place value variable None set h = absurd (let no : ⊥ = cc in no)
      at_single c e x place value variable (Some v) set h =
          let same : record { variable = x; read_at = c; value_at = v.place } ≡ b = cc in
          subst Is same (record { value = e; is_place = place; is_value = value; is_variable = variable; set_to = v; is_set = set; is_set_at = refl })

      at_variable : (c : CallRef) (e : Expression Span) → slot_place (project l) s ≡ Some c → expression_at (project l) c ≡ Some e → (o : Option (List ℕ)) → variable_of e ≡ o → option_and_then (behind (project l) c) o ≡ Some b → Is b
      at_variable c e place value None variable h = absurd (let no : ⊥ = cc in no)
      at_variable c e place value (Some x) variable h = at_single c e x place value variable (single (project l) x) refl h

      at_value : (c : CallRef) → slot_place (project l) s ≡ Some c → (o : Option (Expression Span)) → expression_at (project l) c ≡ o → option_and_then (behind_value l.files (project l) gs) (option_map (placed c) o) ≡ Some b → Is b
      at_value c place None value h = absurd (let no : ⊥ = cc in no)
      at_value c place (Some e) value h = itself (list_any (λ g. says (bytes_at c.file l.files) g e) gs) h
        where
          itself : (a : Bool) → (if a then None else option_and_then (behind (project l) c) (variable_of e)) ≡ Some b → Is b
          itself true k = absurd (let no : ⊥ = cc in no)
          itself false k = at_variable c e place value (variable_of e) refl k

      at_place : (o : Option CallRef) → slot_place (project l) s ≡ o → option_and_then (behind_value l.files (project l) gs) (option_and_then (placed_at (project l)) o) ≡ Some b → Is b
      at_place None place h = absurd (let no : ⊥ = cc in no)
      at_place (Some c) place h = at_value c place (expression_at (project l) c) refl h

  -- of a slot that reads the variable
  pub owned_by : (u : Slot) (b : Behind) (t : Slot) → Is b → (slot_place (project l) u ≡ Some b.read_at) ⊎ IsOperandOf (project l) u b.read_at → is_read_once l.files (project l) b.variable b.read_at ≡ true → slot.Whole b.value_at ≡ t
      → IsBehind l u t
  owned_by u b t i read once same = record {
    read_at = b.read_at;
    is_read = read;
    value = i.value;
    is_value = i.is_value;
    variable = b.variable;
    is_variable = i.is_variable;
    set_to = i.set_to;
    is_set = i.is_set;
    is_slot = sym same ∙ ap slot.Whole i.is_set_at;
    nobody_else = read_by_nobody_else l b.variable b.read_at once;
  }

  owned : (b : Behind) (t : Slot) → Is b → is_read_once l.files (project l) b.variable b.read_at ≡ true → slot.Whole b.value_at ≡ t → IsBehind l s t
  owned b t i once same = owned_by s b t i (inl i.is_place) once same

  added : (gs : List Given) (t : Slot) (o : Option Behind) → behind_slot l.files (project l) gs s ≡ o → added_slot l.files (project l) s o ≡ Ok t → (t ≡ s) ⊎ IsBehind l s t
  added gs t None is h = inl (let same : s ≡ t = cc in sym same)
  added gs t (Some b) is h = go (has_lists (project l) b.value_at) (is_read_once l.files (project l) b.variable b.read_at) refl h
    where
      slot_by : Bool → Result Slot Refusal
      slot_by passes = Ok (if passes then slot.Whole b.value_at else s)

      go : (a r : Bool) → is_read_once l.files (project l) b.variable b.read_at ≡ r → slot_by (a && r) ≡ Ok t → (t ≡ s) ⊎ IsBehind l s t
      go true true once k = inr (owned b t (is_behind gs b is) once (let same : slot.Whole b.value_at ≡ t = cc in same))
      go true false once k = inl (let same : s ≡ t = cc in sym same)
      go false r once k = inl (let same : s ≡ t = cc in sym same)

  said : (gs : List Given) (t : Slot) (o : Option Behind) → behind_slot l.files (project l) gs s ≡ o → said_slot l.files (project l) gs s o ≡ Ok t → (t ≡ s) ⊎ IsBehind l s t
  said gs t None is h = inl (let same : s ≡ t = cc in sym same)
  said gs t (Some b) is h = go (says_one_at l.files (project l) gs b.value_at) (is_read_once l.files (project l) b.variable b.read_at) refl h
    where
      shared : Result Slot Refusal
      shared = Err (Shared b.variable)

      go : (a r : Bool) → is_read_once l.files (project l) b.variable b.read_at ≡ r → (if a then (if r then Ok (slot.Whole b.value_at) else shared) else Ok s) ≡ Ok t → (t ≡ s) ⊎ IsBehind l s t
      go true true once k = inr (owned b t (is_behind gs b is) once (let same : slot.Whole b.value_at ≡ t = cc in same))
      go true false once k = absurd (let no : ⊥ = cc in no)
      go false r once k = inl (let same : s ≡ t = cc in sym same)

  word : (t : Slot) (o : Option Behind) → behind_slot l.files (project l) [] s ≡ o → word_slot l.files (project l) s o ≡ Ok t → (t ≡ s) ⊎ IsBehind l s t
  word t None is h = inl (let same : s ≡ t = cc in sym same)
  word t (Some b) is h = go (is_read_once l.files (project l) b.variable b.read_at) refl h
    where
      shared : Result Slot Refusal
      shared = Err (Shared b.variable)

      go : (r : Bool) → is_read_once l.files (project l) b.variable b.read_at ≡ r → (if r then Ok (slot.Whole b.value_at) else shared) ≡ Ok t → (t ≡ s) ⊎ IsBehind l s t
      go true once k = inr (owned b t (is_behind [] b is) once (let same : slot.Whole b.value_at ≡ t = cc in same))
      go false once k = absurd (let no : ⊥ = cc in no)

  set : (g : Given) (t : Slot) → set_slot l.files (project l) g s ≡ Ok t → (t ≡ s) ⊎ IsBehind l s t
  set (given.Text text) t h = word t (behind_slot l.files (project l) [] s) refl h
  set (given.Switch b) t h = word t (behind_slot l.files (project l) [] s) refl h
  set (given.Code code) t h = inl (let same : s ≡ t = cc in sym same)

pub changes_own_value : ChangesOwnValue
changes_own_value l (change.Set g) s t h = set l s g t h
changes_own_value l (change.SetAll gs) s t h = inl (let same : s ≡ t = cc in sym same)
changes_own_value l (change.Add gs) s t h = added l s gs t (behind_slot l.files (project l) gs s) refl h
changes_own_value l (change.AddSorted gs) s t h = added l s gs t (behind_slot l.files (project l) gs s) refl h
changes_own_value l (change.AddAfter g gs) s t h = said l s (g ∷ []) t (behind_slot l.files (project l) (g ∷ []) s) refl h
changes_own_value l (change.Remove gs) s t h = said l s gs t (behind_slot l.files (project l) gs s) refl h
changes_own_value l (change.Replace old new) s t h = said l s (old ∷ []) t (behind_slot l.files (project l) (old ∷ []) s) refl h
changes_own_value l change.Delete s t h = inl (let same : s ≡ t = cc in sym same)
