-- All values that are assigned to a variable are at their places, and these are apart.
use Rattle.std.proofs.Common.{◌≡◌, ℕ, true, false, ◌+◌, List, [], ◌∷◌, ◌++◌, Option, Some, None, Result, Ok, Err, refl, sym, ap, ◌∙◌, subst, arith, inl, inr}
use Rattle.std.specs.Prelude.{Bool, ◌⊎◌, ◌&&◌, not, bytes_eq, if◌then◌else◌, option_map, option_and_then}
use Rattle.std.specs.List.{list_all, list_any}
use Rattle.std.proofs.lemmas.Bool.{and_parts}
use Rattle.meson_lex.specs.declared.kinds.Span.{Span}
use Rattle.meson_splice.specs.Patch.{then_ok}
use Rattle.meson_syntax.specs.declared.operator.Assignment.{Assignment}
use Rattle.meson_syntax.specs.Children.{Any, a_block, a_statement}
use Rattle.meson_syntax.specs.inside.Children.{child_nodes, node_at}
use Rattle.meson_syntax.specs.Paths.{block_of, nth}
use Rattle.meson_syntax.specs.Tree.{File, file, Expression, Name, Nowhere, Statement, evaluate, assign, selection, iteration, breaks, continues, erase, erase_expression, erase_name}
use Rattle.meson_syntax.proofs.paths.Every.{Every}
use Rattle.meson_syntax.proofs.paths.Reaching.{map-some}
use Rattle.meson_edit.proofs.paths.Mapped.{nth_map}
use Rattle.meson_calls.specs.declared.call.CallRef.{CallRef}
use Rattle.meson_calls.specs.declared.refusal.Refusal.{Refusal}
use Rattle.meson_calls.specs.declared.refusal.Refusal.TheVariants.{Ambiguous}
use Rattle.meson_calls.specs.AllParts.{address}
use Rattle.meson_calls.specs.Calls.{call_of, chosen}
use Rattle.meson_calls.specs.Loading.{Loaded, project}
use Rattle.meson_calls.specs.Notes.{Note, a_call, an_assignment, a_loop, note_of, notes}
use Rattle.meson_calls.specs.Parts.{Part, parts}
use Rattle.meson_calls.specs.Parts as part
use Rattle.meson_calls.specs.Project as places
use Rattle.meson_calls.specs.Project.{child, expression_at, place, placed}
use Rattle.meson_calls.proofs.CallsReached.{InProject, every_part}
use Rattle.meson_calls.proofs.ExpressionsAt.{assigned_stands}
use Rattle.meson_calls.proofs.nodes.Erased.{children_erased, erase_any}
use Rattle.meson_calls.proofs.nodes.PartsBelow.{any}
use Rattle.meson_steps.specs.ResultLimits.{plain_trees}
use Rattle.meson_steps.proofs.PlainTrees.{tree_there}
use Rattle.meson_steps.specs.declared.argument.PlaceName.{PlaceName}
use Rattle.meson_steps.specs.declared.argument.PlaceName.TheVariants as name
use Rattle.meson_steps.specs.declared.argument.Search.{Search}
use Rattle.meson_steps.specs.declared.argument.ValueName.{ValueName}
use Rattle.meson_steps.specs.declared.given.Given.{Given}
use Rattle.meson_places.specs.declared.slots.Slot.{Slot}
use Rattle.meson_places.specs.declared.slots.Slot.TheVariants as slot
use Rattle.meson_places.specs.AllAssigned.{all_assigned, assigned_saying, said_among, several_saying}
use Rattle.meson_places.specs.AssignedEffects.{IsNamed}
use Rattle.meson_places.specs.AssignedValues.{above}
use Rattle.meson_places.specs.Assignments.{added_beside, added_value, added_values, whole_variable}
use Rattle.meson_places.specs.Names.{found_by_id, found_within, is_searched, named_place, places_by_id, project_there, searched, searched_file, sets_named, the_place}
use Rattle.meson_calls.specs.Finding.{only_one}
use Rattle.meson_places.specs.Slots.{slot_from, the_slot}
use Rattle.meson_places.proofs.Apart.{Apart, Assigns, BothApart, Pairs, apart_turned, assignments_apart, pairs_kept, pairs_mapped}
use Rattle.meson_places.proofs.Refused.{ok_then}
use Rattle.meson_places.proofs.AssignedPlaced.{Placed, PlacesApart, above_child}
use Rattle.meson_places.proofs.Found.{Among, every_among, given_by, kept_by, one_of}
use Rattle.meson_places.proofs.OwnAssigned.{beside, whole_is}

-- ---- nodes without their spans

through : (path : List ℕ) (o : Option (Any Span)) → ((y : Any Span) → node_at (erase_any y) path ≡ option_map erase_any (node_at y path))
    → option_and_then (λ y. node_at y path) (option_map erase_any o) ≡ option_map erase_any (option_and_then (λ y. node_at y path) o)
through path None each = refl
through path (Some y) each = each y

node_bare : (path : List ℕ) (x : Any Span) → node_at (erase_any x) path ≡ option_map erase_any (node_at x path)
node_bare [] x = refl
node_bare (n ∷ path) x =
    ap (λ l. option_and_then (λ y. node_at y path) (nth l n)) (children_erased x) ∙ ap (option_and_then (λ y. node_at y path)) (nth_map erase_any (child_nodes x) n) ∙ through path (nth (child_nodes x) n) (node_bare path)

root_bare : (f : File Span) → a_block (block_of (erase f)) ≡ erase_any (a_block (block_of f))
root_bare (file s b) = refl

-- ---- one value

module _ (l : Loaded) where
  abbrev p : places.Project Span
  p = project l

  pub record Value (c : CallRef) : Type 0 where
    pub it : Expression Span
    pub is_it : expression_at (project l) c ≡ Some it
    pub placed : Placed (plain_trees l) c (erase_expression it)

  pub assigned_part : (q : places.Placed (Part Span)) (s : Span) (x : Name Span) (a : Assignment) (e : Expression Span) → InProject 0 p q → q.it ≡ part.a_statement (assign s x a e) → Value (child q.place 0)
  assigned_part q s x a e i is =
      let t = i.file.tree in
      let path = q.place.path.steps in
      let same = above_child path 0 in
      let node : node_at (a_block (block_of (erase t))) path ≡ Some (a_statement (assign tt (erase_name x) a (erase_expression e))) =
      ap (λ r. node_at r path) (root_bare t) ∙ node_bare path (a_block (block_of t)) ∙ ap (option_map erase_any) i.is_node ∙ ap (λ y. Some (erase_any (any y))) is in
      let z : 0 + i.number ≡ i.number = omega arith in
      record {
        it = e;
        is_it = assigned_stands p q s x a e i is;
        placed = record {
          is_child = ap (λ l. l ++ 0 ∷ []) (sym same);
          tree = erase t;
          is_tree = ap (nth (plain_trees l)) (i.is_number ∙ z) ∙ tree_there l.files l.parsed i.number i.file i.is_file;
          name = erase_name x;
          sign = a;
          is_node = ap (node_at (a_block (block_of (erase t)))) same ∙ node;
        };
      }

  -- ---- notes of assignments

  abbrev pub IsAssignment : Note Span → Type 0
  IsAssignment (an_assignment x sets e) = Unit {0}
  IsAssignment _ = ⊥

  -- the statement that is noted
  pub record Noted (q : places.Placed (Part Span)) (n : places.Placed (Note Span)) : Type 0 where
    pub is_place : q.place ≡ n.place
    pub span : Span
    pub variable : Name Span
    pub sign : Assignment
    pub value : Expression Span
    pub is_statement : q.it ≡ part.a_statement (assign span variable sign value)

  pub noted_part : (q : places.Placed (Part Span)) (n : places.Placed (Note Span)) → chosen note_of q ≡ Some n → IsAssignment n.it → Noted q n
  noted_part q n gives is =
      let m = map-some (places.placed q.place) (note_of q.it) n gives in
      go q.it refl m.0 m.1 (subst IsAssignment (sym (ap (λ (k : places.Placed (Note Span)). k.it) m.2)) is)
    where
      same_place : q.place ≡ n.place
      same_place = let m = map-some (places.placed q.place) (note_of q.it) n gives in ap (λ (k : places.Placed (Note Span)). k.place) m.2

      go : (x : Part Span) → q.it ≡ x → (k : Note Span) → note_of q.it ≡ Some k → IsAssignment k → Noted q n
      go (part.an_expression e) same k h one =
          let c = map-some a_call (call_of e) k (sym (ap note_of same) ∙ h) in
          absurd (subst IsAssignment (sym c.2) one)
      go (part.a_statement (assign s x a e)) same k h one = record { is_place = same_place; span = s; variable = x; sign = a; value = e; is_statement = same }
      go (part.a_statement (iteration s xs e b)) same k h one =
          let is_loop : Some (a_loop xs) ≡ Some k = sym (ap note_of same) ∙ h in
          let equal : a_loop xs ≡ k = cc in
          absurd (subst IsAssignment (sym equal) one)
      go (part.a_statement (evaluate e)) same k h one = let none : None ≡ Some k = sym (ap note_of same) ∙ h in absurd cc
      go (part.a_statement (selection s bs o)) same k h one = let none : None ≡ Some k = sym (ap note_of same) ∙ h in absurd cc
      go (part.a_statement (breaks s)) same k h one = let none : None ≡ Some k = sym (ap note_of same) ∙ h in absurd cc
      go (part.a_statement (continues s)) same k h one = let none : None ≡ Some k = sym (ap note_of same) ∙ h in absurd cc

  pub note_value : (n : places.Placed (Note Span)) → Among (notes p) n → IsAssignment n.it → Value (child n.place 0)
  note_value n among is =
      let g = given_by (chosen note_of) (parts p) n among in
      let k = noted_part g.of n g.gives is in
      subst (λ c. Value (child c 0)) k.is_place (assigned_part g.of k.span k.variable k.sign k.value (every_among (InProject 0 p) (parts p) g.of (every_part 0 p) g.is_among) k.is_statement)

  -- ---- they are apart

  abbrev pub NotesApart : places.Placed (Note Span) → places.Placed (Note Span) → Type 0
  NotesApart n m = IsAssignment n.it → IsAssignment m.it → Apart (address n.place) (address m.place)

  noted_apart : (q r : places.Placed (Part Span)) (n m : places.Placed (Note Span)) → chosen note_of q ≡ Some n → chosen note_of r ≡ Some m → BothApart q r → NotesApart n m
  noted_apart q r n m one other apart is also =
      let k = noted_part q n one is in
      let j = noted_part r m other also in
      subst (λ c. Apart (address c) (address m.place)) k.is_place
      (subst (λ c. Apart (address q.place) (address c)) j.is_place (apart (subst Assigns (sym k.is_statement) tt) (subst Assigns (sym j.is_statement) tt)))

  pub notes_apart : Pairs NotesApart (notes p)
  notes_apart = pairs_mapped (chosen note_of) BothApart NotesApart noted_apart (parts p) (assignments_apart p)

  pub values_apart : (c d : CallRef) → Apart (address c) (address d) → PlacesApart (child c 0) (child d 0)
  values_apart c d (inl other) = inl other
  values_apart c d (inr h) = inr (subst (λ a. Apart a (above (child d 0).path.steps)) (sym (above_child c.path.steps 0)) (subst (Apart c.path.steps) (sym (above_child d.path.steps 0)) h.1))

  -- what is added to a variable is the value of a note that does not set it
  record IsAdded (n : places.Placed (Note Span)) (c : CallRef) : Type 0 where
    variable : List ℕ
    value : Expression Span
    is_note : n.it ≡ an_assignment variable false value
    is_place : child n.place 0 ≡ c

  added_note : (x : List ℕ) (n : places.Placed (Note Span)) (c : CallRef) → added_value x n ≡ Some c → IsAdded n c
  added_note x n c is = go n.it refl
    where
      go : (k : Note Span) → n.it ≡ k → IsAdded n c
      go (a_call f) same = let none : None ≡ Some c = sym (ap (λ j. added_value x (places.placed n.place j)) same) ∙ is in absurd cc
      go (a_loop xs) same = let none : None ≡ Some c = sym (ap (λ j. added_value x (places.placed n.place j)) same) ∙ is in absurd cc
      go (an_assignment y sets e) same = test sets (bytes_eq y x) refl (sym (ap (λ j. added_value x (places.placed n.place j)) same) ∙ is)
        where
          test : (a b : Bool) → sets ≡ a → (if not a && b then Some (child n.place 0) else None) ≡ Some c → IsAdded n c
          test true b is_set h = absurd (let no : ⊥ = cc in no)
          test false true is_set h = let equal : child n.place 0 ≡ c = cc in record { variable = y; value = e; is_note = same ∙ ap (λ a. an_assignment y a e) is_set; is_place = equal }
          test false false is_set h = absurd (let no : ⊥ = cc in no)

  assigns_it : (n : places.Placed (Note Span)) (c : CallRef) → IsAdded n c → IsAssignment n.it
  assigns_it n c a = subst IsAssignment (sym a.is_note) tt

  added_apart : (x : List ℕ) → Pairs PlacesApart (added_values x (notes p))
  added_apart x =
      pairs_mapped (added_value x) NotesApart PlacesApart
      (λ n m c d one other apart.
      let a = added_note x n c one in
      let b = added_note x m d other in
      subst (λ k. PlacesApart k d) a.is_place (subst (PlacesApart (child n.place 0)) b.is_place (values_apart n.place m.place (apart (assigns_it n c a) (assigns_it m d b)))))
      (notes p) notes_apart

  pub apart_two : {X : Type 0} (R : X → X → Type 0) (xs : List X) (x y : X) → Pairs R xs → Among xs x → Among xs y → (x ≡ y) ⊎ (R x y ⊎ R y x)
  apart_two R [] x y pairs one other = absurd one
  apart_two R (z ∷ zs) x y pairs (inl same) (inl equal) = inl (sym same ∙ equal)
  apart_two R (z ∷ zs) x y pairs (inl same) (inr later) = inr (inl (subst (λ w. R w y) same (every_among (R z) zs y pairs.0 later)))
  apart_two R (z ∷ zs) x y pairs (inr later) (inl equal) = inr (inr (subst (λ w. R w x) equal (every_among (R z) zs x pairs.0 later)))
  apart_two R (z ∷ zs) x y pairs (inr one) (inr other) = apart_two R zs x y pairs.1 one other

  -- the value that is set, and one that is added
  set_apart : (n : places.Placed (Note Span)) (y : List ℕ) (e : Expression Span) → Among (notes p) n → n.it ≡ an_assignment y true e → (x : List ℕ) (d : CallRef) → Among (added_values x (notes p)) d → PlacesApart (child n.place 0) d
  set_apart n y e among is x d added =
      let g = given_by (added_value x) (notes p) d added in
      let b = added_note x g.of d g.gives in
      subst (PlacesApart (child n.place 0)) b.is_place (go g.of b (apart_two NotesApart (notes p) n g.of notes_apart among g.is_among))
    where
      sets : Note Span → Bool
      sets (an_assignment z s v) = s
      sets _ = false

      here : IsAssignment n.it
      here = subst IsAssignment (sym is) tt

      go : (m : places.Placed (Note Span)) → IsAdded m d → (n ≡ m) ⊎ (NotesApart n m ⊎ NotesApart m n) → PlacesApart (child n.place 0) (child m.place 0)
      go m b (inl same) = let both : true ≡ false = sym (ap sets is) ∙ ap (λ (k : places.Placed (Note Span)). sets k.it) same ∙ ap sets b.is_note in absurd cc
      go m b (inr (inl apart)) = values_apart n.place m.place (apart here (assigns_it m d b))
      go m b (inr (inr apart)) = values_apart n.place m.place (apart_turned (address m.place) (address n.place) (apart (assigns_it m d b) here))

  -- ---- those of one variable

  added_value_there : (x : List ℕ) (d : CallRef) → Among (added_values x (notes p)) d → Value d
  added_value_there x d added =
      let g = given_by (added_value x) (notes p) d added in
      let b = added_note x g.of d g.gives in
      subst Value b.is_place (note_value g.of g.is_among (assigns_it g.of d b))

  pub every_if : {X : Type 0} (P : X → Type 0) (xs : List X) → ((x : X) → Among xs x → P x) → Every P xs
  every_if P [] all = tt
  every_if P (x ∷ xs) all = (all x (inl refl), every_if P xs (λ y m. all y (inr m)))

  beside_apart : (folder : Option (List ℕ)) (c : CallRef) (all ds : List CallRef) → added_beside folder c all ≡ Ok ds → Pairs PlacesApart all → Pairs PlacesApart ds
  beside_apart None c all ds is pairs = go (list_all (is_searched (Some c.file)) all) is
    where
      refused : Result (List CallRef) Refusal
      refused = Err Ambiguous

      go : (b : Bool) → (if b then Ok all else refused) ≡ Ok ds → Pairs PlacesApart ds
      go true h = let same : all ≡ ds = cc in subst (Pairs PlacesApart) same pairs
      go false h = absurd (let no : ⊥ = cc in no)
  beside_apart (Some folder) c all ds is pairs =
      let same : searched (Some c.file) all ≡ ds = cc in
      subst (Pairs PlacesApart) same (pairs_kept (is_searched (Some c.file)) PlacesApart all pairs)

  -- ---- the variable that is named

  record IsSet (c : CallRef) : Type 0 where
    note : places.Placed (Note Span)
    among : Among (notes p) note
    variable : List ℕ
    value : Expression Span
    is_note : note.it ≡ an_assignment variable true value
    is_place : child note.place 0 ≡ c

  set_note : (x : List ℕ) (n : places.Placed (Note Span)) (c : CallRef) → Among (notes p) n → named_place (name.Variable x) n ≡ Some c → IsSet c
  set_note x n c among is = go n.it refl
    where
      go : (k : Note Span) → n.it ≡ k → IsSet c
      go (a_call f) same = let none : None ≡ Some c = sym (ap (λ j. named_place (name.Variable x) (places.placed n.place j)) same) ∙ is in absurd cc
      go (a_loop xs) same = let none : None ≡ Some c = sym (ap (λ j. named_place (name.Variable x) (places.placed n.place j)) same) ∙ is in absurd cc
      go (an_assignment y sets e) same = test sets (bytes_eq y x) refl (sym (ap (λ j. named_place (name.Variable x) (places.placed n.place j)) same) ∙ is)
        where
          test : (a b : Bool) → sets ≡ a → (if a && b then Some (child n.place 0) else None) ≡ Some c → IsSet c
          test false b is_set h = absurd (let no : ⊥ = cc in no)
          test true true is_set h = let equal : child n.place 0 ≡ c = cc in record { note = n; among = among; variable = y; value = e; is_note = same ∙ ap (λ a. an_assignment y a e) is_set; is_place = equal }
          test true false is_set h = absurd (let no : ⊥ = cc in no)

  set_place : (s : Search) (x : List ℕ) → s.name ≡ name.Variable x → (c : CallRef) → the_place l s ≡ Ok c → IsSet c
  set_place s x named c is =
      let w = ok_then (searched_file l.files s.folder) (λ within. found_within l within s.name) c is in
      let f = ok_then (project_there (name.Variable x) (notes p)) (λ _. only_one (searched w.0 (places_by_id (name.Variable x) (notes p)))) c (sym (ap (found_within l w.0) named) ∙ w.2) in
      let all = places_by_id (name.Variable x) (notes p) in
      let k = kept_by (is_searched w.0) all c (subst (λ cs. Among cs c) (sym (one_of (searched w.0 all) c f.2)) (inl refl)) in
      let g = given_by (named_place (name.Variable x)) (notes p) c k.1 in
      set_note x g.of c g.is_among g.gives

  whole_named : (n : ValueName) (s : Slot) → IsNamed l n s → (v : List ℕ × CallRef) → whole_variable n.place.name n.keys s ≡ Some v → IsSet v.1
  whole_named n s named v is =
      let w = whole_is n.place.name n.keys s v is in
      subst IsSet (whole_at n.place.name n.keys s v is named.place named.is_slot) (set_place n.place v.0 w.0 named.place named.is_place)
    where
      at_place : (c : CallRef) (t : Slot) (o : Option (Expression Span)) → slot_from c [] o ≡ Ok t → t ≡ slot.Whole c
      at_place c t None h = absurd (let no : ⊥ = cc in no)
      at_place c t (Some e) h = let same : slot.Whole c ≡ t = cc in sym same

      whole_at : (m : PlaceName) (keys : List (List ℕ)) (t : Slot) (u : List ℕ × CallRef) → whole_variable m keys t ≡ Some u → (c : CallRef) → the_slot p c keys ≡ Ok t → c ≡ u.1
      whole_at m [] t u whole c found =
          let one = at_place c t (expression_at p c) found in
          let two = (whole_is m [] t u whole).1 in
          let same : slot.Whole c ≡ slot.Whole u.1 = sym one ∙ two in
          cc
      whole_at (name.Variable x) (k ∷ keys) t u whole c found = absurd (let no : ⊥ = cc in no)
      whole_at (name.Project x) (k ∷ keys) t u whole c found = absurd (let no : ⊥ = cc in no)
      whole_at (name.Call f x) (k ∷ keys) t u whole c found = absurd (let no : ⊥ = cc in no)
      whole_at (name.Line f x) (k ∷ keys) t u whole c found = absurd (let no : ⊥ = cc in no)

  -- ---- all of them

  pub record AllThere (cs : List CallRef) : Type 0 where
    pub values : Every Value cs
    pub apart : Pairs PlacesApart cs

  with_added : (x : List ℕ) (folder : Option (List ℕ)) (c : CallRef) → IsSet c → (ds : List CallRef) → added_beside folder c (added_values x (notes p)) ≡ Ok ds → AllThere (c ∷ ds)
  with_added x folder c set ds is =
      let all = added_values x (notes p) in
      let is_note = set.is_note in
      let own : Value c = subst Value set.is_place (note_value set.note set.among (subst IsAssignment (sym is_note) tt)) in
      record {
        values = (own, every_if Value ds (λ d m. added_value_there x d (beside folder c all ds d is m).1));
        apart = (
          every_if (PlacesApart c) ds (λ d m. subst (λ k. PlacesApart k d) set.is_place (set_apart set.note set.variable set.value set.among is_note x d (beside folder c all ds d is m).1)),
          beside_apart folder c all ds is (added_apart x),
        );
      }

  several_are : (gs : List Given) (all cs : List CallRef) → several_saying l.files p gs all ≡ Some cs → all ≡ cs
  several_are gs [] cs is = absurd (let no : ⊥ = cc in no)
  several_are gs (c ∷ []) cs is = absurd (let no : ⊥ = cc in no)
  several_are gs (c ∷ d ∷ more) cs is = go (list_any (said_among l.files p (c ∷ d ∷ more)) gs) is
    where
      go : (b : Bool) → (if b then Some (c ∷ d ∷ more) else None) ≡ Some cs → c ∷ d ∷ more ≡ cs
      go true h = cc
      go false h = absurd (let no : ⊥ = cc in no)

  pub all_there : (n : ValueName) (s : Slot) → IsNamed l n s → (gs : List Given) (cs : List CallRef) → all_assigned l.files p n gs s ≡ Ok (Some cs) → AllThere cs
  all_there n s named gs cs is = go (whole_variable n.place.name n.keys s) refl is
    where
      go : (o : Option (List ℕ × CallRef)) → whole_variable n.place.name n.keys s ≡ o → assigned_saying l.files p n.place.folder gs o ≡ Ok (Some cs) → AllThere cs
      go None whole h = absurd (let no : ⊥ = cc in no)
      go (Some v) whole h =
          let d = ok_then (added_beside n.place.folder v.1 (added_values v.0 (notes p))) (λ ds. Ok (several_saying l.files p gs (v.1 ∷ ds))) (Some cs) h in
          let found : Ok (several_saying l.files p gs (v.1 ∷ d.0)) ≡ Ok (Some cs) = d.2 in
          let chosen_are : several_saying l.files p gs (v.1 ∷ d.0) ≡ Some cs = cc in
          subst AllThere (several_are gs (v.1 ∷ d.0) cs chosen_are) (with_added v.0 n.place.folder v.1 (whole_named n s named v whole) d.0 d.1)
