-- Places of notes that pass a test, one note after another; and those of a role.
use Rattle.meson_calls.proofs.Words.{cons_option, false, ap₂, ◌==◌, ◌&&◌, bytes_eq, if◌then◌else◌, option_map, filter, ◌≡◌, ℕ, ◌+◌, ◌<◌, List, [], ◌∷◌, ◌++◌, length, drop}
use Rattle.meson_calls.proofs.Words.{get_or, map, refl, sym, ap, ◌∙◌, Bool, true, Option, Some, None, append_assoc, at_drop_more, Span, Name, Expression}
use Rattle.meson_calls.proofs.Words.{Statement, evaluate, assign, selection, iteration, breaks, continues, Call, call_of, part_call, all_chosen, first_literal}
use Rattle.meson_calls.proofs.Words.{is, note_has_name, note_sets_call, is_role_call, assigned_places, named_places, found_places, places_that}
use Rattle.meson_calls.proofs.Words.{places_with_role, with_name, part_set_to, value_of_assignment, assigned_values, named_or_set, or_else, found_among, values_among, places_within, within, role_calls_among}
use Rattle.meson_calls.proofs.Words.{project_ids, Note, a_call, an_assignment, a_loop, note_of, noted, notes, note_view, note_views, Part, parts, Project}
use Rattle.meson_calls.proofs.Words.{Placed, placed, child, has_role, with_role, role_calls, places, one_of, CallRef, Role}
use Rattle.meson_syntax.specs.declared.operator.Assignment.TheVariants as assignment
use Rattle.meson_calls.specs.declared.call.Role.TheVariants as role
use Rattle.meson_calls.specs.declared.note.Note as code
use Rattle.meson_calls.specs.Parts.{an_expression, a_statement}
use Rattle.meson_calls.proofs.Searched.{within_chosen, within_moved}

module _ (test : Note Span → Bool) where
  pick : Bool → CallRef → List CallRef → List CallRef
  pick b p rest = if b then p ∷ rest else rest

  one : (n : code.Note) (ns : List code.Note) → places_that test (note_views (n ∷ ns)) ≡ pick (test (note_view n).it) (note_view n).place (places_that test (note_views ns))
  unfolding pick
  one n ns = go (test (note_view n).it)
    where
      go : (b : Bool) → map (λ m. m.place) (if b then note_view n ∷ filter (λ m. test m.it) (note_views ns) else filter (λ m. test m.it) (note_views ns)) ≡ (if b then (note_view n).place ∷ places_that test (note_views ns) else places_that test (note_views ns))
      go true = refl
      go false = refl

  here : (ns : List code.Note) (i : ℕ) (d : code.Note) → i < length ns →
      places_that test (note_views (drop i ns)) ≡ pick (test (note_view (get_or ns i d)).it) (note_view (get_or ns i d)).place (places_that test (note_views (drop (i + 1) ns)))
  here ns i d within = at_drop_more (λ ms. places_that test (note_views ms)) ns i d within ∙ one (get_or ns i d) (drop (i + 1) ns)

  pub skipped : (ns : List code.Note) (i : ℕ) (d : code.Note) (found whole : List CallRef) → i < length ns → test (note_view (get_or ns i d)).it ≡ false →
      found ++ places_that test (note_views (drop i ns)) ≡ whole → found ++ places_that test (note_views (drop (i + 1) ns)) ≡ whole
  unfolding pick
  skipped ns i d found whole within is so_far =
      let more = places_that test (note_views (drop (i + 1) ns)) in
      sym (ap (λ t. found ++ t) (here ns i d within ∙ ap (λ b. pick b (note_view (get_or ns i d)).place more) is)) ∙ so_far

  pub picked : (ns : List code.Note) (i : ℕ) (d : code.Note) (found after whole : List CallRef) → i < length ns → test (note_view (get_or ns i d)).it ≡ true →
      after ≡ found ++ (note_view (get_or ns i d)).place ∷ [] → found ++ places_that test (note_views (drop i ns)) ≡ whole → after ++ places_that test (note_views (drop (i + 1) ns)) ≡ whole
  unfolding pick
  picked ns i d found after whole within is joins so_far =
      let more = places_that test (note_views (drop (i + 1) ns)) in
      ap (λ a. a ++ more) joins
      ∙ append_assoc found ((note_view (get_or ns i d)).place ∷ []) more
      ∙ sym (ap (λ t. found ++ t) (here ns i d within ∙ ap (λ b. pick b (note_view (get_or ns i d)).place more) is))
      ∙ so_far

-- ---- the calls that pass a test among the notes are those of the project

abbrev pub keep : (Call Span → Bool) → Call Span → Option (Call Span)
keep t c = if t c then Some c else None

abbrev pub note_test : (Call Span → Bool) → Note Span → Bool
note_test t (a_call c) = t c
note_test t (an_assignment x sets e) = false
note_test t (a_loop xs) = false

module _ (t : Call Span → Bool) where
  call_step : (o : Option (Call Span)) (p : CallRef) (ns : List (Placed (Note Span))) (cs : List (Placed (Call Span))) → places_that (note_test t) ns ≡ places (all_chosen (keep t) cs) →
      places_that (note_test t) (cons_option (option_map (placed p) (option_map a_call o)) ns) ≡ places (all_chosen (keep t) (cons_option (option_map (placed p) o) cs))
  call_step None p ns cs rest = rest
  call_step (Some c) p ns cs rest = go (t c)
    where
      go : (b : Bool) → map (λ m. m.place) (if b then placed p (a_call c) ∷ filter (λ m. note_test t m.it) ns else filter (λ m. note_test t m.it) ns)
          ≡ places (cons_option (option_map (placed p) (if b then Some c else None)) (all_chosen (keep t) cs))
      go true = ap (λ ps. p ∷ ps) rest
      go false = rest

  statement_step : (s : Statement Span) (p : CallRef) (ns : List (Placed (Note Span))) → places_that (note_test t) (cons_option (option_map (placed p) (note_of (a_statement s))) ns) ≡ places_that (note_test t) ns
  statement_step (evaluate e) p ns = refl
  statement_step _ p ns = refl

  part_step : (q : Part Span) (p : CallRef) (ns : List (Placed (Note Span))) (cs : List (Placed (Call Span))) → places_that (note_test t) ns ≡ places (all_chosen (keep t) cs) →
      places_that (note_test t) (cons_option (option_map (placed p) (note_of q)) ns) ≡ places (all_chosen (keep t) (cons_option (option_map (placed p) (part_call q)) cs))
  part_step (an_expression e) p ns cs rest = call_step (call_of e) p ns cs rest
  part_step (a_statement s) p ns cs rest = statement_step s p ns ∙ rest

  pub tested_notes : (ps : List (Placed (Part Span))) → places_that (note_test t) (noted ps) ≡ places (all_chosen (keep t) (all_chosen part_call ps))
  tested_notes [] = refl
  tested_notes (q ∷ ps) = part_step q.it q.place (noted ps) (all_chosen part_call ps) (tested_notes ps)

pub role_places : (r : Role) (p : Project Span) → places_with_role r (notes p) ≡ places (role_calls p r)
role_places r p = tested_notes (has_role r) (parts p)

-- ---- by name

keep_twice : (t u : Call Span → Bool) (cs : List (Placed (Call Span))) → all_chosen (keep u) (all_chosen (keep t) cs) ≡ all_chosen (keep (λ c. t c && u c)) cs
keep_twice t u [] = refl
keep_twice t u (c ∷ cs) = go (t c.it) (keep_twice t u cs)
  where
    go : (b : Bool) → all_chosen (keep u) (all_chosen (keep t) cs) ≡ all_chosen (keep (λ d. t d && u d)) cs →
        all_chosen (keep u) (cons_option (option_map (placed c.place) (if b then Some c.it else None)) (all_chosen (keep t) cs))
        ≡ cons_option (option_map (placed c.place) (if b && u c.it then Some c.it else None)) (all_chosen (keep (λ d. t d && u d)) cs)
    go true rest = ap (cons_option (option_map (placed c.place) (keep u c.it))) rest
    go false rest = rest

pub name_places : (r : Role) (id : List ℕ) (p : Project Span) → places_that (note_has_name r id) (notes p) ≡ places (all_chosen (with_name id) (role_calls p r))
name_places r id p =
    tested_notes (λ c. has_role r c && is id (first_literal c)) (parts p)
    ∙ sym (ap places (keep_twice (has_role r) (λ c. is id (first_literal c)) (all_chosen part_call (parts p))))

-- ---- by variable

module _ (r : Role) (id : List ℕ) where
  chosen_values : List (Placed (Part Span)) → List CallRef
  chosen_values ps = places (all_chosen (with_role r) (all_chosen call_of (map value_of_assignment (all_chosen (part_set_to id) ps))))

  value_step : (o : Option (Call Span)) (p : CallRef) (before : List CallRef) (cs : List (Placed (Call Span))) → before ≡ places (all_chosen (with_role r) cs) →
      (if is_role_call r o then p ∷ before else before) ≡ places (all_chosen (with_role r) (cons_option (option_map (placed p) o) cs))
  value_step None p before cs rest = rest
  value_step (Some c) p before cs rest = go (has_role r c)
    where
      go : (b : Bool) → (if b then p ∷ before else before) ≡ places (cons_option (option_map (placed p) (if b then Some c else None)) (all_chosen (with_role r) cs))
      go true = ap (λ ps. p ∷ ps) rest
      go false = rest

  picked_value : (b : Bool) (n : Placed (Note Span)) (ns : List (Placed (Note Span))) →
      map (λ m. child m.place 0) (if b then n ∷ filter (λ m. note_sets_call r id m.it) ns else filter (λ m. note_sets_call r id m.it) ns)
      ≡ (if b then child n.place 0 ∷ assigned_places r id ns else assigned_places r id ns)
  picked_value true n ns = refl
  picked_value false n ns = refl

  set_step : (s : Span) (y : Name Span) (e : Expression Span) (p : CallRef) (ns : List (Placed (Note Span))) (ps : List (Placed (Part Span))) → assigned_places r id ns ≡ chosen_values ps →
      (if bytes_eq y.text id && is_role_call r (call_of e) then child p 0 ∷ assigned_places r id ns else assigned_places r id ns) ≡ chosen_values (placed p (a_statement (assign s y assignment.Set e)) ∷ ps)
  unfolding chosen_values
  set_step s y e p ns ps rest = go (bytes_eq y.text id)
    where
      go : (b : Bool) → (if b && is_role_call r (call_of e) then child p 0 ∷ assigned_places r id ns else assigned_places r id ns)
          ≡ places (all_chosen (with_role r) (all_chosen call_of (map value_of_assignment (cons_option (option_map (placed p) (if b then Some e else None)) (all_chosen (part_set_to id) ps)))))
      go true = value_step (call_of e) (child p 0) (assigned_places r id ns) (all_chosen call_of (map value_of_assignment (all_chosen (part_set_to id) ps))) rest
      go false = rest

  expression_step : (o : Option (Call Span)) (p : CallRef) (ns : List (Placed (Note Span))) → assigned_places r id (cons_option (option_map (placed p) (option_map a_call o)) ns) ≡ assigned_places r id ns
  expression_step None p ns = refl
  expression_step (Some c) p ns = refl

  assigned_step : (q : Part Span) (p : CallRef) (ns : List (Placed (Note Span))) (ps : List (Placed (Part Span))) → assigned_places r id ns ≡ chosen_values ps →
      assigned_places r id (cons_option (option_map (placed p) (note_of q)) ns) ≡ chosen_values (placed p q ∷ ps)
  unfolding chosen_values
  assigned_step (an_expression e) p ns ps rest = expression_step (call_of e) p ns ∙ rest
  assigned_step (a_statement (evaluate e)) p ns ps rest = rest
  assigned_step (a_statement (assign s y assignment.Set e)) p ns ps rest =
      picked_value (bytes_eq y.text id && is_role_call r (call_of e)) (placed p (an_assignment y.text true e)) ns ∙ set_step s y e p ns ps rest
  assigned_step (a_statement (assign s y assignment.Add e)) p ns ps rest = rest
  assigned_step (a_statement (selection s bs o)) p ns ps rest = rest
  assigned_step (a_statement (iteration s xs e b)) p ns ps rest = rest
  assigned_step (a_statement (breaks s)) p ns ps rest = rest
  assigned_step (a_statement (continues s)) p ns ps rest = rest

  assigned_notes : (ps : List (Placed (Part Span))) → assigned_places r id (noted ps) ≡ chosen_values ps
  unfolding chosen_values
  assigned_notes [] = refl
  assigned_notes (q ∷ ps) = assigned_step q.it q.place (noted ps) ps (assigned_notes ps)

  pub value_places : (p : Project Span) → assigned_places r id (notes p) ≡ places (all_chosen (with_role r) (all_chosen call_of (assigned_values p id)))
  unfolding chosen_values
  value_places p = assigned_notes (parts p)

-- ---- both

either_places : {X : Type 0} (xs ys : List (Placed X)) → or_else (places xs) (places ys) ≡ places (or_else xs ys)
either_places [] ys = refl
either_places (x ∷ xs) ys = refl

-- the places of those in a file
in_file : {X : Type 0} (n : ℕ) (xs : List (Placed X)) → filter (λ (c : CallRef). c.file == n) (places xs) ≡ places (filter (λ x. x.place.file == n) xs)
in_file n [] = refl
in_file {X} n (x ∷ xs) = go (x.place.file == n) (in_file n xs)
  where
    go : (b : Bool) → filter (λ (c : CallRef). c.file == n) (places xs) ≡ places (filter (λ y. y.place.file == n) xs)
        → (if b then x.place ∷ filter (λ (c : CallRef). c.file == n) (places xs) else filter (λ (c : CallRef). c.file == n) (places xs))
        ≡ places (if b then x ∷ filter (λ y. y.place.file == n) xs else filter (λ y. y.place.file == n) xs)
    go true rest = ap (λ ps. x.place ∷ ps) rest
    go false rest = rest

pub searched_places : {X : Type 0} (w : Option ℕ) (xs : List (Placed X)) → places_within w (places xs) ≡ places (within w xs)
searched_places None xs = refl
searched_places (Some n) xs = in_file n xs

calls_searched : (w : Option ℕ) (r : Role) (qs : List (Placed (Part Span))) → within w (role_calls_among qs r) ≡ role_calls_among (within w qs) r
calls_searched w r qs = within_chosen w (with_role r) (all_chosen part_call qs) ∙ ap (all_chosen (with_role r)) (within_chosen w part_call qs)

-- what is searched of the calls of a name, and of those that a variable is set to
named_searched : (w : Option ℕ) (r : Role) (id : List ℕ) (qs : List (Placed (Part Span))) → within w (all_chosen (with_name id) (role_calls_among qs r)) ≡ all_chosen (with_name id) (role_calls_among (within w qs) r)
named_searched w r id qs =
    within_chosen w (with_name id) (role_calls_among qs r) ∙ ap (all_chosen (with_name id)) (calls_searched w r qs)

set_searched : (w : Option ℕ) (r : Role) (id : List ℕ) (qs : List (Placed (Part Span)))
    → within w (all_chosen (with_role r) (all_chosen call_of (values_among qs id))) ≡ all_chosen (with_role r) (all_chosen call_of (values_among (within w qs) id))
set_searched w r id qs =
    within_chosen w (with_role r) (all_chosen call_of (values_among qs id))
    ∙ ap (all_chosen (with_role r)) (within_chosen w call_of (values_among qs id)
    ∙ ap (all_chosen call_of) (within_moved w (all_chosen (part_set_to id) qs) ∙ ap (map value_of_assignment) (within_chosen w (part_set_to id) qs)))

named : (w : Option ℕ) (r : Role) (id : List ℕ) (p : Project Span) → named_places w r id (notes p) ≡ places (named_or_set (within w (parts p)) r id)
named w r id p =
    let cs = all_chosen (with_name id) (role_calls_among (within w (parts p)) r) in
    let ds = all_chosen (with_role r) (all_chosen call_of (values_among (within w (parts p)) id)) in
    ap₂ or_else
    (ap (places_within w) (name_places r id p) ∙ searched_places w (all_chosen (with_name id) (role_calls p r)) ∙ ap places (named_searched w r id (parts p)))
    (ap (places_within w) (value_places r id p) ∙ searched_places w (all_chosen (with_role r) (all_chosen call_of (assigned_values p id))) ∙ ap places (set_searched w r id (parts p)))
    ∙ either_places cs ds

project_places : (w : Option ℕ) (b : Bool) (p : Project Span)
    → (if b then places_within w (places_with_role role.Project (notes p)) else []) ≡ places (if b then role_calls_among (within w (parts p)) role.Project else [])
project_places w true p =
    ap (places_within w) (role_places role.Project p) ∙ searched_places w (role_calls p role.Project) ∙ ap places (calls_searched w role.Project (parts p))
project_places w false p = refl

pub found_notes : (w : Option ℕ) (r : Role) (id : List ℕ) (p : Project Span) → found_places w r id (notes p) ≡ places (found_among (within w (parts p)) r id)
found_notes w role.Target id p = named w role.Target id p
found_notes w role.Dependency id p = named w role.Dependency id p
found_notes w role.Project id p = project_places w (one_of project_ids id) p
