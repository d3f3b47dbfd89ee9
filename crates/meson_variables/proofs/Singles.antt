-- The one expression that a variable stands for, by the notes of a project.
use Rattle.meson_variables.proofs.Words.{◌≡◌, ℕ, ◌≤◌, List, [], ◌∷◌, refl, sym, ap, ◌∙◌, subst, arith, Bool, true, false, not, ◌&&◌, ◌||◌, if◌then◌else◌}
use Rattle.meson_variables.proofs.Words.{bytes_eq, Option, Some, None, option_map, list_any, cons_option, Span, expression_words, Expression, evaluate, assign}
use Rattle.meson_variables.proofs.Words.{selection, iteration, breaks, continues, Call, call_of, part_call, all_chosen, Note, a_call, an_assignment, a_loop}
use Rattle.meson_variables.proofs.Words.{note_of, noted, notes, Part, an_expression, a_statement, parts, Project, child, Placed, placed, AreGood, NotesGood}
use Rattle.meson_variables.proofs.Words.{CallRef, assigned_notes, is_set_by, Assigned, part_assigned, assignments, is_outermost, only_value, is_iterated}
use Rattle.meson_variables.proofs.Words.{sets_variable, all_known, single, one_of_names, by_notes, rank, note_rank, notes_rank}

module _ (x : List ℕ) where
  -- ---- assignments

  call_assigned : (o : Option (Call Span)) (p : CallRef) (ns : List (Placed (Note Span))) → assigned_notes x (cons_option (option_map (placed p) (option_map a_call o)) ns) ≡ assigned_notes x ns
  call_assigned None p ns = refl
  call_assigned (Some c) p ns = refl

  part_step : (q : Part Span) (p : CallRef) (ns : List (Placed (Note Span))) →
      cons_option (option_map (placed p) (part_assigned x q)) (assigned_notes x ns) ≡ assigned_notes x (cons_option (option_map (placed p) (note_of q)) ns)
  part_step (an_expression e) p ns = sym (call_assigned (call_of e) p ns)
  part_step (a_statement (evaluate e)) p ns = refl
  part_step (a_statement (assign s y a e)) p ns = refl
  part_step (a_statement (selection s bs o)) p ns = refl
  part_step (a_statement (iteration s ys e b)) p ns = refl
  part_step (a_statement (breaks s)) p ns = refl
  part_step (a_statement (continues s)) p ns = refl

  assigned_parts : (ps : List (Placed (Part Span))) → all_chosen (part_assigned x) ps ≡ assigned_notes x (noted ps)
  assigned_parts [] = refl
  assigned_parts (q ∷ ps) = ap (λ rest. cons_option (option_map (placed q.place) (part_assigned x q.it)) rest) (assigned_parts ps) ∙ part_step q.it q.place (noted ps)

  -- ---- loops and calls

  regroup : (a b c : Bool) → (a || b) || c ≡ a || (b || c)
  regroup true b c = refl
  regroup false b c = refl

  swapped : (a b c : Bool) → a || (b || c) ≡ b || (a || c)
  swapped true true c = refl
  swapped true false c = refl
  swapped false true c = refl
  swapped false false c = refl

  abbrev both_ways : List (Placed (Part Span)) → List (Placed (Call Span)) → Bool
  both_ways ps cs = list_any (λ q. is_iterated x q.it) ps || list_any (λ c. sets_variable x c.it) cs

  call_sets : (o : Option (Call Span)) (p : CallRef) (ps : List (Placed (Part Span))) (cs : List (Placed (Call Span))) (ns : List (Placed (Note Span))) → both_ways ps cs ≡ is_set_by x ns →
      both_ways ps (cons_option (option_map (placed p) o) cs) ≡ is_set_by x (cons_option (option_map (placed p) (option_map a_call o)) ns)
  call_sets None p ps cs ns rest = rest
  call_sets (Some c) p ps cs ns rest = swapped (list_any (λ q. is_iterated x q.it) ps) (sets_variable x c) (list_any (λ d. sets_variable x d.it) cs) ∙ ap (λ b. sets_variable x c || b) rest

  part_sets : (q : Part Span) (p : CallRef) (ps : List (Placed (Part Span))) (cs : List (Placed (Call Span))) (ns : List (Placed (Note Span))) → both_ways ps cs ≡ is_set_by x ns →
      both_ways (placed p q ∷ ps) (cons_option (option_map (placed p) (part_call q)) cs) ≡ is_set_by x (cons_option (option_map (placed p) (note_of q)) ns)
  part_sets (an_expression e) p ps cs ns rest = call_sets (call_of e) p ps cs ns rest
  part_sets (a_statement (evaluate e)) p ps cs ns rest = rest
  part_sets (a_statement (assign s y a e)) p ps cs ns rest = rest
  part_sets (a_statement (selection s bs o)) p ps cs ns rest = rest
  part_sets (a_statement (iteration s ys e b)) p ps cs ns rest =
      regroup (one_of_names ys x) (list_any (λ q. is_iterated x q.it) ps) (list_any (λ d. sets_variable x d.it) cs) ∙ ap (λ t. one_of_names ys x || t) rest
  part_sets (a_statement (breaks s)) p ps cs ns rest = rest
  part_sets (a_statement (continues s)) p ps cs ns rest = rest

  set_parts : (ps : List (Placed (Part Span))) → both_ways ps (all_chosen part_call ps) ≡ is_set_by x (noted ps)
  set_parts [] = refl
  set_parts (q ∷ ps) = part_sets q.it q.place ps (all_chosen part_call ps) (noted ps) (set_parts ps)

  -- ---- the one expression

  pub single_notes : (p : Project Span) → single p x ≡ by_notes x (all_known p) (notes p)
  single_notes p =
      ap (λ b. if all_known p && not b then only_value (assignments p x) else None) (set_parts (parts p))
      ∙ ap (λ vs. if all_known p && not (is_set_by x (notes p)) then only_value vs else None) (assigned_parts (parts p))

  -- ---- it is one of the values of the notes

  AreFine : ℕ → List (Placed (Assigned Span)) → Type 0
  AreFine d [] = Unit {0}
  AreFine d (a ∷ vs) = AreGood (expression_words a.it.value) × (rank a.it.value ≤ d) × AreFine d vs

  one_fine : (y : List ℕ) (sets : Bool) (e : Expression Span) (p : CallRef) (d : ℕ) (vs : List (Placed (Assigned Span))) → AreGood (expression_words e) → rank e ≤ d → AreFine d vs →
      (b : Bool) → AreFine d (cons_option (option_map (placed p) (if b then Some (record { value = e; sets = sets }) else None)) vs)
  unfolding AreFine
  one_fine y sets e p d vs good within rest true = (good, within, rest)
  one_fine y sets e p d vs good within rest false = rest

  note_fine : (n : Note Span) (p : CallRef) (d : ℕ) (ns : List (Placed (Note Span))) → NotesGood (placed p n ∷ ns) → note_rank n ≤ d → AreFine d (assigned_notes x ns) → AreFine d (assigned_notes x (placed p n ∷ ns))
  note_fine (a_call c) p d ns good within rest = rest
  note_fine (an_assignment y sets e) p d ns good within rest = one_fine y sets e p d (assigned_notes x ns) good.0 within rest (bytes_eq y x)
  note_fine (a_loop ys) p d ns good within rest = rest

  all_fine : (ns : List (Placed (Note Span))) (d : ℕ) → NotesGood ns → notes_rank ns ≤ d → AreFine d (assigned_notes x ns)
  unfolding AreFine
  all_fine [] d good within = tt
  all_fine (n ∷ ns) d good within =
      let here : note_rank n.it ≤ d = omega arith in
      let more : notes_rank ns ≤ d = omega arith in
      note_fine n.it n.place d ns good here (all_fine ns d good.1 more)

  only_fine : (vs : List (Placed (Assigned Span))) (d : ℕ) (v : Placed (Expression Span)) → AreFine d vs → only_value vs ≡ Some v → AreGood (expression_words v.it) × (rank v.it ≤ d)
  unfolding AreFine
  only_fine [] d v fine is = cc
  only_fine (a ∷ []) d v fine is = go (a.it.sets && is_outermost a.place.path.steps) is
    where
      go : (b : Bool) → (if b then Some (placed (child a.place 0) a.it.value) else None) ≡ Some v → AreGood (expression_words v.it) × (rank v.it ≤ d)
      go true so = let same : a.it.value ≡ v.it = cc in subst (λ e. AreGood (expression_words e) × (rank e ≤ d)) same (fine.0, fine.1)
      go false so = cc
  only_fine (a ∷ b ∷ vs) d v fine is = cc

  pub single_fine : (p : Project Span) (v : Placed (Expression Span)) → NotesGood (notes p) → single p x ≡ Some v → AreGood (expression_words v.it) × (rank v.it ≤ notes_rank (notes p))
  single_fine p v good is = go (all_known p && not (is_set_by x (notes p))) (sym (single_notes p) ∙ is)
    where
      go : (b : Bool) → (if b then only_value (assigned_notes x (notes p)) else None) ≡ Some v → AreGood (expression_words v.it) × (rank v.it ≤ notes_rank (notes p))
      go true so = let within : notes_rank (notes p) ≤ notes_rank (notes p) = omega arith in only_fine (assigned_notes x (notes p)) (notes_rank (notes p)) v (all_fine (notes p) (notes_rank (notes p)) good within) so
      go false so = cc
