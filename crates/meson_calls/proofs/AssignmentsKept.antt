-- The setters of a file in which there is no loop are its assignments.
use Rattle.meson_calls.proofs.Words.{Bor, cons_option, filter_map, false, option_map, option_and_then, if◌then◌else◌, ◌≡◌, ℕ, ◌-◌, ◌≤◌, List, [], ◌∷◌, ◌++◌}
use Rattle.meson_calls.proofs.Words.{length, length-append, take, Bool, true, Option, Some, None, refl, sym, ap, ap₂, ◌∙◌, subst, arith, take-append_seam}
use Rattle.meson_calls.proofs.Words.{filter_map-append, Span, Any, a_statement, a_block, block_of, expression_on_path, IsSpanned, texts_of_expression}
use Rattle.meson_calls.proofs.Words.{texts_of_name, Name, Expression, call, assign, iteration, text_at, view, Assignment, Parsed, expression_any}
use Rattle.meson_calls.proofs.Words.{expression-reached, Note, an_assignment, is_set, Part, parts_of_file, Placed, child, place, placed, AreAssignments}
use Rattle.meson_calls.proofs.Words.{assignment_at, assignments_in, has_loop, is_among, is_loop, notes_asked, CallRef, KeptAssignment, kept_note, without_last}
use Rattle.meson_syntax.specs.Tree.{File}
use Rattle.meson_calls.specs.Parts as part
use Rattle.meson_calls.proofs.ListNodes.{node_below}
use Rattle.meson_calls.proofs.Reached.{At, Each, file_each}
use Rattle.meson_calls.proofs.nodes.PartsBelow.{any}
use Rattle.meson_calls.proofs.SetterReadings.{neither}
use Rattle.meson_calls.proofs.SettersApart.{setters_append, setters_of}
use Rattle.meson_calls.proofs.StandingParts.{PartsStand, parts_stand, texts_of_part}

-- what has a value at its first child
above : (p : CallRef) (n : ℕ) → p.file ≡ n → place n (without_last (child p 0).path.steps) ≡ p
above p n same =
    let steps = p.path.steps in
    let longer = length-append steps (0 ∷ []) in
    let own : length (steps ++ 0 ∷ []) - 1 ≡ length steps = omega (arith, longer) in
    ap (λ m. place n (take m (steps ++ 0 ∷ []))) own ∙ ap (place n) (take-append_seam steps (0 ∷ [])) ∙ ap (λ m. place m steps) (sym same)

module _ (names : List (Bor (List ℕ))) (n : ℕ) (bytes : List ℕ) (t : Parsed) where
  abbrev tree : File Span
  tree = view bytes t

  abbrev root : Any Span
  root = a_block (block_of tree)

  abbrev note : KeptAssignment → Option (Placed (Note Span))
  note k = kept_note names n bytes t k

  -- the value of an assignment stands at its first child
  value_there : (p : CallRef) (s : Span) (x : Name Span) (a : Assignment) (e : Expression Span) → At n root p (a_statement (assign s x a e)) → expression_on_path tree (child p 0).path.steps ≡ Some e
  value_there p s x a e at =
      expression-reached Span tree (p.path.steps ++ 0 ∷ []) ∙ ap (option_and_then expression_any) (node_below Span root p.path.steps (a_statement (assign s x a e)) 0 at.1)

  one_assigned : (is : Bool) (x : List ℕ) (sets : Bool) (p q : CallRef) (e : Expression Span) (o : Option (Expression Span)) → o ≡ Some e → q ≡ p
      → cons_option (if is then option_map (λ v. placed q (an_assignment x sets v)) o else None) [] ≡ (if is then placed p (an_assignment x sets e) ∷ [] else [])
  one_assigned true x sets p q e o there same = ap₂ (λ r v. cons_option (option_map (λ w. placed r (an_assignment x sets w)) v) []) same there
  one_assigned false x sets p q e o there same = refl

  -- what is kept of a part is the setter
  one : (p : CallRef) (y : Part Span) → At n root p (any (texts_of_part bytes y)) → is_loop (texts_of_part bytes y) ≡ false
      → filter_map note (assignments_in (placed p (texts_of_part bytes y) ∷ [])) ≡ setters_of names (placed p (texts_of_part bytes y) ∷ [])
  one p (part.an_expression (call s x l)) at none = refl
  one p (part.an_expression e) at none = refl
  one p (part.a_statement (assign s x a e)) at none =
      let v = texts_of_expression bytes e in
      one_assigned (is_among names (text_at bytes x.place)) (text_at bytes x.place) (is_set a) p (place n (without_last (child p 0).path.steps)) v _ (value_there p s (texts_of_name bytes x) a v at) (above p n at.0)
  one p (part.a_statement (iteration s xs e b)) at none = absurd cc
  one p (part.a_statement s) at none = refl

  all : (ps : List (Placed (Part Span))) → Each n root ps → PartsStand bytes ps → has_loop ps ≡ false → filter_map note (assignments_in ps) ≡ setters_of names ps
  all [] each stand none = refl
  all (q ∷ ps) each stand none =
      let no = neither (is_loop q.it) (has_loop ps) none in
      let is = stand.0.is in
      let here : filter_map note (assignments_in (q ∷ [])) ≡ setters_of names (q ∷ []) =
      subst (λ y. filter_map note (assignments_in (placed q.place y ∷ [])) ≡ setters_of names (placed q.place y ∷ [])) (sym is)
      (one q.place stand.0.part (subst (λ y. At n root q.place (any y)) is each.0) (subst (λ y. is_loop y ≡ false) is no.0)) in
      ap (filter_map note) (filter_map-append (λ r. assignment_at r.place r.it) (q ∷ []) ps)
      ∙ filter_map-append note (assignments_in (q ∷ [])) (assignments_in ps)
      ∙ ap₂ (λ a b. a ++ b) here (all ps each.1 stand.1 no.1)
      ∙ sym (setters_append names (q ∷ []) ps)

  pub kept_setters : IsSpanned bytes tree → (ks : List KeptAssignment) → AreAssignments (parts_of_file n tree) ks → filter_map note ks ≡ notes_asked names false n bytes t
  kept_setters spanned ks are = ap (filter_map note) are.are ∙ all (parts_of_file n tree) (file_each n tree) (parts_stand n bytes tree spanned) are.no_loop

-- the note of an assignment that is kept, by its value
pub note_kept : (names : List (Bor (List ℕ))) (n : ℕ) (bytes : List ℕ) (t : Parsed) (k : KeptAssignment) → is_among names (text_at bytes k.name) ≡ true → (o : Option (Expression Span)) → o ≡ expression_on_path (view bytes t) k.value.steps
    → kept_note names n bytes t k ≡ option_map (λ e. placed (place n (without_last k.value.steps)) (an_assignment (text_at bytes k.name) k.sets e)) o
note_kept names n bytes t k among o there =
    let to : Expression Span → Placed (Note Span) = λ e. placed (place n (without_last k.value.steps)) (an_assignment (text_at bytes k.name) k.sets e) in
    ap₂ (λ (b : Bool) v. if b then option_map to v else None) among (sym there)

-- a path that leads to an expression has a last step
pub has_steps : (f : File Span) (path : List ℕ) (e : Expression Span) → expression_on_path f path ≡ Some e → 1 ≤ length path
has_steps f [] e is = absurd cc
has_steps f (n ∷ path) e is = omega arith
