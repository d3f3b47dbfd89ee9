-- The notes of calls that may set any variable are those calls of a project.
use Rattle.meson_variables.proofs.Words.{◌≡◌, ℕ, zero, suc, List, [], ◌∷◌, length, refl, sym, ap, ◌∙◌, arith, Bool, not, ◌&&◌, ◌||◌, codes, bytes_eq, Option}
use Rattle.meson_variables.proofs.Words.{Some, None, option_map, option_and_then, list_any, cons_option, File, Span, evaluate, assign, selection, iteration}
use Rattle.meson_variables.proofs.Words.{breaks, continues, Parsed, Call, call_of, part_call, all_chosen, first_literal, calls_function, is_file, is_entered}
use Rattle.meson_variables.proofs.Words.{meant_in, named_trees, views, Note, a_call, note_of, noted, notes, Part, an_expression, a_statement, parts, Project}
use Rattle.meson_variables.proofs.Words.{Placed, placed, nth_file, CallRef, is_unknown_in, has_unknown, sets_unknown, all_known}
use Rattle.meson_syntax.specs.Paths.{nth}
use Rattle.meson_calls.specs.Subdirs.{has_name, is_there, meant_file, enters_unknown}

abbrev named : List File → List Parsed → Project Span
named files trees = named_trees files (views files trees)

-- ---- files with trees have the files' names

name_there : (files : List File) (trees : List Parsed) (x : List ℕ) → length trees ≡ length files → has_name (named files trees) x ≡ is_file files x
name_there [] trees x whole = refl
name_there (f ∷ files) [] x whole = absurd (omega (arith, whole))
name_there (f ∷ files) (t ∷ trees) x whole = let more : length trees ≡ length files = omega (arith, whole) in ap (λ b. bytes_eq f.name x || b) (name_there files trees x more)

nth_name : (files : List File) (trees : List Parsed) (n : ℕ) (g : List ℕ → Option (List ℕ)) → length trees ≡ length files →
    option_and_then (λ f. g f.name) (nth_file (named files trees) n) ≡ option_and_then (λ f. g f.name) (nth files n)
nth_name [] trees n g whole = refl
nth_name (f ∷ files) [] n g whole = absurd (omega (arith, whole))
nth_name (f ∷ files) (t ∷ trees) zero g whole = refl
nth_name (f ∷ files) (t ∷ trees) (suc n) g whole = let more : length trees ≡ length files = omega (arith, whole) in nth_name files trees n g more

module _ (files : List File) (trees : List Parsed) (whole : length trees ≡ length files) where
  there_alike : (o : Option (List ℕ)) → is_entered files o ≡ is_there (named files trees) o
  there_alike None = refl
  there_alike (Some x) = sym (name_there files trees x whole)

  -- a `subdir` in the file of this number enters one of the files where it means one of those with trees
  pub enters_alike : (c : Call Span) (n : ℕ)
      → is_entered files (meant_in files n (first_literal c)) ≡ is_there (named files trees) (option_and_then (λ f. meant_file f.name c) (nth_file (named files trees) n))
  enters_alike c n = there_alike (meant_in files n (first_literal c)) ∙ ap (is_there (named files trees)) (sym (nth_name files trees n (λ name. meant_file name c) whole))

  unknown_alike : (c : Call Span) (p : CallRef) → is_unknown_in files p (a_call c) ≡ (sets_unknown c || enters_unknown (named files trees) (placed p c))
  unknown_alike c p =
      ap (λ b. sets_unknown c || (calls_function (codes "subdir") c && not b)) (enters_alike c p.file)

  abbrev unknown_calls : List (Placed (Call Span)) → Bool
  unknown_calls cs = list_any (λ c. sets_unknown c.it || enters_unknown (named files trees) c) cs

  call_step : (o : Option (Call Span)) (p : CallRef) (ns : List (Placed (Note Span))) (cs : List (Placed (Call Span))) → has_unknown files ns ≡ unknown_calls cs →
      has_unknown files (cons_option (option_map (placed p) (option_map a_call o)) ns) ≡ unknown_calls (cons_option (option_map (placed p) o) cs)
  call_step None p ns cs rest = rest
  call_step (Some c) p ns cs rest =
      ap (λ b. b || has_unknown files ns) (unknown_alike c p) ∙ ap (λ b. (sets_unknown c || enters_unknown (named files trees) (placed p c)) || b) rest

  part_step : (q : Part Span) (p : CallRef) (ns : List (Placed (Note Span))) (cs : List (Placed (Call Span))) → has_unknown files ns ≡ unknown_calls cs →
      has_unknown files (cons_option (option_map (placed p) (note_of q)) ns) ≡ unknown_calls (cons_option (option_map (placed p) (part_call q)) cs)
  part_step (an_expression e) p ns cs rest = call_step (call_of e) p ns cs rest
  part_step (a_statement (evaluate e)) p ns cs rest = rest
  part_step (a_statement (assign s y a e)) p ns cs rest = rest
  part_step (a_statement (selection s bs o)) p ns cs rest = rest
  part_step (a_statement (iteration s ys e b)) p ns cs rest = rest
  part_step (a_statement (breaks s)) p ns cs rest = rest
  part_step (a_statement (continues s)) p ns cs rest = rest

  known_parts : (ps : List (Placed (Part Span))) → has_unknown files (noted ps) ≡ unknown_calls (all_chosen part_call ps)
  known_parts [] = refl
  known_parts (q ∷ ps) = part_step q.it q.place (noted ps) (all_chosen part_call ps) (known_parts ps)

  pub known_notes : not (has_unknown files (notes (named files trees))) ≡ all_known (named files trees)
  known_notes = ap not (known_parts (parts (named files trees)))
