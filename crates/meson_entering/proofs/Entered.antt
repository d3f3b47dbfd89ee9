-- What the notes of a file enter is what its calls enter.
use Rattle.std.proofs.Common.{◌≡◌, ℕ, List, [], ◌∷◌, ◌++◌, Option, Some, None, refl, sym, ap}
use Rattle.std.specs.Prelude.{true, codes, if◌then◌else◌, option_map}
use Rattle.std.specs.List.{cons_option, flat_map}
use Rattle.meson_syntax.specs.Tree.{evaluate, assign, selection, iteration, breaks, continues}
use Rattle.meson_calls.specs.declared.call.CallRef.{CallRef}
use Rattle.meson_calls.specs.declared.call.Reading.{Reading}
use Rattle.meson_calls.specs.Calls.{Call, all_chosen, call_of, calls_function, part_call}
use Rattle.meson_calls.specs.Notes.{a_call, note_of, noted}
use Rattle.meson_calls.specs.Parts.{Part, a_statement, an_expression, parts_of_file}
use Rattle.meson_calls.specs.Project.{BuildFile, Placed, placed}
use Rattle.meson_entering.specs.Entering.{entered_at, files_entered, files_meant, note_enters}
use Rattle.meson_entering.specs.Loops.{file_notes}

module _ {S : Type 0} (reading : Reading) (f : BuildFile S) where
  pub enters_call : (c : Placed (Call S)) → calls_function (codes "subdir") c.it ≡ true → files_meant reading f c.place.path.steps c.it ≡ entered_at reading f c
  enters_call c is = sym (ap (λ b. if b then files_meant reading f c.place.path.steps c.it else []) is)

  abbrev by_notes : List (Placed (Part S)) → List (List ℕ)
  by_notes ps = flat_map (note_enters reading f) (noted ps)

  abbrev by_calls : List (Placed (Part S)) → List (List ℕ)
  by_calls ps = flat_map (entered_at reading f) (all_chosen part_call ps)

  part_step : (q : Part S) (p : CallRef) (ps : List (Placed (Part S))) → by_notes ps ≡ by_calls ps
      → flat_map (note_enters reading f) (cons_option (option_map (placed p) (note_of q)) (noted ps)) ≡ flat_map (entered_at reading f) (cons_option (option_map (placed p) (part_call q)) (all_chosen part_call ps))
  part_step (an_expression e) p ps rest = go (call_of e)
    where
      go : (o : Option (Call S))
          → flat_map (note_enters reading f) (cons_option (option_map (placed p) (option_map a_call o)) (noted ps)) ≡ flat_map (entered_at reading f) (cons_option (option_map (placed p) o) (all_chosen part_call ps))
      go None = rest
      go (Some c) = ap (λ ts. entered_at reading f (placed p c) ++ ts) rest
  part_step (a_statement (evaluate e)) p ps rest = rest
  part_step (a_statement (assign s x a e)) p ps rest = rest
  part_step (a_statement (selection s bs o)) p ps rest = rest
  part_step (a_statement (iteration s xs e b)) p ps rest = rest
  part_step (a_statement (breaks s)) p ps rest = rest
  part_step (a_statement (continues s)) p ps rest = rest

  entered_notes : (ps : List (Placed (Part S))) → by_notes ps ≡ by_calls ps
  entered_notes [] = refl
  entered_notes (q ∷ ps) = part_step q.it q.place ps (entered_notes ps)

  pub notes_enter : flat_map (note_enters reading f) (file_notes f.tree) ≡ files_entered reading f
  notes_enter = entered_notes (parts_of_file 0 f.tree)
