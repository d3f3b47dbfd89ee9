use Rattle.std.proofs.Common.{◌≡◌, ℕ, ◌+◌, ◌<◌, List, ◌++◌, append_assoc, drop, get_or, length, sym, ap, ◌∙◌}
use Rattle.std.specs.Prelude.{flat_map, string_bytes}
use Rattle.std.proofs.lemmas.List.{at_drop_more}
use Rattle.meson_inventory.specs.Inventory.{assignment_line}
use Rattle.meson_inventory.proofs.lines.assignment_lines.Goals as goal

one_line : {X : Type 0} (f : X → List ℕ) (xs : List X) (i : ℕ) (x : X) (before after whole : List ℕ) → i < length xs → after ≡ before ++ f (get_or xs i x)
    → before ++ flat_map f (drop i xs) ≡ whole → after ++ flat_map f (drop (i + 1) xs) ≡ whole
one_line f xs i x before after whole within joins so_far =
    let more = flat_map f (drop (i + 1) xs) in
    ap (λ a. a ++ more) joins
    ∙ append_assoc before (f (get_or xs i x)) more
    ∙ ap (λ m. before ++ m) (sym (at_drop_more (flat_map f) xs i x within))
    ∙ so_far

pub loop-assignment-preserved : goal.loop-assignment-preserved
loop-assignment-preserved c =
    let held = c.loop-assignment.invariant in
    let line = assignment_line c.args.files.now in
    record {
      files = c.line_of-number.ensures.files ∙ held.files;
      so_far = one_line line c.args.assignments.now c.loop-assignment.assignment-index c.assignment-item.result (string_bytes c.loop-assignment.text) _ _ c.loop-assignment-test.true
          (c.in_ok-push_str.ensures.bytes ∙ ap (λ l. string_bytes c.loop-assignment.text ++ l) (c.as_str.ensures.value ∙ c.in_ok-line.ensures ∙ ap line c.assignment-item.is))
          held.so_far;
    }
