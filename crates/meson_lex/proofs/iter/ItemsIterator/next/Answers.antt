use Rattle.std.proofs.Common.{◌≡◌, ◌+◌, ◌<◌, ◌≤◌, ◌∷◌, ◌∙◌, length, drop, ap, sym, arith, length-drop, false-eqb}
use Rattle.std.proofs.lemmas.List.{take_rest}
use Rattle.meson_lex.specs.Scan.{scan}
use Rattle.meson_lex.proofs.ScanItems.{item_at}
use Rattle.meson_lex.proofs.NextStep.{front_within, scan_step, progress}
use Rattle.meson_lex.proofs.iter.ItemsIterator.next.Goals as goal
use Rattle.meson_lex.proofs.iter.ItemsIterator.next.Goals.{In-Ok}

-- the bytes that are left aren't empty, and what is found lies within them
some_left : (c : In-Ok) → 0 < length c.self.inside.rest.now
some_left c = omega (arith, false-eqb (length c.self.inside.rest.now) 0 c.if-is_empty.ensures)

within : (c : In-Ok) → c.in-Ok.len ≤ length c.self.inside.rest.now
within c = front_within c.self.inside.at c.self.inside.rest.now (c.in-Ok.kind, c.in-Ok.len) (some_left c) c.in-Ok.ensures

steps : (c : In-Ok) → c.args.self.now ≡ item_at c.self.inside.at c.in-Ok.kind c.in-Ok.len ∷ scan (c.self.inside.at + c.in-Ok.len) (drop c.in-Ok.len c.self.inside.rest.now)
steps c = sym c.self.view_is ∙ scan_step c.self.inside.at c.self.inside.rest.now (c.in-Ok.kind, c.in-Ok.len) (some_left c) c.in-Ok.ensures

pub slice_bounds-self-count : goal.slice_bounds-self-count
slice_bounds-self-count c = within (goal.at.slice_bounds-self-count c).In-Ok

pub slice_bounds-self-start : goal.slice_bounds-self-start
slice_bounds-self-start c = within (goal.at.slice_bounds-self-start c).In-Ok

pub overflow_add-self : goal.overflow_add-self
overflow_add-self c = omega (arith, within (goal.at.overflow_add-self c).In-Ok)

pub overflow_add-span : goal.overflow_add-span
overflow_add-span c = omega (arith, within (goal.at.overflow_add-span c).In-Ok)

pub invariant_of-self : goal.invariant_of-self
invariant_of-self c =
    let rest = c.self.inside.rest.now in
    omega (arith, within (goal.at.invariant_of-self c).In-Ok, ap length (take_rest rest c.in-Ok.len), length-drop c.in-Ok.len rest)

pub returns-in-Ok-clause-steps : goal.returns-in-Ok-clause-steps
returns-in-Ok-clause-steps c =
    steps (goal.at.returns-in-Ok-clause-steps c).In-Ok
    ∙ ap (λ l. item_at c.self.inside.at c.in-Ok.kind c.in-Ok.len ∷ scan (c.self.inside.at + c.in-Ok.len) l) (sym (take_rest c.self.inside.rest.now c.in-Ok.len))

pub returns-in-Ok-clause-goes : goal.returns-in-Ok-clause-goes
returns-in-Ok-clause-goes c =
    progress _ _ _ (steps (goal.at.returns-in-Ok-clause-goes c).In-Ok
    ∙ ap (λ l. item_at c.self.inside.at c.in-Ok.kind c.in-Ok.len ∷ scan (c.self.inside.at + c.in-Ok.len) l) (sym (take_rest c.self.inside.rest.now c.in-Ok.len)))
