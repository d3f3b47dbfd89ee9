use Rattle.meson_variables.proofs.Words.{◌≡◌, ℕ, ◌<◌, List, [], ◌∷◌, length, get_or, true, refl, sym, ap, ◌∙◌, arith, ◌&&◌, Some, None, if◌then◌else◌}
use Rattle.meson_variables.proofs.Words.{expr_view, child, place, placed, is_outermost}
use Rattle.meson_variables.proofs.values.outermost.Goals as goal

one_step : (path : List ℕ) → is_outermost path ≡ true → (d : ℕ) → get_or path 0 d ∷ [] ≡ path
one_step [] is d = absurd cc
one_step (n ∷ []) is d = refl
one_step (n ∷ m ∷ more) is d = absurd cc

some_step : (path : List ℕ) → is_outermost path ≡ true → 0 < length path
some_step [] is = absurd cc
some_step (n ∷ more) is = omega arith

pub bounds-note-0 : goal.bounds-note-0
bounds-note-0 c = some_step c.args.note.now.place.path.now (sym c.is_outermost.ensures ∙ c.if-is_outermost.true)

pub returns-then-is_outermost : goal.returns-then-is_outermost
returns-then-is_outermost c =
    let n = c.args.note.now in
    let outermost = sym c.is_outermost.ensures ∙ c.if-is_outermost.true in
    let value = expr_view n.source.now c.args.value.now in
    ap (λ path. Some (placed (child (place n.place.file path) 0) value)) (one_step n.place.path.now outermost _)
    ∙ ap (λ b. if b then Some (placed (child (place n.place.file n.place.path.now) 0) value) else None) (sym (ap (λ b. c.args.sets && b) outermost ∙ ap (λ b. b && true) c.if-sets.true))
