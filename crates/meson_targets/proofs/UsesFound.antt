-- The uses of a variable outside a statement are those that the notes tell, and the places where it is read.
use Rattle.meson_targets.proofs.Words.{◌≡◌, ℕ, List, [], ◌∷◌, true, false, refl, sym, ap, ◌∙◌, Bool, ◌&&◌, ◌||◌, bytes_eq, if◌then◌else◌, Some, None}
use Rattle.meson_targets.proofs.Words.{option_map, list_any, cons_option, Span, identifier, call, assign, iteration, Note, note_of, noted, notes, Part, parts}
use Rattle.meson_targets.proofs.Words.{Project, Placed, placed, part_reads, read_in, CallRef, StatementPlace, call_uses, part_uses, is_used_outside, is_outside}
use Rattle.meson_targets.proofs.Words.{is_noted_outside, is_read_outside}
use Rattle.meson_calls.specs.Parts.{an_expression, a_statement}
use Rattle.meson_variables.specs.Variables.{one_of_names}

-- ---- tests joined

-- whether a part is used, before what the notes and the places of the others tell
no_use : (o n r : Bool) → ((o && false) || (n || r)) ≡ (n || r)
no_use true n r = refl
no_use false n r = refl

note_use : (o u n r : Bool) → ((o && u) || (n || r)) ≡ (((o && u) || n) || r)
note_use true true n r = refl
note_use true false n r = refl
note_use false u n r = refl

read_use : (o n r : Bool) → ((o && true) || (n || r)) ≡ (n || (o || r))
read_use true true r = refl
read_use true false r = refl
read_use false n r = refl

module _ (line : StatementPlace) (x : List ℕ) where
  abbrev used : List (Placed (Part Span)) → Bool
  used ps = list_any (λ q. is_outside line q.place && part_uses x q.it) ps

  abbrev told : List (Placed (Note Span)) → List CallRef → Bool
  told ns cs = is_noted_outside line x ns || is_read_outside line cs

  abbrev with_part : CallRef → Part Span → List (Placed (Note Span)) → List CallRef → Bool
  with_part p y ns cs = told (cons_option (option_map (placed p) (note_of y)) ns) (cons_option (if part_reads x y then Some p else None) cs)

  identifier_step : (p : CallRef) (ns : List (Placed (Note Span))) (cs : List CallRef) (b : Bool)
      → ((is_outside line p && b) || told ns cs) ≡ told ns (cons_option (if b then Some p else None) cs)
  identifier_step p ns cs true = read_use (is_outside line p) (is_noted_outside line x ns) (is_read_outside line cs)
  identifier_step p ns cs false = no_use (is_outside line p) (is_noted_outside line x ns) (is_read_outside line cs)

  part_step : (p : CallRef) (y : Part Span) (ns : List (Placed (Note Span))) (cs : List CallRef) → ((is_outside line p && part_uses x y) || told ns cs) ≡ with_part p y ns cs
  part_step p (an_expression (identifier s y)) ns cs = identifier_step p ns cs (bytes_eq y x)
  part_step p (an_expression (call s f l)) ns cs = note_use (is_outside line p) (call_uses x (record { function = f.text; arguments = l })) (is_noted_outside line x ns) (is_read_outside line cs)
  part_step p (an_expression _) ns cs = no_use (is_outside line p) (is_noted_outside line x ns) (is_read_outside line cs)
  part_step p (a_statement (assign s y a e)) ns cs = note_use (is_outside line p) (bytes_eq y.text x) (is_noted_outside line x ns) (is_read_outside line cs)
  part_step p (a_statement (iteration s xs e b)) ns cs = note_use (is_outside line p) (one_of_names xs x) (is_noted_outside line x ns) (is_read_outside line cs)
  part_step p (a_statement _) ns cs = no_use (is_outside line p) (is_noted_outside line x ns) (is_read_outside line cs)

  all_told : (ps : List (Placed (Part Span))) → used ps ≡ told (noted ps) (read_in x ps)
  all_told [] = refl
  all_told (q ∷ ps) = ap (λ b. (is_outside line q.place && part_uses x q.it) || b) (all_told ps) ∙ part_step q.place q.it (noted ps) (read_in x ps)

  pub uses_told : (p : Project Span) → is_used_outside p line x ≡ told (notes p) (read_in x (parts p))
  uses_told p = all_told (parts p)

  pub when_noted : (p : Project Span) → is_noted_outside line x (notes p) ≡ true → true ≡ is_used_outside p line x
  when_noted p is = ap (λ b. b || is_read_outside line (read_in x (parts p))) (sym is) ∙ sym (uses_told p)

  pub when_not_noted : (p : Project Span) → is_noted_outside line x (notes p) ≡ false → is_read_outside line (read_in x (parts p)) ≡ is_used_outside p line x
  when_not_noted p other = ap (λ b. b || is_read_outside line (read_in x (parts p))) (sym other) ∙ sym (uses_told p)
